use Rattle.std.proofs.Common.{◌≡◌, ◌∙◌, IfOk, ap, map, string_bytes, subst}
use Rattle.refusals.specs.Refusals.{result_map, shown}
use Rattle.trace.specs.Contents.{content_of}
use Rattle.replay.specs.Calls.{answer_numbers}
use Rattle.trace_history.specs.Events.{numbered_events}
use Rattle.trace_history.specs.Shown.{event_numbers}
use Rattle.trace_run.specs.SetUp.{set_up_numbers}
use Rattle.sheet.specs.Printed.{printed}
use Rattle.sheet.proofs.printing.print.Goals as goal

pub returns : goal.returns
returns g c =
    let at = c.args.at in
    let contents = map content_of c.args.records.now in
    let numbered = ap (map event_numbers) c.deref-2.ensures.value ∙ c.in_ok-events.ensures
    ∙ ap (λ answers. numbered_events g.K.TraceKey.form 2 contents (map answer_numbers answers)) c.deref.ensures.value in
    subst (λ events. IfOk c.print_events.result (λ text. string_bytes text
    ≡ printed g.K.NamedKey.name (set_up_numbers c.args.setup) at.closed at.stamp events contents
    (shown (result_map (λ rows. rows.items) c.args.paged.now.page)))) numbered c.print_events.ensures
