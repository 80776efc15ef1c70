use Rattle.std.proofs.Common.{map, string_bytes}
use Rattle.refusals.specs.Refusals.{result_map, shown}
use Rattle.trace.specs.Contents.{content_of}
use Rattle.trace_history.specs.Shown.{event_numbers}
use Rattle.trace_run.specs.SetUp.{set_up_numbers}
use Rattle.sheet.proofs.Composed.{head_and_body}
use Rattle.sheet.proofs.printing.print_events.Goals as goal

pub returns : goal.returns
returns g c =
    head_and_body g.K.NamedKey.name (set_up_numbers c.args.setup) c.args.at.closed c.args.at.stamp
    (map event_numbers c.args.events.now) (map content_of c.args.records.now)
    (shown (result_map (λ rows. rows.items) c.args.page.now)) (string_bytes c.new-text.result) (string_bytes c.add_head.new.text)
    (string_bytes c.add_body.new.text) c.puts_among.result c.new-text.ensures.bytes c.puts_among.ensures c.in_ok-add_head.ensures
    c.in_ok-add_body.ensures
