use Rattle.std.proofs.Common.{length, map, ap, ◌∙◌, sym}
use Rattle.std.proofs.lemmas.List.{length-map}
use Rattle.replay.specs.Calls.{answer_numbers}
use Rattle.trace.specs.Contents.{content_of}
use Rattle.trace_replay.specs.Traced.{first_state}
use Rattle.trace_run.specs.SetUp.{set_up_numbers}
use Rattle.listing.proofs.Running.{as_many, recorded_run}
use Rattle.listing.proofs.run.add_run_of.Goals as goal

pub add_outcomes-requires : goal.add_outcomes-requires
add_outcomes-requires g c =
    ap length c.deref.ensures.value ∙ sym (length-map c.in_ok-answers.answers.items answer_numbers)
    ∙ ap length c.in_ok-answers.ensures ∙ as_many g.K.TraceKey.form _ _ _ _

pub returns : goal.returns
returns g c =
    let answers = ap (map answer_numbers) c.deref.ensures.value ∙ c.in_ok-answers.ensures in
    let setup = set_up_numbers c.args.setup in
    let recorded = recorded_run g.K.TraceKey.form g.K.Ord.cmp setup.backstep (first_state setup)
    (map content_of c.args.records.now) in
    rw (← recorded, ← answers) c.add_outcomes.ensures
