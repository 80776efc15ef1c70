use Rattle.std.proofs.Common.{map}
use Rattle.page_law.proofs.Inspected.{pages_are_inspected}
use Rattle.refusals.specs.Refusals.{result_map, shown}
use Rattle.replay.specs.Calls.{answer_numbers}
use Rattle.trace.specs.Contents.{content_of}
use Rattle.trace_run.specs.SetUp.{set_up_numbers}
use Rattle.sheet.proofs.Certain.{certain}
use Rattle.sheet.proofs.Composed.{sheet_of_answers}
use Rattle.sheet.proofs.sheet.sheet_for.Goals as goal

pub returns-clause-text : goal.returns-clause-text
returns-clause-text g c =
    sheet_of_answers g.K.TraceKey.form g.K.Ord.cmp g.K.NamedKey.name (set_up_numbers c.args.setup)
    (map content_of c.args.records.now) c.args.at.closed c.args.at.stamp c.print.result
    (map answer_numbers c.in_ok-paged.paged.answers.items) (shown (result_map (λ rows. rows.items) c.in_ok-paged.paged.page))
    c.in_ok-paged.ensures c.print.ensures

pub returns-clause-inspected : goal.returns-clause-inspected
returns-clause-inspected g c =
    certain c.print.result
    (pages_are_inspected g.K.TraceKey.form g.K.Ord.cmp g.met.K.Ord.total g.met.K.KeyKind.law (set_up_numbers c.args.setup)
    (map content_of c.args.records.now) c.args.at.closed c.args.at.stamp _ _ c.in_ok-paged.ensures)
