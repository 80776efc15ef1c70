use Rattle.std.proofs.Common.{sym, ◌∙◌}
use Rattle.listing.proofs.Composing.{all_added, first_failed, others_failed}
use Rattle.listing.proofs.report.add_records.Goals as goal

pub returns-in_err-add_outcome-in-Ok : goal.returns-in_err-add_outcome-in-Ok
returns-in_err-add_outcome-in-Ok c =
    first_failed _ _ _ _ _ _ (sym c.deref.ensures.value ∙ c.in-Some.ensures.cases.0) c.in-Ok.ensures c.new.ensures _
    c.from_residual.result
    c.in_err-add_outcome-in-Ok.ensures.adds c.from_residual.ensures.0

pub returns-in_err-counts-in-Ok : goal.returns-in_err-counts-in-Ok
returns-in_err-counts-in-Ok c =
    others_failed _ _ _ _ _ _ (sym c.deref.ensures.value ∙ c.in-Some.ensures.cases.0) c.in-Ok.ensures c.new.ensures _
    c.in_ok-add_outcome-in-Ok.ensures.adds c.from_residual-in_err-counts-in-Ok.result c.in_err-counts-in-Ok.ensures.text
    c.from_residual-in_err-counts-in-Ok.ensures.0

pub returns-in_ok-counts-in-Ok : goal.returns-in_ok-counts-in-Ok
returns-in_ok-counts-in-Ok c =
    all_added _ _ _ _ _ _ (sym c.deref.ensures.value ∙ c.in-Some.ensures.cases.0) c.in-Ok.ensures c.new.ensures _
    c.in_ok-add_outcome-in-Ok.ensures.adds c.add_end-in-Ok.result c.in_ok-counts-in-Ok.ensures.text
    c.in_ok-counts-in-Ok.ensures.counts
    c.add_end-in-Ok.ensures.adds
