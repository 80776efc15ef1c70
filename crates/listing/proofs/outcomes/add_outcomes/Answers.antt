use Rattle.std.proofs.Common.{◌∙◌, arith, is_ok, map, refl, rules}
use Rattle.std.proofs.lemmas.List.{length-map}
use Rattle.replay.specs.Calls.{answer_numbers}
use Rattle.listing.proofs.Lining.{answer_there, lined, lined_all, lined_none, line_failed}
use Rattle.listing.proofs.outcomes.add_outcomes.Goals as goal

pub loop-record-init : goal.loop-record-init
loop-record-init g c =
    lined_none _ _ _ c.args.text.now (length-map c.args.answers.now answer_numbers ∙ c.requires)

pub next_of-next-requires : goal.next_of-next-requires
next_of-next-requires g c ok =
    let there = answer_there _ _ (map answer_numbers c.args.answers.now) c.loop-record.invariant _ c.loop-record-test.true ok in
    omega (arith, there, length-map c.loop-record.left.now answer_numbers)

pub loop-record-preserved : goal.loop-record-preserved
loop-record-preserved g c =
    let next = c.next_of-next.ensures in
    lined _ _ (map answer_numbers c.args.answers.now) c.loop-record.invariant _ c.loop-record-test.true _ _ refl next.more _
    (is_ok c.next_of-next.result.more) _ next.left
    c.with_one-counts.ensures (search rules) c.in_ok-add_outcome.ensures.adds

pub returns-in_err-add_outcome : goal.returns-in_err-add_outcome
returns-in_err-add_outcome g c =
    let next = c.next_of-next.ensures in
    line_failed _ _ (map answer_numbers c.args.answers.now) c.loop-record.invariant _ c.loop-record-test.true _ _ refl next.more
    c.from_residual.result c.in_err-add_outcome.ensures.adds c.from_residual.ensures.0

pub returns : goal.returns
returns g c = lined_all _ _ _ c.loop-record.counts c.loop-record.invariant c.loop-record-test.false
