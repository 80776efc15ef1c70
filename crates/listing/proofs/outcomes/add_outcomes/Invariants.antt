use Rattle.std.proofs.Common.{map}
use Rattle.replay.specs.Calls.{answer_numbers}
use Rattle.listing.proofs.Lining.{IsLined}
use Rattle.listing.proofs.outcomes.add_outcomes.Given as goal

abbrev pub invariant-loop-record : goal.invariant-loop-record
invariant-loop-record g l =
    IsLined g.K.TraceKey.form l.records (map answer_numbers l.answers) l.initial.text l.text l.record-index
    (map answer_numbers l.left) l.counts.accepted l.counts.refused
