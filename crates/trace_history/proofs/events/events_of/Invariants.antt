use Rattle.std.proofs.Common.{map}
use Rattle.replay.specs.Calls.{answer_numbers}
use Rattle.trace_history.proofs.Listed.{AreListed}
use Rattle.trace_history.proofs.events.events_of.Given as goal

abbrev pub invariant-loop-place : goal.invariant-loop-place
invariant-loop-place g l =
    AreListed g.K.TraceKey.form l.records (map answer_numbers l.answers) l.place l.events.items (map answer_numbers l.left)
