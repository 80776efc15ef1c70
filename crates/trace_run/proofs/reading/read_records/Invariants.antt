use Rattle.std.proofs.Common.{◌-◌, length}
use Rattle.trace_run.proofs.Progress.{AreRead}
use Rattle.trace_run.proofs.reading.read_records.Given as goal

abbrev pub invariant-loop-entry : goal.invariant-loop-entry
invariant-loop-entry l = AreRead l.trace l.reader l.list.items

abbrev pub decreases-loop-entry : goal.decreases-loop-entry
decreases-loop-entry l = length l.trace - l.reader.offset
