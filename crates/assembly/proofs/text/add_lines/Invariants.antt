use Rattle.std.proofs.Common.{length}
use Rattle.assembly.proofs.Assembling.{Assembling}
use Rattle.assembly.proofs.text.add_lines.Given as goal

abbrev pub invariant-loop-rest : goal.invariant-loop-rest
invariant-loop-rest l = Assembling l.text l.rest l.lines_before l.trace.items

abbrev pub decreases-loop-rest : goal.decreases-loop-rest
decreases-loop-rest l = length l.rest
