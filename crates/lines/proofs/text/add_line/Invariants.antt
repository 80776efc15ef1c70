use Rattle.std.proofs.Common.{[], ◌∷◌, ◌++◌, drop}
use Rattle.lines.specs.Lines.{spaced_text, line_text}
use Rattle.lines.proofs.Adding.{OnTheWay}
use Rattle.lines.proofs.text.add_line.Given as goal

abbrev pub invariant-loop-place : goal.invariant-loop-place
invariant-loop-place l =
    OnTheWay l.initial.text l.text (line_text l.pieces) (spaced_text l.place (drop l.place l.pieces) ++ 10 ∷ [])
