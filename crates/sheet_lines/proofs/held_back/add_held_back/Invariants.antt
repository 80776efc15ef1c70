use Rattle.std.proofs.Common.{◌≡◌, ◌++◌, string_bytes}
use Rattle.trace_history.specs.Shown.{events_in}
use Rattle.sheet_lines.specs.Lines.{held_back_lines}
use Rattle.sheet_lines.proofs.held_back.add_held_back.Given as goal

abbrev pub invariant-loop-node : goal.invariant-loop-node
invariant-loop-node g l =
    string_bytes l.text ≡ string_bytes l.initial.text ++ held_back_lines (events_in l.events) l.stamp l.node
