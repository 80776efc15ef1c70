use Rattle.std.proofs.Common.{◌≡◌}
use Rattle.trace_history.specs.Shown.{events_in}
use Rattle.trace_history.specs.Trace.{lowest_last}
use Rattle.trace_history.proofs.last.lowest_last.Given as goal

abbrev pub invariant-loop-node : goal.invariant-loop-node
invariant-loop-node g l = l.lowest ≡ lowest_last (events_in l.events) l.node
