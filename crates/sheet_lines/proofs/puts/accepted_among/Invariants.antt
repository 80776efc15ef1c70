use Rattle.std.proofs.Common.{◌≡◌, ◌≤◌, length, take}
use Rattle.history.specs.Events.{puts}
use Rattle.trace_history.specs.Shown.{events_in}
use Rattle.sheet_lines.proofs.puts.accepted_among.Given as goal

abbrev pub invariant-loop-event : goal.invariant-loop-event
invariant-loop-event g l = record {
  counted : l.count ≡ length (puts (events_in (take l.event-index l.events)));
  few : l.count ≤ l.event-index;
}
