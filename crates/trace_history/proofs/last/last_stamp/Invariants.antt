use Rattle.std.proofs.Common.{◌≡◌, take}
use Rattle.history.specs.History.{last_stamp}
use Rattle.stamps.specs.Stamp.{stamp_of}
use Rattle.trace_history.specs.Shown.{events_in}
use Rattle.trace_history.proofs.last.last_stamp.Given as goal

abbrev pub invariant-loop-event : goal.invariant-loop-event
invariant-loop-event g l = stamp_of l.last ≡ last_stamp (events_in (take l.event-index l.events)) l.node
