use Rattle.stamps.specs.Stamp.{stamp_of}
use Rattle.trace_history.proofs.Latest.{last_more}
use Rattle.trace_history.proofs.last.last_stamp.Goals as goal

pub loop-event-preserved : goal.loop-event-preserved
loop-event-preserved g c =
    last_more c.args.events.now c.loop-event.event-index c.args.node c.event-item.result (stamp_of c.loop-event.last) _
    c.loop-event-test.true c.loop-event.invariant (rw (← c.event-item.is) c.later_stamp-last.ensures)
