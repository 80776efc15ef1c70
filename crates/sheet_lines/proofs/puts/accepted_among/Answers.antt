use Rattle.std.proofs.Common.{arith}
use Rattle.sheet_lines.proofs.Counted.{puts_more}
use Rattle.sheet_lines.proofs.puts.accepted_among.Goals as goal

pub loop-event-preserved : goal.loop-event-preserved
loop-event-preserved g c =
    let more = puts_more c.args.events.now c.loop-event.event-index c.event-item.result c.loop-event-test.true in
    let counted = rw (← c.event-item.is) at more in
    record {
      counted = omega (arith, counted, c.loop-event.invariant.counted, c.put_by-count.ensures.puts);
      few = omega (arith, c.loop-event.invariant.few, c.put_by-count.ensures.few);
    }
