use Rattle.std.proofs.Common.{arith}
use Rattle.clocks.specs.declared.sample.Sample.{Sample}
use Rattle.clocks.proofs.Taking.{goes_on, took}
use Rattle.clocks.proofs.runs.take_all.Goals as goal

pub loop-sample-preserved : goal.loop-sample-preserved
loop-sample-preserved g c =
    let d : Sample = record { node = 0; raw = record { 0 = 0 } } in
    let so_far = c.loop-sample.invariant.so_far in
    record {
      len = omega (arith, c.push_reserved.ensures.len);
      room = omega (arith, c.push_reserved.ensures.capacity);
      capacity = omega (arith, c.push_reserved.ensures.capacity);
      so_far = goes_on _ _ _ _ _ c.args.samples.now c.loop-sample.sample-index d _ _ _ c.take.result
          c.loop-sample-test.true so_far (record { answer = c.take.ensures.answer; change = c.take.ensures.change })
          c.take.ensures.beside (g.met.B.ClockBank.lawful c.take.new.self) c.push_reserved.ensures.items;
    }

pub returns-clause-taken : goal.returns-clause-taken
returns-clause-taken g c =
    took _ _ _ _ c.args.samples.now c.loop-sample.sample-index _ _ _ c.reserve.ensures.items c.loop-sample-test.false
    c.loop-sample.auto.sample-index-end c.loop-sample.invariant.so_far
