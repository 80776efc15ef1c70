use Rattle.std.proofs.Common.{◌∷◌, [], ap, append_assoc, length, arith}
use Rattle.replay.proofs.Gaining.{gains_one}
use Rattle.replay.proofs.replay.apply_all.Goals as goal

pub loop-call-preserved : goal.loop-call-preserved
loop-call-preserved g c =
    let so_far = c.loop-call.invariant in
    let taken = c.in-Some.ensures.steps.0 in
    record {
      can = tt;
      finite = tt;
      calls = rw (append_assoc c.loop-call.yielded (c.in-Some.call ∷ []) c.next.new.self.rest.items, ← taken) so_far.calls;
      len = omega (arith, c.push_reserved.ensures.len, ap length taken, so_far.len);
      capacity = rw c.push_reserved.ensures.capacity so_far.capacity;
      run = gains_one _ _ _ _ _ {after = c.push_reserved.new.self.items} c.in-Some.call c.apply.result so_far.run c.apply.ensures
          c.push_reserved.ensures.items;
    }
