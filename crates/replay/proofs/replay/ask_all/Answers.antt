use Rattle.std.proofs.Common.{◌∷◌, [], ap, append_assoc, length, arith}
use Rattle.replay.proofs.Gaining.{gains_more}
use Rattle.replay.proofs.replay.ask_all.Goals as goal

pub loop-question-preserved : goal.loop-question-preserved
loop-question-preserved g c =
    let so_far = c.loop-question.invariant in
    let taken = c.in-Some.ensures.steps.0 in
    record {
      can = tt;
      finite = tt;
      questions =
          rw (append_assoc c.loop-question.yielded (c.in-Some.question ∷ []) c.next.new.self.rest.items, ← taken) so_far.questions;
      room = omega (arith, c.push_reserved.ensures.len, ap length taken, so_far.room, c.push_reserved.ensures.capacity);
      capacity = rw c.push_reserved.ensures.capacity so_far.capacity;
      each = gains_more _ _ {after = c.push_reserved.new.self.items} c.in-Some.question c.ask.result so_far.each c.ask.ensures
          c.push_reserved.ensures.items;
    }
