use Rattle.std.proofs.Common.{◌≡◌, ◌+◌, ◌++◌, length, vec_len, vec_capacity}
use Rattle.replay.specs.Within.{GainsRun}
use Rattle.replay.proofs.replay.apply_all.Given as goal

abbrev pub invariant-loop-call : goal.invariant-loop-call
invariant-loop-call g l = record {
  can : (goal.iterator-loop-call g).can_next l.call-iterator;
  finite : (goal.iterator-loop-call g).is_finite l.call-iterator;
  calls : l.yielded ++ l.call-iterator.rest.items ≡ l.fn.calls.items;
  len : vec_len l.answers + length l.call-iterator.rest.items ≡ vec_len l.fn.answers + length l.fn.calls.items;
  capacity : vec_capacity l.answers ≡ vec_capacity l.fn.answers;
  run : GainsRun g.K.Ord.cmp g.B.ClockBank.meaning g.B.ClockBank.beside l.fn.recorder l.recorder l.yielded l.fn.answers.items
      l.answers.items;
}
