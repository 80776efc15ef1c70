use Rattle.std.proofs.Common.{◌≡◌, ◌+◌, ◌≤◌, ◌++◌, length, vec_len, vec_capacity}
use Rattle.replay.specs.Within.{GainsEach}
use Rattle.replay.proofs.replay.ask_all.Given as goal

abbrev pub invariant-loop-question : goal.invariant-loop-question
invariant-loop-question g l = record {
  can : (goal.iterator-loop-question g).can_next l.question-iterator;
  finite : (goal.iterator-loop-question g).is_finite l.question-iterator;
  questions : l.yielded ++ l.question-iterator.rest.items ≡ l.fn.questions.items;
  room : vec_len l.answers + length l.question-iterator.rest.items ≤ vec_capacity l.answers;
  capacity : vec_capacity l.answers ≡ vec_capacity l.fn.answers;
  each : GainsEach (g.R.Asked.answer l.fn.recorder) l.yielded l.fn.answers.items l.answers.items;
}
