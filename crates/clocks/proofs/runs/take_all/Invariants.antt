use Rattle.std.proofs.Common.{◌≡◌, ◌+◌, ◌≤◌, length, vec_items, vec_len, vec_capacity}
use Rattle.clocks.proofs.Taking.{Taking}
use Rattle.clocks.proofs.runs.take_all.Given as goal

abbrev pub invariant-loop-sample : goal.invariant-loop-sample
invariant-loop-sample g l = record {
  len : vec_len l.answers ≡ vec_len l.initial.answers + l.sample-index;
  room : vec_len l.initial.answers + length l.samples ≤ vec_capacity l.answers;
  capacity : vec_capacity l.initial.answers ≤ vec_capacity l.answers;
  so_far : Taking g.B.ClockBank.meaning g.B.ClockBank.beside l.initial.bank l.bank l.samples l.sample-index
      (vec_items l.initial.answers) (vec_items l.answers);
}
