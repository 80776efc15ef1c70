use Rattle.std.proofs.Common.{arith}
use Rattle.std.proofs.lemmas.Bool.Decides.{nat_tests}
use Rattle.trace_replay.proofs.page.page_question.Goals as goal

pub returns : goal.returns
returns g c = record {
  rows = c.in_ok-rows.rows;
  one = grind (arith, nat_tests);
  enough = c.in_ok-rows.ensures;
}
