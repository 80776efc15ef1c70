use Rattle.replay.proofs.Gaining.{asked_closed, asked_open}
use Rattle.replay.proofs.replay.give.Goals as goal

pub returns-then-run-clause-given : goal.returns-then-run-clause-given
returns-then-run-clause-given g c = record {
  end = c.apply_all.new.recorder;
  mid = c.apply_all.new.answers.items;
  calls = c.apply_all.ensures.run;
  questions = asked_closed g.K.Ord.cmp g.B.ClockBank.meaning _ c.apply_all.new.recorder _ _ _ c.if-run.true
      c.close.result c.close.ensures c.ask_all-then-run.ensures.each;
}

pub returns-else-run-clause-given : goal.returns-else-run-clause-given
returns-else-run-clause-given g c = record {
  end = c.apply_all.new.recorder;
  mid = c.apply_all.new.answers.items;
  calls = c.apply_all.ensures.run;
  questions = asked_open g.K.Ord.cmp g.B.ClockBank.meaning _ c.apply_all.new.recorder _ _ _ c.if-run.false
      c.ask_all-else-run.ensures.each;
}
