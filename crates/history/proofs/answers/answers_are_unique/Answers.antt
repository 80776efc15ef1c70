use Rattle.history.proofs.Unique.{answers_once, pages_once}
use Rattle.history.proofs.answers.answers_are_unique.Goals as goal

pub returns-clause-reads : goal.returns-clause-reads
returns-clause-reads g c = answers_once g.K.Ord.cmp g.met.K.Ord.total g.met.K.KeyKind.law

pub returns-clause-cuts : goal.returns-clause-cuts
returns-clause-cuts g c = pages_once g.K.Ord.cmp g.met.K.Ord.total g.met.K.KeyKind.law
