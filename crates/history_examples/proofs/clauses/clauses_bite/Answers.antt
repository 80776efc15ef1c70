use Rattle.history_examples.proofs.Broken.{each_clause_bites}
use Rattle.history_examples.proofs.clauses.clauses_bite.Goals as goal

pub returns-clause-clauses : goal.returns-clause-clauses
returns-clause-clauses g c = each_clause_bites g.K.Ord.cmp g.met.K.KeyKind.law
