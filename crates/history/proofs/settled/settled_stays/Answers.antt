use Rattle.history.proofs.Settling.{leaves_answers}
use Rattle.history.proofs.settled.settled_stays.Goals as goal

pub returns-clause-stays : goal.returns-clause-stays
returns-clause-stays g c = leaves_answers g.K.Ord.cmp
