use Rattle.history.proofs.Unique.{stamps_once}
use Rattle.history.proofs.orders.stamps_are_unique.Goals as goal

pub returns-clause-same : goal.returns-clause-same
returns-clause-same g c = stamps_once g.K.Ord.cmp
