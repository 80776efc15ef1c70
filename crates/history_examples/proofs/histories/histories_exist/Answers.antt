use Rattle.history_examples.proofs.Long.{long_is_history}
use Rattle.history_examples.proofs.Orders.{is_reordered}
use Rattle.history_examples.proofs.SmallHistory.{is_history}
use Rattle.history_examples.proofs.histories.histories_exist.Goals as goal

pub returns-clause-example : goal.returns-clause-example
returns-clause-example g c = is_history g.K.Ord.cmp g.met.K.KeyKind.law

pub returns-clause-orders : goal.returns-clause-orders
returns-clause-orders g c = is_reordered g.K.Ord.cmp

pub returns-clause-long : goal.returns-clause-long
returns-clause-long g c = long_is_history g.K.Ord.cmp
