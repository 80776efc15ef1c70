use Rattle.std.proofs.Common.{arith}
use Rattle.search_tree.proofs.Chaining.{tree_of_chain}
use Rattle.search_tree.proofs.chain.chain_all.Goals as goal

pub returns : goal.returns
returns g c = tree_of_chain _ _ _ c.loop-place.invariant (omega arith)
