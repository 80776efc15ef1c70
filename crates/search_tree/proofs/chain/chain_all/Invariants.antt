use Rattle.search_tree.proofs.Chaining.{IsChainOf}
use Rattle.search_tree.proofs.chain.chain_all.Given as goal

abbrev pub invariant-loop-place : goal.invariant-loop-place
invariant-loop-place g l = IsChainOf l.nodes l.place l.free
