-- What a search tree means, and its good order.
use Rattle.std.specs.Prelude.{◌≡◌, ℕ, ◌+◌, ◌≤◌, List, length, Option}
use Rattle.store.specs.Contents.{Contents}
use Rattle.search_tree.specs.Shape.{IsChain, IsTidy, below, size, use_count, walk}
use Rattle.search_tree.specs.declared.Node.{Node}
use Rattle.search_tree.specs.declared.SearchTree.TheInside.{Inside}

-- the versions below the root, in order; all nodes are the capacity
abbrev pub contents_below : {K : Type 0} → List (Node K) → Option ℕ → Contents K
contents_below nodes root = record { versions = walk (below nodes root); capacity = length nodes }

-- what the tree means
abbrev pub contents_of : {K : Type 0} → Inside K → Contents K
contents_of tree = contents_below tree.nodes.now tree.root

-- the tree below the root and the chain of the free places share out all places
pub record IsTree {K : Type 0} (nodes : List (Node K)) (root free : Option ℕ) (len : ℕ) : Type 0 where
  pub tree : IsTidy nodes root
  pub chain : IsTidy nodes free
  pub straight : IsChain (below nodes free)
  -- no place twice, in one or in both
  pub once : (place : ℕ) → use_count (below nodes root) place + use_count (below nodes free) place ≤ 1
  -- and none in neither, as they are so many
  pub all : size (below nodes root) + size (below nodes free) ≡ length nodes
  pub counted : len ≡ size (below nodes root)
