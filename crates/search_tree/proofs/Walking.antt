-- The versions below a node stand on either side of its own.
use Rattle.std.proofs.Common.{◌≡◌, ℕ, List, ◌∷◌, Option, length, length-append, refl, ap, subst, arith}
use Rattle.std.specs.declared.cmp.Ordering.{Ordering}
use Rattle.store.specs.Versions.{IsSorted}
use Rattle.search_tree.specs.declared.Node.{Node}
use Rattle.search_tree.specs.Shape.{Shape, below, fork, leaf, size, walk}
use Rattle.search_tree.proofs.Parting.{IsParted, parted}
use Rattle.search_tree.proofs.Standing.{StepsTo}

pub sides : {K : Type 0} (order : K → K → Ordering) {nodes : List (Node K)} {link : Option ℕ} {place : ℕ} {node : Node K}
    → StepsTo nodes link place node → IsSorted order (walk (below nodes link))
    → IsParted order (walk (below nodes node.left)) node.version (walk (below nodes node.right))
sides order step sorted = parted order _ _ _ (subst (IsSorted order) (ap walk step.whole) sorted)

pub length_walk : {K : Type 0} (s : Shape K) → length (walk s) ≡ size s
length_walk leaf = refl
length_walk (fork place v l r) = omega (arith, length-append (walk l) (v ∷ walk r), length_walk l, length_walk r)
