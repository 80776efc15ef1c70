-- A shape that stands in the nodes is the one that is found below its link.
use Rattle.std.proofs.Common.{◌≡◌, ℕ, zero, suc, ◌+◌, ◌<◌, ◌≤◌, List, [], ◌∷◌, length, Option, Some, None, refl, sym, ◌∙◌, ap}
use Rattle.std.proofs.Common.{subst, arith, get_or, set}
use Rattle.std.proofs.Common.{◌==◌, if◌then◌else◌}
use Rattle.std.specs.List.{slice_get}
use Rattle.std.proofs.lemmas.Bool.Decides.{nat_tests}
use Rattle.std.proofs.lemmas.Option.{none-some, same_Some, slice_get_read, slice_get_within}
use Rattle.search_tree.specs.declared.Node.{Node}
use Rattle.search_tree.specs.Shape.{IsTidy, Shape, StandsIn, below, below_within, fork, leaf, link_to, size, use_count}

found : {K : Type 0} (nodes : List (Node K)) (steps : ℕ) (s : Shape K) → StandsIn nodes s → size s ≤ steps
    → below_within steps nodes (link_to s) ≡ s
found nodes zero leaf st le = refl
found nodes (suc steps) leaf st le = refl
found nodes zero (fork place v l r) st le = absurd (omega arith)
found nodes (suc steps) (fork place v l r) st le =
    let a = found nodes steps l st.1 (omega arith) in
    let b = found nodes steps r st.2 (omega arith) in
    rw (st.0, a, b)

pub below-link_to : {K : Type 0} (nodes : List (Node K)) (s : Shape K) → StandsIn nodes s → size s ≤ length nodes
    → below nodes (link_to s) ≡ s
unfolding below
below-link_to nodes s st le = found nodes (length nodes) s st le

pub tidy_standing : {K : Type 0} (nodes : List (Node K)) (s : Shape K) → StandsIn nodes s → size s ≤ length nodes
    → IsTidy nodes (link_to s)
tidy_standing nodes s st le =
    let is = below-link_to nodes s st le in
    record { linked = ap link_to is; stands = subst (StandsIn nodes) (sym is) st; fits = rw is le }

pub used_here : (place more rest : ℕ) → 0 < (if place == place then 1 else 0) + more + rest
used_here place more rest = grind (arith, nat_tests)

-- a change outside a shape leaves it
pub stands_still : {K : Type 0} (nodes nodes' : List (Node K)) (s : Shape K) → StandsIn nodes s
    → ((p : ℕ) → 0 < use_count s p → slice_get nodes' p ≡ slice_get nodes p) → StandsIn nodes' s
stands_still nodes nodes' leaf st same = tt
stands_still nodes nodes' (fork place v l r) st same = (
  same place (used_here place _ _)
      ∙ st.0,
  stands_still nodes nodes' l st.1 (λ p used. same p (omega arith)),
  stands_still nodes nodes' r st.2 (λ p used. same p (omega arith)),
)

-- a step down
pub record StepsTo {K : Type 0} (nodes : List (Node K)) (link : Option ℕ) (place : ℕ) (node : Node K) : Type 0 where
  pub whole : below nodes link ≡ fork place node.version (below nodes node.left) (below nodes node.right)
  pub left : IsTidy nodes node.left
  pub right : IsTidy nodes node.right
  pub left_smaller : size (below nodes node.left) < size (below nodes link)
  pub right_smaller : size (below nodes node.right) < size (below nodes link)

step_at : {K : Type 0} (nodes : List (Node K)) (link : Option ℕ) (place : ℕ) (node : Node K) (s : Shape K) → below nodes link ≡ s
    → StandsIn nodes s → size s ≤ length nodes → link_to s ≡ Some place → slice_get nodes place ≡ Some node
    → StepsTo nodes link place node
step_at nodes link place node leaf is st le to at = absurd (none-some _ to)
step_at {K} nodes link place node (fork p v l r) is st le to at =
    let same : p ≡ place = same_Some _ _ to in
    let node_is : node ≡ record { version = v; left = link_to l; right = link_to r } =
    same_Some _ _ (sym at ∙ (ap (slice_get nodes) (sym same) ∙ st.0)) in
    let lt = below-link_to nodes l st.1 (omega arith) in
    let rt = below-link_to nodes r st.2 (omega arith) in
    let at_place : StepsTo nodes link place (record { version = v; left = link_to l; right = link_to r }) = record {
      whole = rw (lt, rt, ← same) is;
      left = tidy_standing nodes l st.1 (omega arith);
      right = tidy_standing nodes r st.2 (omega arith);
      left_smaller = rw (lt, is) (omega arith);
      right_smaller = rw (rt, is) (omega arith);
    } in
    subst (StepsTo nodes link place) (sym node_is) at_place

within_at : {K : Type 0} (nodes : List (Node K)) (place : ℕ) (s : Shape K) → StandsIn nodes s → link_to s ≡ Some place
    → place < length nodes
within_at nodes place leaf st to = absurd (none-some _ to)
within_at nodes place (fork p v l r) st to = subst (λ q. q < length nodes) (same_Some _ _ to) (slice_get_within nodes p _ st.0)

pub within : {K : Type 0} (nodes : List (Node K)) (link : Option ℕ) (place : ℕ) → IsTidy nodes link → link ≡ Some place
    → place < length nodes
within nodes link place tidy is = within_at nodes place (below nodes link) tidy.stands (tidy.linked ∙ is)

pub step_down : {K : Type 0} (nodes : List (Node K)) (link : Option ℕ) (place : ℕ) (node : Node K) → IsTidy nodes link
    → link ≡ Some place → node ≡ get_or nodes place node → StepsTo nodes link place node
step_down nodes link place node tidy is read =
    step_at nodes link place node (below nodes link) refl tidy.stands tidy.fits (tidy.linked ∙ is)
    (slice_get_read nodes _ place node refl (within nodes link place tidy is) read)

pub below_none : {K : Type 0} (nodes : List (Node K)) (link : Option ℕ) → link ≡ None → below nodes link ≡ leaf
below_none nodes link is = ap (below nodes) is ∙ below-link_to nodes leaf tt (omega arith)

pub slice_get-set_same : {X : Type 0} (xs : List X) (i : ℕ) (y : X) → i < length xs → slice_get (set xs i y) i ≡ Some y
slice_get-set_same [] i y lt = absurd (omega arith)
slice_get-set_same (x ∷ xs) zero y lt = refl
slice_get-set_same (x ∷ xs) (suc i) y lt = slice_get-set_same xs i y (omega arith)

pub slice_get-set_other : {X : Type 0} (xs : List X) (i j : ℕ) (y : X) → (j ≡ i → ⊥) → slice_get (set xs i y) j ≡ slice_get xs j
slice_get-set_other [] i j y other = refl
slice_get-set_other (x ∷ xs) zero zero y other = absurd (other refl)
slice_get-set_other (x ∷ xs) zero (suc j) y other = refl
slice_get-set_other (x ∷ xs) (suc i) zero y other = refl
slice_get-set_other (x ∷ xs) (suc i) (suc j) y other = slice_get-set_other xs i j y (λ same. other (ap suc same))
