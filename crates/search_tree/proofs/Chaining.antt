-- A chain of the first places.
use Rattle.std.proofs.Common.{◌≡◌, ℕ, ◌+◌, ◌<◌, ◌≤◌, ◌==◌, List, Option, Some, None, if◌then◌else◌, length, set, refl, sym, ◌∙◌}
use Rattle.std.proofs.Common.{ap, subst, arith}
use Rattle.std.proofs.lemmas.Bool.Decides.{nat_tests}
use Rattle.store.specs.declared.version.Version.{Version}
use Rattle.search_tree.specs.Shape.{IsChain, IsTidy, Shape, StandsIn, below, fork, leaf, link_to, size, use_count}
use Rattle.search_tree.specs.Tree.{IsTree}
use Rattle.search_tree.specs.declared.Node.{Node}
use Rattle.search_tree.proofs.Standing.{below-link_to, below_none, slice_get-set_other, slice_get-set_same, stands_still}
use Rattle.search_tree.proofs.Standing.{tidy_standing}

-- the places below count, each once
pub record IsChainOf {K : Type 0} (nodes : List (Node K)) (count : ℕ) (link : Option ℕ) : Type 0 where
  pub chain : Shape K
  pub linked : link_to chain ≡ link
  pub stands : StandsIn nodes chain
  pub straight : IsChain chain
  pub all : size chain ≡ count
  pub once : (j : ℕ) → use_count chain j ≤ 1
  pub first : (j : ℕ) → count ≤ j → use_count chain j ≡ 0

once_more : (j count n : ℕ) → n ≤ 1 → (count ≤ j → n ≡ 0) → (if j == count then 1 else 0) + 0 + n ≤ 1
once_more j count n once first = grind (arith, nat_tests)

none_above : (j count n : ℕ) → count + 1 ≤ j → n ≡ 0 → (if j == count then 1 else 0) + 0 + n ≡ 0
none_above j count n above none = grind (arith, nat_tests)

pub chain_more : {K : Type 0} (nodes : List (Node K)) (count : ℕ) (link : Option ℕ) (v : Version K) → count < length nodes
    → IsChainOf nodes count link
    → IsChainOf (set nodes count (record { version = v; left = None; right = link })) (count + 1) (Some count)
chain_more nodes count link v lt is =
    record {
      chain = fork count v leaf is.chain;
      linked = refl;
      stands = (
        slice_get-set_same nodes count _ lt
            ∙ rw is.linked,
        tt,
        stands_still nodes _ is.chain is.stands
            (λ j used. slice_get-set_other nodes count j _ (λ same. let none = is.first j (omega arith) in omega arith)),
      );
      straight = (refl, is.straight);
      all = omega (arith, is.all);
      once = λ j. once_more j count _ (is.once j) (is.first j);
      first = λ j above. none_above j count _ above (is.first j (omega arith));
    }

pub tree_of_chain : {K : Type 0} (nodes : List (Node K)) (count : ℕ) (free : Option ℕ) → IsChainOf nodes count free
    → count ≡ length nodes → IsTree nodes None free 0
tree_of_chain nodes count free is whole =
    let none = below_none nodes None refl in
    let fits : size is.chain ≤ length nodes = omega (arith, is.all) in
    let chain_is : below nodes free ≡ is.chain = ap (below nodes) (sym is.linked) ∙ below-link_to nodes is.chain is.stands fits in
    record {
      tree = tidy_standing nodes leaf tt (omega arith);
      chain = subst (IsTidy nodes) is.linked (tidy_standing nodes is.chain is.stands fits);
      straight = subst IsChain (sym chain_is) is.straight;
      once = λ j. rw (none, chain_is) (omega (arith, is.once j));
      all = rw (none, chain_is) (omega (arith, is.all));
      counted = rw none;
    }
