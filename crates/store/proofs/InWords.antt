-- What a read answers, in words: they hold of it, and of nothing else.
use Rattle.std.proofs.Common.{◌≡◌, ℕ, ◌≤◌, ◌⊎◌, inl, inr, true, false, List, [], ◌∷◌, Some, None, Option, refl, sym, ap, ◌∙◌}
use Rattle.std.proofs.Common.{subst, arith}
use Rattle.std.specs.Cmp.{IsTotalOrder}
use Rattle.std.specs.declared.cmp.Ordering.{Ordering}
use Rattle.std.specs.declared.cmp.Ordering.TheVariants.{Less, Equal}
use Rattle.std.specs.List.{filter, last_or}
use Rattle.std.specs.List.Sorted.{IsStrictlySortedBy}
use Rattle.std.specs.Option.{is_none}
use Rattle.std.proofs.lemmas.Bool.{both_ways, cases_lt, cases_order, le-leb}
use Rattle.std.proofs.lemmas.Bool.Decides.{nat_tests}
use Rattle.std.proofs.lemmas.List.Kept.{IsStrictlySortedBy-filter}
use Rattle.keys.specs.Order.{IsKeyOrder}
use Rattle.store.specs.Newest.{IsIn, IsNotLater, IsOnlyAnswer, IsReadAnswer, is_candidate, newest}
use Rattle.store.specs.Versions.{IsSorted, id_cmp}
use Rattle.store.specs.declared.version.Version.{Version}
use Rattle.store.proofs.Members.{before_last, from_filter, in_filter, last_in, last_is_in, tied_same}
use Rattle.store.proofs.Order.{id_total}

pub some_or_none : {X : Type 0} {x : X} → ◌≡◌ {A = Option X} (Some x) None → ⊥
some_or_none is = both_ways false refl (ap is_none is)

module _ {K : Type 0} (order : K → K → Ordering) (total : IsTotalOrder order) (law : IsKeyOrder order) where
  candidate : (key : K) (stamp : ℕ) (v : Version K) → v.key ≡ key → v.stamp ≤ stamp → is_candidate order key stamp v ≡ true
  candidate key stamp v same below = rw (same, law.itself key) (le-leb v.stamp stamp below)

  from_candidate : (key : K) (stamp : ℕ) (v : Version K) → is_candidate order key stamp v ≡ true
      → (v.key ≡ key) × (v.stamp ≤ stamp)
  from_candidate key stamp v is = (law.same v.key key (grind arith), grind (arith, nat_tests))

  not_later_by : (v w : Version K) → order v.key w.key ≡ Equal → id_cmp order v w ≡ Less → IsNotLater v w
  not_later_by v w same before = elim (cases_order v.stamp w.stamp) [
    | inl level ↦ inr (level, grind (arith, nat_tests))
    | inr (inl less) ↦ inl less
    | inr (inr more) ↦ absurd (grind (arith, nat_tests))
  ]

  not_later : (v w : Version K) → v.key ≡ w.key → (v ≡ w) ⊎ (id_cmp order v w ≡ Less) → IsNotLater v w
  not_later v w same (inl equal) = inr (ap (λ u. u.stamp) equal, omega (arith, ap (λ u. u.node) equal))
  not_later v w same (inr before) = not_later_by v w (ap (order v.key) (sym same) ∙ law.itself v.key) before

  tied : (v w : Version K) → v.key ≡ w.key → IsNotLater v w → IsNotLater w v → id_cmp order v w ≡ Equal
  tied v w same (inl before) (inl after) = absurd (omega (arith, before, after))
  tied v w same (inl before) (inr level) = absurd (omega (arith, before, level.0))
  tied v w same (inr level) (inl after) = absurd (omega (arith, after, level.0))
  tied v w same (inr level) (inr level′) =
      let keys = ap (order v.key) (sym same) ∙ law.itself v.key in
      let nodes : v.node ≡ w.node = omega (arith, level.1, level′.1) in
      rw (keys, level.0, nodes) (grind (arith, nat_tests))

  answer_by : (vs : List (Version K)) (key : K) (stamp : ℕ) (cs : List (Version K))
      → filter (is_candidate order key stamp) vs ≡ cs → IsStrictlySortedBy (id_cmp order) cs → (found : Option (Version K))
      → last_or None cs ≡ found → IsReadAnswer vs key stamp found
  answer_by vs key stamp [] is sorted (Some v) last = absurd (some_or_none (sym last))
  answer_by vs key stamp (c ∷ cs) is sorted None last = absurd (some_or_none (sym (last_in None c cs).1 ∙ last))
  answer_by vs key stamp [] is sorted None last = λ w is_in same. elim (cases_lt stamp w.stamp) [
    | inl above ↦ above
    | inr below ↦ elim (subst (IsIn w) is
        (in_filter (is_candidate order key stamp) w vs (candidate key stamp w same below) is_in)) [ ]
  ]
  answer_by vs key stamp (c ∷ cs) is sorted (Some v) last =
      let chosen = from_filter (is_candidate order key stamp) v vs (subst (IsIn v) (sym is) (last_is_in c cs v last)) in
      let facts = from_candidate key stamp v chosen.1 in
      record {
        there = chosen.0;
        of_key = facts.0;
        not_above = facts.1;
        none_later = λ w is_in same below.
            let among = subst (IsIn w) is (in_filter (is_candidate order key stamp) w vs (candidate key stamp w same below)
            is_in) in
            not_later w v (same ∙ sym facts.0) (before_last (id_cmp order) None c cs v sorted last w among);
      }

  -- the newest is what the words say
  pub newest_answers : (vs : List (Version K)) (key : K) (stamp : ℕ) → IsSorted order vs
      → IsReadAnswer vs key stamp (newest order vs key stamp)
  newest_answers vs key stamp sorted =
      answer_by vs key stamp (filter (is_candidate order key stamp) vs) refl
      (IsStrictlySortedBy-filter (id_cmp order) (is_candidate order key stamp) vs sorted) _ refl

  -- and nothing else is
  pub answers_same : (vs : List (Version K)) (key : K) (stamp : ℕ) → IsSorted order vs → (found other : Option (Version K))
      → IsReadAnswer vs key stamp found → IsReadAnswer vs key stamp other → found ≡ other
  answers_same vs key stamp sorted None None none none′ = refl
  answers_same vs key stamp sorted None (Some w) none newest =
      absurd (omega (arith, none w newest.there newest.of_key, newest.not_above))
  answers_same vs key stamp sorted (Some v) None newest none =
      absurd (omega (arith, none v newest.there newest.of_key, newest.not_above))
  answers_same vs key stamp sorted (Some v) (Some w) newest newest′ =
      let not_later = newest′.none_later v newest.there newest.of_key newest.not_above in
      let not_earlier = newest.none_later w newest′.there newest′.of_key newest′.not_above in
      let tie : id_cmp order v w ≡ Equal = tied v w (newest.of_key ∙ sym newest′.of_key) not_later not_earlier in
      ap Some (tied_same (id_cmp order) (id_total total) vs sorted v w newest.there newest′.there tie)

  pub only_answer : (vs : List (Version K)) (key : K) (stamp : ℕ) → IsSorted order vs → (found : Option (Version K))
      → found ≡ newest order vs key stamp → IsOnlyAnswer vs key stamp found
  only_answer vs key stamp sorted found is =
      let answers = subst (IsReadAnswer vs key stamp) (sym is) (newest_answers vs key stamp sorted) in
      record { answers = answers; only = λ other answers′. answers_same vs key stamp sorted other found answers′ answers }
