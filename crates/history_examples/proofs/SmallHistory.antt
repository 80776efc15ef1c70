-- The small history is one.
use Rattle.std.proofs.Common.{◌≡◌, ℕ, suc, zero, ◌<◌, ◌≤◌, ◌++◌, inl, inr, List, [], ◌∷◌, take, drop, refl, sym, ap, ◌∙◌, subst}
use Rattle.std.proofs.Common.{arith}
use Rattle.std.specs.declared.cmp.Ordering.{Ordering}
use Rattle.std.specs.declared.cmp.Ordering.TheVariants.{Less}
use Rattle.std.specs.List.{AllByRecursion}
use Rattle.std.specs.List.Sorted.{IsStrictlySortedBy}
use Rattle.std.specs.Ordering.{is_lt}
use Rattle.std.proofs.Math.Dec.{lit<, lit≤}
use Rattle.std.proofs.lemmas.Bool.{both_ways}
use Rattle.keys.specs.Order.{IsKeyOrder}
use Rattle.stamps.specs.Stamp.{code_of}
use Rattle.store.specs.Newest.{IsIn, IsNewest, IsNotLater}
use Rattle.store.specs.Page.{IsPage}
use Rattle.store.specs.declared.version.Version.{Version}
use Rattle.history.specs.History.{Closed, Entry, IsHistory, IsSettled, events_of, last_stamp}
use Rattle.history.proofs.Lists.{in_append}
use Rattle.history_examples.specs.Examples.{ExampleIsHistory, first_put, fourth_put, second_put, small_history, small_setup}
use Rattle.history_examples.specs.Examples.{third_put}
use Rattle.history_examples.proofs.Entering.{◌▹◌, by_entries, enters, received}

of_each : {X : Type 0} (P : X → Type 0) (x : X) (xs : List X) → AllByRecursion P xs → IsIn x xs → P x
of_each P x [] all is_in = elim is_in [ ]
of_each P x (y ∷ ys) all (inl here) = subst P (sym here) all.0
of_each P x (y ∷ ys) all (inr there) = of_each P x ys all.1 there

-- the newest, told by what each version is to it
newest : {K : Type 0} (versions : List (Version K)) (stamp : ℕ) (v : Version K) → IsIn v versions → v.stamp ≤ stamp
    → AllByRecursion (λ w. w.key ≡ v.key → w.stamp ≤ stamp → IsNotLater w v) versions → IsNewest versions v.key stamp v
newest versions stamp v there not_above each = record {
  there = there;
  of_key = refl;
  not_above = not_above;
  none_later = λ w is_in of_key below. of_each (λ w. w.key ≡ v.key → w.stamp ≤ stamp → IsNotLater w v) w versions each is_in
      of_key below;
}

module _ {K : Type 0} (order : K → K → Ordering) (law : IsKeyOrder order) (key other : K) (before : order key other ≡ Less) where
  not_same : key ≡ other → ⊥
  not_same same = both_ways (is_lt (order key key)) (ap is_lt (law.itself key)) (ap is_lt (ap (order key) same ∙ before))

  -- what was put before the first read, and in all
  abbrev early : List (Version K)
  early = first_put key ∷ second_put key ∷ []

  abbrev all : List (Version K)
  all = first_put key ∷ second_put key ∷ third_put other ∷ fourth_put key ∷ []

  first_newest : IsNewest early key 65536002 (first_put key)
  first_newest = newest early 65536002 (first_put key) (inl refl) (lit≤ tt)
      ((λ same below. inr (refl, omega arith)) ▹ (λ same below. absurd (omega (arith, below))) ▹ tt)

  second_newest : IsNewest all key 65536003 (second_put key)
  second_newest = newest all 65536003 (second_put key) (inr (inl refl)) (lit≤ tt)
      ((λ same below. inl (lit< tt)) ▹ (λ same below. inr (refl, omega arith)) ▹ (λ same below. absurd (omega (arith, below))) ▹
      (λ same below. absurd (omega (arith, below))) ▹ tt)

  third_newest : IsNewest all other 104857601 (third_put other)
  third_newest = newest all 104857601 (third_put other) (inr (inr (inl refl))) (lit≤ tt)
      ((λ same below. inl (lit< tt)) ▹ (λ same below. inl (lit< tt)) ▹ (λ same below. inr (refl, omega arith)) ▹
      (λ same below. absurd (not_same same)) ▹ tt)

  fourth_newest : IsNewest all key 104857601 (fourth_put key)
  fourth_newest = newest all 104857601 (fourth_put key) (inr (inr (inr (inl refl)))) (lit≤ tt)
      ((λ same below. inl (lit< tt)) ▹ (λ same below. inl (lit< tt)) ▹ (λ same below. inl (lit< tt)) ▹
      (λ same below. inr (refl, omega arith)) ▹ tt)

  none_at_first : (w : Version K) → IsIn w all → w.key ≡ key → 0 < w.stamp
  none_at_first w is_in = of_each (λ w. w.key ≡ key → 0 < w.stamp) w all
      ((λ same. lit< tt) ▹ (λ same. lit< tt) ▹ (λ same. lit< tt) ▹ (λ same. lit< tt) ▹ tt) is_in

  early_page : IsPage order early 65536002 (first_put key ∷ [])
  unfolding IsStrictlySortedBy
  early_page = record {
    ascending = (tt, tt);
    newest = λ row is_in. elim is_in [ inl here ↦ rw here first_newest | inr there ↦ elim there [ ] ];
    complete = λ w is_in below. (first_put key, inl refl, of_each (λ w. key ≡ w.key) w early (refl ▹ refl ▹ tt) is_in);
  }

  abbrev rows : List (Version K)
  rows = fourth_put key ∷ third_put other ∷ []

  last_page : IsPage order all 104857601 rows
  unfolding IsStrictlySortedBy
  last_page = record {
    ascending = ((before, tt), (tt, tt));
    newest = λ row is_in. elim is_in
        [ inl here ↦ rw here fourth_newest | inr (inl here) ↦ rw here third_newest | inr (inr there) ↦ elim there [ ] ];
    complete = λ w is_in below. of_each (λ w. (row : Version K) × IsIn row rows × (row.key ≡ w.key)) w all
        ((fourth_put key, inl refl, refl) ▹ (fourth_put key, inl refl, refl) ▹ (third_put other, inr (inl refl), refl) ▹
        (fourth_put key, inl refl, refl) ▹ tt) is_in;
  }

  settled : (node : ℕ) → node < 2 → 65536002 ≤ code_of (last_stamp (events_of (take 5 (small_history key other))) node)
  settled zero below = lit≤ tt
  settled (suc zero) below = lit≤ tt
  settled (suc (suc node)) below = absurd (omega arith)

  abbrev so_far : ℕ → List (Entry K)
  so_far n = take n (small_history key other)

  closed : (n stamp : ℕ) → IsSettled small_setup (so_far 16 ++ take n (drop 16 (small_history key other))) stamp
  closed n stamp = inl (in_append Closed (so_far 16) (take n (drop 16 (small_history key other)))
      (inl (inr (inr (inr (inr (inr (inr (inr (inr (inr (inr (inr (inr (inr (inr (inr (inl refl))))))))))))))))))

  is_written : IsHistory order small_setup (small_history key other)
  is_written = by_entries order (small_history key other) (
      enters order [] _ refl refl refl refl
      ▹ enters order (so_far 1) _ refl refl refl refl
      ▹ enters order (so_far 2) _ refl refl refl (received _ _ 1 1 refl refl refl refl refl)
      ▹ enters order (so_far 3) _ refl refl refl refl
      ▹ enters order (so_far 4) _ refl refl refl refl
      ▹ (inr settled, first_newest)
      ▹ (inr settled, early_page, refl)
      ▹ enters order (so_far 7) _ refl refl refl refl
      ▹ enters order (so_far 8) _ refl refl refl refl
      ▹ enters order (so_far 9) _ refl refl refl (received _ _ 1 5 refl refl refl refl refl)
      ▹ enters order (so_far 10) _ refl refl refl refl
      ▹ enters order (so_far 11) _ refl refl refl (received _ _ 2 6 refl refl refl refl refl)
      ▹ enters order (so_far 12) _ refl refl refl refl
      ▹ enters order (so_far 13) _ refl refl refl (received _ _ 3 10 refl refl refl refl refl)
      ▹ enters order (so_far 14) _ refl refl refl refl
      ▹ tt
      ▹ (closed 0 65536003, second_newest)
      ▹ (closed 1 0, none_at_first)
      ▹ (closed 2 104857601, last_page, refl)
      ▹ tt
      ▹ tt)

pub is_history : {K : Type 0} (order : K → K → Ordering) → IsKeyOrder order → ExampleIsHistory order
is_history order law key other before = is_written order law key other before
