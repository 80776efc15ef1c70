-- What a page is, in words: they hold of it, and of nothing else.
use Rattle.std.proofs.Common.{◌≡◌, ℕ, ◌+◌, ◌≤◌, inl, inr, Bool, true, false, List, [], ◌∷◌, map, get_or, Some, None, Option, refl}
use Rattle.std.proofs.Common.{sym, ap, ◌∙◌, subst, arith}
use Rattle.std.specs.Cmp.{IsTotalOrder}
use Rattle.std.specs.declared.cmp.Ordering.{Ordering}
use Rattle.std.specs.declared.cmp.Ordering.TheVariants.{Less}
use Rattle.std.specs.List.{AllByRecursion, cons_option, dedup_from, filter_map}
use Rattle.std.specs.List.Sorted.{IsSorted as IsNonDecreasing, IsStrictlySortedBy}
use Rattle.std.specs.Ordering.{is_eq, is_lt}
use Rattle.std.proofs.lemmas.Cmp.{on_total}
use Rattle.std.proofs.lemmas.List.{get_or-map, length-map}
use Rattle.std.proofs.lemmas.List.Kept.{IsStrictlySortedBy-dedup}
use Rattle.std.proofs.lemmas.Map.Keys.{Less-from_sorted}
use Rattle.keys.specs.Order.{IsKeyOrder}
use Rattle.store.specs.Keys.{keys}
use Rattle.store.specs.Newest.{IsIn, IsNewest, IsReadAnswer, newest}
use Rattle.store.specs.Page.{IsOnlyPage, IsPage, page}
use Rattle.store.specs.Versions.{IsSorted, id_cmp}
use Rattle.store.specs.declared.version.Version.{Version}
use Rattle.store.proofs.InWords.{answers_same, newest_answers, some_or_none}
use Rattle.store.proofs.Members.{only_some, same_members}

module _ {X Y : Type 0} (f : X → Option Y) where
  in_filter_map_by : (x z : X) (zs : List X) (y : Y) → f x ≡ Some y → IsIn x (z ∷ zs) → (found : Option Y) → f z ≡ found
      → (IsIn x zs → IsIn y (filter_map f zs)) → IsIn y (cons_option found (filter_map f zs))
  in_filter_map_by x z zs y is (inl here) None none more = absurd (some_or_none (sym is ∙ ap f here ∙ none))
  in_filter_map_by x z zs y is (inl here) (Some w) some more = inl (only_some y w (sym is ∙ ap f here ∙ some))
  in_filter_map_by x z zs y is (inr there) None none more = more there
  in_filter_map_by x z zs y is (inr there) (Some w) some more = inr (more there)

  in_filter_map : (x : X) (xs : List X) (y : Y) → f x ≡ Some y → IsIn x xs → IsIn y (filter_map f xs)
  in_filter_map x [] y is is_in = elim is_in [ ]
  in_filter_map x (z ∷ zs) y is is_in = in_filter_map_by x z zs y is is_in (f z) refl (in_filter_map x zs y is)

  -- where a row comes from
  record From (xs : List X) (y : Y) : Type 0 where
    pub source : X
    pub there : IsIn source xs
    pub gives : f source ≡ Some y

  from_filter_map_by : (y : Y) (z : X) (zs : List X) (found : Option Y) → f z ≡ found
      → IsIn y (cons_option found (filter_map f zs)) → (IsIn y (filter_map f zs) → From zs y) → From (z ∷ zs) y
  from_filter_map_by y z zs None none is_in more = let from = more is_in in
      record { source = from.source; there = inr from.there; gives = from.gives }
  from_filter_map_by y z zs (Some w) some (inl here) more =
      record { source = z; there = inl refl; gives = some ∙ ap Some (sym here) }
  from_filter_map_by y z zs (Some w) some (inr there) more = let from = more there in
      record { source = from.source; there = inr from.there; gives = from.gives }

  from_filter_map : (xs : List X) (y : Y) → IsIn y (filter_map f xs) → From xs y
  from_filter_map [] y is_in = elim is_in [ ]
  from_filter_map (z ∷ zs) y is_in = from_filter_map_by y z zs (f z) refl is_in (from_filter_map zs y)

  module _ (R : X → X → Ordering) (back : Y → X) (gives_back : (x : X) (y : Y) → f x ≡ Some y → back y ≡ x) where
    all_by : (x z : X) (zs : List X) (found : Option Y) → f z ≡ found → R x z ≡ Less
        → AllByRecursion (λ y. R x (back y) ≡ Less) (filter_map f zs)
        → AllByRecursion (λ y. R x (back y) ≡ Less) (cons_option found (filter_map f zs))
    all_by x z zs None none before more = more
    all_by x z zs (Some w) some before more = (ap (R x) (gives_back z w some) ∙ before, more)

    all_ascend : (x : X) (xs : List X) → AllByRecursion (λ z. R x z ≡ Less) xs
        → AllByRecursion (λ y. R x (back y) ≡ Less) (filter_map f xs)
    all_ascend x [] all = tt
    all_ascend x (z ∷ zs) all = all_by x z zs (f z) refl all.0 (all_ascend x zs all.1)

    ascend_by : (z : X) (zs : List X) (found : Option Y) → f z ≡ found
        → AllByRecursion (λ y. R z (back y) ≡ Less) (filter_map f zs)
        → IsStrictlySortedBy (λ y w. R (back y) (back w)) (filter_map f zs)
        → IsStrictlySortedBy (λ y w. R (back y) (back w)) (cons_option found (filter_map f zs))
    unfolding IsStrictlySortedBy
    ascend_by z zs None none all more = more
    ascend_by z zs (Some w) some all more =
        (subst (λ x. AllByRecursion (λ y. R x (back y) ≡ Less) (filter_map f zs)) (sym (gives_back z w some)) all, more)

    ascend : (xs : List X) → IsStrictlySortedBy R xs → IsStrictlySortedBy (λ y w. R (back y) (back w)) (filter_map f xs)
    unfolding IsStrictlySortedBy
    ascend [] sorted = tt
    ascend (z ∷ zs) sorted = ascend_by z zs (f z) refl (all_ascend z zs sorted.0) (ascend zs sorted.1)

module _ {K : Type 0} (order : K → K → Ordering) (total : IsTotalOrder order) (law : IsKeyOrder order) where
  abbrev same_key : K → K → Bool
  same_key k l = is_eq (order k l)

  not_before : (v w : Version K) → id_cmp order v w ≡ Less → is_lt (order w.key v.key) ≡ false
  not_before v w before = grind (arith, total.antisymm w.key v.key)

  keys_rise : (vs : List (Version K)) → IsSorted order vs → IsNonDecreasing order (map (λ v. v.key) vs)
  keys_rise [] sorted k d low high = absurd (omega arith)
  keys_rise (v ∷ vs) sorted k d low high =
      let long = length-map (v ∷ vs) (λ v. v.key) in
      rw (
        get_or-map (λ v. v.key) (v ∷ vs) k v d (omega (arith, high, long)),
        get_or-map (λ v. v.key) (v ∷ vs) (k + 1) v d (omega (arith, high, long)),
      )
      (not_before (get_or (v ∷ vs) k v) (get_or (v ∷ vs) (k + 1) v)
      (Less-from_sorted (id_cmp order) (v ∷ vs) k (k + 1) v sorted (omega arith) (omega (arith, high, long))))

  keys_ascend : (vs : List (Version K)) → IsSorted order vs → IsStrictlySortedBy order (keys order vs)
  keys_ascend vs sorted = IsStrictlySortedBy-dedup total (λ k l. refl) (map (λ v. v.key) vs) (keys_rise vs sorted)

  in_dedup_by : (key prior k : K) (ks : List K) (same : Bool) → same_key k prior ≡ same → IsIn key (prior ∷ k ∷ ks)
      → (IsIn key (prior ∷ ks) → IsIn key (dedup_from same_key prior ks))
      → (IsIn key (k ∷ ks) → IsIn key (dedup_from same_key k ks)) → IsIn key (dedup_from same_key prior (k ∷ ks))
  in_dedup_by key prior k ks true is (inl here) more next = rw is (more (inl here))
  in_dedup_by key prior k ks true is (inr (inl here)) more next = rw is (more (inl (here ∙ law.same k prior (grind (arith, is)))))
  in_dedup_by key prior k ks true is (inr (inr there)) more next = rw is (more (inr there))
  in_dedup_by key prior k ks false is (inl here) more next = rw is (inl here)
  in_dedup_by key prior k ks false is (inr there) more next = rw is (inr (next there))

  in_dedup : (key prior : K) (ks : List K) → IsIn key (prior ∷ ks) → IsIn key (dedup_from same_key prior ks)
  in_dedup key prior [] is_in = is_in
  in_dedup key prior (k ∷ ks) is_in =
      in_dedup_by key prior k ks (same_key k prior) refl is_in (in_dedup key prior ks) (in_dedup key k ks)

  in_map : (v : Version K) (vs : List (Version K)) → IsIn v vs → IsIn v.key (map (λ v. v.key) vs)
  in_map v [] is_in = elim is_in [ ]
  in_map v (w ∷ vs) (inl here) = inl (ap (λ u. u.key) here)
  in_map v (w ∷ vs) (inr there) = inr (in_map v vs there)

  key_in : (v : Version K) (vs : List (Version K)) → IsIn v vs → IsIn v.key (keys order vs)
  key_in v [] is_in = elim is_in [ ]
  key_in v (w ∷ vs) is_in = in_dedup v.key w.key (map (λ v. v.key) vs) (in_map v (w ∷ vs) is_in)

  module _ (vs : List (Version K)) (stamp : ℕ) (sorted : IsSorted order vs) where
    read_is : (key : K) (v : Version K) → newest order vs key stamp ≡ Some v → IsNewest vs key stamp v
    read_is key v is = subst (IsReadAnswer vs key stamp) is (newest_answers order total law vs key stamp sorted)

    page_newest : (row : Version K) → IsIn row (page order vs stamp) → IsNewest vs row.key stamp row
    page_newest row is_in =
        let from = from_filter_map (λ key. newest order vs key stamp) (keys order vs) row is_in in
        let newest = read_is from.source row from.gives in
        subst (λ key. IsNewest vs key stamp row) (sym newest.of_key) newest

    complete_by : (v : Version K) → IsIn v vs → v.stamp ≤ stamp → (found : Option (Version K))
        → newest order vs v.key stamp ≡ found → (row : Version K) × IsIn row (page order vs stamp) × (row.key ≡ v.key)
    complete_by v is_in below None none =
        absurd (omega (
          arith,
          below,
          subst (IsReadAnswer vs v.key stamp) none
              (newest_answers order total law vs v.key stamp sorted) v is_in refl,
        ))
    complete_by v is_in below (Some row) some = (
      row,
      in_filter_map (λ key. newest order vs key stamp) v.key (keys order vs) row some (key_in v vs is_in),
      (read_is v.key row some).of_key,
    )

    -- the page is what the words say
    pub page_is : IsPage order vs stamp (page order vs stamp)
    page_is = record {
      ascending = ascend (λ key. newest order vs key stamp) order (λ v. v.key) (λ key v is. (read_is key v is).of_key)
          (keys order vs) (keys_ascend vs sorted);
      newest = page_newest;
      complete = λ v is_in below. complete_by v is_in below (newest order vs v.key stamp) refl;
    }

    row_in_other : (rows other : List (Version K)) → IsPage order vs stamp rows → IsPage order vs stamp other → (row : Version K)
        → IsIn row rows → IsIn row other
    row_in_other rows other page page′ row is_in =
        let newest = page.newest row is_in in
        let found = page′.complete row newest.there newest.not_above in
        let newest′ = subst (λ key. IsNewest vs key stamp found.0) found.2 (page′.newest found.0 found.1) in
        subst (λ v. IsIn v other) (only_some found.0 row
        (answers_same order total law vs row.key stamp sorted (Some found.0) (Some row) newest′ newest)) found.1

    -- and nothing else is
    pub only_page : IsOnlyPage order vs stamp (page order vs stamp)
    only_page = record {
      is = page_is;
      only = λ rows is. same_members (λ v w. order v.key w.key) (on_total (λ v. v.key) total) rows (page order vs stamp)
          is.ascending page_is.ascending (row_in_other rows (page order vs stamp) is page_is)
          (row_in_other (page order vs stamp) rows page_is is);
    }
