-- A walk over the keys of versions in order: from the first, each followed by the next.
use Rattle.std.proofs.Common.{◌≡◌, Bool, true, false, List, [], ◌∷◌, map, Some, None, Option, refl, sym, ap, ◌∙◌, arith}
use Rattle.std.specs.Cmp.{IsTotalOrder}
use Rattle.std.specs.declared.cmp.Ordering.{Ordering}
use Rattle.std.specs.declared.cmp.Ordering.TheVariants.{Less, Equal, Greater}
use Rattle.std.specs.Ordering.{is_eq, is_gt, is_lt}
use Rattle.std.specs.List.{AllByRecursion, dedup_from, filter, find, slice_get}
use Rattle.std.specs.Option.{option_map}
use Rattle.std.specs.List.Sorted.{IsStrictlySortedBy}
use Rattle.std.proofs.lemmas.Bool.{both_ways}
use Rattle.std.proofs.lemmas.Cmp.{tied_itself}
use Rattle.std.proofs.lemmas.List.Kept.{IsStrictlySortedBy-filter}
use Rattle.store.specs.Keys.{first_key, is_after, keys, next_key}
use Rattle.store.specs.Versions.{IsSorted, id_cmp}
use Rattle.store.specs.declared.version.Version.{Version}
use Rattle.store.proofs.Descent.{not_after_before}
use Rattle.store.proofs.Order.{Leads}

module _ {X : Type 0} where
  -- the first that passes is the first of those that pass
  pub find_is_first : (p : X → Bool) (xs : List X) → find p xs ≡ slice_get (filter p xs) 0
  find_is_first p [] = refl
  find_is_first p (x ∷ xs) = grind (arith, find_is_first p xs)

  -- a second filter that passes no more than the first says it all
  filter_narrower : (p q : X → Bool) → ((x : X) → p x ≡ true → q x ≡ true) → (xs : List X) → filter p (filter q xs) ≡ filter p xs
  filter_narrower p q narrower [] = refl
  filter_narrower p q narrower (x ∷ xs) = grind (arith, narrower x, filter_narrower p q narrower xs)

  first_by : (p : X → Bool) (x : X) (xs : List X) (y : X) (ys : List X) (b : Bool) → p x ≡ b → filter p (x ∷ xs) ≡ y ∷ ys
      → (filter p xs ≡ y ∷ ys → p y ≡ true) → p y ≡ true
  first_by p x xs y ys true passes is more = grind (arith, passes)
  first_by p x xs y ys false fails is more = more (grind (arith, fails))

  first_passes : (p : X → Bool) (xs : List X) (y : X) (ys : List X) → filter p xs ≡ y ∷ ys → p y ≡ true
  first_passes p [] y ys is = absurd (grind arith)
  first_passes p (x ∷ xs) y ys is = first_by p x xs y ys (p x) refl is (first_passes p xs y ys)

module _ {K : Type 0} (order : K → K → Ordering) where
  -- the keys after this one
  abbrev pub keys_after : K → List (Version K) → List K
  keys_after key vs = keys order (filter (is_after order key) vs)

  -- the keys that are left where this one is next
  abbrev pub keys_left : List (Version K) → Option K → List K
  keys_left vs None = []
  keys_left vs (Some key) = key ∷ keys_after key vs

  abbrev same_key : K → K → Bool
  same_key k l = is_eq (order k l)

  module _ (total : IsTotalOrder order) where
    -- versions that are not before a key: none of its own, the rest after it
    abbrev NoneBefore : K → List (Version K) → Type 0
    NoneBefore key vs = AllByRecursion (λ v. is_lt (order v.key key) ≡ false) vs

    -- what is behind a version of a later key is of later keys
    all_after : (v : Version K) (vs : List (Version K)) (key : K) → is_after order key v ≡ true → Leads order v vs
        → filter (is_after order key) vs ≡ vs
    all_after v [] key after leads = refl
    all_after v (w ∷ vs) key after leads =
        grind (arith, not_after_before order total key v w leads.0, all_after v vs key after leads.1)

    none_before : (v : Version K) (vs : List (Version K)) → Leads order v vs → NoneBefore v.key vs
    none_before v [] leads = tt
    none_before v (w ∷ vs) leads = (grind (arith, leads.0, total.antisymm v.key w.key), none_before v vs leads.1)

    from_key_by : (key : K) (v : Version K) (vs : List (Version K)) (o : Ordering) → order v.key key ≡ o → NoneBefore key (v ∷ vs)
        → Leads order v vs → dedup_from same_key key (map (λ v. v.key) vs) ≡ key ∷ keys_after key vs
        → dedup_from same_key key (map (λ v. v.key) (v ∷ vs)) ≡ key ∷ keys_after key (v ∷ vs)
    from_key_by key v vs Less is none leads more = absurd (both_ways _ none.0 (ap is_lt is))
    from_key_by key v vs Equal is none leads more = rw is more
    from_key_by key v vs Greater is none leads more = rw (is, all_after v vs key (ap is_gt is) leads) refl

    from_key : (key : K) (vs : List (Version K)) → NoneBefore key vs → IsSorted order vs
        → dedup_from same_key key (map (λ v. v.key) vs) ≡ key ∷ keys_after key vs
    unfolding IsStrictlySortedBy
    from_key key [] none sorted = refl
    from_key key (v ∷ vs) none sorted =
        from_key_by key v vs (order v.key key) refl none sorted.0 (from_key key vs none.1 sorted.1)

    -- all keys are left where the first is next
    pub keys_from_first : (vs : List (Version K)) → IsSorted order vs → keys order vs ≡ keys_left vs (first_key vs)
    unfolding IsStrictlySortedBy
    keys_from_first [] sorted = refl
    keys_from_first (v ∷ vs) sorted = rw (tied_itself total v.key) (from_key v.key vs (none_before v vs sorted.0) sorted.1)

    later_after : (key : K) (u : Version K) → is_after order key u ≡ true → (x : Version K) → is_after order u.key x ≡ true
        → is_after order key x ≡ true
    later_after key u after x later =
        grind (arith, total.antisymm key u.key, total.antisymm u.key x.key, total.antisymm key x.key, total.trans key u.key x.key)

    next_by : (key : K) (vs us : List (Version K)) → filter (is_after order key) vs ≡ us → IsSorted order us
        → keys order us ≡ keys_left vs (first_key us)
    next_by key vs [] is sorted = refl
    next_by key vs (u ∷ us) is sorted = keys_from_first (u ∷ us) sorted
        ∙ ap (λ ws. u.key ∷ keys order ws)
        (ap (filter (is_after order u.key)) (sym is) ∙ filter_narrower _ _ (later_after key u (first_passes _ vs u us is)) vs)

    -- the keys after one are left where the next after it is next
    pub keys_from_next : (key : K) (vs : List (Version K)) → IsSorted order vs
        → keys_after key vs ≡ keys_left vs (next_key order vs key)
    keys_from_next key vs sorted = next_by key vs _ refl (IsStrictlySortedBy-filter (id_cmp order) (is_after order key) vs sorted)
        ∙ ap (λ found. keys_left vs (option_map (λ v. v.key) found)) (sym (find_is_first (is_after order key) vs))
