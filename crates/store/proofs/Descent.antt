-- What a search for a key and a stamp finds among versions in order.
use Rattle.std.proofs.Common.{◌≡◌, ℕ, Bool, true, false, not, List, [], ◌∷◌, Some, None, Option, refl, arith}
use Rattle.std.specs.Cmp.{IsTotalOrder}
use Rattle.std.specs.declared.cmp.Ordering.{Ordering}
use Rattle.std.specs.declared.cmp.Ordering.TheVariants.{Less, Equal, Greater}
use Rattle.std.specs.List.{filter, last_or}
use Rattle.std.specs.List.Sorted.{IsStrictlySortedBy}
use Rattle.std.proofs.lemmas.Cmp.{alike_right}
use Rattle.std.proofs.lemmas.Bool.Decides.{nat_tests}
use Rattle.store.specs.Keys.{is_after}
use Rattle.store.specs.Newest.{is_candidate, newest, only_of}
use Rattle.store.specs.Versions.{IsSorted, is_up_to, id_cmp}
use Rattle.store.specs.declared.version.Version.{Version}
use Rattle.store.proofs.Order.{Leads}

module _ {K : Type 0} (order : K → K → Ordering) where
  -- what was found before these
  abbrev Before : Option (Version K) → List (Version K) → Type 0
  Before None vs = Unit {0}
  Before (Some v) vs = Leads order v vs

  -- what is before one of no later key is of no later key
  pub not_after_before : IsTotalOrder order → (key : K) (v w : Version K) → id_cmp order v w ≡ Less
      → not (is_after order key w) ≡ true → not (is_after order key v) ≡ true
  not_after_before total key v w before not_after =
      grind (arith, nat_tests, total.trans v.key w.key key, total.congr v.key w.key key, alike_right total w.key key v.key)

  module _ (total : IsTotalOrder order) (key : K) (stamp : ℕ) where
    candidate_is_up_to : (v : Version K) → is_up_to order key stamp v ≡ false → is_candidate order key stamp v ≡ false
    candidate_is_up_to v above = grind (arith, nat_tests)

    -- what is before one that is not above is not above
    pub up_to_before : (v w : Version K) → id_cmp order v w ≡ Less → is_up_to order key stamp w ≡ true
        → is_up_to order key stamp v ≡ true
    up_to_before v w before up = grind
        (arith, nat_tests, total.trans v.key w.key key, total.congr v.key w.key key, alike_right total w.key key v.key)

    -- once one is above, all are
    pub none_up_to : (v : Version K) (vs : List (Version K)) → is_up_to order key stamp v ≡ false → Leads order v vs
        → filter (is_up_to order key stamp) vs ≡ []
    none_up_to v [] above before = refl
    none_up_to v (w ∷ vs) above before = grind (arith, up_to_before v w before.0, none_up_to v vs above before.1)

    no_candidate : (v : Version K) (vs : List (Version K)) → is_up_to order key stamp v ≡ false → Leads order v vs
        → filter (is_candidate order key stamp) vs ≡ []
    no_candidate v [] above before = refl
    no_candidate v (w ∷ vs) above before =
        grind (arith, up_to_before v w before.0, candidate_is_up_to w, no_candidate v vs above before.1)

    -- what was found before a version of an earlier key is of an earlier key
    not_this_key : (found : Option (Version K)) (v : Version K) (vs : List (Version K)) → Before found (v ∷ vs)
        → order v.key key ≡ Less → only_of order key found ≡ None
    not_this_key None v vs before earlier = refl
    not_this_key (Some u) v vs before earlier =
        grind (arith, nat_tests, before.0, total.trans u.key v.key key, total.congr u.key v.key key)

    newest_above : (found : Option (Version K)) (v : Version K) (vs : List (Version K)) → is_up_to order key stamp v ≡ false
        → IsSorted order (v ∷ vs) → last_or (only_of order key found) (filter (is_candidate order key stamp) (v ∷ vs))
        ≡ only_of order key (last_or found (filter (is_up_to order key stamp) (v ∷ vs)))
    unfolding IsStrictlySortedBy
    newest_above found v vs above sorted =
        rw (above, candidate_is_up_to v above, none_up_to v vs above sorted.0, no_candidate v vs above sorted.0) refl

    newest_by : (found : Option (Version K)) (v : Version K) (vs : List (Version K)) (o : Ordering) (up : Bool)
        → order v.key key ≡ o → is_up_to order key stamp v ≡ up → Before found (v ∷ vs) → IsSorted order (v ∷ vs)
        → last_or (only_of order key (Some v)) (filter (is_candidate order key stamp) vs)
        ≡ only_of order key (last_or (Some v) (filter (is_up_to order key stamp) vs))
        → last_or (only_of order key found) (filter (is_candidate order key stamp) (v ∷ vs))
        ≡ only_of order key (last_or found (filter (is_up_to order key stamp) (v ∷ vs)))
    newest_by found v vs o false is up_is before sorted more = newest_above found v vs up_is sorted
    newest_by found v vs Less true is up_is before sorted more = let earlier = not_this_key found v vs before is in
        grind (arith, nat_tests)
    newest_by found v vs Equal true is up_is before sorted more = grind (arith, nat_tests)
    newest_by found v vs Greater true is up_is before sorted more = grind (arith, nat_tests)

    pub newest_from : (found : Option (Version K)) (vs : List (Version K)) → Before found vs → IsSorted order vs
        → last_or (only_of order key found) (filter (is_candidate order key stamp) vs)
        ≡ only_of order key (last_or found (filter (is_up_to order key stamp) vs))
    unfolding IsStrictlySortedBy
    newest_from found [] before sorted = refl
    newest_from found (v ∷ vs) before sorted =
        newest_by found v vs (order v.key key) (is_up_to order key stamp v) refl refl before sorted
        (newest_from (Some v) vs sorted.0 sorted.1)

    -- the newest is the last that is not above, if it is of this key
    pub newest_is : (vs : List (Version K)) → IsSorted order vs
        → newest order vs key stamp ≡ only_of order key (last_or None (filter (is_up_to order key stamp) vs))
    newest_is vs sorted = newest_from None vs tt sorted
