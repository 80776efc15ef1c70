-- A list is searched and filtered as what is seen of it.
use Rattle.std.proofs.Common.{◌≡◌, Bool, true, false, cond, ◌||◌, List, [], ◌∷◌, map, Option, None, Some, refl, ap}
use Rattle.std.specs.List.{filter, find, list_any}
use Rattle.std.specs.Option.{is_some, option_map}

module _ {X Y : Type 0} (seen : X → Y) (test : Y → Bool) where
  found_first : (x : X) (found : Option X) (shown : Option Y) (passes : Bool) → option_map seen found ≡ shown
      → option_map seen (cond passes (Some x) found) ≡ cond passes (Some (seen x)) shown
  found_first x found shown true is = refl
  found_first x found shown false is = is

  pub find-map : (xs : List X) → option_map seen (find (λ x. test (seen x)) xs) ≡ find test (map seen xs)
  find-map [] = refl
  find-map (x ∷ xs) = found_first x _ _ (test (seen x)) (find-map xs)

  kept_first : (x : X) (kept : List X) (shown : List Y) (passes : Bool) → map seen kept ≡ shown
      → map seen (cond passes (x ∷ kept) kept) ≡ cond passes (seen x ∷ shown) shown
  kept_first x kept shown true is = ap (λ ys. seen x ∷ ys) is
  kept_first x kept shown false is = is

  pub filter-map : (xs : List X) → map seen (filter (λ x. test (seen x)) xs) ≡ filter test (map seen xs)
  filter-map [] = refl
  filter-map (x ∷ xs) = kept_first x _ _ (test (seen x)) (filter-map xs)

module _ {X : Type 0} (test : X → Bool) where
  some_first : (x : X) (found : Option X) (any passes : Bool) → is_some found ≡ any
      → is_some (cond passes (Some x) found) ≡ (passes || any)
  some_first x found any true is = refl
  some_first x found any false is = is

  pub is_some-find : (xs : List X) → is_some (find test xs) ≡ list_any test xs
  is_some-find [] = refl
  is_some-find (x ∷ xs) = some_first x _ _ (test x) (is_some-find xs)

pub is_some-option_map : {X Y : Type 0} (seen : X → Y) (found : Option X) → is_some (option_map seen found) ≡ is_some found
is_some-option_map seen None = refl
is_some-option_map seen (Some x) = refl
