-- A list is searched as what is seen of it.
use Rattle.std.proofs.Common.{◌≡◌, Bool, true, false, cond, List, [], ◌∷◌, map, Option, Some, refl}
use Rattle.std.specs.List.{find}
use Rattle.std.specs.Option.{option_map}

module _ {X Y : Type 0} (seen : X → Y) (test : Y → Bool) where
  found_first : (x : X) (found : Option X) (shown : Option Y) (passes : Bool) → option_map seen found ≡ shown
      → option_map seen (cond passes (Some x) found) ≡ cond passes (Some (seen x)) shown
  found_first x found shown true is = refl
  found_first x found shown false is = is

  pub find-map : (xs : List X) → option_map seen (find (λ x. test (seen x)) xs) ≡ find test (map seen xs)
  find-map [] = refl
  find-map (x ∷ xs) = found_first x _ _ (test (seen x)) (find-map xs)
