-- The keys that a set of versions has.
use Rattle.std.specs.Prelude.{Bool, List, map, Option}
use Rattle.std.specs.declared.cmp.Ordering.{Ordering}
use Rattle.std.specs.Option.{option_map}
use Rattle.std.specs.Ordering.{is_eq, is_gt}
use Rattle.std.specs.List.{dedup, find, slice_get}
use Rattle.store.specs.declared.version.Version.{Version}

-- the first, or none
abbrev pub first_key : {K : Type 0} → List (Version K) → Option K
first_key versions = option_map (λ v. v.key) (slice_get versions 0)

module _ {K : Type 0} (order : K → K → Ordering) where
  -- is its key after this one?
  abbrev pub is_after : K → Version K → Bool
  is_after key v = is_gt (order v.key key)

  -- the first after a given one, which need not be there
  abbrev pub next_key : List (Version K) → K → Option K
  next_key versions key = option_map (λ v. v.key) (find (is_after key) versions)

  -- each of them once: versions stand in order, so those of one key stand together
  abbrev pub keys : List (Version K) → List K
  keys versions = dedup (λ k l. is_eq (order k l)) (map (λ v. v.key) versions)
