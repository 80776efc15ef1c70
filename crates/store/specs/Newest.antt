-- The newest version of a key at or below a stamp.
use Rattle.std.specs.Prelude.{◌≡◌, ℕ, ◌<◌, ◌≤◌, ◌⊎◌, Bool, ◌&&◌, List, [], ◌∷◌, nat_le, if◌then◌else◌, None, Some, Option}
use Rattle.std.specs.declared.cmp.Ordering.{Ordering}
use Rattle.std.specs.Ordering.{is_eq}
use Rattle.std.specs.List.{filter, last_or}
use Rattle.store.specs.declared.version.Version.{Version}

module _ {K : Type 0} (order : K → K → Ordering) where
  -- is it of this key, and at or below the stamp?
  abbrev pub is_candidate : K → ℕ → Version K → Bool
  is_candidate key stamp v = is_eq (order v.key key) && nat_le v.stamp stamp

  -- the last of these: versions stand in order of key, stamp and node
  abbrev pub newest : List (Version K) → K → ℕ → Option (Version K)
  newest versions key stamp = last_or None (filter (is_candidate key stamp) versions)

-- x is one of these
abbrev pub IsIn : {X : Type 0} → X → List X → Type 0
IsIn x [] = ⊥
IsIn x (y ∷ ys) = (x ≡ y) ⊎ IsIn x ys

-- v has the smaller stamp, or the same and no higher node
abbrev pub IsNotLater : {K : Type 0} → Version K → Version K → Type 0
IsNotLater v w = (v.stamp < w.stamp) ⊎ ((v.stamp ≡ w.stamp) × (v.node ≤ w.node))

-- The same in words, of versions in any order: one of the key, not above the stamp, and none such is later.
pub record IsNewest {K : Type 0} (versions : List (Version K)) (key : K) (stamp : ℕ) (v : Version K) : Type 0 where
  pub there : IsIn v versions
  pub of_key : v.key ≡ key
  pub not_above : v.stamp ≤ stamp
  pub none_later : (w : Version K) → IsIn w versions → w.key ≡ key → w.stamp ≤ stamp → IsNotLater w v

-- what a read answers: the newest, or none if every version of the key is above the stamp
abbrev pub IsReadAnswer : {K : Type 0} → List (Version K) → K → ℕ → Option (Version K) → Type 0
IsReadAnswer versions key stamp (Some v) = IsNewest versions key stamp v
IsReadAnswer {K} versions key stamp None = (w : Version K) → IsIn w versions → w.key ≡ key → stamp < w.stamp

-- the answer, and the only one of which the words hold
pub record IsOnlyAnswer {K : Type 0} (versions : List (Version K)) (key : K) (stamp : ℕ) (found : Option (Version K)) : Type 0
  where
    pub answers : IsReadAnswer versions key stamp found
    pub only : (other : Option (Version K)) → IsReadAnswer versions key stamp other → other ≡ found

-- For stores that search: the version that a search for a key found, if it is of this key.
abbrev pub only_of : {K : Type 0} (order : K → K → Ordering) → K → Option (Version K) → Option (Version K)
only_of order key None = None
only_of order key (Some v) = (if is_eq (order v.key key) then Some v else None)
