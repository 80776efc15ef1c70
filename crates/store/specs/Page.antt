-- The page at a stamp: the newest version at or below it of each key that has one.
use Rattle.std.specs.Prelude.{◌≡◌, ℕ, ◌≤◌, ◌++◌, List, length, drop, if◌then◌else◌, nat_le, Ok, Err, Result, None, Some, Option}
use Rattle.std.specs.declared.cmp.Ordering.{Ordering}
use Rattle.std.specs.List.{filter_map}
use Rattle.std.specs.List.Sorted.{IsStrictlySortedBy}
use Rattle.store.specs.Keys.{keys}
use Rattle.store.specs.Newest.{IsIn, IsNewest, newest}
use Rattle.store.specs.declared.version.Version.{Version}

module _ {K : Type 0} (order : K → K → Ordering) where
  -- for each key, in order, what a read at the stamp answers, and nothing where that is none
  abbrev pub page : List (Version K) → ℕ → List (Version K)
  page versions stamp = filter_map (λ key. newest order versions key stamp) (keys order versions)

  -- The same in words, of versions in any order.
  pub record IsPage (versions : List (Version K)) (stamp : ℕ) (rows : List (Version K)) : Type 0 where
    -- keys ascend, so that none comes twice
    pub ascending : IsStrictlySortedBy (λ v w. order v.key w.key) rows
    -- each row is the newest of its key
    pub newest : (row : Version K) → IsIn row rows → IsNewest versions row.key stamp row
    -- each key that has a version at or below the stamp has a row
    pub complete : (v : Version K) → IsIn v versions → v.stamp ≤ stamp → (row : Version K) × IsIn row rows × (row.key ≡ v.key)

  -- the page, and the only list of which the words hold
  pub record IsOnlyPage (versions : List (Version K)) (stamp : ℕ) (rows : List (Version K)) : Type 0 where
    pub is : IsPage versions stamp rows
    pub only : (other : List (Version K)) → IsPage versions stamp other → other ≡ rows

-- what a cut answers: how many rows the page has, or 19 if the caller's list has fewer places
abbrev pub cut_answer : {X : Type 0} → List X → ℕ → Result ℕ ℕ
cut_answer page places = (if nat_le (length page) places then Ok (length page) else Err 19)

-- the caller's list after it: the places behind the page stay, and a refused cut changes none
abbrev pub after_cut : {X : Type 0} → List X → List X → List X
after_cut page rows = (if nat_le (length page) (length rows) then page ++ drop (length page) rows else rows)

-- for a count that ends at the first row too many: how many rows there are, unless they are more than the places
abbrev pub count_within : {X : Type 0} → List X → ℕ → Option ℕ
count_within page places = (if nat_le (length page) places then Some (length page) else None)
