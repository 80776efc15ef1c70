-- What a version store means, and what an add does to it.
use Rattle.std.specs.Prelude.{ℕ, ◌≤◌, List, [], length, if◌then◌else◌, nat_le, Ok, Err, Result, is_ok}
use Rattle.std.specs.declared.cmp.Ordering.{Ordering}
use Rattle.store.specs.Versions.{IsSorted, has_id, with_version}
use Rattle.store.specs.declared.version.Version.{Version}

-- a set of versions, in order, and for how many there is room
pub record Contents (K : Type 0) : Type 0 where
  pub versions : List (Version K)
  pub capacity : ℕ

module _ {K : Type 0} (order : K → K → Ordering) where
  -- in good order
  pub record IsSound (c : Contents K) : Type 0 where
    pub sorted : IsSorted order c.versions
    pub fits : length c.versions ≤ c.capacity

  -- what an add answers
  abbrev pub add_answer : Contents K → Version K → Result (Unit {0}) ℕ
  add_answer c v =
      (if has_id order v c.versions then Err 17
      else (if nat_le c.capacity (length c.versions) then Err 16 else Ok tt))

  -- what the store means after it: a refused add changes nothing
  abbrev pub after_add : Contents K → Version K → Contents K
  after_add c v =
      (if is_ok (add_answer c v) then record { versions = with_version order v c.versions; capacity = c.capacity } else c)

-- a store in the caller's memory takes so many places at most
abbrev pub most_places : ℕ
most_places = 65535

-- what making a store in so many places answers: an empty one, or 4
abbrev pub made_answer : {K : Type 0} → ℕ → Result (Contents K) ℕ
made_answer places = (if nat_le places most_places then Ok (record { versions = []; capacity = places }) else Err 4)
