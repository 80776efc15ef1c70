-- All that a listable store can be asked about a key and a stamp.
use Rattle.std.specs.Prelude.{ℕ, length, Option}
use Rattle.std.specs.declared.cmp.Ordering.{Ordering}
use Rattle.store.specs.Contents.{Contents}
use Rattle.store.specs.Keys.{first_key, next_key}
use Rattle.store.specs.Newest.{newest}
use Rattle.store.specs.declared.version.Version.{Version}

pub record Answers (K : Type 0) : Type 0 where
  pub count : ℕ
  pub capacity : ℕ
  pub newest : Option (Version K)
  pub first_key : Option K
  pub next_key : Option K

-- what a store of these contents answers: of nothing else
abbrev pub answers_of : {K : Type 0} (order : K → K → Ordering) → Contents K → K → ℕ → Answers K
answers_of order c key stamp =
    record {
      count = length c.versions;
      capacity = c.capacity;
      newest = newest order c.versions key stamp;
      first_key = first_key c.versions;
      next_key = next_key order c.versions key;
    }
