-- What a clock bank means, its law, and what its two calls answer and change.
use Rattle.std.specs.Prelude.{◌≡◌, ℕ, ◌+◌, ◌<◌, ◌≤◌, max, IsTrue, if◌then◌else◌, ◌≢◌, ◌⊎◌, Ok, Err, Result, nat_lt}
use Rattle.clocks.specs.Limits.{is_reading, day_millis}

-- The clock of one node. An answer is a reading (Ok) or the number of a refusal (Err).
pub record Clock : Type 0 where
  -- the highest reading taken so far, 0 if none
  pub high : ℕ
  -- how far below its high the clock may still read
  pub backstep : ℕ
  -- the answer to each raw number
  pub answer : ℕ → Result ℕ ℕ

-- A bank means a clock for each node.
abbrev pub Meaning : Type 0
Meaning = ℕ → Clock

-- What a clock may answer: a reading not below its high less its backstep, or 8 or 9.
abbrev pub IsAllowed : Clock → Result ℕ ℕ → Type 0
IsAllowed clock (Ok reading) = IsTrue (is_reading reading) × (clock.high ≤ reading + clock.backstep)
IsAllowed clock (Err number) = (number ≡ 8) ⊎ (number ≡ 9)

-- The law of a bank. A backstep is at most a day.
pub record IsLawful (bank : Meaning) : Type 0 where
  pub answers : (node raw : ℕ) → node < 16 → IsAllowed (bank node) ((bank node).answer raw)
  pub backsteps : (node : ℕ) → node < 16 → (bank node).backstep ≤ day_millis

-- What a look answers: 7 for a node above 15, else as that node's clock does.
abbrev pub look_answer : Meaning → ℕ → ℕ → Result ℕ ℕ
look_answer bank node raw = (if nat_lt node 16 then (bank node).answer raw else Err 7)

-- This reading was taken from a clock: its high becomes the larger of itself and the reading, its backstep stays, its answers
-- may change within the law.
pub record Raised (reading : ℕ) (old new : Clock) : Type 0 where
  pub high : new.high ≡ max old.high reading
  pub backstep : new.backstep ≡ old.backstep

-- What a take changes, by its answer: the clock of its node alone, and nothing where it refuses.
abbrev pub Taken : Result ℕ ℕ → ℕ → Meaning → Meaning → Type 0
Taken (Ok reading) node old new =
    Raised reading (old node) (new node) × ((other : ℕ) → other ≢ node → new other ≡ old other)
Taken (Err number) node old new = new ≡ old

-- What a layer's take changes in the bank below, by the layer's answer: it takes there too, and nothing where the layer
-- refuses.
abbrev pub TakenBelow : Result ℕ ℕ → ℕ → ℕ → Meaning → Meaning → Type 0
TakenBelow (Ok reading) node raw old new = Taken (look_answer old node raw) node old new
TakenBelow (Err number) node raw old new = new ≡ old

-- What else a layer's take does in the bank below, by the layer's answer.
abbrev pub BesideBelow : {S B : Type 0} (beside : S → Result ℕ ℕ → B → B → Type 0) → S → Result ℕ ℕ → Result ℕ ℕ → B → B → Type 0
BesideBelow beside sample (Ok reading) below old new = beside sample below old new
BesideBelow beside sample (Err number) below old new = new ≡ old
