-- A whole trace: its records one after another, and how it ends.
use Rattle.std.specs.Prelude.{◌≡◌, ℕ, zero, suc, All, List, [], ◌∷◌, ◌++◌, length, drop, Some, None, Ok, Err}
use Rattle.trace.specs.Contents.{Content, encoding_of}
use Rattle.trace.specs.Ranges.{IsInRange}
use Rattle.trace.specs.Format.{Finding, finding_at, place_behind}

-- a trace is complete if its last record ends it; else what stands at a place is refused, with a
-- number
pub data Ending : Type 0 where
  complete : Ending
  refused : (number at : ℕ) → Ending

-- all records of a trace, and how it ends
pub record Whole : Type 0 where
  pub records : List Content
  pub ending : Ending

-- what was found at `at`, and the trace behind it
abbrev pub whole_with : ℕ → Finding → Whole → Whole
whole_with at (Err n) rest = record { records = []; ending = refused n at }
whole_with at (Ok None) rest = record { records = []; ending = complete }
whole_with at (Ok (Some (i, m))) rest = record { records = m ∷ rest.records; ending = rest.ending }

-- the trace from `at` on, of which `turns` bounds the number of records
abbrev pub whole_from : ℕ → List ℕ → ℕ → Whole
whole_from zero bs at = record { records = []; ending = complete }
whole_from (suc turns) bs at =
    whole_with at (finding_at bs at) (whole_from turns bs (place_behind at (finding_at bs at)))

-- the whole trace; it has no more records than bytes
abbrev pub whole_of : List ℕ → Whole
whole_of bs = whole_from (suc (length bs)) bs 0

-- the bytes of some records, one after another
abbrev pub trace_of : List Content → List ℕ
trace_of [] = []
trace_of (m ∷ ms) = encoding_of m ++ trace_of ms

-- the trace bs is the bytes of these records one after another, and ends so
abbrev pub Splits : List ℕ → List Content → Ending → Type 0
Splits bs ms complete = bs ≡ trace_of ms
Splits bs ms (refused n at) = (bs ≡ trace_of ms ++ drop at bs) × (finding_at bs at ≡ Err n)

-- `whole_of bs` is the one way in which the trace splits into records
pub record SplitsOneWay (bs : List ℕ) : Type 0 where
  pub fields : All IsInRange (whole_of bs).records
  pub splits : Splits bs (whole_of bs).records (whole_of bs).ending
  pub only : (ms : List Content) (e : Ending) → All IsInRange ms → Splits bs ms e
      → whole_of bs ≡ record { records = ms; ending = e }
