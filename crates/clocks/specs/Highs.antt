-- The highest reading taken of each node: 0 if none.
use Rattle.std.specs.Prelude.{ℕ, ◌≤◌, max, if◌then◌else◌, Some, None, Ok, Err, Option, Result, ◌==◌, nat_lt, slice_index_or}
use Rattle.std.proofs.Common.{arith}
use Rattle.clocks.specs.Limits.{max_reading}
use Rattle.clocks.specs.declared.highs.Highs.{Highs}
use Rattle.clocks.specs.declared.reading.Reading.{Reading}

-- the high that is kept: 0 if nothing was taken
abbrev pub kept_high : Option Reading → ℕ
kept_high (Some reading) = reading.millis
kept_high None = 0

-- the high of each node
unfoldable pub highs_of : Highs → ℕ → ℕ
highs_of highs = λ node. kept_high (slice_index_or highs.readings node None)

-- nothing was taken yet
abbrev pub fresh_highs : ℕ → ℕ
fresh_highs = λ node. 0

-- the high of a node, 7 for one above 15
abbrev pub high_answer : (ℕ → ℕ) → ℕ → Result ℕ ℕ
high_answer highs node = (if nat_lt node 16 then Ok (highs node) else Err 7)

-- the node's high becomes the larger of itself and the reading
abbrev pub raised_high : ℕ → ℕ → (ℕ → ℕ) → ℕ → ℕ
raised_high node reading highs = λ other. (if other == node then max (highs other) reading else highs other)

-- a high is a reading, or 0
kept_limited : (high : Option Reading) → kept_high high ≤ max_reading
kept_limited (Some reading) = reading.limited
kept_limited None = omega arith

pub high_limited : (highs : Highs) (node : ℕ) → highs_of highs node ≤ max_reading
unfolding highs_of
high_limited highs node = kept_limited (slice_index_or highs.readings node None)
