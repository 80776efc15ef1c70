-- The offset layer: adds a signed number of milliseconds for each node to the bank below.
use Rattle.std.specs.Prelude.{ℕ, zero, suc, List, ℤ, pos, negsuc, ◌+ℤ◌, Ok, Err, Result, slice_index_or}
use Rattle.clocks.specs.Limits.{reading_of}
use Rattle.clocks.specs.Bank.{Clock, Meaning}
use Rattle.clocks.specs.declared.offset.Offset.{Offset}
use Rattle.clocks.specs.declared.offset_layer.OffsetLayer.{OffsetLayer}

-- a sum as a reading; 8 outside the range
abbrev pub sum_reading : ℤ → Result ℕ ℕ
sum_reading (pos millis) = reading_of millis
sum_reading (negsuc _) = Err 8

-- the lower bank's refusals come first
abbrev pub offset_answer : ℤ → Result ℕ ℕ → Result ℕ ℕ
offset_answer offset (Ok reading) = sum_reading (pos reading +ℤ offset)
offset_answer offset (Err number) = Err number

-- a negative sum counts as 0
abbrev pub floor_at_zero : ℤ → ℕ
floor_at_zero (pos millis) = millis
floor_at_zero (negsuc _) = 0

-- 0 if the high below is 0, else the sum
abbrev pub offset_high : ℤ → ℕ → ℕ
offset_high offset zero = 0
offset_high offset (suc below) = floor_at_zero (pos (suc below) +ℤ offset)

-- a clock that is so many milliseconds ahead of the clock below
abbrev pub offset_clock : ℤ → Clock → Clock
offset_clock offset below = record {
  high = offset_high offset below.high;
  backstep = below.backstep;
  answer = λ raw. offset_answer offset (below.answer raw);
}

-- what stands for the nodes past the settings
abbrev pub zero_offset : Offset
zero_offset = record { millis = pos 0; least = record { le = tt }; most = record { le = tt } }

-- such a clock for each node
abbrev pub offset_meaning : List Offset → Meaning → Meaning
offset_meaning offsets below = λ node. offset_clock (slice_index_or offsets node zero_offset).millis (below node)

-- what a layer holds: the bank below, and the offsets of the nodes
abbrev pub bank_below : {B : Type 0} → OffsetLayer B → B
bank_below layer = layer.below

-- the settings of the nodes
abbrev pub offsets_of : {B : Type 0} → OffsetLayer B → List Offset
offsets_of layer = layer.offsets
