-- The never-backwards layer: answers the larger of the reading below and its own high.
use Rattle.std.specs.Prelude.{ℕ, max, Ok, Err, Result}
use Rattle.clocks.specs.Bank.{Clock, Meaning}
use Rattle.clocks.specs.declared.never_backwards.NeverBackwards.{NeverBackwards}

-- it refuses exactly as the bank below does
abbrev pub rising_answer : ℕ → Result ℕ ℕ → Result ℕ ℕ
rising_answer high (Ok reading) = Ok (max reading high)
rising_answer high (Err number) = Err number

-- a clock that never falls below its high, over the clock below
abbrev pub rising_clock : ℕ → Clock → Clock
rising_clock high below = record {
  high = high;
  backstep = 0;
  answer = λ raw. rising_answer high (below.answer raw);
}

-- such a clock for each node
abbrev pub rising_meaning : (ℕ → ℕ) → Meaning → Meaning
rising_meaning highs below = λ node. rising_clock (highs node) (below node)

-- its own highs start at 0
abbrev pub fresh_rising : Meaning → Meaning
fresh_rising below = λ node. rising_clock 0 (below node)

-- the bank below a layer
abbrev pub bank_below : {B : Type 0} → NeverBackwards B → B
bank_below layer = layer.below
