-- Trace clocks: the raw number is the reading.
use Rattle.std.specs.Prelude.{ℕ, ◌+◌, if◌then◌else◌, Ok, Err, Result, nat_lt}
use Rattle.clocks.specs.Limits.{is_reading}
use Rattle.clocks.specs.Bank.{Clock, Meaning}

-- 8 outside the range of readings, then 9 if it fell below the high by more than the backstep
abbrev pub trace_answer : ℕ → ℕ → ℕ → Result ℕ ℕ
trace_answer high backstep raw =
    (if is_reading raw then (if nat_lt (raw + backstep) high then Err 9 else Ok raw) else Err 8)

-- a clock with this high that may fall back so far
abbrev pub trace_clock : ℕ → ℕ → Clock
trace_clock high backstep = record { high = high; backstep = backstep; answer = trace_answer high backstep }

-- such a clock for each node
abbrev pub trace_meaning : (ℕ → ℕ) → ℕ → Meaning
trace_meaning highs backstep = λ node. trace_clock (highs node) backstep

-- nothing was taken yet
abbrev pub fresh_trace : ℕ → Meaning
fresh_trace backstep = λ node. trace_clock 0 backstep
