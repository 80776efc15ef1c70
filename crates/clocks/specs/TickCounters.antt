-- Tick counters: each node has a base and a step.
use Rattle.std.specs.Prelude.{ℕ, ◌+◌, ◌*◌, if◌then◌else◌, List, Ok, Err, Result, nat_le, nat_lt, slice_index_or}
use Rattle.std.proofs.Common.{lit≤}
use Rattle.clocks.specs.Limits.{is_reading}
use Rattle.clocks.specs.Bank.{Clock, Meaning}
use Rattle.clocks.specs.declared.tick.Tick.{Tick}
use Rattle.clocks.specs.declared.tick_counters.TickCounters.{TickCounters}

-- the highest raw number of a tick counter, which counts in 32 bits
abbrev pub max_count : ℕ
max_count = 4294967295

-- base + raw × step; 8 for a raw number above 32 bits or a result that is no reading, then 9 below the high
abbrev pub tick_answer : Tick → ℕ → ℕ → Result ℕ ℕ
tick_answer tick high raw =
    let millis : ℕ = tick.base + raw * tick.step in
    (if nat_le raw max_count then (if is_reading millis then (if nat_lt millis high then Err 9 else Ok millis) else Err 8)
    else Err 8)

-- a clock of these settings, with this high; it never falls back
abbrev pub tick_clock : Tick → ℕ → Clock
tick_clock tick high = record { high = high; backstep = 0; answer = tick_answer tick high }

-- what stands for the nodes past the settings
abbrev pub absent_tick : Tick
absent_tick = record { base = 0; step = 1; low = lit≤ tt; positive = lit≤ tt; short = lit≤ tt }

-- such a clock for each node
abbrev pub tick_meaning : List Tick → (ℕ → ℕ) → Meaning
tick_meaning ticks highs = λ node. tick_clock (slice_index_or ticks node absent_tick) (highs node)

-- nothing was taken yet
abbrev pub fresh_ticks : List Tick → Meaning
fresh_ticks ticks = λ node. tick_clock (slice_index_or ticks node absent_tick) 0

-- the settings of the nodes
abbrev pub ticks_of : TickCounters → List Tick
ticks_of counters = counters.ticks
