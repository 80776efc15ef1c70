-- Which times and counters are stamps.
use Rattle.std.specs.Prelude.{ℕ, Bool, ◌&&◌, ◌||◌, ◌==◌, nat_le}
use Rattle.clocks.specs.Limits.{is_reading}

-- the highest counter
abbrev pub max_counter : ℕ
max_counter = 65535

-- a reading and a counter, or 0.0
abbrev pub is_stamp : ℕ → ℕ → Bool
is_stamp time counter = (is_reading time && nat_le counter max_counter) || (time == 0 && counter == 0)
