-- The range of readings, and the longest that a setting may be.
use Rattle.std.specs.Prelude.{ℕ, Bool, ◌&&◌, if◌then◌else◌, Ok, Err, Result, nat_le}

-- the highest reading, in milliseconds
abbrev pub max_reading : ℕ
max_reading = 281474976710655

-- the milliseconds of a day
abbrev pub day_millis : ℕ
day_millis = 86400000

-- the longest step of a tick counter, in milliseconds
abbrev pub max_step : ℕ
max_step = 1000

-- is the number a reading?
abbrev pub is_reading : ℕ → Bool
is_reading millis = nat_le 1 millis && nat_le millis max_reading

-- a number as a reading, or 8 where it is none
abbrev pub reading_of : ℕ → Result ℕ ℕ
reading_of millis = (if is_reading millis then Ok millis else Err 8)
