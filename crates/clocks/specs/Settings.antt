-- The settings of the banks, each tested for its range once: the setting, or 4.
use Rattle.std.specs.Prelude.{ℕ, ◌&&◌, if◌then◌else◌, ℤ, pos, negsuc, Ok, Err, Result, int_le, nat_le}
use Rattle.clocks.specs.Limits.{max_reading, day_millis, max_step}
use Rattle.clocks.specs.declared.backstep.Backstep.{Backstep}
use Rattle.clocks.specs.declared.offset.Offset.{Offset}
use Rattle.clocks.specs.declared.tick.Tick.{Tick}

-- a backstep's milliseconds
abbrev pub backstep_of : Backstep → ℕ
backstep_of b = b.millis

-- a backstep is at most a day
abbrev pub backstep_setting : ℕ → Result ℕ ℕ
backstep_setting millis = (if nat_le millis day_millis then Ok millis else Err 4)

-- an offset's milliseconds
abbrev pub offset_of : Offset → ℤ
offset_of o = o.millis

-- an offset is at most a day either way
abbrev pub offset_setting : ℤ → Result ℤ ℕ
offset_setting millis =
    (if int_le (negsuc 86399999) millis && int_le millis (pos 86400000) then Ok millis else Err 4)

-- the base and the step of a tick counter
abbrev pub tick_of : Tick → ℕ × ℕ
tick_of t = (t.base, t.step)

-- a base is 0 or a reading, a step is 1 to 1000 milliseconds
abbrev pub tick_setting : ℕ → ℕ → Result (ℕ × ℕ) ℕ
tick_setting base step =
    (if nat_le base max_reading && (nat_le 1 step && nat_le step max_step) then Ok (base, step) else Err 4)
