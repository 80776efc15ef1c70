-- How far a message's time may be above the reading of the node that receives it.
use Rattle.std.specs.Prelude.{ℕ, ◌+◌, Bool, if◌then◌else◌, Ok, Err, Result, nat_le, nat_lt}
use Rattle.clocks.specs.Limits.{day_millis}
use Rattle.stamps.specs.declared.lead.Lead.{Lead}

-- a lead's milliseconds
abbrev pub lead_of : Lead → ℕ
lead_of lead = lead.millis

-- a lead is at most a day
abbrev pub lead_setting : ℕ → Result ℕ ℕ
lead_setting millis = (if nat_le millis day_millis then Ok millis else Err 4)

-- the message's time is above the reading by more than the lead
abbrev pub is_too_far_ahead : ℕ → ℕ → ℕ → Bool
is_too_far_ahead lead time reading = nat_lt (reading + lead) time
