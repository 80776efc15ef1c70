-- Stamps as numbers, and their codes.
use Rattle.std.specs.Prelude.{ℕ, ◌+◌, ◌*◌, ◌/◌, ◌%◌, if◌then◌else◌, Some, None, Option}
use Rattle.stamps.specs.Range.{is_stamp}
use Rattle.stamps.specs.declared.stamp.Stamp.{Stamp}

-- A stamp as numbers, written time.counter.
pub record Timestamp : Type 0 where
  pub time : ℕ
  pub counter : ℕ

-- the numbers of a stamp
abbrev pub stamp_of : Stamp → Timestamp
stamp_of s = record { time = s.time; counter = s.counter }

-- 0.0, for a node that has no stamp yet
abbrev pub zero_stamp : Timestamp
zero_stamp = record { time = 0; counter = 0 }

-- time × 65536 + counter
abbrev pub code_of : Timestamp → ℕ
code_of s = s.time * 65536 + s.counter

-- stamps compare as their codes
abbrev pub stamp_code : Stamp → ℕ
stamp_code s = code_of (stamp_of s)

-- the stamp that has this code, if there is one
abbrev pub stamp_with_code : ℕ → Option Timestamp
stamp_with_code code =
    (if is_stamp (code / 65536) (code % 65536) then Some (record { time = code / 65536; counter = code % 65536 }) else None)
