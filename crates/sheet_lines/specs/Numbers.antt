-- Values and stamps, as a sheet prints them.
use Rattle.std.specs.Prelude.{ℕ, ℤ, ◌/◌, ◌%◌, List, [], ◌++◌, codes, decimal, if◌then◌else◌, unsigned_abs}
use Rattle.std.specs.Int.{is_negative}
use Rattle.stamps.specs.Stamp.{Timestamp}

-- the last three digits of a number
abbrev pub three_digits : ℕ → List ℕ
three_digits n = decimal (n / 100 % 10) ++ (decimal (n / 10 % 10) ++ decimal (n % 10))

-- thousandths of a unit, in units
abbrev pub units_text : ℤ → List ℕ
units_text value =
    (if is_negative value then codes "-" else [])
    ++ (decimal (unsigned_abs value / 1000) ++ (codes "." ++ three_digits (unsigned_abs value)))

-- a stamp: time.counter
abbrev pub timestamp_text : Timestamp → List ℕ
timestamp_text t = decimal t.time ++ (codes "." ++ decimal t.counter)

-- the stamp of a code
abbrev pub code_text : ℕ → List ℕ
code_text code = timestamp_text (record { time = code / 65536; counter = code % 65536 })
