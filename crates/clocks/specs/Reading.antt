-- How a contract speaks of a reading.
use Rattle.std.specs.Prelude.{ℕ}
use Rattle.clocks.specs.declared.reading.Reading.{Reading}

-- a reading's number of milliseconds
abbrev pub millis_of : Reading → ℕ
millis_of r = r.millis
