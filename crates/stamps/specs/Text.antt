-- How stamps are printed.
use Rattle.std.specs.Prelude.{ℕ, List, ◌++◌, codes, decimal}
use Rattle.stamps.specs.declared.stamp.Stamp.{Stamp}
use Rattle.stamps.specs.declared.stamped.Stamped.{Stamped}

-- time.counter
abbrev pub stamp_text : Stamp → List ℕ
stamp_text s = decimal s.time ++ (codes "." ++ decimal s.counter)

-- the stamp and the drift
abbrev pub stamped_text : Stamped → List ℕ
stamped_text s = stamp_text s.stamp ++ (codes " drift " ++ decimal s.drift)
