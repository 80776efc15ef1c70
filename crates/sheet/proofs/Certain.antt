-- What holds in any case holds where a call succeeds.
use Rattle.std.specs.Prelude.{OnOk, Ok, Err, Result}

pub certain : {X E : Type 0} {P : Type 0} (r : Result X E) → P → OnOk r P
certain (Ok x) p = p
certain (Err e) p = tt
