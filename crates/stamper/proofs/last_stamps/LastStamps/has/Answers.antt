use Rattle.std.proofs.Common.{refl}
use Rattle.stamps.specs.Stamp.{stamp_of}
use Rattle.stamper.proofs.Held.{length_held}
use Rattle.stamper.proofs.last_stamps.LastStamps.has.Goals as goal

pub returns : goal.returns
returns c =
    let held = length_held stamp_of c.self.inside.nodes c.self.inside.stamps c.self.invariant.0 c.self.invariant.1 in
    rw (← c.self.view_is, held, c.from.ensures) refl
