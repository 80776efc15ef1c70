use Rattle.std.proofs.Common.{ap, length, ◌<◌, arith}
use Rattle.stamps.specs.Stamp.{stamp_of}
use Rattle.stamper.proofs.Held.{length_held, held_set}
use Rattle.stamper.proofs.last_stamps.LastStamps.set.Goals as goal

pub returns : goal.returns
returns c =
    let held = length_held stamp_of c.self.inside.nodes c.self.inside.stamps c.self.invariant.0 c.self.invariant.1 in
    let less : c.args.node < c.self.inside.nodes = omega (arith, c.requires, ap length c.self.view_is, held) in
    rw (c.from.ensures, ← c.self.view_is)
    (held_set stamp_of c.self.inside.nodes c.self.inside.stamps c.args.node c.args.stamp less)
