use Rattle.std.proofs.Common.{ap, ◌∙◌, map, replicate}
use Rattle.std.proofs.lemmas.List.{take-replicate}
use Rattle.stamps.specs.Stamp.{stamp_of}
use Rattle.stamper.proofs.Held.{map_replicate}
use Rattle.stamper.proofs.last_stamps.LastStamps.new.Goals as goal

pub returns : goal.returns
returns c =
    rw (c.from.ensures) (ap (map stamp_of) (take-replicate c.args.nodes 16 c.zero.result c.requires)
    ∙ map_replicate stamp_of c.args.nodes c.zero.result ∙ ap (replicate c.args.nodes) c.zero.ensures)
