use Rattle.std.proofs.Common.{length}
use Rattle.store.proofs.Rows.{HasWritten}
use Rattle.store.proofs.Walk.{keys_left}
use Rattle.store.proofs.cut.write_rows.Given as goal

abbrev pub invariant-loop-next : goal.invariant-loop-next
invariant-loop-next g l = HasWritten g.K.Ord.cmp (g.S.VersionStore.contents l.store).versions l.stamp l.initial.rows l.rows
    l.count l.next

abbrev pub decreases-loop-next : goal.decreases-loop-next
decreases-loop-next g l = length (keys_left g.K.Ord.cmp (g.S.VersionStore.contents l.store).versions l.next)
