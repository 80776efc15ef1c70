use Rattle.std.proofs.Common.{[], refl, subst, sym, ◌∙◌}
use Rattle.store.proofs.Rows.{HasWritten, fewer_left, none_written, row_written, rows_from_first}
use Rattle.store.proofs.cut.write_rows.Goals as goal
use Rattle.store.proofs.cut.write_rows.Goals.{in-Some-at, in_default-at}

pub loop-next-init : goal.loop-next-init
loop-next-init g c =
    let sorted = c.first_key-next.ensures.sound.sorted in
    record {
      sorted = sorted;
      written = [];
      as_many = refl;
      rows_are = refl;
      rest =
          rw c.first_key-next.ensures.key (rows_from_first g.K.Ord.cmp _ c.args.stamp g.met.K.Ord.total sorted);
    }

pub loop-next-smaller : goal.loop-next-smaller
loop-next-smaller g c = rw (c.next_key-next.ensures, c.in-Some.is)
    (fewer_left g.K.Ord.cmp _ c.args.stamp g.met.K.Ord.total c.loop-next.invariant.sorted c.in-Some.key)

pub loop-next-preserved : goal.loop-next-preserved
loop-next-preserved g c =
    let done = subst (HasWritten g.K.Ord.cmp (g.S.VersionStore.contents c.args.store.now).versions c.args.stamp c.args.rows.now
    c.loop-next.rows c.loop-next.count) c.in-Some.is c.loop-next.invariant in
    elim c.match-at.branch [
      | in-Some-at w ↦ rw (c.next_key-next.ensures, w.rows-is, w.count-is)
          (row_written g.K.Ord.cmp _ c.args.stamp g.met.K.Ord.total _ _ _ _ done w.in-Some-at.newest
          (sym c.at.ensures.newest ∙ w.in-Some-at.is) c.requires.room)
      | in_default-at w ↦ rw (c.next_key-next.ensures, w.rows-is, w.count-is)
          (none_written g.K.Ord.cmp _ c.args.stamp g.met.K.Ord.total _ _ _ _ done (sym c.at.ensures.newest ∙ w.in_default-at.is))
    ]
