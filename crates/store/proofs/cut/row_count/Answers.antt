use Rattle.std.proofs.Common.{ap, subst, length, arith, rules}
use Rattle.store.proofs.PageInWords.{only_page}
use Rattle.store.proofs.Rows.{HasCounted, fewer_left, rows_from_first, none_counted, row_counted}
use Rattle.store.proofs.cut.row_count.Goals as goal
use Rattle.store.proofs.cut.row_count.Goals.{then-is_some+else-count-places, else-is_some}

pub loop-next-init : goal.loop-next-init
loop-next-init g c =
    let sorted = c.first_key-next.ensures.sound.sorted in
    let rest = ap length (rows_from_first g.K.Ord.cmp _ c.args.stamp g.met.K.Ord.total sorted) in
    record { sorted = sorted; within = omega arith; rest = rw c.first_key-next.ensures.key (omega (arith, rest)) }

pub loop-next-smaller : goal.loop-next-smaller
loop-next-smaller g c = rw (c.next_key-next.ensures, c.in-Some.is)
    (fewer_left g.K.Ord.cmp _ c.args.stamp g.met.K.Ord.total c.loop-next.invariant.sorted c.in-Some.key)

pub loop-next-preserved : goal.loop-next-preserved
loop-next-preserved g c =
    let counted = subst (HasCounted g.K.Ord.cmp (g.S.VersionStore.contents c.args.store.now).versions c.args.stamp c.args.places
    c.loop-next.count) c.in-Some.is c.loop-next.invariant in
    elim c.if-is_some.branch [
      | then-is_some+else-count-places w ↦
          rw (c.next_key-next.ensures, w.count-is)
          (row_counted g.K.Ord.cmp _ c.args.stamp g.met.K.Ord.total _ _ _ counted (search rules) w.if-count-places.false)
      | else-is_some w ↦ rw (c.next_key-next.ensures, w.count-is)
          (none_counted g.K.Ord.cmp _ c.args.stamp g.met.K.Ord.total _ _ _ counted (search rules))
    ]

pub returns-then-count-places-clause-in_words : goal.returns-then-count-places-clause-in_words
returns-then-count-places-clause-in_words g c =
    only_page g.K.Ord.cmp g.met.K.Ord.total g.met.K.KeyKind.law _ c.args.stamp c.loop-next.invariant.sorted

pub returns-clause-in_words : goal.returns-clause-in_words
returns-clause-in_words g c = only_page g.K.Ord.cmp g.met.K.Ord.total g.met.K.KeyKind.law _ c.args.stamp
    c.loop-next.invariant.sorted
