use Rattle.std.proofs.Common.{◌≡◌, None}
use Rattle.std.specs.List.{filter, last_or}
use Rattle.store.specs.Versions.{IsSorted, is_up_to}
use Rattle.search_tree.specs.Shape.{IsTidy, below, size, walk}
use Rattle.search_tree.proofs.descent.last_up_to.Given as goal

abbrev pub invariant-loop-link : goal.invariant-loop-link
invariant-loop-link g l = record {
  tidy : IsTidy l.nodes l.link;
  sorted : IsSorted g.K.Ord.cmp (walk (below l.nodes l.link));
  same :
      last_or None (filter (is_up_to g.K.Ord.cmp l.key l.stamp) (walk (below l.nodes l.fn.root)))
      ≡ last_or l.last (filter (is_up_to g.K.Ord.cmp l.key l.stamp) (walk (below l.nodes l.link)));
}

abbrev pub decreases-loop-link : goal.decreases-loop-link
decreases-loop-link g l = size (below l.nodes l.link)
