use Rattle.std.proofs.Common.{◌≡◌}
use Rattle.std.specs.Option.{option_or}
use Rattle.store.specs.Keys.{next_key}
use Rattle.store.specs.Versions.{IsSorted}
use Rattle.search_tree.specs.Shape.{IsTidy, below, size, walk}
use Rattle.search_tree.proofs.descent.next_key.Given as goal

abbrev pub invariant-loop-link : goal.invariant-loop-link
invariant-loop-link g l = record {
  tidy : IsTidy l.nodes l.link;
  sorted : IsSorted g.K.Ord.cmp (walk (below l.nodes l.link));
  same : next_key g.K.Ord.cmp (walk (below l.nodes l.fn.root)) l.key
      ≡ option_or (next_key g.K.Ord.cmp (walk (below l.nodes l.link)) l.key) l.next;
}

abbrev pub decreases-loop-link : goal.decreases-loop-link
decreases-loop-link g l = size (below l.nodes l.link)
