use Rattle.std.proofs.Common.{◌≡◌}
use Rattle.std.specs.Option.{option_or}
use Rattle.store.specs.Keys.{first_key}
use Rattle.search_tree.specs.Shape.{IsTidy, below, size, walk}
use Rattle.search_tree.proofs.descent.first_key.Given as goal

abbrev pub invariant-loop-link : goal.invariant-loop-link
invariant-loop-link g l = record {
  tidy : IsTidy l.nodes l.link;
  same : first_key (walk (below l.nodes l.fn.root)) ≡ option_or (first_key (walk (below l.nodes l.link))) l.first;
}

abbrev pub decreases-loop-link : goal.decreases-loop-link
decreases-loop-link g l = size (below l.nodes l.link)
