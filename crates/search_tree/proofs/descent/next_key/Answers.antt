use Rattle.std.proofs.Common.{◌≡◌, true, false, ap, arith, rules}
use Rattle.store.specs.Keys.{is_after}
use Rattle.search_tree.specs.Shape.{walk}
use Rattle.search_tree.proofs.Parting.{next_key_left, next_key_right}
use Rattle.search_tree.proofs.Standing.{below_none, step_down, within}
use Rattle.search_tree.proofs.Walking.{sides}
use Rattle.search_tree.proofs.descent.next_key.Goals as goal

pub offset_bounds-nodes-place : goal.offset_bounds-nodes-place
offset_bounds-nodes-place g c = let inside = within _ _ _ c.loop-link.invariant.tidy c.in-Some.is in omega arith

pub bounds-nodes-place : goal.bounds-nodes-place
bounds-nodes-place g c = within _ _ _ c.loop-link.invariant.tidy c.in-Some.is

pub loop-link-smaller-then-gt : goal.loop-link-smaller-then-gt
loop-link-smaller-then-gt g c = (step_down _ _ _ _ c.loop-link.invariant.tidy c.in-Some.is c.index-nodes-place.is).left_smaller

pub loop-link-smaller : goal.loop-link-smaller
loop-link-smaller g c = (step_down _ _ _ _ c.loop-link.invariant.tidy c.in-Some.is c.index-nodes-place.is).right_smaller

pub loop-link-preserved-then-gt : goal.loop-link-preserved-then-gt
loop-link-preserved-then-gt g c =
    let step = step_down _ _ _ _ c.loop-link.invariant.tidy c.in-Some.is c.index-nodes-place.is in
    let parts = sides g.K.Ord.cmp step c.loop-link.invariant.sorted in
    let agrees = g.met.K.Ord.matches_partial_cmp c.index-nodes-place.result.version.key c.args.key in
    let after : is_after g.K.Ord.cmp c.args.key c.index-nodes-place.result.version ≡ true = search rules in
    record {
      tidy = step.left;
      sorted = parts.left;
      same = rw (c.loop-link.invariant.same, ap walk step.whole)
          (next_key_left g.K.Ord.cmp g.met.K.Ord.total c.args.key c.loop-link.next _ _ _ after);
    }

pub loop-link-preserved : goal.loop-link-preserved
loop-link-preserved g c =
    let step = step_down _ _ _ _ c.loop-link.invariant.tidy c.in-Some.is c.index-nodes-place.is in
    let parts = sides g.K.Ord.cmp step c.loop-link.invariant.sorted in
    let agrees = g.met.K.Ord.matches_partial_cmp c.index-nodes-place.result.version.key c.args.key in
    let not_after : is_after g.K.Ord.cmp c.args.key c.index-nodes-place.result.version ≡ false = search rules in
    record {
      tidy = step.right;
      sorted = parts.right;
      same = rw (c.loop-link.invariant.same, ap walk step.whole)
          (next_key_right g.K.Ord.cmp g.met.K.Ord.total c.args.key c.loop-link.next _ _ _ parts.before not_after);
    }

pub returns : goal.returns
returns g c = rw (c.loop-link.invariant.same, below_none _ _ c.in_default.is)
