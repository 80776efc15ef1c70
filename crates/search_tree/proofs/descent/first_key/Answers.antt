use Rattle.std.proofs.Common.{ap, arith}
use Rattle.search_tree.specs.Shape.{walk}
use Rattle.search_tree.proofs.Parting.{first_key_step}
use Rattle.search_tree.proofs.Standing.{below_none, step_down, within}
use Rattle.search_tree.proofs.descent.first_key.Goals as goal

pub offset_bounds-nodes-place : goal.offset_bounds-nodes-place
offset_bounds-nodes-place g c = let inside = within _ _ _ c.loop-link.invariant.tidy c.in-Some.is in omega arith

pub bounds-nodes-place : goal.bounds-nodes-place
bounds-nodes-place g c = within _ _ _ c.loop-link.invariant.tidy c.in-Some.is

pub loop-link-smaller : goal.loop-link-smaller
loop-link-smaller g c = (step_down _ _ _ _ c.loop-link.invariant.tidy c.in-Some.is c.index-nodes-place.is).left_smaller

pub loop-link-preserved : goal.loop-link-preserved
loop-link-preserved g c =
    let step = step_down _ _ _ _ c.loop-link.invariant.tidy c.in-Some.is c.index-nodes-place.is in
    record {
      tidy = step.left;
      same = rw (c.loop-link.invariant.same, ap walk step.whole) (first_key_step c.loop-link.first _ _ _);
    }

pub returns : goal.returns
returns g c = rw (c.loop-link.invariant.same, below_none _ _ c.in_default.is)
