use Rattle.std.proofs.Common.{◌≡◌, None, sym, ◌∙◌, ap, arith}
use Rattle.std.specs.List.{filter, last_or}
use Rattle.store.specs.Newest.{only_of}
use Rattle.store.specs.Versions.{is_up_to}
use Rattle.store.proofs.Descent.{newest_is}
use Rattle.store.proofs.InWords.{only_answer}
use Rattle.search_tree.specs.Shape.{below, walk}
use Rattle.search_tree.proofs.Parting.{last_left, last_right}
use Rattle.search_tree.proofs.Standing.{below_none, step_down, within}
use Rattle.search_tree.proofs.Walking.{sides}
use Rattle.search_tree.proofs.descent.last_up_to.Goals as goal

pub offset_bounds-nodes-place : goal.offset_bounds-nodes-place
offset_bounds-nodes-place g c = let inside = within _ _ _ c.loop-link.invariant.tidy c.in-Some.is in omega arith

pub bounds-nodes-place : goal.bounds-nodes-place
bounds-nodes-place g c = within _ _ _ c.loop-link.invariant.tidy c.in-Some.is

pub loop-link-smaller-then-is_up_to : goal.loop-link-smaller-then-is_up_to
loop-link-smaller-then-is_up_to g c =
    (step_down _ _ _ _ c.loop-link.invariant.tidy c.in-Some.is c.index-nodes-place.is).right_smaller

pub loop-link-smaller : goal.loop-link-smaller
loop-link-smaller g c = (step_down _ _ _ _ c.loop-link.invariant.tidy c.in-Some.is c.index-nodes-place.is).left_smaller

pub loop-link-preserved-then-is_up_to : goal.loop-link-preserved-then-is_up_to
loop-link-preserved-then-is_up_to g c =
    let step = step_down _ _ _ _ c.loop-link.invariant.tidy c.in-Some.is c.index-nodes-place.is in
    let parts = sides g.K.Ord.cmp step c.loop-link.invariant.sorted in
    record {
      tidy = step.right;
      sorted = parts.right;
      same = rw (c.loop-link.invariant.same, ap walk step.whole)
          (last_right g.K.Ord.cmp g.met.K.Ord.total c.args.key c.args.stamp c.loop-link.last _ _ _ (sym c.if-is_up_to.ensures));
    }

pub loop-link-preserved : goal.loop-link-preserved
loop-link-preserved g c =
    let step = step_down _ _ _ _ c.loop-link.invariant.tidy c.in-Some.is c.index-nodes-place.is in
    let parts = sides g.K.Ord.cmp step c.loop-link.invariant.sorted in
    record {
      tidy = step.left;
      sorted = parts.left;
      same = rw (c.loop-link.invariant.same, ap walk step.whole)
          (last_left g.K.Ord.cmp g.met.K.Ord.total c.args.key c.args.stamp c.loop-link.last _ _ _ parts.after
          (sym c.if-is_up_to.ensures));
    }

pub returns-clause-newest : goal.returns-clause-newest
returns-clause-newest g c =
    let last : last_or None (filter (is_up_to g.K.Ord.cmp c.args.key c.args.stamp) (walk (below c.args.nodes.now c.args.root)))
    ≡ c.loop-link.last = rw (c.loop-link.invariant.same, below_none _ _ c.in_default.is) in
    sym (newest_is g.K.Ord.cmp g.met.K.Ord.total c.args.key c.args.stamp _ c.requires.sorted
    ∙ ap (only_of g.K.Ord.cmp c.args.key) last)

pub returns-clause-in_words : goal.returns-clause-in_words
returns-clause-in_words g c =
    only_answer g.K.Ord.cmp g.met.K.Ord.total g.met.K.KeyKind.law _ c.args.key c.args.stamp c.requires.sorted _
    (returns-clause-newest g c)
