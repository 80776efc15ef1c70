use Rattle.std.proofs.Common.{ap, sym, ◌∙◌, rules, tests, nat_le}
use Rattle.std.proofs.lemmas.Iterator.{YieldsList-from_slice}
use Rattle.std.proofs.lemmas.Iterator.Search.{all_from_yields_List}
use Rattle.std.proofs.lemmas.List.Folds.{list_all-map}
use Rattle.stamps.specs.Stamp.{code_of, stamp_of}
use Rattle.stamper.specs.Stamps.{none_below}
use Rattle.stamper.proofs.last_stamps.LastStamps.none_below.Goals as goal

pub returns : goal.returns
returns c =
    all_from_yields_List (λ stamp. nat_le c.args.code (code_of (stamp_of stamp))) _ _ _ c.all.ensures.ran
    (YieldsList-from_slice c.held.result.now cc) (λ x b q k. search (rules, tests))
    ∙ sym (list_all-map (λ stamp. nat_le c.args.code (code_of stamp)) stamp_of c.held.result.now)
    ∙ ap (λ last. none_below last c.args.code) c.held.ensures
