use Rattle.std.proofs.Common.{rules, tests, ap, ◌∙◌}
use Rattle.std.specs.Option.{option_map}
use Rattle.std.proofs.lemmas.Iterator.{YieldsList-from_slice}
use Rattle.std.proofs.lemmas.Iterator.Search.{find_from_yields_List}
use Rattle.trace_history.specs.Shown.{event_numbers}
use Rattle.trace_history.specs.Source.{is_source}
use Rattle.trace_history.proofs.Found.{find-map}
use Rattle.trace_history.proofs.source.source_of.Goals as goal

pub returns : goal.returns
returns g c =
    let test = is_source c.args.version.now in
    ap (option_map event_numbers) (find_from_yields_List (λ e. test (event_numbers e)) _ _ _ c.find.ensures.ran
    (YieldsList-from_slice c.args.events.now cc) (λ x b q k. search (rules, tests)))
    ∙ find-map event_numbers test c.args.events.now
