use Rattle.std.proofs.Common.{eqb, rules, tests, ap, ◌∙◌}
use Rattle.std.specs.Option.{option_map}
use Rattle.std.proofs.lemmas.Iterator.{YieldsList-from_slice}
use Rattle.std.proofs.lemmas.Iterator.Search.{find_from_yields_List}
use Rattle.messages.specs.Messages.{has_number, message_numbers}
use Rattle.messages.proofs.Seen.{find-map}
use Rattle.messages.proofs.messages.first_of.Goals as goal

pub returns : goal.returns
returns c =
    ap (option_map message_numbers) (find_from_yields_List (λ m. eqb m.number c.args.number) _ _ _ c.find.ensures.ran
    (YieldsList-from_slice c.args.messages.now cc) (λ x b q k. search (rules, tests)))
    ∙ find-map message_numbers (has_number c.args.number) c.args.messages.now
