use Rattle.std.proofs.Common.{eqb, not, rules, map, ap, ◌∙◌}
use Rattle.arrayvec.proofs.ArrayVecLemmas.{filter-from_retain}
use Rattle.messages.specs.Messages.{has_number, message_numbers}
use Rattle.messages.proofs.Seen.{filter-map}
use Rattle.messages.proofs.messages.keep_others.Goals as goal

pub returns : goal.returns
returns c =
    ap (map message_numbers) (filter-from_retain _ (λ m. not (eqb m.number c.args.number)) _
    (λ x b f' y called. search rules) _ _ c.retain.ensures.filtered)
    ∙ filter-map message_numbers (λ m. not (has_number c.args.number m)) c.args.messages.now.items
