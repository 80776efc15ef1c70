use Rattle.std.proofs.Common.{ap, sym, ◌∙◌}
use Rattle.stamper.specs.Settings.{setting_numbers}
use Rattle.replay.proofs.Gaining.{gains_answers}
use Rattle.replay.proofs.replay.replay.Goals as goal

pub returns-clause-replayed : goal.returns-clause-replayed
returns-clause-replayed g c =
    let empty = ap (λ s. s.versions) (sym c.store.view_is) ∙ c.store.invariant in
    gains_answers _ g.met.K.Ord.total g.met.K.KeyKind.law _ _ g.met.B.ClockBank.lawful (setting_numbers c.args.settings) _ _
    c.args.settings.limited empty c.args.run (rw (← c.new.ensures.fresh, ← c.reserve.ensures.items) c.give.ensures.given)
