use Rattle.std.proofs.Common.{◌≡◌, ℕ, Err, Result, ap, ◌∙◌, rules}
use Rattle.clocks.specs.TraceClocks.{trace_answer}
use Rattle.refusals.specs.Refusals.{number_of}
use Rattle.stamper.specs.Readings.{at_reading}
use Rattle.stamps.specs.Rules.{own_answer}
use Rattle.stamps.specs.Stamp.{zero_stamp}
use Rattle.usage.proofs.first_note.Goals as goal

-- the clock's refusal is passed on
pub returns-in_err-reading : goal.returns-in_err-reading
returns-in_err-reading c =
    let raw = c.args.raw.0 in
    let twenty : c.in_ok-new.field-0.millis ≡ 20 = let b = c.in_ok-new.ensures.setting in cc in
    let answer : ◌≡◌ {A = Result ℕ ℕ} (Err (number_of c.in_err-reading.field-0.0)) (trace_answer 0 20 raw) =
    c.in_err-reading.ensures ∙ (ap (λ m. (m 0).answer raw) c.new-clocks.ensures ∙ ap (λ z. trace_answer 0 z raw) twenty) in
    search (rules, ap (at_reading (own_answer zero_stamp)) answer)
