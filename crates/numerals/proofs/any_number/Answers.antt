use Rattle.std.proofs.Common.{◌∙◌, sym}
use Rattle.numerals.proofs.Digits.{no_number, no_failure, parsed, same_text}
use Rattle.numerals.proofs.any_number.Goals as goal

pub returns-then-not-is_number : goal.returns-then-not-is_number
returns-then-not-is_number c = no_number c.args.word.now (sym c.is_number.ensures ∙ c.if-not-is_number.true)

pub returns-in_err-ok : goal.returns-in_err-ok
returns-in_err-ok c =
    absurd (no_failure c.args.word.now c.from_utf8.result (sym c.is_number.ensures ∙ c.if-not-is_number.false)
    c.from_utf8.ensures.cases (sym c.ok.ensures.value ∙ c.in_err-ok.was))

pub returns : goal.returns
returns c =
    let same = same_text c.args.word.now c.from_utf8.result c.in_ok-ok.field-0
    c.from_utf8.ensures.cases (sym c.ok.ensures.value ∙ c.in_ok-ok.was) in
    c.ok-2.ensures.value ∙ parsed c.args.word.now c.in_ok-ok.field-0.now c.parse.result
    (sym c.is_number.ensures ∙ c.if-not-is_number.false) same c.parse.ensures.value.0
