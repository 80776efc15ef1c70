use Rattle.std.proofs.Common.{◌≡◌, IfSome, subst, sym, take}
use Rattle.sheet.specs.Answers.{sheet_answer}
use Rattle.page_program.proofs.Longest.{shown_of_all}
use Rattle.page_program.proofs.printing.print_page.Goals as goal

pub returns-clause-page : goal.returns-clause-page
returns-clause-page g c =
    let remaining = g.R.Read.remaining c.args.input in
    let read = subst (λ bytes. IfSome remaining (λ trace. bytes ≡ take 65537 trace)) (sym c.deref.ensures.value)
    c.in_ok-trace.ensures in
    rw c.in-Some.is
    (shown_of_all c.in-Some.request _ _ c.write_answer.result c.deref.result.now remaining (sheet_answer c.in_ok-answer.answer)
    read c.in_ok-answer.ensures.sheet c.in_ok-answer.ensures.law c.write_answer.ensures)
