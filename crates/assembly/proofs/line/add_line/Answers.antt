use Rattle.std.proofs.Common.{◌∙◌, ap, map, sym}
use Rattle.assembly.specs.Lines.{contents_of_line}
use Rattle.assembly.proofs.Adding.{adds_nothing, adds_one, line_says, not_understood}
use Rattle.assembly.proofs.line.add_line.Goals as goal

pub returns-in-Nothing-clause-line : goal.returns-in-Nothing-clause-line
returns-in-Nothing-clause-line c =
    adds_nothing _ c.args.trace.now.items
    (sym (ap contents_of_line c.in-Nothing.is)
    ∙ line_says c.args.line.now c.deref.result.now c.line_of.result
    (ap (map (λ word. word.now)) c.deref.ensures.value ∙ c.in_ok-words.ensures)
    c.line_of.ensures)

pub returns-in-Record-clause-line : goal.returns-in-Record-clause-line
returns-in-Record-clause-line c =
    adds_one _ _ _ c.args.trace.now.items c.add_record.new.trace.items
    (sym (ap contents_of_line c.in-Record.is)
    ∙ line_says c.args.line.now c.deref.result.now c.line_of.result
    (ap (map (λ word. word.now)) c.deref.ensures.value ∙ c.in_ok-words.ensures)
    c.line_of.ensures)
    c.record.ensures c.in_ok-add_record-in-Record.ensures.bytes c.in_ok-add_record-in-Record.ensures.ranges

pub returns-clause-line : goal.returns-clause-line
returns-clause-line c =
    not_understood _ c.args.trace.now.items
    (sym (ap contents_of_line c.in-Unknown.is)
    ∙ line_says c.args.line.now c.deref.result.now c.line_of.result
    (ap (map (λ word. word.now)) c.deref.ensures.value ∙ c.in_ok-words.ensures)
    c.line_of.ensures)
