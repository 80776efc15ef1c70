use Rattle.std.proofs.Common.{arith}
use borrow.Author.Tests.{tests}
use Rattle.assembly.proofs.Assembling.{ends, fails, reads_back, start, step}
use Rattle.assembly.proofs.text.add_lines.Goals as goal

pub loop-rest-init : goal.loop-rest-init
loop-rest-init c = start c.args.text.now c.new-trace.result.items c.new-trace.ensures.items

pub returns-then-not-branch-clause-answer : goal.returns-then-not-branch-clause-answer
returns-then-not-branch-clause-answer c =
    fails c.args.text.now c.loop-rest.rest.now c.split_line.result.0.now c.loop-rest.lines_before c.loop-rest.trace.items
    c.add_line.new.trace.items c.loop-rest.invariant c.split_line.ensures.line c.in_ok-add_line.field-0 c.if-not-branch.true
    c.in_ok-add_line.ensures.line

pub loop-rest-preserved : goal.loop-rest-preserved
loop-rest-preserved c =
    step c.args.text.now c.loop-rest.rest.now c.split_line.result.0.now c.split_line.result.1.now c.loop-rest.lines_before
    c.loop-rest.trace.items c.add_line.new.trace.items c.loop-rest.invariant c.split_line.ensures.line
    c.split_line.ensures.behind (grind (arith, tests)) c.in_ok-add_line.field-0 c.if-not-branch.false
    c.in_ok-add_line.ensures.line c.add_line.ensures.octets

pub returns-clause-answer : goal.returns-clause-answer
returns-clause-answer c =
    ends c.args.text.now c.loop-rest.rest.now c.loop-rest.lines_before c.loop-rest.trace.items c.loop-rest.invariant
    (grind (arith, tests))

pub returns-clause-read_back : goal.returns-clause-read_back
returns-clause-read_back c =
    reads_back c.args.text.now c.loop-rest.rest.now c.loop-rest.lines_before c.loop-rest.trace.items c.loop-rest.invariant
    (grind (arith, tests))
