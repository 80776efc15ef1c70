use Rattle.std.proofs.Common.{◌∙◌, arith}
use Rattle.trace.specs.Contents.{content_of}
use Rattle.trace.proofs.Trips.{read_back}
use Rattle.trace.proofs.round.write_and_read.Goals as goal

pub unreachable-requires : goal.unreachable-requires
unreachable-requires c =
    let w = c.in_default.ensures in
    let t = read_back (content_of c.args.«record».now) c.args.place c.in_default.field-0 c.args.buffer.now c.write_to.new.buffer
    w.answer w.buffer w.ranges in
    let found = c.entry_at.ensures.answer ∙ t.0 in
    grind (arith, found)

pub returns-clause-answer : goal.returns-clause-answer
returns-clause-answer c =
    let w = c.in_default.ensures in
    let t = read_back (content_of c.args.«record».now) c.args.place c.in_default.field-0 c.args.buffer.now c.write_to.new.buffer
    w.answer w.buffer w.ranges in
    let found = c.entry_at.ensures.answer ∙ t.0 in
    grind (arith, found, t.1)
