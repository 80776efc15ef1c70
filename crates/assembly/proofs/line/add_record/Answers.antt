use Rattle.std.proofs.Common.{replicate}
use Rattle.trace.specs.Contents.{content_of}
use Rattle.assembly.proofs.Adding.{gained}
use Rattle.assembly.proofs.line.add_record.Goals as goal

pub returns-clause-bytes : goal.returns-clause-bytes
returns-clause-bytes c =
    gained (content_of c.args.«record».now) c.write_to.result c.unwrap-end.result (replicate 30 0)
    c.write_to.new.buffer c.args.trace.now.items
    c.extend_from_slice.new.self.items c.extend_from_slice.result c.write_to.ensures.ranges
    c.write_to.ensures.answer c.unwrap-end.ensures
    c.write_to.ensures.buffer c.extend_from_slice.ensures.items
