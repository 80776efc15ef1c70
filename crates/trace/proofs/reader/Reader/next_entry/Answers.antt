use Rattle.std.proofs.Common.{Ok, Option, sym, ap, ◌∙◌, arith}
use Rattle.std.specs.Option.{option_map}
use Rattle.trace.specs.declared.records.Entry.{Entry}
use Rattle.trace.specs.Contents.{content_of}
use Rattle.trace.specs.Format.{entry_of}
use Rattle.trace.proofs.Parsing.{parse_within}
use Rattle.trace.proofs.reader.Reader.next_entry.Goals as goal

pub invariant_of-self : goal.invariant_of-self
invariant_of-self c =
    let bs = c.args.self.now.trace.now in
    let at = c.args.self.now.offset in
    let entry = c.in-Some.entry in
    let e = sym c.in_ok-found.ensures.answer ∙ ap (λ (x : Option Entry). Ok (option_map entry_of x)) c.in-Some.is in
    let w = parse_within bs at entry.offset (content_of entry.«record») e in
    omega (arith, w)
