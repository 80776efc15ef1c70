use Rattle.sheet_lines.proofs.head.add_bound.Goals as goal

pub returns : goal.returns
returns c = rw (← c.bound_of-bound.ensures) c.writeln.ensures.bytes
