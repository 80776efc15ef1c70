use Rattle.sheet_lines.proofs.held_back.add_refused.Goals as goal

pub returns : goal.returns
returns c = rw (← c.number-number.ensures.number) c.writeln.ensures.bytes
