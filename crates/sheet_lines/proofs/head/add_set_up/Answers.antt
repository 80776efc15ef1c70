use Rattle.sheet_lines.proofs.head.add_set_up.Goals as goal

pub returns : goal.returns
returns c =
    rw (← c.lead.ensures, ← c.millis-lead.ensures, ← c.millis-backstep.ensures, ← c.nodes-nodes.ensures, ← c.word_of-keys.ensures)
    c.writeln.ensures.bytes
