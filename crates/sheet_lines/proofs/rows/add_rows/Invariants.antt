use Rattle.std.proofs.Common.{◌≡◌, ◌++◌, map, string_bytes, take}
use Rattle.trace_history.specs.Shown.{event_numbers}
use Rattle.sheet_lines.specs.Lines.{row_lines}
use Rattle.sheet_lines.proofs.rows.add_rows.Given as goal

abbrev pub invariant-loop-row : goal.invariant-loop-row
invariant-loop-row g l =
    string_bytes l.text
    ≡ string_bytes l.initial.text ++ row_lines g.K.NamedKey.name (map event_numbers l.events) (take l.row-index l.rows)
