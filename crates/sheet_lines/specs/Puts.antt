-- How many puts there are.
use Rattle.std.specs.Prelude.{◌-◌, List, length}
use Rattle.history.specs.Events.{Event, puts}
use Rattle.trace.specs.Contents.{Content}
use Rattle.trace_history.specs.Puts.{put_records}
use Rattle.sheet_lines.specs.declared.puts.Puts.{Puts}

-- those that are events were accepted, and the others refused (no more are accepted than there are)
abbrev pub put_counts : {K : Type 0} → List Content → List (Event K) → Puts
put_counts ms events = record { accepted = length (puts events); refused = put_records ms - length (puts events) }
