use Rattle.std.proofs.Common.{◌≡◌, Ok, Some, rules}
use Rattle.trace.specs.Format.{entry_of}
use Rattle.trace.specs.Readers.{next_finding}
use Rattle.trace_run.proofs.Progress.{read_more}
use Rattle.trace_run.proofs.reading.read_records.Goals as goal

pub loop-entry-preserved : goal.loop-entry-preserved
loop-entry-preserved c =
    let entry = c.in-Ok-Some.entry in
    let found = c.in-Ok-Some.ensures in
    let e : next_finding c.loop-entry.reader ≡ Ok (Some (entry_of entry)) = search (rules, found) in
    let more = read_more c.loop-entry.invariant entry.offset entry.«record» c.next_entry.new.self e found.trace found.offset in
    rw c.in_ok-push-in-Ok-Some.ensures.items more
