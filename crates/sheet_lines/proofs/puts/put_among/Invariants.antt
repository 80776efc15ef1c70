use Rattle.std.proofs.Common.{◌≡◌, ◌+◌, ◌≤◌, drop, map}
use Rattle.trace.specs.Contents.{content_of}
use Rattle.trace_history.specs.Puts.{put_records}
use Rattle.sheet_lines.proofs.puts.put_among.Given as goal

abbrev pub invariant-loop-record : goal.invariant-loop-record
invariant-loop-record l = record {
  counted : l.count + put_records (map content_of (drop l.record-index l.records)) ≡ put_records (map content_of l.records);
  few : l.count ≤ l.record-index;
}
