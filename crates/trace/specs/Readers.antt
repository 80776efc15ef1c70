-- What a reader shows: its trace, and the place in it where the next record would stand.
use Rattle.std.specs.Prelude.{ℕ, List}
use Rattle.trace.specs.declared.reader.Reader.{Reader}
use Rattle.trace.specs.Format.{Finding, finding_at}

-- the trace that is read
abbrev pub reader_trace : Reader → List ℕ
reader_trace r = r.trace.now

-- where the reader stands
abbrev pub reader_offset : Reader → ℕ
reader_offset r = r.offset

-- what stands where the reader is
abbrev pub next_finding : Reader → Finding
next_finding r = finding_at (reader_trace r) (reader_offset r)
