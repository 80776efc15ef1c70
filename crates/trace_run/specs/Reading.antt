-- How a trace that was read ends.
use Rattle.std.specs.Prelude.{Some, None, Option}
use Rattle.refusals.specs.Refusals.{number_of}
use Rattle.trace.specs.Whole.{Ending, complete, refused}
use Rattle.trace_run.specs.declared.reading.Bad.{Bad}

-- how the trace ends, by what ended its records
abbrev pub ending_of : Option Bad → Ending
ending_of None = complete
ending_of (Some bad) = refused (number_of bad.refusal) bad.offset
