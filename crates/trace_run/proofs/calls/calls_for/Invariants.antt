use Rattle.std.proofs.Common.{◌≡◌, ◌++◌, drop, map}
use Rattle.trace.specs.Contents.{content_of}
use Rattle.trace_run.specs.Calls.{calls_of}
use Rattle.trace_run.proofs.calls.calls_for.Given as goal

abbrev pub invariant-loop-entry : goal.invariant-loop-entry
invariant-loop-entry g l =
    l.calls.items ++ calls_of g.K.TraceKey.form (map content_of (drop l.entry-index l.records))
    ≡ calls_of g.K.TraceKey.form (map content_of l.records)
