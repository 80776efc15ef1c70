-- Where a version comes from.
use Rattle.std.specs.Prelude.{Bool, ◌&&◌, ◌==◌}
use Rattle.stamps.specs.Stamp.{code_of}
use Rattle.store.specs.declared.version.Version.{Version}
use Rattle.trace_history.specs.Events.{Numbered}

-- is it the event of a version's node and stamp?
abbrev pub is_source : {K : Type 0} → Version K → Numbered K → Bool
is_source v e = (e.event.node == v.node) && (code_of e.event.stamp == v.stamp)
