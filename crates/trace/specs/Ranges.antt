-- The ranges that the types of a record's fields give.
use Rattle.std.specs.Prelude.{◌≡◌, ◌^◌, ◌<◌, length, FitsSigned}
use Rattle.std.specs.Int.{w32}
use Rattle.trace.specs.Contents.{Content, set_up, note, send, receipt, loss, put_point, put_tag, read_point, read_tag}

-- every field has the width that the format gives it
abbrev pub IsInRange : Content → Type 0
IsInRange (set_up nodes key_kind lead backstep) =
    (nodes < 2 ^ 8) × (key_kind < 2 ^ 8) × (lead < 2 ^ 32) × (backstep < 2 ^ 32)
IsInRange (note node raw) = (node < 2 ^ 8) × (raw < 2 ^ 64)
IsInRange (send node raw to message) =
    (node < 2 ^ 8) × (raw < 2 ^ 64) × (to < 2 ^ 8) × (message < 2 ^ 32)
IsInRange (receipt node raw message) = (node < 2 ^ 8) × (raw < 2 ^ 64) × (message < 2 ^ 32)
IsInRange (loss message) = message < 2 ^ 32
IsInRange (put_point node raw key value) =
    (node < 2 ^ 8) × (raw < 2 ^ 64) × (length key ≡ 4) × FitsSigned w32 value
IsInRange (put_tag node raw key value) =
    (node < 2 ^ 8) × (raw < 2 ^ 64) × (length key ≡ 16) × FitsSigned w32 value
IsInRange (read_point at key) = (at < 2 ^ 64) × (length key ≡ 4)
IsInRange (read_tag at key) = (at < 2 ^ 64) × (length key ≡ 16)
