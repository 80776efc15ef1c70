-- How long a record can be.
use Rattle.std.proofs.Common.{ℕ, ◌≤◌, lit≤}
use Rattle.trace.specs.Contents.{Content, set_up, note, send, receipt, loss, put_point, put_tag, read_point, read_tag, size_of}

-- no record is longer than a put by a tag
pub no_longer : (m : Content) → size_of m ≤ 30
no_longer (set_up nodes key_kind lead backstep) = lit≤ tt
no_longer (note node raw) = lit≤ tt
no_longer (send node raw to message) = lit≤ tt
no_longer (receipt node raw message) = lit≤ tt
no_longer (loss message) = lit≤ tt
no_longer (put_point node raw key value) = lit≤ tt
no_longer (put_tag node raw key value) = lit≤ tt
no_longer (read_point at key) = lit≤ tt
no_longer (read_tag at key) = lit≤ tt
