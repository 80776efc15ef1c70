-- The puts among the records of a trace.
use Rattle.std.specs.Prelude.{ℕ, ◌+◌, List, [], ◌∷◌}
use Rattle.trace.specs.Contents.{Content, set_up, note, send, receipt, loss, put_point, put_tag, read_point, read_tag}

-- 1 for a put, 0 for any other record
abbrev pub put_record : Content → ℕ
put_record (set_up nodes key_kind lead backstep) = 0
put_record (note node raw) = 0
put_record (send node raw to message) = 0
put_record (receipt node raw message) = 0
put_record (loss message) = 0
put_record (put_point node raw key value) = 1
put_record (put_tag node raw key value) = 1
put_record (read_point at key) = 0
put_record (read_tag at key) = 0

-- how many of these records are puts
abbrev pub put_records : List Content → ℕ
put_records [] = 0
put_records (m ∷ ms) = put_record m + put_records ms
