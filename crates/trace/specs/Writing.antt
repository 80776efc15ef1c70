-- A record written over a part of a buffer.
use Rattle.std.specs.Prelude.{ℕ, ◌+◌, Bool, if◌then◌else◌, List, ◌++◌, length, take, drop, Some, None, Ok, Err, Option, Result}
use Rattle.std.specs.Prelude.{nat_le}
use Rattle.trace.specs.Contents.{Content, size_of, encoding_of}
use Rattle.trace.specs.Format.{Finding, part}

-- the list xs with ys written over it from `place` on: what stands before and behind is as it was
unfoldable pub overlay : ℕ → List ℕ → List ℕ → List ℕ
overlay place ys xs = take place xs ++ (ys ++ drop (place + length ys) xs)

-- whether n bytes from `place` on lie within the buffer
abbrev pub is_within : ℕ → ℕ → List ℕ → Bool
is_within place n buffer = nat_le (place + n) (length buffer)

-- what the writer answers: the place behind the record
abbrev pub write_answer : Content → ℕ → List ℕ → Result ℕ ℕ
write_answer m place buffer =
    (if is_within place (size_of m) buffer then Ok (place + size_of m) else Err 19)

-- what the buffer holds then
abbrev pub buffer_after_write : Content → ℕ → List ℕ → List ℕ
buffer_after_write m place buffer =
    (if is_within place (size_of m) buffer then overlay place (encoding_of m) buffer else buffer)

-- what a record that is written and read back answers: its place and that record
abbrev pub read_back_answer : Content → ℕ → List ℕ → Result (ℕ × Content) ℕ
read_back_answer m place buffer =
    (if is_within place (size_of m) buffer then Ok (place, m) else Err 19)

-- what a copy of what was found in a trace answers: the place behind it, none at the end
abbrev pub copy_answer : Finding → ℕ → List ℕ → Result (Option ℕ) ℕ
copy_answer (Err n) place buffer = Err n
copy_answer (Ok None) place buffer = Ok None
copy_answer (Ok (Some (at, m))) place buffer =
    (if is_within place (size_of m) buffer then Ok (Some (place + size_of m)) else Err 19)

-- what the buffer holds then: over it the very bytes of the trace bs
abbrev pub buffer_after_copy : List ℕ → Finding → ℕ → List ℕ → List ℕ
buffer_after_copy bs (Err n) place buffer = buffer
buffer_after_copy bs (Ok None) place buffer = buffer
buffer_after_copy bs (Ok (Some (at, m))) place buffer =
    (if is_within place (size_of m) buffer
    then overlay place (part (size_of m) at bs) buffer
    else buffer)
