-- What the bytes of a trace say at a place.
use Rattle.std.specs.Prelude.{◌≡◌, ℕ, ◌+◌, if◌then◌else◌, List, length, take, drop, Some, None, Ok, Err, Option, Result, nat_le}
use Rattle.std.specs.Prelude.{nat_lt, slice_index}
use Rattle.std.specs.Option.{option_map}
use Rattle.trace.specs.declared.kind.Kind.{Kind}
use Rattle.trace.specs.declared.kind.Kind.TheVariants.{SetUp, Note, Send, Receipt, Loss, PutPoint, PutTag, ReadPoint, ReadTag}
use Rattle.trace.specs.declared.records.Entry.{Entry}
use Rattle.trace.specs.declared.records.Key.{Key}
use Rattle.trace.specs.declared.records.Record.{Record}
use Rattle.trace.specs.declared.records.Record.TheVariants as variant
use Rattle.trace.specs.Numbers.{unsigned_at, signed_at}
use Rattle.trace.specs.Kinds.{kind_at, body_len_of}
use Rattle.trace.specs.Contents.{Content, set_up, note, send, receipt, loss, put_point, put_tag, read_point, read_tag, key_bytes}
use Rattle.trace.specs.Contents.{content_of, kind_of, size_of, encoding_of}

-- the w bytes from place i on
abbrev pub part : ℕ → ℕ → List ℕ → List ℕ
part w i bs = take w (drop i bs)

-- the record of a kind that has this body: each field by its width and its place
abbrev pub content_from : Kind → List ℕ → Content
content_from SetUp body =
    set_up (unsigned_at 1 0 body) (unsigned_at 1 1 body) (unsigned_at 4 2 body) (unsigned_at 4 6 body)
content_from Note body = note (unsigned_at 1 0 body) (unsigned_at 8 1 body)
content_from Send body =
    send (unsigned_at 1 0 body) (unsigned_at 8 1 body) (unsigned_at 1 9 body) (unsigned_at 4 10 body)
content_from Receipt body =
    receipt (unsigned_at 1 0 body) (unsigned_at 8 1 body) (unsigned_at 4 9 body)
content_from Loss body = loss (unsigned_at 4 0 body)
content_from PutPoint body =
    put_point (unsigned_at 1 0 body) (unsigned_at 8 1 body) (part 4 9 body) (signed_at 13 body)
content_from PutTag body =
    put_tag (unsigned_at 1 0 body) (unsigned_at 8 1 body) (part 16 9 body) (signed_at 25 body)
content_from ReadPoint body = read_point (unsigned_at 8 0 body) (part 4 8 body)
content_from ReadTag body = read_tag (unsigned_at 8 0 body) (part 16 8 body)

-- a place of a trace: nothing at the end, a record, or what is refused with this number
abbrev pub Finding : Type 0
Finding = Result (Option (ℕ × Content)) ℕ

-- the record of a kind that stands at `at` and is followed by these bytes
abbrev pub finding_for : ℕ → List ℕ → Option Kind → Finding
finding_for at rest None = Err 1
finding_for at rest (Some kind) =
    (if nat_lt (length rest) (body_len_of kind)
    then Err 2
    else Ok (Some (at, content_from kind rest)))

-- what stands at `at` in a trace
abbrev pub finding_at : List ℕ → ℕ → Finding
finding_at bs at =
    (if nat_le (length bs) at
    then Ok None
    else finding_for at (drop (at + 1) bs) (kind_at (slice_index bs at)))

-- where the reader stands after it found this at `at`: behind a record, and else where it was
abbrev pub place_behind : ℕ → Finding → ℕ
place_behind at (Err n) = at
place_behind at (Ok None) = at
place_behind at (Ok (Some (i, m))) = at + size_of m

-- where an entry stands, and what it says
abbrev pub entry_of : Entry → ℕ × Content
entry_of e = (e.offset, content_of e.«record»)

-- a key's place and its bytes
abbrev pub key_parts : Key → ℕ × List ℕ
key_parts key = (key.offset, key_bytes key.bytes)

-- the place and the bytes of a record's key, if it has one
abbrev pub key_of : Record → Option (ℕ × List ℕ)
key_of (variant.SetUp nodes key_kind lead backstep) = None
key_of (variant.Note node raw) = None
key_of (variant.Send node raw to message) = None
key_of (variant.Receipt node raw message) = None
key_of (variant.Loss message) = None
key_of (variant.Put node raw key value) = Some (key_parts key)
key_of (variant.Read at key) = Some (key_parts key)

-- the width of a kind's key and its place in the body
abbrev pub key_span_of : Kind → Option (ℕ × ℕ)
key_span_of SetUp = None
key_span_of Note = None
key_span_of Send = None
key_span_of Receipt = None
key_span_of Loss = None
key_span_of PutPoint = Some (4, 9)
key_span_of PutTag = Some (16, 9)
key_span_of ReadPoint = Some (4, 8)
key_span_of ReadTag = Some (16, 8)

-- the key of a record of this kind at `at` of the trace: its place, and that part of the trace
abbrev pub key_in_trace : Kind → ℕ → List ℕ → Option (ℕ × List ℕ)
key_in_trace kind at bs =
    option_map (λ field. (at + 1 + field.1, part field.0 (at + 1 + field.1) bs)) (key_span_of kind)

-- the same of a body that begins at `start` of the trace
abbrev pub key_in_body : Kind → ℕ → List ℕ → Option (ℕ × List ℕ)
key_in_body kind start body =
    option_map (λ field. (start + field.1, part field.0 field.1 body)) (key_span_of kind)

-- an entry is what stands at its offset in the trace: the record's bytes, and its key's
pub record Stands (bs : List ℕ) (e : Entry) : Type 0 where
  pub bytes : part (size_of (content_of e.«record»)) e.offset bs
      ≡ encoding_of (content_of e.«record»)
  pub key : key_of e.«record» ≡ key_in_trace (kind_of (content_of e.«record»)) e.offset bs
