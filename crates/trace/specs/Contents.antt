-- What a record says, field by field, and the bytes that say it.
use Rattle.std.specs.Prelude.{ℕ, ◌+◌, List, ◌∷◌, ◌++◌, ℤ}
use Rattle.trace.specs.declared.kind.Kind.{Kind}
use Rattle.trace.specs.declared.kind.Kind.TheVariants.{SetUp, Note, Send, Receipt, Loss, PutPoint, PutTag, ReadPoint, ReadTag}
use Rattle.trace.specs.declared.records.KeyBytes.{KeyBytes}
use Rattle.trace.specs.declared.records.KeyBytes.TheVariants.{Point, Tag}
use Rattle.trace.specs.declared.records.Record.{Record}
use Rattle.trace.specs.declared.records.Record.TheVariants as variant
use Rattle.trace.specs.Numbers.{bytes_of, signed_bytes_of}
use Rattle.trace.specs.Kinds.{byte_of, body_len_of}

-- the fields of a record in the order of its body; a key is its bytes
pub data Content : Type 0 where
  set_up : (nodes key_kind lead backstep : ℕ) → Content
  note : (node raw : ℕ) → Content
  send : (node raw to message : ℕ) → Content
  receipt : (node raw message : ℕ) → Content
  loss : (message : ℕ) → Content
  put_point : (node raw : ℕ) (key : List ℕ) (value : ℤ) → Content
  put_tag : (node raw : ℕ) (key : List ℕ) (value : ℤ) → Content
  read_point : (at : ℕ) (key : List ℕ) → Content
  read_tag : (at : ℕ) (key : List ℕ) → Content

-- a key's bytes
abbrev pub key_bytes : KeyBytes → List ℕ
key_bytes (Point bytes) = bytes.now
key_bytes (Tag bytes) = bytes.now

-- how many bytes a key has
abbrev pub key_len : KeyBytes → ℕ
key_len (Point bytes) = 4
key_len (Tag bytes) = 16

-- a put, and a read, by a key of either kind
abbrev pub put_of : (node raw : ℕ) (key : KeyBytes) (value : ℤ) → Content
put_of node raw (Point bytes) value = put_point node raw bytes.now value
put_of node raw (Tag bytes) value = put_tag node raw bytes.now value

-- a read of a key, which its bytes tell
abbrev pub read_of : (at : ℕ) (key : KeyBytes) → Content
read_of at (Point bytes) = read_point at bytes.now
read_of at (Tag bytes) = read_tag at bytes.now

-- what a record says
abbrev pub content_of : Record → Content
content_of (variant.SetUp nodes key_kind lead backstep) = set_up nodes key_kind lead backstep
content_of (variant.Note node raw) = note node raw
content_of (variant.Send node raw to message) = send node raw to message
content_of (variant.Receipt node raw message) = receipt node raw message
content_of (variant.Loss message) = loss message
content_of (variant.Put node raw key value) = put_of node raw key.bytes value
content_of (variant.Read at key) = read_of at key.bytes

-- the kind that a content is written as
abbrev pub kind_of : Content → Kind
kind_of (set_up nodes key_kind lead backstep) = SetUp
kind_of (note node raw) = Note
kind_of (send node raw to message) = Send
kind_of (receipt node raw message) = Receipt
kind_of (loss message) = Loss
kind_of (put_point node raw key value) = PutPoint
kind_of (put_tag node raw key value) = PutTag
kind_of (read_point at key) = ReadPoint
kind_of (read_tag at key) = ReadTag

-- how many bytes a record takes
abbrev pub size_of : Content → ℕ
size_of m = 1 + body_len_of (kind_of m)

-- the bytes behind the byte of kind
abbrev pub body_of : Content → List ℕ
body_of (set_up nodes key_kind lead backstep) =
    nodes ∷ key_kind ∷ (bytes_of 4 lead ++ bytes_of 4 backstep)
body_of (note node raw) = node ∷ bytes_of 8 raw
body_of (send node raw to message) = node ∷ (bytes_of 8 raw ++ (to ∷ bytes_of 4 message))
body_of (receipt node raw message) = node ∷ (bytes_of 8 raw ++ bytes_of 4 message)
body_of (loss message) = bytes_of 4 message
body_of (put_point node raw key value) = node ∷ (bytes_of 8 raw ++ (key ++ signed_bytes_of value))
body_of (put_tag node raw key value) = node ∷ (bytes_of 8 raw ++ (key ++ signed_bytes_of value))
body_of (read_point at key) = bytes_of 8 at ++ key
body_of (read_tag at key) = bytes_of 8 at ++ key

-- the bytes of a record
abbrev pub encoding_of : Content → List ℕ
encoding_of m = byte_of (kind_of m) ∷ body_of m
