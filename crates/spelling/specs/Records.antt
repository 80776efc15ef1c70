-- Records as a person writes them.
use Rattle.std.specs.Prelude.{ℕ, if◌then◌else◌, List, [], ◌∷◌, Option, Some, None, option_and_then, codes, ℤ}
use Rattle.std.specs.Option.{option_map, option_or}
use Rattle.std.specs.Str.{bytes_eq}
use Rattle.trace.specs.Contents.{Content, set_up, note, send, receipt, loss, put_point, put_tag, read_point, read_tag}
use Rattle.numerals.specs.Numerals.{number_of, signed_of, stamp_code_of}
use Rattle.spelling.specs.declared.key.WrittenKey.{WrittenKey}
use Rattle.spelling.specs.declared.key.WrittenKey.TheVariants.{Point, Tag}
use Rattle.spelling.specs.declared.verb.Verb.{Verb}
use Rattle.spelling.specs.declared.verb.Verb.TheVariants.{SetUp, Note, Send, Receipt, Loss, Put, Read}
use Rattle.spelling.specs.Keys.{key_of}
use Rattle.spelling.specs.Verbs.{verb_of}

-- what is made of two fields, if both are there
abbrev pub of_two : {A B R : Type 0} → (A → B → R) → Option A → Option B → Option R
of_two made None b = None
of_two made (Some a) b = option_map (made a) b

-- of three, if all are there
abbrev pub of_three : {A B C R : Type 0} → (A → B → C → R) → Option A → Option B → Option C → Option R
of_three made None b c = None
of_three made (Some a) b c = of_two (made a) b c

-- of four, if all are there
abbrev pub of_four : {A B C D R : Type 0} → (A → B → C → D → R) → Option A → Option B → Option C → Option D → Option R
of_four made None b c d = None
of_four made (Some a) b c d = of_three (made a) b c d

-- a number of one byte
abbrev pub u8_of : List ℕ → Option ℕ
u8_of word = number_of 255 word

-- a number of four bytes
abbrev pub u32_of : List ℕ → Option ℕ
u32_of word = number_of 4294967295 word

-- a number of eight bytes
abbrev pub u64_of : List ℕ → Option ℕ
u64_of word = number_of 18446744073709551615 word

-- the byte of a kind of keys
unfoldable pub key_kind_of : List ℕ → Option ℕ
key_kind_of word =
    (if bytes_eq word (codes "point") then Some 0
    else (if bytes_eq word (codes "tag") then Some 1 else None))

-- a stamp's code: a number, or TIME.COUNTER
unfoldable pub stamp_of : List ℕ → Option ℕ
stamp_of word = option_or (u64_of word) (stamp_code_of word)

-- a put by a key of either kind
abbrev pub put_by : ℕ → ℕ → WrittenKey → ℤ → Content
put_by node raw (Point bytes) value = put_point node raw bytes value
put_by node raw (Tag bytes) value = put_tag node raw bytes value

-- a read by a key of either kind
abbrev pub read_by : ℕ → WrittenKey → Content
read_by at (Point bytes) = read_point at bytes
read_by at (Tag bytes) = read_tag at bytes

-- the words behind `setup`
abbrev pub set_up_of : (nodes keys lead backstep : List ℕ) → Option Content
set_up_of nodes keys lead backstep =
    of_four (λ n k l b. set_up n k l b) (u8_of nodes) (key_kind_of keys) (u32_of lead) (u32_of backstep)

-- the words behind `note`
abbrev pub note_of : (node raw : List ℕ) → Option Content
note_of node raw = of_two (λ n r. note n r) (u8_of node) (u64_of raw)

-- the words behind `send`
abbrev pub send_of : (node raw to message : List ℕ) → Option Content
send_of node raw to message =
    of_four (λ n r t m. send n r t m) (u8_of node) (u64_of raw) (u8_of to) (u32_of message)

-- the words behind `receipt`
abbrev pub receipt_of : (node raw message : List ℕ) → Option Content
receipt_of node raw message =
    of_three (λ n r m. receipt n r m) (u8_of node) (u64_of raw) (u32_of message)

-- the words behind `loss`
abbrev pub loss_of : (message : List ℕ) → Option Content
loss_of message = option_map (λ m. loss m) (u32_of message)

-- the words behind `put`
abbrev pub put_of : (node raw key value : List ℕ) → Option Content
put_of node raw key value =
    of_four put_by (u8_of node) (u64_of raw) (key_of key) (signed_of value)

-- the words behind `read`
abbrev pub read_of : (at key : List ℕ) → Option Content
read_of at key = of_two read_by (stamp_of at) (key_of key)

-- the record of a first word and the words behind it
unfoldable pub record_for : Verb → List (List ℕ) → Option Content
record_for SetUp (nodes ∷ keys ∷ lead ∷ backstep ∷ []) = set_up_of nodes keys lead backstep
record_for Note (node ∷ raw ∷ []) = note_of node raw
record_for Send (node ∷ raw ∷ to ∷ message ∷ []) = send_of node raw to message
record_for Receipt (node ∷ raw ∷ message ∷ []) = receipt_of node raw message
record_for Loss (message ∷ []) = loss_of message
record_for Put (node ∷ raw ∷ key ∷ value ∷ []) = put_of node raw key value
record_for Read (at ∷ key ∷ []) = read_of at key
record_for verb words = None

-- the record that the words of a line spell
unfoldable pub record_of : List (List ℕ) → Option Content
record_of [] = None
record_of (first ∷ rest) = option_and_then (λ verb. record_for verb rest) (verb_of first)
