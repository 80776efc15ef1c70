-- The kinds of records: their bytes, and the lengths of their bodies.
use Rattle.std.specs.Prelude.{ℕ, List, [], ◌∷◌, Option}
use Rattle.std.specs.List.{slice_get}
use Rattle.trace.specs.declared.kind.Kind.{Kind}
use Rattle.trace.specs.declared.kind.Kind.TheVariants.{SetUp, Note, Send, Receipt, Loss, PutPoint, PutTag, ReadPoint, ReadTag}

-- every kind, in the order of their bytes from 0 on
abbrev pub kinds : List Kind
kinds = SetUp ∷ Note ∷ Send ∷ Receipt ∷ Loss ∷ PutPoint ∷ PutTag ∷ ReadPoint ∷ ReadTag ∷ []

-- the kind that a byte stands for, none above 8
abbrev pub kind_at : ℕ → Option Kind
kind_at byte = slice_get kinds byte

-- the byte that stands for a kind
abbrev pub byte_of : Kind → ℕ
byte_of SetUp = 0
byte_of Note = 1
byte_of Send = 2
byte_of Receipt = 3
byte_of Loss = 4
byte_of PutPoint = 5
byte_of PutTag = 6
byte_of ReadPoint = 7
byte_of ReadTag = 8

-- how many bytes follow the byte of kind
abbrev pub body_len_of : Kind → ℕ
body_len_of SetUp = 10
body_len_of Note = 9
body_len_of Send = 14
body_len_of Receipt = 13
body_len_of Loss = 4
body_len_of PutPoint = 17
body_len_of PutTag = 29
body_len_of ReadPoint = 12
body_len_of ReadTag = 24
