-- Lines of words and numbers, as bytes.
use Rattle.std.specs.Prelude.{ℕ, zero, suc, ◌+◌, ◌/◌, ◌%◌, List, [], ◌∷◌, ◌++◌, codes, decimal}
use Rattle.std.specs.Fmt.{signed_decimal}
use Rattle.lines.specs.declared.line.Word.{Word}
use Rattle.lines.specs.declared.line.Word.TheVariants as word
use Rattle.lines.specs.declared.line.Piece.{Piece}
use Rattle.lines.specs.declared.line.Piece.TheVariants as piece

-- how a word is written
abbrev pub word_text : Word → List ℕ
word_text word.SetUp = codes "setup"
word_text word.Note = codes "note"
word_text word.Send = codes "send"
word_text word.Receipt = codes "receipt"
word_text word.Loss = codes "loss"
word_text word.Put = codes "put"
word_text word.Read = codes "read"
word_text word.Drift = codes "drift"
word_text word.Nothing = codes "none"
word_text word.Refused = codes "refused"
word_text word.Bad = codes "bad"
word_text word.At = codes "at"
word_text word.End = codes "end"
word_text word.TooLong = codes "too long"

-- the stamp that has this code: time.counter
abbrev pub stamp_text : ℕ → List ℕ
stamp_text code = decimal (code / 65536) ++ (codes "." ++ decimal (code % 65536))

-- a word, a number or a stamp, as it is printed
abbrev pub piece_text : Piece → List ℕ
piece_text (piece.Word w) = word_text w
piece_text (piece.Number n) = decimal n
piece_text (piece.Signed n) = signed_decimal n
piece_text (piece.Stamp code) = stamp_text code

-- what parts a piece from the one before: a space, and nothing before the first
abbrev pub gap : ℕ → List ℕ
gap zero = []
gap (suc i) = 32 ∷ []

-- the pieces from the i-th of a line on
abbrev pub spaced_text : ℕ → List Piece → List ℕ
spaced_text i [] = []
spaced_text i (p ∷ ps) = (gap i ++ piece_text p) ++ spaced_text (i + 1) ps

-- a line: its pieces, parted by spaces, and a line feed
abbrev pub line_text : List Piece → List ℕ
line_text ps = spaced_text 0 ps ++ 10 ∷ []
