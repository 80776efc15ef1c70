-- The lines of a text, and their words.
use Rattle.std.specs.Prelude.{◌≡◌, ℕ, Bool, true, false, ◌||◌, ◌==◌, if◌then◌else◌, All, List, [], ◌∷◌, ◌++◌, length}
use Rattle.std.specs.Prelude.{filter, Option, Some, None}
use Rattle.std.specs.Prelude.{nat_le, slice_index}
use Rattle.std.specs.List.{slice_split}
use Rattle.std.specs.Option.{option_map}
use Rattle.trace.specs.Contents.{Content}
use Rattle.trace.specs.Ranges.{IsInRange}
use Rattle.trace.specs.Whole.{trace_of}
use Rattle.assembly.specs.declared.line.Line.{Line}
use Rattle.assembly.specs.declared.line.Line.TheVariants.{Nothing, Record, Unknown}
use Rattle.spelling.specs.Written.{written_content}
use Rattle.spelling.specs.Records.{record_of}

-- what ends a line
abbrev pub is_line_feed : ℕ → Bool
is_line_feed byte = byte == 10

-- what parts words: a space, a tab or a carriage return
abbrev pub is_gap : ℕ → Bool
is_gap byte = (byte == 32) || ((byte == 9) || (byte == 13))

-- the words of a line: what stands between gaps and is not empty
abbrev pub words_of : List ℕ → List (List ℕ)
words_of line = filter (λ word. nat_le 1 (length word)) (slice_split is_gap line)

-- a line of no word, or whose first word begins with # (35), says nothing
unfoldable pub is_silent : List (List ℕ) → Bool
is_silent [] = true
is_silent (first ∷ rest) = slice_index first 0 == 35

-- the records that the words of a line spell, none or one; or nothing where they are not understood
unfoldable pub spelled_by : List (List ℕ) → Option (List Content)
spelled_by words =
    (if is_silent words then Some [] else option_map (λ content. content ∷ []) (record_of words))

-- the same of a line
unfoldable pub records_of : List ℕ → Option (List Content)
records_of line = spelled_by (words_of line)

-- what a line says, as the records that it spells
abbrev pub contents_of_line : Line → Option (List Content)
contents_of_line Nothing = Some []
contents_of_line (Record written) = Some (written_content written ∷ [])
contents_of_line Unknown = None

-- a trace gained the bytes of these records (where a line is not understood the trace is given up)
abbrev pub AddsLine : Option (List Content) → List ℕ → List ℕ → Bool → Type 0
AddsLine None was after understood = understood ≡ false
AddsLine (Some records) was after understood =
    (understood ≡ true) × (after ≡ was ++ trace_of records) × All IsInRange records
