-- Whole texts.
use Rattle.std.specs.Prelude.{◌≡◌, ℕ, ◌+◌, List, [], ◌∷◌, ◌++◌, Option, Some, None, Result, Ok, Err, Vec}
use Rattle.std.specs.List.{slice_split}
use Rattle.refusals.specs.Refusals.{result_map}
use Rattle.trace.specs.Contents.{Content}
use Rattle.trace.specs.Whole.{complete, trace_of, whole_of}
use Rattle.assembly.specs.declared.text.NotUnderstood.{NotUnderstood}
use Rattle.assembly.specs.Lines.{is_line_feed, records_of}

-- the records of a line, before those of the lines behind it; or the number of the line
abbrev pub records_with : ℕ → Option (List Content) → Result (List Content) ℕ → Result (List Content) ℕ
records_with number None later = Err number
records_with number (Some records) later = result_map (λ rest. records ++ rest) later

-- the records of lines that are numbered from here on, or the first line that is not understood
abbrev pub records_from : ℕ → List (List ℕ) → Result (List Content) ℕ
records_from number [] = Ok []
records_from number (line ∷ lines) =
    records_with number (records_of line) (records_from (number + 1) lines)

-- the records that a text spells, or the first line that is not understood, from 1
unfoldable pub contents_of : List ℕ → Result (List Content) ℕ
contents_of text = records_from 1 (slice_split is_line_feed text)

-- the trace that a text spells, or that line
unfoldable pub assembly_of : List ℕ → Result (List ℕ) ℕ
assembly_of text = result_map trace_of (contents_of text)

-- an answer, as bytes or the number of a line
abbrev pub shown_answer : {Z : Type 0} → Result (Vec ℕ Z) NotUnderstood → Result (List ℕ) ℕ
shown_answer (Ok trace) = Ok trace.items
shown_answer (Err refused) = Err refused.line

-- the same of an answer that has the number of the lines before it
abbrev pub shown_lines : {Z : Type 0} → Result (Vec ℕ Z) ℕ → Result (List ℕ) ℕ
shown_lines (Ok trace) = Ok trace.items
shown_lines (Err before) = Err (before + 1)

-- a reader finds in the trace just the records that the text spells, and then its end
pub record ReadsBack (text trace : List ℕ) : Type 0 where
  pub records : contents_of text ≡ Ok (whole_of trace).records
  pub ending : (whole_of trace).ending ≡ complete
