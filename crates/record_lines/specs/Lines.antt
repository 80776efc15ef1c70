-- The lines of a listing: one for each record, and the last ones.
use Rattle.std.specs.Prelude.{ℕ, ◌+◌, if◌then◌else◌, List, [], ◌∷◌, ◌++◌, Some, None, Ok, Err, Option, Result, is_ok}
use Rattle.lines.specs.Lines.{line_text}
use Rattle.lines.specs.declared.line.Piece.{Piece}
use Rattle.lines.specs.declared.line.Piece.TheVariants.{Number, Signed, Stamp, Word}
use Rattle.lines.specs.declared.line.Word.TheVariants as word
use Rattle.refusals.specs.Refusals.{result_map}
use Rattle.replay.specs.Calls.{AnswerNumbers, CutAnswer, EventAnswer, LossAnswer, ReadAnswer, UnderWayAnswer}
use Rattle.stamps.specs.Rules.{StampedNumbers}
use Rattle.stamps.specs.Stamp.{code_of}
use Rattle.store.specs.declared.version.Version.{Version}
use Rattle.trace.specs.Contents.{Content, set_up, note, send, receipt, loss, put_point, put_tag, read_point, read_tag}
use Rattle.trace.specs.Whole.{Ending, complete, refused}

-- what a record is, as its line says it: a word; the node of an event, and the number of a message that was lost
abbrev pub record_pieces : Content → List Piece
record_pieces (set_up nodes key_kind lead backstep) = Word word.SetUp ∷ []
record_pieces (note node raw) = Word word.Note ∷ Number node ∷ []
record_pieces (send node raw to message) = Word word.Send ∷ Number node ∷ []
record_pieces (receipt node raw message) = Word word.Receipt ∷ Number node ∷ []
record_pieces (loss message) = Word word.Loss ∷ Number message ∷ []
record_pieces (put_point node raw key value) = Word word.Put ∷ Number node ∷ []
record_pieces (put_tag node raw key value) = Word word.Put ∷ Number node ∷ []
record_pieces (read_point at key) = Word word.Read ∷ []
record_pieces (read_tag at key) = Word word.Read ∷ []

-- an event's stamp and drift
abbrev pub event_pieces : StampedNumbers → List Piece
event_pieces event = Stamp (code_of event.stamp) ∷ Word word.Drift ∷ Number event.drift ∷ []

-- what was read: the value, the stamp and the node
abbrev pub version_pieces : {K : Type 0} → Option (Version K) → List Piece
version_pieces None = Word word.Nothing ∷ []
version_pieces (Some v) = Signed v.value ∷ Stamp v.stamp ∷ Number v.node ∷ []

-- what the recorder answered, as the line says it: nothing of a loss. (No record asks for a cut or for the messages under way.)
abbrev pub answer_pieces : {K : Type 0} → AnswerNumbers K → Result (List Piece) ℕ
answer_pieces (EventAnswer answer) = result_map event_pieces answer
answer_pieces (LossAnswer answer) = result_map (λ _. []) answer
answer_pieces (ReadAnswer answer) = result_map version_pieces answer
answer_pieces (CutAnswer answer rows) = result_map (λ _. []) answer
answer_pieces (UnderWayAnswer answer rows) = result_map (λ _. []) answer

-- What came of a record: what its line says behind the number, or a refusal's number.
abbrev pub Outcome : Type 0
Outcome = Result (List Piece) ℕ

-- of a record of which more is said, or that was refused
abbrev pub outcome_for : Content → Result (List Piece) ℕ → Outcome
outcome_for m more = result_map (λ pieces. record_pieces m ++ pieces) more

-- of a record that the recorder answered so
abbrev pub answered : {K : Type 0} → Content → AnswerNumbers K → Outcome
answered m answer = outcome_for m (answer_pieces answer)

-- the line of the record with this number
abbrev pub outcome_line : ℕ → Outcome → List ℕ
outcome_line n (Ok pieces) = line_text (Number n ∷ pieces)
outcome_line n (Err refusal) = line_text (Number n ∷ Word word.Refused ∷ Number refusal ∷ [])

-- a line for each, the first under the number n
abbrev pub outcome_lines : ℕ → List Outcome → List ℕ
outcome_lines n [] = []
outcome_lines n (o ∷ os) = outcome_line n o ++ outcome_lines (n + 1) os

-- how many were accepted
abbrev pub accepted_among : List Outcome → ℕ
accepted_among [] = 0
accepted_among (o ∷ os) = (if is_ok o then 1 else 0) + accepted_among os

-- how many were refused
abbrev pub refused_among : List Outcome → ℕ
refused_among [] = 0
refused_among (o ∷ os) = (if is_ok o then 0 else 1) + refused_among os

-- where no more is read: the refusal's number and the offset
abbrev pub bad_line : ℕ → ℕ → List ℕ
bad_line number offset = line_text (Word word.Bad ∷ Number number ∷ Word word.At ∷ Number offset ∷ [])

-- the line of a trace that ends with a refusal; none for one that is complete
abbrev pub ending_lines : Ending → List ℕ
ending_lines complete = []
ending_lines (refused number at) = bad_line number at

-- the last line: how many records were accepted, and how many refused
abbrev pub end_line : ℕ → ℕ → List ℕ
end_line accepted refusals = line_text (Word word.End ∷ Number accepted ∷ Number refusals ∷ [])
