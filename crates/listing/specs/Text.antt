-- The text that the program prints.
use Rattle.std.specs.Prelude.{ℕ, if◌then◌else◌, List, [], ◌∷◌, ◌++◌, length, nat_le, Ok, Err, Result}
use Rattle.std.specs.declared.cmp.Ordering.{Ordering}
use Rattle.keys.specs.Tag.{tag_cmp}
use Rattle.lines.specs.Lines.{line_text}
use Rattle.lines.specs.declared.line.Piece.TheVariants.{Word}
use Rattle.lines.specs.declared.line.Word.TheVariants.{TooLong}
use Rattle.recorder.specs.State.{State}
use Rattle.replay.specs.Calls.{call_answer}
use Rattle.replay.specs.declared.call.Call.{Call}
use Rattle.trace.specs.Contents.{Content}
use Rattle.trace.specs.Whole.{Ending, refused, whole_of}
use Rattle.trace_run.specs.Calls.{KeyForm, call_of, points, tags}
use Rattle.record_lines.specs.Lines.{Outcome, accepted_among, answered, end_line, ending_lines, outcome_for, outcome_lines}
use Rattle.record_lines.specs.Lines.{refused_among}
use Rattle.trace_replay.specs.Machine.{behind_call, clocks_of}
use Rattle.trace_replay.specs.Orders.{point_cmp}
use Rattle.trace_replay.specs.Traced.{first_state}
use Rattle.trace_run.specs.SetUp.{SetUpNumbers, set_up_answer}
use Rattle.trace_run.specs.declared.setup.Keys.{Keys}
use Rattle.trace_run.specs.declared.setup.Keys.TheVariants.{Points, Tags}

module _ {K : Type 0} (form : KeyForm K) (order : K → K → Ordering) (backstep : ℕ) where
  -- what comes of a record with this call, or that was refused before the recorder saw it
  abbrev pub outcome : State (ℕ → ℕ) K → Content → Result (Call K) ℕ → Outcome
  outcome s m (Ok c) = answered m (call_answer order (clocks_of backstep) s c)
  outcome s m (Err refusal) = Err refusal

  -- the recorder behind it
  abbrev pub state_behind : State (ℕ → ℕ) K → Result (Call K) ℕ → State (ℕ → ℕ) K
  state_behind s (Ok c) = behind_call order backstep s c
  state_behind s (Err refusal) = s

  -- what comes of these records, one after another
  abbrev pub outcomes : State (ℕ → ℕ) K → List Content → List Outcome
  outcomes s [] = []
  outcomes s (m ∷ ms) = outcome s m (call_of form m) ∷ outcomes (state_behind s (call_of form m)) ms

-- of the records behind a set-up
abbrev pub outcomes_for : Keys → SetUpNumbers → List Content → List Outcome
outcomes_for Points setup ms = outcomes points point_cmp setup.backstep (first_state setup) ms
outcomes_for Tags setup ms = outcomes tags tag_cmp setup.backstep (first_state setup) ms

-- What is listed: the outcomes, in order, and how the listing ends.
pub record Listing : Type 0 where
  pub outcomes : List Outcome
  pub ending : Ending

-- of a first record that is a set-up, or is refused, and then no more is read
abbrev pub set_up_listing : Result SetUpNumbers ℕ → Content → List Content → Ending → Listing
set_up_listing (Ok setup) m ms ending =
    record { outcomes = outcome_for m (Ok []) ∷ outcomes_for setup.keys setup ms; ending = ending }
set_up_listing (Err refusal) m ms ending = record { outcomes = []; ending = refused refusal 0 }

-- the listing of these records, of which the first has to set up
abbrev pub listing_of : List Content → Ending → Listing
listing_of [] ending = record { outcomes = []; ending = ending }
listing_of (m ∷ ms) ending = set_up_listing (set_up_answer m) m ms ending

-- a line for each record, one where no more was read, and the last one with the counts
abbrev pub listing_text : Listing → List ℕ
listing_text l =
    outcome_lines 1 l.outcomes ++ (ending_lines l.ending ++ end_line (accepted_among l.outcomes) (refused_among l.outcomes))

-- the text for these bytes
abbrev pub text_of : List ℕ → List ℕ
text_of bs =
    (if nat_le (length bs) 65536
    then listing_text (listing_of (whole_of bs).records (whole_of bs).ending)
    else line_text (Word TooLong ∷ []))
