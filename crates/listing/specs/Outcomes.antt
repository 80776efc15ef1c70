-- The outcomes of records, by the recorder's answers to their calls.
use Rattle.std.specs.Prelude.{◌≡◌, ℕ, ◌+◌, Bool, true, false, IfOk, String, List, [], ◌∷◌, Ok, Err, Result}
use Rattle.lines.specs.Adding.{Adds}
use Rattle.replay.specs.Calls.{AnswerNumbers}
use Rattle.replay.specs.declared.call.Call.{Call}
use Rattle.trace.specs.Contents.{Content}
use Rattle.trace_run.specs.Calls.{KeyForm, answers_left, call_of}
use Rattle.record_lines.specs.Lines.{Outcome, accepted_among, answered, outcome_lines, refused_among}
use Rattle.record_lines.specs.declared.end.Counts.{Counts}

module _ {K : Type 0} where
  -- of a record with this call, or that was refused before: the next answer (there is one), or the refusal
  abbrev pub next_outcome : Content → Result (Call K) ℕ → List (AnswerNumbers K) → Outcome
  next_outcome m (Err refusal) answers = Err refusal
  next_outcome m (Ok c) [] = Ok []
  next_outcome m (Ok c) (a ∷ answers) = answered m a

  -- of these records, one after another
  abbrev pub recorded : KeyForm K → List Content → List (AnswerNumbers K) → List Outcome
  recorded form [] answers = []
  recorded form (m ∷ ms) answers =
      next_outcome m (call_of form m) answers ∷ recorded form ms (answers_left (call_of form m) answers)

-- one record more, accepted or refused
abbrev pub after_one : Bool → Counts → Counts
after_one true counts = record { accepted = counts.accepted + 1; refused = counts.refused }
after_one false counts = record { accepted = counts.accepted; refused = counts.refused + 1 }

-- the counts of a set-up that was accepted, and of what came of the records behind it
abbrev pub AreCounts : List Outcome → Counts → Type 0
AreCounts outcomes counts = (counts.accepted ≡ 1 + accepted_among outcomes) × (counts.refused ≡ refused_among outcomes)

-- a call that answered r added to the text `was` the lines of what came of the records behind a set-up, and counted them all
pub record AddsOutcomes {Z E : Type 0} (was after : String Z) (outcomes : List Outcome) (r : Result Counts E) : Type 0 where
  pub text : Adds was after (outcome_lines 2 outcomes) r
  pub counts : IfOk r (AreCounts outcomes)
