-- What comes of the records of a trace, by the answers of `replay`.
use Rattle.std.proofs.Common.{◌≡◌, ℕ, suc, List, [], ◌∷◌, length, Ok, Err, Result, refl, ap}
use Rattle.std.specs.List.{cons_option}
use Rattle.std.specs.Result.{result_ok}
use Rattle.std.specs.declared.cmp.Ordering.{Ordering}
use Rattle.recorder.specs.State.{State}
use Rattle.replay.specs.Calls.{AnswerNumbers}
use Rattle.replay.specs.declared.call.Call.{Call}
use Rattle.trace.specs.Contents.{Content}
use Rattle.trace_run.specs.Calls.{KeyForm, answers_left, call_of, calls_of}
use Rattle.record_lines.specs.Lines.{Outcome}
use Rattle.trace_replay.specs.Machine.{trace_answers}
use Rattle.listing.specs.Outcomes.{next_outcome, recorded}
use Rattle.listing.specs.Text.{outcome, outcomes, state_behind}

module _ {K : Type 0} (form : KeyForm K) (order : K → K → Ordering) (backstep : ℕ) where
  -- the answers one after another give what the recorder gives record by record
  pub recorded_run : (s : State (ℕ → ℕ) K) (ms : List Content)
      → recorded form ms (trace_answers order backstep s (calls_of form ms)) ≡ outcomes form order backstep s ms
  recorded_run s [] = refl
  recorded_run s (m ∷ ms) = go (call_of form m) (λ t. recorded_run t ms)
    where
      answers_for : Result (Call K) ℕ → List (AnswerNumbers K)
      answers_for c = trace_answers order backstep s (cons_option (result_ok c) (calls_of form ms))

      go : (c : Result (Call K) ℕ) → ((t : State (ℕ → ℕ) K)
          → recorded form ms (trace_answers order backstep t (calls_of form ms)) ≡ outcomes form order backstep t ms)
          → next_outcome m c (answers_for c) ∷ recorded form ms (answers_left c (answers_for c))
          ≡ outcome form order backstep s m c ∷ outcomes form order backstep (state_behind form order backstep s c) ms
      go (Ok c) later = ap (λ (os : List Outcome). outcome form order backstep s m (Ok c) ∷ os)
          (later (state_behind form order backstep s (Ok c)))
      go (Err k) later = ap (λ (os : List Outcome). Err k ∷ os) (later s)

  pub as_many : (s : State (ℕ → ℕ) K) (calls : List (Call K)) → length (trace_answers order backstep s calls) ≡ length calls
  as_many s [] = refl
  as_many s (c ∷ calls) = ap suc (as_many (state_behind form order backstep s (Ok c)) calls)
