-- The event that is found for a version is still found behind later records.
use Rattle.std.proofs.Common.{◌≡◌, ℕ, ◌+◌, Bool, true, false, List, [], ◌∷◌, ◌++◌, Some, None, Ok, Err, Option, Result, refl}
use Rattle.std.specs.List.{cons_option, find}
use Rattle.std.specs.Result.{result_ok}
use Rattle.std.specs.declared.cmp.Ordering.{Ordering}
use Rattle.recorder.specs.State.{State}
use Rattle.replay.specs.declared.call.Call.{Call}
use Rattle.trace.specs.Contents.{Content}
use Rattle.trace_history.specs.Events.{Numbered, next_event, numbered_events}
use Rattle.trace_replay.specs.Machine.{behind_call, trace_answers}
use Rattle.trace_run.specs.Calls.{KeyForm, answers_left, call_of, calls_of}

-- what is found in a list is found in one that has as much before it, if it has it behind that
module _ {X : Type 0} (test : X → Bool) (e : X) where
  found_by : (x : X) (xs ys : List X) (b : Bool) → test x ≡ b → find test (x ∷ xs) ≡ Some e
      → (find test xs ≡ Some e → find test ys ≡ Some e) → find test (x ∷ ys) ≡ Some e
  found_by x xs ys true passes is more = rw passes (rw passes at is)
  found_by x xs ys false passes is more = rw passes (more (rw passes at is))

  found_first : (first : Option X) (xs ys : List X) → find test (cons_option first xs) ≡ Some e
      → (find test xs ≡ Some e → find test ys ≡ Some e) → find test (cons_option first ys) ≡ Some e
  found_first None xs ys is more = more is
  found_first (Some x) xs ys is more = found_by x xs ys (test x) refl is more

module _ {K : Type 0} (form : KeyForm K) (order : K → K → Ordering) (backstep : ℕ) (later : List Content)
    (test : Numbered K → Bool) (e : Numbered K) where
  -- the events of these records, behind a recorder that stands so
  abbrev listed : ℕ → List Content → State (ℕ → ℕ) K → List (Numbered K)
  listed number ms s = numbered_events form number ms (trace_answers order backstep s (calls_of form ms))

  -- What is found among them is found among those of these and later ones.
  abbrev StaysFound : ℕ → List Content → State (ℕ → ℕ) K → Type 0
  StaysFound number ms s = find test (listed number ms s) ≡ Some e → find test (listed number (ms ++ later) s) ≡ Some e

  -- of a first record with this call, before the others
  abbrev from_first : ℕ → Result (Call K) ℕ → List Content → State (ℕ → ℕ) K → List (Numbered K)
  from_first number c ms s =
      let answers = trace_answers order backstep s (cons_option (result_ok c) (calls_of form ms)) in
      cons_option (next_event number c answers) (numbered_events form (number + 1) ms (answers_left c answers))

  stays_by : (number : ℕ) (c : Result (Call K) ℕ) (ms : List Content) (s : State (ℕ → ℕ) K)
      → ((s : State (ℕ → ℕ) K) → StaysFound (number + 1) ms s)
      → find test (from_first number c ms s) ≡ Some e → find test (from_first number c (ms ++ later) s) ≡ Some e
  stays_by number (Err refusal) ms s more is = more s is
  stays_by number (Ok c) ms s more is = found_first test e _ _ _ is (more (behind_call order backstep s c))

  pub stays_found : (number : ℕ) (ms : List Content) (s : State (ℕ → ℕ) K) → StaysFound number ms s
  stays_found number [] s is = absurd (cc is)
  stays_found number (m ∷ ms) s is = stays_by number (call_of form m) ms s (stays_found (number + 1) ms) is
