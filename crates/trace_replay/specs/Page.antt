-- The page of a trace at a stamp, and the history with it.
use Rattle.std.specs.Prelude.{◌≡◌, ℕ, Bool, true, if◌then◌else◌, List, [], ◌∷◌, ◌++◌, length, Ok, Err}
use Rattle.std.specs.Prelude.{Result}
use Rattle.std.specs.declared.cmp.Ordering.{Ordering}
use Rattle.history.specs.History.{Closed, Cut, Entry, IsHistory}
use Rattle.history.specs.Law.{IsLawful}
use Rattle.recorder.specs.State.{is_settled}
use Rattle.replay.specs.Calls.{AnswerNumbers}
use Rattle.replay.specs.declared.call.Call.{Call}
use Rattle.store.specs.Page.{page}
use Rattle.store.specs.declared.version.Version.{Version}
use Rattle.trace_replay.specs.Machine.{trace_answers}
use Rattle.trace_replay.specs.Traced.{first_state, history_setup, last_state, told}
use Rattle.trace_run.specs.SetUp.{SetUpNumbers}

-- These calls behind a set-up, then a close or none, and then a cut at this stamp.
module _ {K : Type 0} (order : K → K → Ordering) (setup : SetUpNumbers) (calls : List (Call K)) (closes : Bool) (stamp : ℕ) where
  -- is the page final? its stamp is settled then
  abbrev pub is_final : Bool
  is_final = (if closes then true else is_settled (last_state order setup calls) stamp)

  -- its rows
  abbrev pub rows_at : List (Version K)
  rows_at = page order (last_state order setup calls).contents.versions stamp

  -- the page, or 18
  abbrev pub page_answer : Result (List (Version K)) ℕ
  page_answer = (if is_final then Ok rows_at else Err 18)

  -- the history: what was told of the calls, the close, if there is one, and the cut, if it was answered
  abbrev pub page_history : List (Entry K)
  page_history =
      told order setup calls
      ++ ((if closes then Closed ∷ [] else []) ++ (if is_final then Cut stamp (length rows_at) rows_at ∷ [] else []))

  -- The calls were answered so, and this is the page; the history keeps the law of whole runs.
  pub record IsPaged (answers : List (AnswerNumbers K)) (answered : Result (List (Version K)) ℕ) : Type 0 where
    pub answers_are : answers ≡ trace_answers order setup.backstep (first_state setup) calls
    pub page_is : answered ≡ page_answer
    pub written : IsHistory order (history_setup setup) page_history
    pub lawful : IsLawful order (history_setup setup) page_history
