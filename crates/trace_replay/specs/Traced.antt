-- A trace's run: its answers, and the history that it comes to.
use Rattle.std.specs.Prelude.{◌≡◌, ℕ, Bool, List, [], ◌++◌, map}
use Rattle.std.specs.declared.cmp.Ordering.{Ordering}
use Rattle.clocks.specs.Highs.{fresh_highs}
use Rattle.history.specs.History.{Entry, IsHistory, Setup}
use Rattle.history.specs.Law.{IsLawful}
use Rattle.recorder.specs.State.{State, fresh_state}
use Rattle.replay.specs.Calls.{AnswerNumbers}
use Rattle.replay.specs.Replay.{end_answer, end_entries}
use Rattle.replay.specs.declared.call.Call.{Call}
use Rattle.replay.specs.declared.call.Question.{Question}
use Rattle.store.specs.Contents.{Contents}
use Rattle.trace_replay.specs.Machine.{clocks_of, trace_answers, trace_end, trace_told}
use Rattle.trace_run.specs.SetUp.{SetUpNumbers}

-- for so many versions there are places
abbrev pub places : ℕ
places = 1024

-- a store that is empty, and has so many
abbrev pub HasPlaces : {K : Type 0} → Contents K → Type 0
HasPlaces store = store ≡ record { versions = []; capacity = places }

-- the recorder before the first call
abbrev pub first_state : {K : Type 0} → SetUpNumbers → State (ℕ → ℕ) K
first_state setup = fresh_state setup.settings fresh_highs (record { versions = []; capacity = places })

-- what the history takes from the set-up
abbrev pub history_setup : SetUpNumbers → Setup
history_setup setup = record {
  nodes = setup.settings.nodes;
  lead = setup.settings.lead;
  backstep = λ node. setup.backstep;
}

-- These calls behind a set-up, then a close or none, and then these questions.
module _ {K : Type 0} (order : K → K → Ordering) (setup : SetUpNumbers) (calls : List (Call K)) where
  -- how the recorder stands behind the calls
  abbrev pub last_state : State (ℕ → ℕ) K
  last_state = trace_end order setup.backstep (first_state setup) calls

  -- what the history is told of them
  abbrev pub told : List (Entry K)
  told = trace_told order setup.backstep (first_state setup) calls

  module _ (closes : Bool) (questions : List (Question K)) where
    -- the answers to the calls, and then to the questions
    abbrev pub run_answers : List (AnswerNumbers K)
    run_answers =
        trace_answers order setup.backstep (first_state setup) calls
        ++ map (end_answer order (clocks_of setup.backstep) closes last_state) questions

    -- the history
    abbrev pub run_history : List (Entry K)
    run_history = told ++ end_entries order (clocks_of setup.backstep) closes last_state questions

    -- It was answered so, and its history keeps the law of whole runs.
    pub record IsTraced (answers : List (AnswerNumbers K)) : Type 0 where
      pub answers_are : answers ≡ run_answers
      pub written : IsHistory order (history_setup setup) run_history
      pub lawful : IsLawful order (history_setup setup) run_history
