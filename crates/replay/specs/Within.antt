-- What the functions within `replay` promise each other.
use Rattle.std.specs.Prelude.{◌≡◌, ℕ, List, ◌++◌, map, Result}
use Rattle.std.specs.declared.cmp.Ordering.{Ordering}
use Rattle.clocks.specs.Bank.{Meaning}
use Rattle.clocks.specs.declared.sample.Sample.{Sample}
use Rattle.history.specs.History.{Entry}
use Rattle.recorder.specs.State.{State}
use Rattle.replay.specs.Calls.{AnswerNumbers, answer_numbers}
use Rattle.replay.specs.Replay.{end_answer}
use Rattle.replay.specs.Runs.{IsRun}
use Rattle.replay.specs.declared.call.Answer.{Answer}
use Rattle.replay.specs.declared.call.Call.{Call}
use Rattle.replay.specs.declared.call.Question.{Question}
use Rattle.replay.specs.declared.replay.Run.{Run}

-- A list of answers gained those to these questions, in order.
pub record GainsEach {K : Type 0} (answer : Question K → AnswerNumbers K) (questions : List (Question K))
    (before after : List (Answer K)) : Type 0 where
  pub gained : List (Answer K)
  pub list : after ≡ before ++ gained
  pub each : map answer_numbers gained ≡ map answer questions

module _ {B K : Type 0} (order : K → K → Ordering) (meaning : B → Meaning)
    (beside : Sample → Result ℕ ℕ → B → B → Type 0) where
  -- It gained those to these calls, which led the recorder from `start` to `end`.
  pub record GainsRun (start end : State B K) (calls : List (Call K)) (before after : List (Answer K)) : Type 0 where
    pub gained : List (Answer K)
    pub list : after ≡ before ++ gained
    pub told : List (Entry K)
    pub run : IsRun order meaning beside start calls (map answer_numbers gained) told end

  -- A recorder that stood at `start` was given a run: a list gained the answers to the calls, and then those to the questions.
  pub record WasGiven (start : State B K) (run : Run K) (before after : List (Answer K)) : Type 0 where
    pub end : State B K
    pub mid : List (Answer K)
    pub calls : GainsRun start end run.calls.items before mid
    pub questions : GainsEach (end_answer order meaning run.closes end) run.questions.items mid after
