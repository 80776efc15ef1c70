-- Runs: any list of calls, one after another, and the history that they come to.
use Rattle.std.specs.Prelude.{◌≡◌, ℕ, List, [], ◌∷◌, ◌++◌, take, Some, None, Ok, Err, Option, Result}
use Rattle.std.specs.declared.cmp.Ordering.{Ordering}
use Rattle.std.specs.Option.{option_to_list}
use Rattle.std.specs.Result.{result_unwrap_or}
use Rattle.clocks.specs.Bank.{Meaning}
use Rattle.clocks.specs.declared.sample.Sample.{Sample}
use Rattle.history.specs.Events.{Note, Put, Receipt, Send, What}
use Rattle.history.specs.History.{Cut, Entered, Entry, Read}
use Rattle.recorder.specs.Answers.{clock_answer, note_answer, put_answer, receipt_answer, send_answer}
use Rattle.stamper.specs.Readings.{TookReading}
use Rattle.recorder.specs.State.{State, is_settled}
use Rattle.stamps.specs.Rules.{StampedNumbers}
use Rattle.replay.specs.Calls.{AnswerNumbers, CutAnswer, ReadAnswer, after_call, call_answer, question_answer}
use Rattle.replay.specs.declared.call.Call.{Call}
use Rattle.replay.specs.declared.call.Call.TheVariants as call
use Rattle.replay.specs.declared.call.Question.{Question}
use Rattle.replay.specs.declared.call.Question.TheVariants as question

-- What the history is told of a question that answered so: a read or a cut that was not refused, and nothing else.
abbrev pub question_entry : {K : Type 0} → Question K → AnswerNumbers K → Option (Entry K)
question_entry (question.Read key stamp) (ReadAnswer (Ok answer)) = Some (Read key stamp answer)
question_entry (question.Cut stamp given) (CutAnswer (Ok count) rows) = Some (Cut stamp count (take count rows))
question_entry q a = None

module _ {B K : Type 0} (order : K → K → Ordering) (meaning : B → Meaning) where
  module _ (s : State B K) where
    -- an event that answered so: its reading is the one that the bank gives at that moment
    abbrev pub event_entry : Sample → What K → Result StampedNumbers ℕ → Option (Entry K)
    event_entry sample what (Ok event) = Some (Entered (record {
      node = sample.node;
      reading = result_unwrap_or (clock_answer meaning s sample) 0;
      stamp = event.stamp;
      what = what;
    }))
    event_entry sample what (Err refusal) = None

    -- what the history is told of a call
    abbrev pub call_entry : Call K → Option (Entry K)
    call_entry (call.Note sample) = event_entry sample Note (note_answer meaning s sample)
    call_entry (call.Send sample to number) = event_entry sample (Send number) (send_answer meaning s sample to number)
    call_entry (call.Receipt sample number) = event_entry sample (Receipt number) (receipt_answer meaning s sample number)
    call_entry (call.Loss number) = None
    call_entry (call.Put sample key value) = event_entry sample (Put key value) (put_answer meaning s sample)
    call_entry (call.Ask q) = question_entry q (question_answer order (is_settled s) s.contents s.messages q)

  module _ (beside : Sample → Result ℕ ℕ → B → B → Type 0) (s : State B K) where
    -- what became of the bank, which is then this one: an event that was accepted took its reading, and else the bank stayed
    abbrev pub TookFor : Call K → B → Type 0
    TookFor (call.Note sample) bank = TookReading meaning beside sample (note_answer meaning s sample) s.bank bank
    TookFor (call.Send sample to number) bank =
        TookReading meaning beside sample (send_answer meaning s sample to number) s.bank bank
    TookFor (call.Receipt sample number) bank =
        TookReading meaning beside sample (receipt_answer meaning s sample number) s.bank bank
    TookFor (call.Loss number) bank = bank ≡ s.bank
    TookFor (call.Put sample key value) bank = TookReading meaning beside sample (put_answer meaning s sample) s.bank bank
    TookFor (call.Ask q) bank = bank ≡ s.bank

    -- One call to a recorder: its answer, and how the recorder stands next.
    pub record IsCalled (c : Call K) (a : AnswerNumbers K) (next : State B K) : Type 0 where
      pub answer : a ≡ call_answer order meaning s c
      pub change : next ≡ after_call order meaning s c next.bank
      pub reading : TookFor c next.bank

  -- Any list of calls to a recorder that stands at `start`, each with its answer; what the history is told of them; and how the
  -- recorder stands then.
  module _ (beside : Sample → Result ℕ ℕ → B → B → Type 0) (start : State B K) where
    pub data IsRun : List (Call K) → List (AnswerNumbers K) → List (Entry K) → State B K → Type 0 where
      NoCall : IsRun [] [] [] start
      OneMore :
          {calls : List (Call K)} {answers : List (AnswerNumbers K)} {told : List (Entry K)} {s next : State B K}
          {c : Call K} {a : AnswerNumbers K}
          → IsRun calls answers told s → IsCalled beside s c a next
          → IsRun (calls ++ c ∷ []) (answers ++ a ∷ []) (told ++ option_to_list (call_entry s c)) next
