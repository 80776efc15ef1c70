-- The calls of a run, and what each answers and changes.
use Rattle.std.specs.Prelude.{ℕ, Bool, List, length, map, Option, Result}
use Rattle.std.specs.declared.cmp.Ordering.{Ordering}
use Rattle.clocks.specs.Bank.{Meaning}
use Rattle.messages.specs.Messages.{MessageNumbers, message_numbers}
use Rattle.recorder.specs.Answers.{after_page, loss_answer, note_answer, page_answer, put_answer, read_answer, receipt_answer}
use Rattle.recorder.specs.Answers.{send_answer}
use Rattle.recorder.specs.Changes.{after_loss, after_note, after_put, after_receipt, after_send}
use Rattle.recorder.specs.State.{State, is_settled}
use Rattle.refusals.specs.Refusals.{result_map, shown}
use Rattle.stamps.specs.Rules.{StampedNumbers, stamped_numbers}
use Rattle.store.specs.Contents.{Contents}
use Rattle.store.specs.Page.{after_cut, cut_answer}
use Rattle.store.specs.declared.version.Version.{Version}
use Rattle.replay.specs.declared.call.Answer.{Answer}
use Rattle.replay.specs.declared.call.Answer.TheVariants as answer
use Rattle.replay.specs.declared.call.Call.{Call}
use Rattle.replay.specs.declared.call.Call.TheVariants as call
use Rattle.replay.specs.declared.call.Question.{Question}
use Rattle.replay.specs.declared.call.Question.TheVariants as question

-- What a call answers, as numbers: a refusal is its number. The caller's rows of a cut or a list come with it, as they are then.
pub data AnswerNumbers (K : Type 0) : Type 0 where
  EventAnswer : Result StampedNumbers ℕ → AnswerNumbers K
  LossAnswer : Result (Unit {0}) ℕ → AnswerNumbers K
  ReadAnswer : Result (Option (Version K)) ℕ → AnswerNumbers K
  CutAnswer : Result ℕ ℕ → List (Version K) → AnswerNumbers K
  UnderWayAnswer : Result ℕ ℕ → List MessageNumbers → AnswerNumbers K

-- an answer in numbers
abbrev pub answer_numbers : {K : Type 0} → Answer K → AnswerNumbers K
answer_numbers (answer.Event result) = EventAnswer (shown (result_map stamped_numbers result))
answer_numbers (answer.Loss result) = LossAnswer (shown result)
answer_numbers (answer.Read result) = ReadAnswer (shown result)
answer_numbers (answer.Cut count rows) = CutAnswer (shown count) rows.items
answer_numbers (answer.UnderWay count rows) = UnderWayAnswer (shown count) (map message_numbers rows.items)

module _ {K : Type 0} (order : K → K → Ordering) where
  -- the answer to a question, where these stamp codes are settled, of these contents and messages
  abbrev pub question_answer : (ℕ → Bool) → Contents K → List MessageNumbers → Question K → AnswerNumbers K
  question_answer settled contents messages (question.Read key stamp) = ReadAnswer (read_answer order settled contents key stamp)
  question_answer settled contents messages (question.Cut stamp rows) =
      CutAnswer (page_answer order settled contents stamp (length rows.items))
      (after_page order settled contents stamp rows.items)
  question_answer settled contents messages (question.UnderWay rows) =
      UnderWayAnswer (cut_answer messages (length rows.items)) (after_cut messages (map message_numbers rows.items))

  module _ {B : Type 0} (meaning : B → Meaning) (s : State B K) where
    -- the answer to a call
    abbrev pub call_answer : Call K → AnswerNumbers K
    call_answer (call.Note sample) = EventAnswer (note_answer meaning s sample)
    call_answer (call.Send sample to number) = EventAnswer (send_answer meaning s sample to number)
    call_answer (call.Receipt sample number) = EventAnswer (receipt_answer meaning s sample number)
    call_answer (call.Loss number) = LossAnswer (loss_answer s number)
    call_answer (call.Put sample key value) = EventAnswer (put_answer meaning s sample)
    call_answer (call.Ask question) = question_answer (is_settled s) s.contents s.messages question

    -- the recorder after a call; its bank is then this one
    abbrev pub after_call : Call K → B → State B K
    after_call (call.Note sample) bank = after_note s sample (note_answer meaning s sample) bank
    after_call (call.Send sample to number) bank = after_send s sample to number (send_answer meaning s sample to number) bank
    after_call (call.Receipt sample number) bank = after_receipt s sample number (receipt_answer meaning s sample number) bank
    after_call (call.Loss number) bank = after_loss s number (loss_answer s number)
    after_call (call.Put sample key value) bank = after_put s order sample key value (put_answer meaning s sample) bank
    after_call (call.Ask question) bank = s
