-- What a recorder with trace clocks answers to any list of calls, and what its history is told.
use Rattle.std.specs.Prelude.{ℕ, List, [], ◌∷◌, ◌++◌, Ok, Err, Result}
use Rattle.std.specs.Option.{option_to_list}
use Rattle.std.specs.declared.cmp.Ordering.{Ordering}
use Rattle.clocks.specs.Bank.{Meaning}
use Rattle.clocks.specs.Highs.{raised_high}
use Rattle.clocks.specs.TraceClocks.{trace_meaning}
use Rattle.clocks.specs.declared.sample.Sample.{Sample}
use Rattle.history.specs.History.{Entry}
use Rattle.recorder.specs.Answers.{note_answer, put_answer, receipt_answer, send_answer}
use Rattle.recorder.specs.State.{State}
use Rattle.replay.specs.Calls.{AnswerNumbers, after_call, call_answer}
use Rattle.replay.specs.Runs.{call_entry}
use Rattle.replay.specs.declared.call.Call.{Call}
use Rattle.replay.specs.declared.call.Call.TheVariants as call
use Rattle.stamps.specs.Rules.{StampedNumbers}

-- trace clocks of this backstep, told by the highest reading of each node
abbrev pub clocks_of : ℕ → (ℕ → ℕ) → Meaning
clocks_of backstep highs = trace_meaning highs backstep

module _ {K : Type 0} (order : K → K → Ordering) (backstep : ℕ) where
  abbrev clocks : (ℕ → ℕ) → Meaning
  clocks = clocks_of backstep

  module _ (s : State (ℕ → ℕ) K) where
    -- an event that answered so raises its node's, if it was accepted: its raw number is its reading
    abbrev raised_for : Sample → Result StampedNumbers ℕ → ℕ → ℕ
    raised_for sample (Ok event) = raised_high sample.node sample.raw.0 s.bank
    raised_for sample (Err refusal) = s.bank

    -- the highest readings after a call
    abbrev pub highs_after : Call K → ℕ → ℕ
    highs_after (call.Note sample) = raised_for sample (note_answer clocks s sample)
    highs_after (call.Send sample to number) = raised_for sample (send_answer clocks s sample to number)
    highs_after (call.Receipt sample number) = raised_for sample (receipt_answer clocks s sample number)
    highs_after (call.Loss number) = s.bank
    highs_after (call.Put sample key value) = raised_for sample (put_answer clocks s sample)
    highs_after (call.Ask question) = s.bank

  -- the recorder behind a call
  abbrev pub behind_call : State (ℕ → ℕ) K → Call K → State (ℕ → ℕ) K
  behind_call s c = after_call order clocks s c (highs_after s c)

  -- the answers, one after another
  abbrev pub trace_answers : State (ℕ → ℕ) K → List (Call K) → List (AnswerNumbers K)
  trace_answers s [] = []
  trace_answers s (c ∷ calls) = call_answer order clocks s c ∷ trace_answers (behind_call s c) calls

  -- the recorder behind all calls
  abbrev pub trace_end : State (ℕ → ℕ) K → List (Call K) → State (ℕ → ℕ) K
  trace_end s [] = s
  trace_end s (c ∷ calls) = trace_end (behind_call s c) calls

  -- what the history is told of them
  abbrev pub trace_told : State (ℕ → ℕ) K → List (Call K) → List (Entry K)
  trace_told s [] = []
  trace_told s (c ∷ calls) = option_to_list (call_entry order clocks s c) ++ trace_told (behind_call s c) calls
