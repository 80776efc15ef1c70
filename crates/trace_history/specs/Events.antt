-- The events of a trace, by the answers to its calls.
use Rattle.std.specs.Prelude.{ℕ, ◌+◌, ◌-◌, List, [], ◌∷◌, Some, None, Ok, Err, Option, Result}
use Rattle.std.specs.List.{cons_option}
use Rattle.history.specs.Events.{Event, Note, Put, Receipt, Send, What}
use Rattle.replay.specs.Calls.{AnswerNumbers, EventAnswer}
use Rattle.replay.specs.declared.call.Call.{Call}
use Rattle.replay.specs.declared.call.Call.TheVariants as call
use Rattle.trace.specs.Contents.{Content}
use Rattle.trace_run.specs.Calls.{KeyForm, answers_left, call_of}

-- An event of a trace, as the history has it, and the number of its record, from 1.
pub record Numbered (K : Type 0) : Type 0 where
  pub number : ℕ
  pub event : Event K

-- A node, and what it would do.
pub record Deed (K : Type 0) : Type 0 where
  pub node : ℕ
  pub what : What K

module _ {K : Type 0} where
  -- what a call would be an event of: a loss and a question are none
  abbrev pub deed_by : Call K → Option (Deed K)
  deed_by (call.Note sample) = Some (record { node = sample.node; what = Note })
  deed_by (call.Send sample to number) = Some (record { node = sample.node; what = Send number })
  deed_by (call.Receipt sample number) = Some (record { node = sample.node; what = Receipt number })
  deed_by (call.Loss number) = None
  deed_by (call.Put sample key value) = Some (record { node = sample.node; what = Put key value })
  deed_by (call.Ask question) = None

  -- the event, if the call was answered so: the clock's reading is the stamp's time less the drift
  abbrev pub event_by : ℕ → Option (Deed K) → AnswerNumbers K → Option (Numbered K)
  event_by number (Some deed) (EventAnswer (Ok event)) = Some (record {
    number = number;
    event = record {
      node = deed.node;
      reading = event.stamp.time - event.drift;
      stamp = event.stamp;
      what = deed.what;
    };
  })
  event_by number deed answer = None

  -- of a record with this call, or that was refused before: it has the next answer
  abbrev pub next_event : ℕ → Result (Call K) ℕ → List (AnswerNumbers K) → Option (Numbered K)
  next_event number (Err refusal) answers = None
  next_event number (Ok c) [] = None
  next_event number (Ok c) (a ∷ answers) = event_by number (deed_by c) a

  -- of these records, the first of which has this number
  abbrev pub numbered_events : KeyForm K → ℕ → List Content → List (AnswerNumbers K) → List (Numbered K)
  numbered_events form number [] answers = []
  numbered_events form number (m ∷ ms) answers =
      let c = call_of form m in
      cons_option (next_event number c answers) (numbered_events form (number + 1) ms (answers_left c answers))
