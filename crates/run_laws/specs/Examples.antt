-- One short run, written out: its calls, what each answers, and all that the history is told of it.
use Rattle.std.specs.Prelude.{◌≡◌, ℕ, pos, true, false, List, [], ◌∷◌, ◌++◌, map, Some, None, Ok, Err, Result, Vec}
use Rattle.std.specs.declared.alloc.Global.{Global}
use Rattle.std.specs.Ordering.{nat_cmp}
use Rattle.clocks.specs.Bank.{Meaning}
use Rattle.clocks.specs.Highs.{fresh_highs}
use Rattle.clocks.specs.TraceClocks.{trace_meaning}
use Rattle.clocks.specs.declared.sample.Sample.{Sample}
use Rattle.history.specs.Events.{Note, Put, Receipt, Send}
use Rattle.history.specs.History.{Closed, Cut, Entered, Entry, Read}
use Rattle.messages.specs.Messages.{message_numbers}
use Rattle.messages.specs.declared.message.Message.{Message}
use Rattle.stamps.specs.Stamp.{Timestamp}
use Rattle.store.specs.declared.version.Version.{Version}
use Rattle.recorder.specs.State.{State, fresh_state}
use Rattle.replay.specs.Calls.{AnswerNumbers, CutAnswer, EventAnswer, LossAnswer, ReadAnswer, UnderWayAnswer}
use Rattle.replay.specs.Replay.{end_answer, end_entries, setup_of, whole_history}
use Rattle.replay.specs.Runs.{IsRun}
use Rattle.replay.specs.declared.call.Call.{Call}
use Rattle.replay.specs.declared.call.Call.TheVariants as call
use Rattle.replay.specs.declared.call.Question.{Question}
use Rattle.replay.specs.declared.call.Question.TheVariants as question
use Rattle.replay.specs.declared.replay.Run.{Run}

-- The rows that the caller brings: a list of two places, one of one and one of none for versions, and one place for a message.
pub record Rows : Type 0 where
  pub two : Vec (Version ℕ) Global
  pub one : Vec (Version ℕ) Global
  pub none : Vec (Version ℕ) Global
  pub messages : Vec Message Global
  -- what stands there before
  pub first : Version ℕ
  pub second : Version ℕ
  pub message : Message
  pub two_places : two.items ≡ first ∷ second ∷ []
  pub one_place : one.items ≡ first ∷ []
  pub no_place : none.items ≡ []
  pub message_place : messages.items ≡ message ∷ []

-- the stamp l.c
abbrev pub at : ℕ → ℕ → Timestamp
at l c = record { time = l; counter = c }

-- this node's clock is at this raw number
abbrev pub sample : ℕ → ℕ → Sample
sample node raw = record { node = node; raw = record { 0 = raw } }

-- an event gets the stamp l.c, with this drift
abbrev pub stamped : ℕ → ℕ → ℕ → AnswerNumbers ℕ
stamped l c drift = EventAnswer (Ok (record { stamp = at l c; drift = drift }))

-- the clocks are trace clocks with a backstep of 20, told by their highs
abbrev pub clocks : (ℕ → ℕ) → Meaning
clocks highs = trace_meaning highs 20

-- a take does nothing beside
abbrev pub nothing_beside : Sample → Result ℕ ℕ → (ℕ → ℕ) → (ℕ → ℕ) → Type 0
nothing_beside sample reading old new = Unit {0}

-- a recorder of two nodes, with a lead of 500; keys are numbers
abbrev pub fresh : State (ℕ → ℕ) ℕ
fresh = fresh_state (record { nodes = 2; lead = 500 }) fresh_highs (record { versions = []; capacity = 1024 })

-- the version that the run's put leaves: 65536000 is the code of 1000.0
abbrev pub version : Version ℕ
version = record { key = 7; stamp = 65536000; node = 0; value = pos 1 }

module _ (rows : Rows) where
  -- key 7 is put, and message 5 goes from node 0 to node 1; 65536002 is the code of 1000.2, and 65536003 that of 1000.3
  abbrev pub calls : List (Call ℕ)
  calls =
      call.Put (sample 0 1000) 7 (pos 1)
      ∷ call.Note (sample 0 979)
      ∷ call.Send (sample 0 1000) 1 5
      ∷ call.Receipt (sample 1 990) 5
      ∷ call.Loss 5
      ∷ call.Note (sample 0 1000)
      ∷ call.Ask (question.Read 7 65536002)
      ∷ call.Ask (question.Cut 65536002 rows.two)
      ∷ call.Ask (question.UnderWay rows.messages)
      ∷ call.Ask (question.Cut 65536002 rows.none)
      ∷ call.Ask (question.Read 7 65536003)
      ∷ []

  -- what each of them answers
  abbrev pub answers : List (AnswerNumbers ℕ)
  answers =
      stamped 1000 0 0
      ∷ EventAnswer (Err 9)
      ∷ stamped 1000 1 0
      ∷ stamped 1000 2 10
      ∷ LossAnswer (Err 13)
      ∷ stamped 1000 2 0
      ∷ ReadAnswer (Ok (Some version))
      ∷ CutAnswer (Ok 1) (version ∷ rows.second ∷ [])
      ∷ UnderWayAnswer (Ok 0) (message_numbers rows.message ∷ [])
      ∷ CutAnswer (Err 19) []
      ∷ ReadAnswer (Err 18)
      ∷ []

  -- then the recorder is closed, and asked for key 8 at any code and for a cut at the highest one
  abbrev pub questions : ℕ → List (Question ℕ)
  questions code = question.Read 8 code ∷ question.Cut 0xffff_ffff_ffff_ffff rows.one ∷ []

-- and what these answer
abbrev pub answers_then : List (AnswerNumbers ℕ)
answers_then = ReadAnswer (Ok None) ∷ CutAnswer (Ok 1) (version ∷ []) ∷ []

-- what the history is told of the calls: of each event that was accepted, and of each read and each cut that was answered
abbrev pub told : List (Entry ℕ)
told =
    Entered (record { node = 0; reading = 1000; stamp = at 1000 0; what = Put 7 (pos 1) })
    ∷ Entered (record { node = 0; reading = 1000; stamp = at 1000 1; what = Send 5 })
    ∷ Entered (record { node = 1; reading = 990; stamp = at 1000 2; what = Receipt 5 })
    ∷ Entered (record { node = 0; reading = 1000; stamp = at 1000 2; what = Note })
    ∷ Read 7 65536002 (Some version)
    ∷ Cut 65536002 1 (version ∷ [])
    ∷ []

-- and behind them
abbrev pub told_then : ℕ → List (Entry ℕ)
told_then code = Closed ∷ Read 8 code None ∷ Cut 0xffff_ffff_ffff_ffff 1 (version ∷ []) ∷ []

-- There are such rows, and whatever stands in them: a fresh recorder gives these answers to the calls, its history is told this
-- of them, and it then stands so that this is answered and told behind a close. With no close, the cut is refused and not told.
abbrev pub RunIsTold : Type 0
RunIsTold =
    Rows × ((rows : Rows) (code : ℕ) → (end : State (ℕ → ℕ) ℕ)
    × IsRun nat_cmp clocks nothing_beside fresh (calls rows) (answers rows) told end
    × (map (end_answer nat_cmp clocks true end) (questions rows code) ≡ answers_then)
    × (end_entries nat_cmp clocks true end (questions rows code) ≡ told_then code)
    × ((run : Run ℕ) → run.closes ≡ true → run.questions.items ≡ questions rows code
    → whole_history nat_cmp clocks run told end ≡ told ++ told_then code)
    × (end_entries nat_cmp clocks false end (questions rows 65536002) ≡ Read 8 65536002 None ∷ []))
    × (setup_of clocks fresh ≡ record { nodes = 2; lead = 500; backstep = λ node. 20 })
