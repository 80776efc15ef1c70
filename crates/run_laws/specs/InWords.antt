-- What the law of whole runs says of the answers alone; and what else a run keeps.
use Rattle.std.specs.Prelude.{◌≡◌, ℕ, ◌+◌, ◌≤◌, ◌⊎◌, ⊤, Bool, true, if◌then◌else◌, Some, None, Ok, Option, Result}
use Rattle.std.specs.Prelude.{List, [], ◌∷◌, ◌++◌, length, map, take}
use Rattle.std.specs.declared.cmp.Ordering.{Ordering}
use Rattle.std.specs.List.{filter_map, zip}
use Rattle.clocks.specs.Bank.{Meaning}
use Rattle.clocks.specs.declared.sample.Sample.{Sample}
use Rattle.history.specs.History.{Closed, Entry, Setup, events_of}
use Rattle.history.specs.Law.{Clause, Holds}
use Rattle.history.specs.Unique.{AreSame, AreSentOnce, IsReordering, KeepsMessages}
use Rattle.recorder.specs.State.{State, is_settled}
use Rattle.stamps.specs.Stamp.{code_of}
use Rattle.store.specs.Newest.{IsIn, IsReadAnswer}
use Rattle.store.specs.Page.{IsPage}
use Rattle.store.specs.declared.version.Version.{Version}
use Rattle.replay.specs.Calls.{AnswerNumbers, CutAnswer, EventAnswer, ReadAnswer, question_answer}
use Rattle.replay.specs.Replay.{IsReplayed, whole_history}
use Rattle.replay.specs.Runs.{question_entry}
use Rattle.replay.specs.declared.call.Call.{Call}
use Rattle.replay.specs.declared.call.Call.TheVariants as call
use Rattle.replay.specs.declared.call.Question.{Question}
use Rattle.replay.specs.declared.call.Question.TheVariants as question
use Rattle.replay.specs.declared.replay.Run.{Run}

module _ {K : Type 0} where
  -- what was asked of the recorder, in order: the calls, and behind them the questions
  abbrev pub asked_of : Run K → List (Call K)
  asked_of run = run.calls.items ++ map call.Ask run.questions.items

  -- the version that a call put which answered so, if it put one
  abbrev pub version_by : Call K → AnswerNumbers K → Option (Version K)
  version_by (call.Put sample key value) (EventAnswer (Ok event)) =
      Some (record { key = key; stamp = code_of event.stamp; node = sample.node; value = value })
  version_by c a = None

  -- all versions that were put by calls which answered so, one after another
  abbrev pub versions_by : List (Call K) → List (AnswerNumbers K) → List (Version K)
  versions_by calls answers = filter_map (λ p. version_by p.0 p.1) (zip calls answers)

module _ {B K : Type 0} (order : K → K → Ordering) (meaning : B → Meaning) where
  -- A stamp that an event of this node got is ahead of its clock by at most the lead and the backstep.
  abbrev pub IsNear : State B K → Sample → AnswerNumbers K → Type 0
  IsNear start sample (EventAnswer (Ok event)) = event.drift ≤ start.lead + (meaning start.bank sample.node).backstep
  IsNear start sample a = ⊤

  -- An answer to a question is right among these versions: a read's is the newest of its key, a cut's is the page.
  abbrev pub IsRightAmong : List (Version K) → Question K → AnswerNumbers K → Type 0
  IsRightAmong all (question.Read key stamp) (ReadAnswer (Ok found)) = IsReadAnswer all key stamp found
  IsRightAmong all (question.Cut stamp rows) (CutAnswer (Ok count) filled) =
      IsPage order all stamp (take count filled) × (count ≡ length (take count filled))
  IsRightAmong all q a = ⊤

  -- What the law says of a call that answered so in a run which put all these versions.
  abbrev pub IsKept : State B K → List (Version K) → Call K → AnswerNumbers K → Type 0
  IsKept start all (call.Note sample) a = IsNear start sample a
  IsKept start all (call.Send sample to number) a = IsNear start sample a
  IsKept start all (call.Receipt sample number) a = IsNear start sample a
  IsKept start all (call.Loss number) a = ⊤
  IsKept start all (call.Put sample key value) a = IsNear start sample a
  IsKept start all (call.Ask q) a = IsRightAmong all q a

  module _ (beside : Sample → Result ℕ ℕ → B → B → Type 0) where
    -- Each call and each question of a run has its answer, and of each the law holds, among all versions that the run put: those
    -- that were put later, too.
    abbrev pub AnswersKeepLaw : Type 0
    AnswersKeepLaw = (start : State B K) (run : Run K) (answers : List (AnswerNumbers K))
        → IsReplayed order meaning beside start run answers
        → (length answers ≡ length (asked_of run))
        × ((c : Call K) (a : AnswerNumbers K) → IsIn (c, a) (zip (asked_of run) answers)
        → IsKept start (versions_by (asked_of run) answers) c a)

    -- The law, clause by clause, over what a run came to, written out: what was told of its calls, the close, what was told then.
    abbrev pub HistoryKeepsLaw : Type 0
    HistoryKeepsLaw = (start : State B K) (run : Run K) (answers : List (AnswerNumbers K))
        → (r : IsReplayed order meaning beside start run answers)
        → let backstep : ℕ → ℕ = λ node. (meaning start.bank node).backstep in
        let setup : Setup = record { nodes = length start.last; lead = start.lead; backstep = backstep } in
        let close : List (Entry K) = (if run.closes then Closed ∷ [] else []) in
        let settled : ℕ → Bool = λ stamp. (if run.closes then true else is_settled r.end stamp) in
        let answer : Question K → AnswerNumbers K = question_answer order settled r.end.contents r.end.messages in
        let answered : List (Entry K) = filter_map (λ q. question_entry q (answer q)) run.questions.items in
        (clause : Clause) → Holds order setup (r.told ++ (close ++ answered)) clause

    -- Whatever number of a bank every take keeps, a run keeps.
    abbrev pub RunsKeepBeside : Type 0
    RunsKeepBeside = (number : B → ℕ)
        → ((sample : Sample) (reading : Result ℕ ℕ) (old new : B) → beside sample reading old new → number new ≡ number old)
        → (start : State B K) (run : Run K) (answers : List (AnswerNumbers K))
        → (r : IsReplayed order meaning beside start run answers)
        → number r.end.bank ≡ number start.bank

    -- Two runs of the same events in two orders have the same stamps, and the same is right to answer in both. Each node's own
    -- events keep their order, and each receipt is of the same send.
    abbrev pub OrdersAreAlike : Type 0
    OrdersAreAlike = (start other_start : State B K) (run other_run : Run K) (answers other_answers : List (AnswerNumbers K))
        → (r : IsReplayed order meaning beside start run answers)
        → (other : IsReplayed order meaning beside other_start other_run other_answers)
        → let one = events_of (whole_history order meaning run r.told r.end) in
        let two = events_of (whole_history order meaning other_run other.told other.end) in
        (to from : ℕ → ℕ) → IsReordering one two to from → KeepsMessages one two to ⊎ AreSentOnce one → AreSame order one two to
