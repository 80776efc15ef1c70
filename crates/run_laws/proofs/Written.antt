-- The run that is written out is one, and the history is told of it what is written out.
use Rattle.std.proofs.Common.{◌≡◌, ℕ, List, [], ◌∷◌, ◌++◌, Ok, Option, Some, None, append-nil, append_assoc, refl, arith}
use Rattle.std.proofs.lemmas.Bool.Decides.{nat_tests}
use Rattle.std.specs.Ordering.{nat_cmp}
use Rattle.std.specs.declared.cmp.Ordering.{Ordering}
use Rattle.std.specs.Option.{option_to_list}
use Rattle.std.specs.Prelude.{◌<◌, ◌^◌, length, Result, Vec}
use Rattle.std.specs.declared.alloc.Global.{Global}
use denote.RawPtr.{null_ptr}
use Rattle.clocks.specs.Bank.{Meaning, Taken}
use Rattle.clocks.specs.Highs.{fresh_highs, raised_high}
use Rattle.clocks.specs.declared.sample.Sample.{Sample}
use Rattle.history.specs.History.{Entry}
use Rattle.messages.specs.Messages.{MessageNumbers}
use Rattle.messages.specs.declared.message.Message.{Message}
use Rattle.recorder.specs.State.{State, is_settled}
use Rattle.replay.specs.Calls.{AnswerNumbers, after_call, call_answer, question_answer}
use Rattle.run_laws.specs.Examples.{RunIsTold, Rows, answers, at, calls, clocks, fresh, nothing_beside, told, version}
use Rattle.replay.specs.Runs.{IsCalled, IsRun, NoCall, OneMore, TookFor, call_entry, question_entry}
use Rattle.replay.specs.declared.call.Call.{Call}
use Rattle.replay.specs.declared.call.Call.TheVariants as call
use Rattle.replay.specs.declared.call.Question.{Question}
use Rattle.stamps.specs.Stamp.{Timestamp}
use Rattle.store.specs.declared.version.Version.{Version}

module _ {B K : Type 0} (order : K → K → Ordering) (meaning : B → Meaning)
    (beside : Sample → Result ℕ ℕ → B → B → Type 0) where
  -- a run may begin with one call more
  first : {start next end : State B K} {c : Call K} {a : AnswerNumbers K} {calls : List (Call K)}
      {answers : List (AnswerNumbers K)} {told : List (Entry K)}
      → IsCalled order meaning beside start c a next → IsRun order meaning beside next calls answers told end
      → IsRun order meaning beside start (c ∷ calls) (a ∷ answers) (option_to_list (call_entry order meaning start c) ++ told) end
  first {start} {c} step NoCall = rw (append-nil (option_to_list (call_entry order meaning start c))) (OneMore NoCall step)
  first {start} {c} step (OneMore {told} {s} {c = d} so_far last) =
      rw (← append_assoc (option_to_list (call_entry order meaning start c)) told (option_to_list (call_entry order meaning s d)))
      (OneMore (first step so_far) last)

-- a reading was taken from a trace clock
taken : (node reading : ℕ) (highs : ℕ → ℕ) → Taken (Ok reading) node (clocks highs) (clocks (raised_high node reading highs))
taken node reading highs = (
  record { high = grind (arith, nat_tests); backstep = refl },
  λ other apart. let same : raised_high node reading highs other ≡ highs other = grind (arith, nat_tests, apart) in rw same refl,
)

-- the recorder's highs, last stamps, messages and versions
abbrev standing : (ℕ → ℕ) → List Timestamp → List MessageNumbers → List (Version ℕ) → State (ℕ → ℕ) ℕ
standing highs last messages versions = record {
  lead = 500;
  bank = highs;
  last = last;
  messages = messages;
  contents = record { versions = versions; capacity = 1024 };
}

-- how it stands behind each event
abbrev at_put : State (ℕ → ℕ) ℕ
at_put = standing (raised_high 0 1000 fresh_highs) (at 1000 0 ∷ at 0 0 ∷ []) [] (version ∷ [])

abbrev at_send : State (ℕ → ℕ) ℕ
at_send =
    let sent : MessageNumbers = record { number = 5; to = 1; stamp = at 1000 1 } in
    standing (raised_high 0 1000 at_put.bank) (at 1000 1 ∷ at 0 0 ∷ []) (sent ∷ []) (version ∷ [])

abbrev at_receipt : State (ℕ → ℕ) ℕ
at_receipt = standing (raised_high 1 990 at_send.bank) (at 1000 1 ∷ at 1000 2 ∷ []) [] (version ∷ [])

abbrev at_note : State (ℕ → ℕ) ℕ
at_note = standing (raised_high 0 1000 at_receipt.bank) (at 1000 2 ∷ at 1000 2 ∷ []) [] (version ∷ [])

-- from there a run of these calls goes on to the last
abbrev Leads : State (ℕ → ℕ) ℕ → List (Call ℕ) → List (AnswerNumbers ℕ) → List (Entry ℕ) → Type 0
Leads start calls answers told = IsRun nat_cmp clocks nothing_beside start calls answers told at_note

module _ {calls : List (Call ℕ)} {answers : List (AnswerNumbers ℕ)} {told : List (Entry ℕ)} where
  -- a call that is no question
  called : {start next : State (ℕ → ℕ) ℕ} {c : Call ℕ} {a : AnswerNumbers ℕ} {entry : Option (Entry ℕ)}
      → a ≡ call_answer nat_cmp clocks start c → next ≡ after_call nat_cmp clocks start c next.bank
      → TookFor nat_cmp clocks nothing_beside start c next.bank → call_entry nat_cmp clocks start c ≡ entry
      → Leads next calls answers told → Leads start (c ∷ calls) (a ∷ answers) (option_to_list entry ++ told)
  called answer change reading is rest =
      rw (← is) (first nat_cmp clocks nothing_beside (record { answer = answer; change = change; reading = reading }) rest)

  -- a question changes nothing, and what the history is told of it is in its answer
  asked : {s : State (ℕ → ℕ) ℕ} {q : Question ℕ} {a : AnswerNumbers ℕ}
      → a ≡ question_answer nat_cmp (is_settled s) s.contents s.messages q → Leads s calls answers told
      → Leads s (call.Ask q ∷ calls) (a ∷ answers) (option_to_list (question_entry q a) ++ told)
  asked is rest =
      rw is (first nat_cmp clocks nothing_beside (record { answer = refl; change = refl; reading = refl }) rest)

module _ (rows : Rows) where
  -- the run
  run : Leads fresh (calls rows) (answers rows) told
  run =
      called {next = at_put} {entry = Some _} refl refl (taken 0 1000 fresh.bank, tt) refl
      (called {next = at_put} {entry = None} refl refl refl refl
      (called {next = at_send} {entry = Some _} refl refl (taken 0 1000 at_put.bank, tt) refl
      (called {next = at_receipt} {entry = Some _} refl refl (taken 1 990 at_send.bank, tt) refl
      (called {next = at_receipt} {entry = None} refl refl refl refl
      (called {next = at_note} {entry = Some _} refl refl (taken 0 1000 at_receipt.bank, tt) refl
      (asked refl
      (asked (rw rows.two_places refl)
      (asked (rw rows.message_place refl)
      (asked (rw rows.no_place refl)
      (asked refl NoCall))))))))))

-- some list in memory
abbrev list_of : {X : Type 0} (items : List X) → length items < 2 ^ 63 → Vec X Global
list_of items few = record {
  ptr = null_ptr;
  len = length items;
  cap = length items;
  alloc = record { memory = record { seal = tt } };
  items = items;
  ok = (refl, omega arith);
  small = few;
}

-- rows as the run's caller brings
some_rows : Rows
some_rows =
    let message : Message = record { number = 0; to = 0; stamp = record { time = 0; counter = 0; sound = search } } in
    record {
      two = list_of (version ∷ version ∷ []) (omega arith);
      one = list_of (version ∷ []) (omega arith);
      none = list_of [] (omega arith);
      messages = list_of (message ∷ []) (omega arith);
      first = version;
      second = version;
      message = message;
      two_places = refl;
      one_place = refl;
      no_place = refl;
      message_place = refl;
    }

pub run_is_told : RunIsTold
run_is_told = (
  some_rows,
  λ rows code. (
    at_note,
    run rows,
    rw rows.one_place refl,
    simp rows.one_place refl,
    λ run closes asks. rw (closes, asks) (simp rows.one_place refl),
    refl,
  ),
  refl,
)
