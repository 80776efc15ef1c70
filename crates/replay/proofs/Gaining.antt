-- A list of answers gains those to a run, call by call.
use Rattle.std.proofs.Common.{◌≡◌, ◌≤◌, Bool, true, false, List, [], ◌∷◌, ◌++◌, append-nil, append_assoc, refl, sym, subst}
use Rattle.std.specs.Cmp.{IsTotalOrder}
use Rattle.std.specs.declared.cmp.Ordering.{Ordering}
use Rattle.std.specs.Option.{option_to_list}
use Rattle.std.proofs.lemmas.List.{map-append}
use Rattle.clocks.specs.declared.sample.Sample.{Sample}
use Rattle.std.specs.Prelude.{ℕ, Result}
use Rattle.clocks.specs.Bank.{IsLawful, Meaning}
use Rattle.keys.specs.Order.{IsKeyOrder}
use Rattle.stamper.specs.Settings.{SettingNumbers}
use Rattle.recorder.specs.State.{ClosedState, State, closed_state, fresh_state, is_settled}
use Rattle.replay.specs.Calls.{AnswerNumbers, answer_numbers, question_answer}
use Rattle.replay.specs.Replay.{GainsAnswers, end_answer}
use Rattle.replay.specs.Runs.{IsCalled, NoCall, OneMore, call_entry}
use Rattle.replay.specs.Within.{GainsEach, GainsRun, WasGiven}
use Rattle.replay.specs.declared.call.Answer.{Answer}
use Rattle.replay.specs.declared.call.Call.{Call}
use Rattle.replay.specs.declared.call.Question.{Question}
use Rattle.replay.specs.declared.replay.Run.{Run}
use Rattle.replay.proofs.Whole.{replayed}
use Rattle.store.specs.Contents.{Contents}

module _ {B K : Type 0} (order : K → K → Ordering) (meaning : B → Meaning) (beside : Sample → Result ℕ ℕ → B → B → Type 0)
    (start : State B K) (before : List (Answer K)) where
  pub gains_none : GainsRun order meaning beside start start [] before before
  gains_none = record { gained = []; list = sym (append-nil before); told = []; run = NoCall }

  pub gains_one : {s next : State B K} {calls : List (Call K)} {mid after : List (Answer K)} (c : Call K) (a : Answer K)
      → GainsRun order meaning beside start s calls before mid → IsCalled order meaning beside s c (answer_numbers a) next
      → after ≡ mid ++ a ∷ [] → GainsRun order meaning beside start next (calls ++ c ∷ []) before after
  gains_one {s} c a so_far step is = record {
    gained = so_far.gained ++ a ∷ [];
    list = rw (is, so_far.list) (append_assoc before so_far.gained (a ∷ []));
    told = so_far.told ++ option_to_list (call_entry order meaning s c);
    run = rw (map-append answer_numbers so_far.gained (a ∷ [])) (OneMore so_far.run step);
  }

module _ {K : Type 0} (answer : Question K → AnswerNumbers K) (before : List (Answer K)) where
  pub gains_nothing : GainsEach answer [] before before
  gains_nothing = record { gained = []; list = sym (append-nil before); each = refl }

  pub gains_more : {questions : List (Question K)} {mid after : List (Answer K)} (q : Question K) (a : Answer K)
      → GainsEach answer questions before mid → answer_numbers a ≡ answer q → after ≡ mid ++ a ∷ []
      → GainsEach answer (questions ++ q ∷ []) before after
  gains_more {questions} q a so_far right is = record {
    gained = so_far.gained ++ a ∷ [];
    list = rw (is, so_far.list) (append_assoc before so_far.gained (a ∷ []));
    each = rw (map-append answer_numbers so_far.gained (a ∷ []), map-append answer questions (q ∷ []), so_far.each, right) refl;
  }

-- a list that gained the answers to the calls, and then those to the questions
pub gains_answers : {B K : Type 0} (order : K → K → Ordering) → IsTotalOrder order → IsKeyOrder order
    → (meaning : B → Meaning) (beside : Sample → Result ℕ ℕ → B → B → Type 0)
    → ((bank : B) → IsLawful (meaning bank)) → (settings : SettingNumbers) (bank : B) (contents : Contents K)
    → settings.nodes ≤ 16 → contents.versions ≡ [] → (run : Run K) {before after : List (Answer K)}
    → WasGiven order meaning beside (fresh_state settings bank contents) run before after
    → GainsAnswers order meaning beside (fresh_state settings bank contents) run before after
gains_answers order total law meaning beside lawful_bank settings bank contents few empty run {before} given =
    let calls = given.calls in
    let questions = given.questions in
    record {
      gained = calls.gained ++ questions.gained;
      list = rw (questions.list, calls.list) (append_assoc before calls.gained questions.gained);
      replayed = replayed order total law meaning lawful_bank beside settings bank contents few empty run _ _ calls.told given.end
          calls.run
          (rw (map-append answer_numbers calls.gained questions.gained, questions.each) refl);
    }

module _ {B K : Type 0} (order : K → K → Ordering) (meaning : B → Meaning) (closes : Bool) (end : State B K)
    (questions : List (Question K)) (mid after : List (Answer K)) where
  abbrev Gains : (Question K → AnswerNumbers K) → Type 0
  Gains answer = GainsEach answer questions mid after

  -- a closed recorder was asked
  pub asked_closed : closes ≡ true → (closed : ClosedState K) → closed ≡ closed_state end
      → Gains (question_answer order (λ _. true) closed.contents closed.messages) → Gains (end_answer order meaning closes end)
  asked_closed is closed same gains =
      rw is (subst (λ s. Gains (question_answer order (λ _. true) s.contents s.messages)) same gains)

  -- an open one was
  pub asked_open : closes ≡ false → Gains (question_answer order (is_settled end) end.contents end.messages)
      → Gains (end_answer order meaning closes end)
  asked_open is gains = rw is gains
