-- A question's answer may be written behind the history behind which its recorder stands.
use Rattle.std.proofs.Common.{◌≡◌, ◌≢◌, ◌<◌, ℕ, inl, inr, Bool, true, false, List, [], ◌∷◌, ◌++◌, length, Vec, Global, refl, ap}
use Rattle.std.proofs.Common.{subst, append_assoc, arith}
use Rattle.std.specs.Prelude.{drop, if◌then◌else◌, nat_le, Some, None, Ok, Err, Option}
use Rattle.std.specs.Cmp.{IsTotalOrder}
use Rattle.std.specs.declared.cmp.Ordering.{Ordering}
use Rattle.std.specs.List.{cons_option, filter_map}
use Rattle.std.specs.Option.{option_to_list}
use Rattle.std.proofs.lemmas.Bool.Decides.{nat_tests}
use Rattle.std.proofs.lemmas.List.{append-nil}
use Rattle.std.proofs.lemmas.List.Sums.{AllPass-from_list_all}
use Rattle.std.proofs.Math.Seq.{take-append_seam}
use Rattle.clocks.specs.Bank.{Meaning}
use Rattle.keys.specs.Order.{IsKeyOrder}
use Rattle.stamps.specs.Stamp.{code_of, zero_stamp}
use Rattle.store.specs.Newest.{newest}
use Rattle.store.specs.Page.{page}
use Rattle.store.specs.Versions.{IsSorted}
use Rattle.store.specs.declared.version.Version.{Version}
use Rattle.store.proofs.InWords.{newest_answers}
use Rattle.store.proofs.PageInWords.{page_is}
use Rattle.history.specs.Events.{puts}
use Rattle.history.specs.History.{Closed, Cut, Entry, IsHistory, IsSettled, MayBeWritten, Read, Setup, events_of}
use Rattle.history.proofs.Entries.{are_entered}
use Rattle.history.proofs.Lists.{in_append}
use Rattle.history.proofs.OneAnswer.{recorded, recorded_same, sorted}
use Rattle.history.proofs.SameVersions.{answers_alike, pages_alike}
use Rattle.history.proofs.Stamping.{nodes_rise}
use Rattle.recorder.specs.State.{State, is_settled}
use Rattle.replay.specs.Calls.{CutAnswer, ReadAnswer}
use Rattle.replay.specs.Replay.{end_answer, end_entries}
use Rattle.replay.specs.Runs.{question_entry}
use Rattle.replay.specs.declared.call.Question.{Question}
use Rattle.replay.specs.declared.call.Question.TheVariants as question
use Rattle.replay.proofs.Standing.{StandsBehind, still_tells, told}

-- the entry of a question, if it has one, stands before those of the others
entry_first : {K : Type 0} (history : List (Entry K)) (found : Option (Entry K)) (entries : List (Entry K))
    → (history ++ option_to_list found) ++ entries ≡ history ++ cons_option found entries
entry_first history None entries = ap (λ h. h ++ entries) (append-nil history)
entry_first history (Some entry) entries = append_assoc history (entry ∷ []) entries

module _ {B K : Type 0} (order : K → K → Ordering) (total : IsTotalOrder order) (law : IsKeyOrder order)
    (meaning : B → Meaning) (setup : Setup) {s : State B K} where
  module _ {closed : Bool} {history : List (Entry K)} (before : StandsBehind order meaning setup closed history s) where
    -- what is answered as settled is settled
    settled_by : (closed : Bool) → StandsBehind order meaning setup closed history s → (stamp : ℕ)
        → (if closed then true else is_settled s stamp) ≡ true → IsSettled setup history stamp
    settled_by true before stamp is = inl before.tells
    settled_by false before stamp is = inr (λ node less.
        let inside : node < length s.last = omega (arith, less, before.stands.nodes) in
        let last = AllPass-from_list_all (λ t. nat_le stamp (code_of t)) s.last is node zero_stamp inside in
        rw (← before.stands.stamps node) (grind (arith, nat_tests, last)))

    -- the answers are those of the puts so far
    abbrev puts_so_far : List (Version K)
    puts_so_far = puts (events_of history)

    in_order : IsSorted order (recorded order puts_so_far)
    in_order = sorted order total law (events_of history) (nodes_rise (are_entered order setup history before.written))

    -- where nothing is told, nothing changes
    abbrev BehindAnswer : Option (Entry K) → Type 0
    BehindAnswer entry = StandsBehind order meaning setup closed (history ++ option_to_list entry) s

    nothing : BehindAnswer None
    nothing = rw (append-nil history) before

    -- an answer more
    answered : (entry : Entry K) → events_of (entry ∷ []) ≡ [] → entry ≢ Closed → MayBeWritten order setup history entry
        → BehindAnswer (Some entry)
    answered entry none other may = told order meaning setup before entry none may (still_tells closed history entry other)

    read_told : (key : K) (stamp : ℕ) (settled : Bool) → (if closed then true else is_settled s stamp) ≡ settled
        → BehindAnswer (question_entry (question.Read key stamp)
        (ReadAnswer (if settled then Ok (newest order s.contents.versions key stamp) else Err 18)))
    read_told key stamp false is = nothing
    read_told key stamp true is =
        let same = recorded_same order stamp puts_so_far in
        let answers = newest_answers order total law (recorded order puts_so_far) key stamp in_order in
        answered (Read key stamp _) refl (λ is. absurd (cc is))
        (settled_by closed before stamp is, rw before.stands.versions ((answers_alike same key _).0 answers))

    cut_told : (stamp : ℕ) (rows : Vec (Version K) Global) (settled fits : Bool)
        → (if closed then true else is_settled s stamp) ≡ settled
        → let all = page order s.contents.versions stamp in
        let rows_then = (if fits then all ++ drop (length all) rows.items else rows.items) in
        BehindAnswer (question_entry (question.Cut stamp rows)
        (CutAnswer (if settled then (if fits then Ok (length all) else Err 19) else Err 18)
        (if settled then rows_then else rows.items)))
    cut_told stamp rows false fits is = nothing
    cut_told stamp rows true false is = nothing
    cut_told stamp rows true true is =
        let all = page order s.contents.versions stamp in
        let same = recorded_same order stamp puts_so_far in
        let page = page_is order total law (recorded order puts_so_far) stamp in_order in
        rw (take-append_seam all (drop (length all) rows.items))
        (answered (Cut stamp (length all) all) refl (λ is. absurd (cc is))
        (settled_by closed before stamp is, rw before.stands.versions ((pages_alike order same _).0 page), refl))

    pub asked : (q : Question K) → BehindAnswer (question_entry q (end_answer order meaning closed s q))
    asked (question.Read key stamp) = read_told key stamp _ refl
    asked (question.Cut stamp rows) =
        cut_told stamp rows _ (nat_le (length (page order s.contents.versions stamp)) (length rows.items)) refl
    asked (question.UnderWay rows) = nothing

  -- the answers to the questions may be written, one behind another
  all_asked : (closed : Bool) (questions : List (Question K)) (history : List (Entry K))
      → StandsBehind order meaning setup closed history s
      → IsHistory order setup (history ++ filter_map (λ q. question_entry q (end_answer order meaning closed s q)) questions)
  all_asked closed [] history before = rw (append-nil history) before.written
  all_asked closed (q ∷ questions) history before =
      subst (IsHistory order setup) (entry_first history _ _) (all_asked closed questions _ (asked before q))

  -- and a close before all of them
  pub end_written : (closes : Bool) (questions : List (Question K)) (history : List (Entry K))
      → StandsBehind order meaning setup false history s
      → IsHistory order setup (history ++ end_entries order meaning closes s questions)
  end_written false questions history before = all_asked false questions history before
  end_written true questions history before =
      let close : StandsBehind order meaning setup true (history ++ Closed ∷ []) s =
      told order meaning setup before Closed refl tt (λ tells. in_append Closed history (Closed ∷ []) (inr (inl refl))) in
      subst (IsHistory order setup) (append_assoc history (Closed ∷ []) _) (all_asked true questions _ close)
