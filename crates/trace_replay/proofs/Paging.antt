-- What a cut behind the calls answers, taken off the answers to a run.
use Rattle.std.proofs.Common.{◌≡◌, ℕ, ◌≤◌, Bool, true, false, List, [], ◌∷◌, ◌++◌, length, map, take, drop, Some, None, Ok, Err}
use Rattle.std.proofs.Common.{Option, Result, Vec, Global, refl, sym, ap, ◌∙◌, subst, arith}
use Rattle.std.specs.Prelude.{if◌then◌else◌, nat_le}
use Rattle.std.specs.Prelude.{◌<◌, IsSome}
use Rattle.std.specs.List.{cons_option, filter_map}
use Rattle.std.specs.Option.{option_to_list}
use Rattle.std.specs.Cmp.{IsTotalOrder}
use Rattle.std.specs.declared.cmp.Ordering.{Ordering}
use Rattle.std.proofs.lemmas.Bool.Decides.{nat_tests}
use Rattle.std.proofs.lemmas.List.{append_cancel_left, length-append, length-map, map-append}
use Rattle.std.proofs.Math.Seq.{take-append_seam}
use Rattle.history.specs.History.{Closed, Cut, IsHistory}
use Rattle.history.specs.Law.{IsLawful}
use Rattle.refusals.specs.Refusals.{result_map, shown}
use Rattle.replay.specs.Calls.{AnswerNumbers, CutAnswer, answer_numbers}
use Rattle.replay.specs.Replay.{end_answer}
use Rattle.replay.specs.Runs.{question_entry}
use Rattle.replay.specs.declared.call.Answer.{Answer}
use Rattle.replay.specs.declared.call.Answer.TheVariants as answer
use Rattle.replay.specs.declared.call.Call.{Call}
use Rattle.replay.specs.declared.call.Question.{Question}
use Rattle.replay.specs.declared.call.Question.TheVariants as question
use Rattle.store.specs.declared.version.Version.{Version}
use Rattle.trace_replay.specs.Machine.{clocks_of, trace_answers}
use Rattle.trace_replay.specs.Page.{IsPaged, is_final, page_answer, page_history, rows_at}
use Rattle.trace_replay.specs.Within.{AsksForPage, IsOfCut, cut_page}
use Rattle.trace_replay.specs.Traced.{IsTraced, first_state, history_setup, last_state, places, run_history, told}
use Rattle.trace_replay.proofs.Room.{rows_fit}
use Rattle.trace_run.specs.SetUp.{SetUpNumbers}

-- lists with one at the end are the same only if both parts are
snoc_same : {X : Type 0} (xs ys : List X) (x y : X) → xs ++ x ∷ [] ≡ ys ++ y ∷ [] → (xs ≡ ys) × (x ≡ y)
snoc_same xs ys x y same =
    let long : length xs ≡ length ys =
    omega (arith, ap length same, length-append xs (x ∷ []), length-append ys (y ∷ [])) in
    let front : xs ≡ ys = sym (take-append_seam xs (x ∷ [])) ∙ ap (take (length xs)) same
    ∙ ap (λ n. take n (ys ++ y ∷ [])) long ∙ take-append_seam ys (y ∷ []) in
    let back : x ∷ [] ≡ y ∷ [] = append_cancel_left ys (x ∷ []) (y ∷ []) (ap (λ zs. zs ++ x ∷ []) (sym front) ∙ same) in
    (front, cc back)

module _ {K : Type 0} (order : K → K → Ordering) (total : IsTotalOrder order) (setup : SetUpNumbers) (calls : List (Call K))
    (closes : Bool) (stamp : ℕ) where
  abbrev rows : List (Version K)
  rows = rows_at order setup calls closes stamp

  -- the cut's answer, and its rows
  abbrev cut_end : Vec (Version K) Global → AnswerNumbers K
  cut_end given = end_answer order (clocks_of setup.backstep) closes (last_state order setup calls) (question.Cut stamp given)

  fit : length rows ≤ places
  fit = rows_fit order total setup.backstep places (first_state setup) calls stamp refl refl

  -- What a cut answered that was given enough places: the rows that are filled, and what the history is told.
  record IsCut (given : Vec (Version K) Global) (count : Result ℕ ℕ) (filled : List (Version K)) : Type 0 where
    page_is : result_map (λ n. take n filled) count ≡ page_answer order setup calls closes stamp
    entries : filter_map (λ q. question_entry q (end_answer order (clocks_of setup.backstep) closes
        (last_state order setup calls) q)) (question.Cut stamp given ∷ [])
        ≡ (if is_final order setup calls closes stamp then Cut stamp (length rows) rows ∷ [] else [])

  module _ (given : Vec (Version K) Global) where
    -- its answer and its rows, where the page is final or not, and the rows are enough or not
    abbrev count_by : Bool → Bool → Result ℕ ℕ
    count_by final enough = (if final then (if enough then Ok (length rows) else Err 19) else Err 18)

    abbrev rows_by : Bool → Bool → List (Version K)
    rows_by final enough =
        (if final then (if enough then rows ++ drop (length rows) given.items else given.items) else given.items)

    seam : take (length rows) (rows ++ drop (length rows) given.items) ≡ rows
    seam = take-append_seam rows (drop (length rows) given.items)

    paged : (final : Bool) (count : Result ℕ ℕ) (filled : List (Version K))
        → CutAnswer count filled ≡ CutAnswer (count_by final true) (rows_by final true)
        → result_map (λ n. take n filled) count ≡ (if final then Ok rows else Err 18)
    paged true count filled is =
        let count_is : count ≡ Ok (length rows) = cc is in
        let filled_is : filled ≡ rows ++ drop (length rows) given.items = cc is in
        rw (count_is, filled_is) (ap Ok seam)
    paged false count filled is =
        let count_is : count ≡ Err 18 = cc is in
        rw count_is refl

    entry : (final : Bool)
        → cons_option (question_entry (question.Cut stamp given) (CutAnswer (count_by final true) (rows_by final true))) []
        ≡ (if final then Cut stamp (length rows) rows ∷ [] else [])
    entry true = ap (λ filled. Cut stamp (length rows) filled ∷ []) seam
    entry false = refl

    is_cut : (count : Result ℕ ℕ) (filled : List (Version K)) → length given.items ≡ places
        → CutAnswer count filled ≡ cut_end given → IsCut given count filled
    is_cut count filled enough is =
        let final = is_final order setup calls closes stamp in
        let fits : nat_le (length rows) (length given.items) ≡ true = grind (arith, nat_tests, fit, enough) in
        let cut : cut_end given ≡ CutAnswer (count_by final true) (rows_by final true) =
        ap (λ b. CutAnswer (count_by final b) (rows_by final b)) fits in
        record {
          page_is = paged final count filled (is ∙ cut);
          entries = ap (λ a. cons_option (question_entry (question.Cut stamp given) a) []) cut ∙ entry final;
        }

  -- A run that asks for the page was answered so: the last answer is the cut's, and the others are those to the calls.
  module _ (questions : List (Question K)) (items rest : List (Answer K)) (last : Option (Answer K))
      (traced : IsTraced order setup calls closes questions (map answer_numbers items)) (asks : AsksForPage stamp questions)
      (are : items ≡ rest ++ option_to_list last) where
    record IsSplit (a : Answer K) : Type 0 where
      front : map answer_numbers rest ≡ trace_answers order setup.backstep (first_state setup) calls
      back : answer_numbers a ≡ cut_end asks.rows

    answered : map answer_numbers items ≡ trace_answers order setup.backstep (first_state setup) calls ++ cut_end asks.rows ∷ []
    answered = traced.answers_are
        ∙ ap (λ qs. trace_answers order setup.backstep (first_state setup) calls
        ++ map (end_answer order (clocks_of setup.backstep) closes (last_state order setup calls)) qs) asks.one

    -- there is one
    some_answer : 0 < length items
    some_answer =
        let front = trace_answers order setup.backstep (first_state setup) calls in
        omega (arith, ap length answered, length-map items answer_numbers, length-append front (cut_end asks.rows ∷ []))

    split : (a : Answer K) → last ≡ Some a → IsSplit a
    split a is =
        let parts = snoc_same (map answer_numbers rest) (trace_answers order setup.backstep (first_state setup) calls)
        (answer_numbers a) (cut_end asks.rows)
        (sym (map-append answer_numbers rest (a ∷ [])) ∙ ap (λ l. map answer_numbers (rest ++ option_to_list l)) (sym is)
        ∙ ap (map answer_numbers) (sym are) ∙ answered) in
        record { front = parts.0; back = parts.1 }

    pub is_paged : (0 < length items → IsSome last)
        → IsOfCut last × IsPaged order setup calls closes stamp (map answer_numbers rest) (cut_page last)
    is_paged found = go last refl (found some_answer)
      where
        go : (l : Option (Answer K)) → last ≡ l → IsSome l
            → IsOfCut l × IsPaged order setup calls closes stamp (map answer_numbers rest) (cut_page l)
        go None is some = absurd (cc some)
        go (Some (answer.Event result)) is some = absurd (cc (split _ is).back)
        go (Some (answer.Loss result)) is some = absurd (cc (split _ is).back)
        go (Some (answer.Read result)) is some = absurd (cc (split _ is).back)
        go (Some (answer.UnderWay count listed)) is some = absurd (cc (split _ is).back)
        go (Some (answer.Cut count filled)) is some =
            let parts = split _ is in
            let cut = is_cut asks.rows (shown count) filled.items asks.enough parts.back in
            let before = told order setup calls in
            let history : run_history order setup calls closes questions ≡ page_history order setup calls closes stamp =
            ap (run_history order setup calls closes) asks.one
            ∙ ap (λ entries. before ++ ((if closes then Closed ∷ [] else []) ++ entries)) cut.entries in (
              tt,
              record {
                answers_are = parts.front;
                page_is = cut.page_is;
                written = subst (IsHistory order (history_setup setup)) history traced.written;
                lawful = subst (IsLawful order (history_setup setup)) history traced.lawful;
              },
            )
