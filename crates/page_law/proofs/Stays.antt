-- A final page stays.
use Rattle.std.proofs.Common.{◌≡◌, ℕ, Bool, true, false, List, ◌++◌, refl, sym, ap, ◌∙◌, subst, arith}
use Rattle.std.specs.Prelude.{nat_le, Ok}
use Rattle.std.specs.Cmp.{IsTotalOrder}
use Rattle.std.specs.List.Sorted.{IsStrictlySortedBy}
use Rattle.std.specs.Result.{result_ok}
use Rattle.std.specs.declared.cmp.Ordering.{Ordering}
use Rattle.std.proofs.lemmas.Bool.Decides.{nat_tests}
use Rattle.std.proofs.lemmas.List.Elements.{filter_map-append}
use Rattle.std.proofs.lemmas.List.Sums.{AllPass-from_list_all}
use Rattle.keys.specs.Order.{IsKeyOrder}
use Rattle.recorder.specs.State.{State}
use Rattle.stamper.specs.Stamps.{none_below}
use Rattle.stamps.specs.Stamp.{Timestamp, code_of, zero_stamp}
use Rattle.trace.specs.Contents.{Content}
use Rattle.trace_history.specs.Source.{is_source}
use Rattle.trace_replay.specs.Page.{is_final}
use Rattle.trace_replay.specs.Traced.{first_state, last_state}
use Rattle.trace_run.specs.Calls.{KeyForm, call_of, calls_of}
use Rattle.trace_run.specs.SetUp.{SetUpNumbers}
use Rattle.page_law.specs.Stays.{FinalPagesStay, IsStill}
use Rattle.page_law.proofs.Finality.{below_one, fresh_stamp}
use Rattle.page_law.proofs.Found.{stays_found}
use Rattle.page_law.proofs.Onward.{HaveReached, IsSound, Onward, calls_on, end_behind}

-- no stamp is below a code exactly if all have reached it
none_reached : (last : List Timestamp) (code : ℕ) → none_below last code ≡ true → HaveReached last code
none_reached last code is node inside =
    let one = AllPass-from_list_all (λ t. nat_le code (code_of t)) last is node zero_stamp inside in grind (arith, nat_tests, one)

reached_none : (last : List Timestamp) (code : ℕ) (b : Bool) → none_below last code ≡ b → HaveReached last code
    → none_below last code ≡ true
reached_none last code true is reached = is
reached_none last code false is reached =
    let one = below_one code last is in absurd (omega (arith, reached one.0 one.1, one.2))

module _ {K : Type 0} (form : KeyForm K) (order : K → K → Ordering) (total : IsTotalOrder order) (law : IsKeyOrder order)
    (setup : SetUpNumbers) where
  abbrev fresh : State (ℕ → ℕ) K
  fresh = first_state setup

  fresh_sound : IsSound order total law setup.backstep fresh
  unfolding IsStrictlySortedBy
  fresh_sound = record {
    counters = λ node.
        rw (fresh_stamp setup.settings.nodes node) (omega arith);
    behind = λ v is_in. elim is_in [ ];
    sorted = tt;
  }

  module _ (ms later : List Content) where
    abbrev before : State (ℕ → ℕ) K
    before = last_state order setup (calls_of form ms)

    abbrev behind : State (ℕ → ℕ) K
    behind = last_state order setup (calls_of form (ms ++ later))

    calls_are : calls_of form (ms ++ later) ≡ calls_of form ms ++ calls_of form later
    calls_are = filter_map-append (λ m. result_ok (call_of form m)) ms later

    goes_on : Onward order total law setup.backstep before behind
    goes_on =
        let sound = (calls_on order total law setup.backstep (calls_of form ms) fresh fresh_sound).sound in
        subst (λ s. Onward order total law setup.backstep before s)
        (sym (ap (last_state order setup) calls_are
        ∙ end_behind order total law setup.backstep (calls_of form ms) (calls_of form later) fresh))
        (calls_on order total law setup.backstep (calls_of form later) before sound)

    module _ (stamp : ℕ) (is : is_final order setup (calls_of form ms) false stamp ≡ true) where
      had : HaveReached before.last stamp
      had = none_reached before.last stamp is

      final_then : (closes : Bool) → is_final order setup (calls_of form (ms ++ later)) closes stamp ≡ true
      final_then true = refl
      final_then false = reached_none behind.last stamp _ refl (goes_on.reached stamp had)

      still : (closes : Bool) → IsStill form order setup ms stamp later closes
      still closes = record {
        final = final_then closes;
        rows = goes_on.page stamp had;
        answer = rw (final_then closes, is) (ap Ok (goes_on.page stamp had));
        found = λ v e there. stays_found form order setup.backstep later (is_source v) e 2 ms fresh there;
      }

pub final_pages_stay : {K : Type 0} (form : KeyForm K) (order : K → K → Ordering) → IsTotalOrder order → IsKeyOrder order
    → FinalPagesStay form order
final_pages_stay form order total law setup ms stamp is later closes = still form order total law setup ms later stamp is closes
