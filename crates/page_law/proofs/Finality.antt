-- When the page of a trace is final.
use Rattle.std.proofs.Common.{◌≡◌, ℕ, zero, suc, ◌<◌, ◌≤◌, inl, inr, Bool, true, false, List, [], ◌∷◌, ◌++◌, length, refl}
use Rattle.std.proofs.Common.{sym, ap, ◌∙◌, subst, arith, append-nil}
use Rattle.std.specs.Prelude.{◌↔◌, if◌then◌else◌, nat_le}
use Rattle.std.specs.declared.cmp.Ordering.{Ordering}
use Rattle.std.proofs.Math.Nat.{le-min, min-le_left, min-le_right}
use Rattle.std.proofs.lemmas.Bool.{cases_lt}
use Rattle.std.proofs.lemmas.Bool.Decides.{nat_tests}
use Rattle.std.proofs.lemmas.List.{get_or_past, get_or-replicate, length-replicate}
use Rattle.std.proofs.lemmas.List.Sums.{AllPass-from_list_all}
use Rattle.history.specs.Events.{Event}
use Rattle.history.specs.History.{Closed, Cut, IsSettled, events_of, last_stamp}
use Rattle.history.proofs.Entries.{events_of-append}
use Rattle.history.proofs.Lists.{in_append}
use Rattle.replay.specs.declared.call.Call.{Call}
use Rattle.stamper.specs.Stamps.{no_stamps, none_below, stamp_at}
use Rattle.stamps.specs.Stamp.{Timestamp, code_of, zero_stamp}
use Rattle.store.specs.Newest.{IsIn}
use Rattle.store.specs.declared.version.Version.{Version}
use Rattle.trace.specs.Contents.{Content}
use Rattle.trace_history.specs.Trace.{highest_code, lowest_last, newest_final}
use Rattle.trace_replay.specs.Page.{is_final}
use Rattle.trace_replay.specs.Traced.{first_state, history_setup, last_state, told}
use Rattle.trace_run.specs.Calls.{KeyForm, calls_of}
use Rattle.trace_run.specs.SetUp.{SetUpNumbers}
use Rattle.page_law.specs.Inspected.{HoldsBack, IsFinal, IsNewestFinal, events, history, rows}
use Rattle.page_law.proofs.Last.{AreLast, AreStill, in_neither, no_close, still}
use Rattle.page_law.proofs.Told.{events_listed}

-- a stamp that not all have reached is above one of them
pub below_one : (code : ℕ) (last : List Timestamp) → none_below last code ≡ false
    → (i : ℕ) × (i < length last) × (code_of (stamp_at last i) < code)
below_one code [] is = absurd (cc is)
below_one code (t ∷ last) is = elim (cases_lt (code_of t) code) [
  | inl below ↦ (0, omega arith, below)
  | inr reached ↦
      let more = below_one code last (grind (arith, nat_tests, is, reached)) in
      (suc more.0, omega (arith, more.1), more.2)
]

-- before the first event
pub fresh_stamp : (nodes node : ℕ) → stamp_at (no_stamps nodes) node ≡ zero_stamp
fresh_stamp nodes node =
    let past = get_or_past (no_stamps nodes) node zero_stamp in
    let there = get_or-replicate nodes node zero_stamp zero_stamp in
    grind (arith, past, there, length-replicate nodes zero_stamp)

fresh_last : (K : Type 0) (nodes : ℕ) → AreLast {K = K} (no_stamps nodes) []
fresh_last K nodes node = fresh_stamp nodes node

module _ {K : Type 0} where
  -- the close and the cut are no events
  no_more_events : (closes final : Bool) (stamp : ℕ) (shown : List (Version K))
      → events_of ((if closes then Closed ∷ [] else []) ++ (if final then Cut stamp (length shown) shown ∷ [] else [])) ≡ []
  no_more_events true true stamp shown = refl
  no_more_events true false stamp shown = refl
  no_more_events false true stamp shown = refl
  no_more_events false false stamp shown = refl

  -- and the cut is no close
  cut_no_close : (final : Bool) (stamp : ℕ) (shown : List (Version K))
      → IsIn Closed (if final then Cut stamp (length shown) shown ∷ [] else []) → ⊥
  cut_no_close true stamp shown (inl is) = absurd (cc is)
  cut_no_close true stamp shown (inr there) = elim there [ ]
  cut_no_close false stamp shown is_in = elim is_in [ ]

  -- the lowest of the last stamps is a code, at or below each, and no other such is above it
  module _ (events : List (Event K)) where
    lowest_is_code : (n : ℕ) → lowest_last events n ≤ highest_code
    lowest_is_code zero = omega arith
    lowest_is_code (suc n) =
        omega (arith, lowest_is_code n, min-le_left (lowest_last events n) (code_of (last_stamp events n)))

    lowest_reached : (n node : ℕ) → node < n → lowest_last events n ≤ code_of (last_stamp events node)
    lowest_reached zero node less = absurd (omega (arith, less))
    lowest_reached (suc n) node less = elim (cases_lt node n) [
      | inl earlier ↦
          omega (
            arith,
            lowest_reached n node earlier,
            min-le_left (lowest_last events n) (code_of (last_stamp events n)),
          )
      | inr at ↦
          let is : n ≡ node = omega (arith, at, less) in
          subst (λ k. lowest_last events (suc n) ≤ code_of (last_stamp events k)) is
          (min-le_right (lowest_last events n) (code_of (last_stamp events n)))
    ]

    lowest_highest : (n stamp : ℕ) → stamp ≤ highest_code
        → ((node : ℕ) → node < n → stamp ≤ code_of (last_stamp events node)) → stamp ≤ lowest_last events n
    lowest_highest zero stamp within reached = within
    lowest_highest (suc n) stamp within reached =
        le-min (lowest_highest n stamp within (λ node less. reached node (omega (arith, less)))) (reached n (omega arith))

module _ {K : Type 0} (form : KeyForm K) (order : K → K → Ordering) (setup : SetUpNumbers) (ms : List Content) where
  abbrev calls : List (Call K)
  calls = calls_of form ms

  abbrev the_events : List (Event K)
  the_events = events form order setup ms

  abbrev final_at : Bool → ℕ → Bool
  final_at closes stamp = is_final order setup calls closes stamp

  -- the events are those that were told
  events_told : the_events ≡ events_of (told order setup calls)
  events_told = events_listed order setup.backstep form 2 ms (first_state setup)

  pub events_are : (closes : Bool) (stamp : ℕ) → the_events ≡ events_of (history form order setup ms closes stamp)
  events_are closes stamp =
      let before = told order setup calls in
      let none = no_more_events closes (final_at closes stamp) stamp (rows form order setup ms closes stamp) in
      events_told ∙ sym (events_of-append before _ ∙ ap (λ es. events_of before ++ es) none ∙ append-nil (events_of before))

  -- the last stamps are those of the events
  stands : AreStill (no_stamps setup.settings.nodes) (last_state order setup calls).last the_events
  stands = rw events_told (still order setup.backstep (first_state setup) calls [] (fresh_last K setup.settings.nodes))

  nodes_are : length (last_state order setup calls).last ≡ setup.settings.nodes
  nodes_are = stands.nodes ∙ length-replicate setup.settings.nodes zero_stamp

  module _ (stamp : ℕ) where
    -- each node's last stamp has reached it
    abbrev HaveReached : Type 0
    HaveReached = (node : ℕ) → node < setup.settings.nodes → stamp ≤ code_of (last_stamp the_events node)

    reached : final_at false stamp ≡ true → HaveReached
    reached is node less =
        let inside : node < length (last_state order setup calls).last = omega (arith, less, nodes_are) in
        let last = AllPass-from_list_all (λ t. nat_le stamp (code_of t)) (last_state order setup calls).last is
        node zero_stamp inside in
        grind (arith, nat_tests, last, stands.are_last node)

    held : final_at false stamp ≡ false → (node : ℕ) × HoldsBack form order setup ms stamp node
    held is =
        let one = below_one stamp (last_state order setup calls).last is in (
          one.0,
          record {
            is_node = omega (arith, one.1, nodes_are);
            below = rw (← stands.are_last one.0) one.2;
          },
        )

    -- it is final, or a node holds it back
    final_by : (b : Bool) → final_at false stamp ≡ b → HaveReached → final_at false stamp ≡ true
    final_by true is reached = is
    final_by false is reached =
        let one = held is in absurd (omega (arith, reached one.0 one.1.is_node, one.1.below))

    not_final_by : (b : Bool) → final_at false stamp ≡ b → (node : ℕ) × HoldsBack form order setup ms stamp node
        → final_at false stamp ≡ false
    not_final_by true is (node, holds) = absurd (omega (arith, reached is node holds.is_node, holds.below))
    not_final_by false is holds = is

    pub held_back : (closes : Bool)
        → (final_at closes stamp ≡ false) ↔ ((closes ≡ false) × ((node : ℕ) × HoldsBack form order setup ms stamp node))
    held_back true = (λ is. absurd (cc is), λ holds. absurd (cc holds.0))
    held_back false = (λ is. (refl, held is), λ holds. not_final_by _ refl holds.1)

  -- a stamp is settled in the history of a page at any stamp exactly if its own page is final
  module _ (at stamp : ℕ) where
    pub settled : (closes : Bool) → IsFinal form order setup ms closes stamp
        → IsSettled (history_setup setup) (history form order setup ms closes at) stamp
    settled true is = inl (in_append Closed (told order setup calls) _ (inr (inl refl)))
    settled false is = inr (λ node less. rw (← events_are false at) (reached stamp is node less))

    pub final : (closes : Bool) → IsSettled (history_setup setup) (history form order setup ms closes at) stamp
        → IsFinal form order setup ms closes stamp
    final true is = refl
    final false (inl closed) = absurd (in_neither Closed (told order setup calls) _
        (no_close order setup.backstep (first_state setup) calls)
        (cut_no_close (final_at false at) at (rows form order setup ms false at)) closed)
    final false (inr above) = final_by stamp _ refl (rw (events_are false at) above)

  -- the newest stamp with a final page
  pub newest : (closes : Bool)
      → IsNewestFinal form order setup ms closes (newest_final closes the_events setup.settings.nodes)
  newest true = record { is_code = omega arith; final = refl; none_newer = λ stamp within is. within }
  newest false = record {
    is_code = lowest_is_code the_events setup.settings.nodes;
    final = final_by _ _ refl (lowest_reached the_events setup.settings.nodes);
    none_newer = λ stamp within is. lowest_highest the_events setup.settings.nodes stamp within (reached stamp is);
  }
