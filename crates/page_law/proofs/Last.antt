-- A recorder behind calls has the last stamps that its history has, and its history has no close.
use Rattle.std.proofs.Common.{◌≡◌, ℕ, inl, inr, List, [], ◌∷◌, ◌++◌, length, Option, refl, ◌∙◌, arith}
use Rattle.std.proofs.Common.{append-nil, append_assoc}
use Rattle.std.specs.declared.cmp.Ordering.{Ordering}
use Rattle.std.specs.Option.{option_to_list}
use Rattle.std.proofs.lemmas.Bool.Decides.{nat_tests}
use Rattle.std.proofs.lemmas.List.{get_or-set_other, get_or-set_same, length-set}
use Rattle.history.specs.Events.{Event}
use Rattle.history.specs.History.{Closed, Entry, events_of, last_stamp}
use Rattle.history.proofs.Entries.{events_of-append}
use Rattle.history.proofs.Last.{last_stamp-push}
use Rattle.recorder.specs.State.{State}
use Rattle.replay.specs.Runs.{call_entry}
use Rattle.replay.specs.declared.call.Call.{Call}
use Rattle.stamper.specs.Stamps.{stamp_at}
use Rattle.stamps.specs.Stamp.{Timestamp, zero_stamp}
use Rattle.store.specs.Newest.{IsIn}
use Rattle.trace_replay.specs.Machine.{behind_call, clocks_of, trace_end, trace_told}
use Rattle.page_law.proofs.Told.{IsTold, call_told}

-- what is in neither of two lists is not in both joined
pub in_neither : {X : Type 0} (x : X) (xs ys : List X) → (IsIn x xs → ⊥) → (IsIn x ys → ⊥) → IsIn x (xs ++ ys) → ⊥
in_neither x [] ys first second is_in = second is_in
in_neither x (z ∷ xs) ys first second (inl here) = first (inl here)
in_neither x (z ∷ xs) ys first second (inr there) = in_neither x xs ys (λ is_in. first (inr is_in)) second there

module _ {K : Type 0} where
  -- these are the last stamps of events
  abbrev pub AreLast : List Timestamp → List (Event K) → Type 0
  AreLast last events = (node : ℕ) → stamp_at last node ≡ last_stamp events node

  -- They are those of events, and of as many nodes as before.
  pub record AreStill (before next : List Timestamp) (events : List (Event K)) : Type 0 where
    pub nodes : length next ≡ length before
    pub are_last : AreLast next events

  one_told : (last next : List Timestamp) (entry : Option (Entry K)) (listed : ℕ → _) (events : List (Event K))
      → IsTold last entry listed next → AreLast last events → AreStill last next (events ++ events_of (option_to_list entry))
  one_told last next entry listed events (inl (e, is)) are = rw (is.told, is.last_then) (record {
    nodes = length-set last e.node e.stamp;
    are_last = λ node.
        let same = get_or-set_same last e.node e.stamp zero_stamp is.node in
        let other = get_or-set_other last e.node node e.stamp zero_stamp in
        grind (arith, nat_tests, are node, same, other, last_stamp-push events e node _ refl);
  })
  one_told last next entry listed events (inr none) are =
      rw (none.no_event, none.last_then, append-nil events) (record { nodes = refl; are_last = are })

  no_close_told : (last next : List Timestamp) (entry : Option (Entry K)) (listed : ℕ → _) → IsTold last entry listed next
      → IsIn Closed (option_to_list entry) → ⊥
  no_close_told last next entry listed (inl (e, is)) is_in = grind (arith, is.told, is_in)
  no_close_told last next entry listed (inr none) is_in = grind (arith, none.no_close, is_in)

module _ {K : Type 0} (order : K → K → Ordering) (backstep : ℕ) where
  -- how it stands behind any calls
  pub still : (s : State (ℕ → ℕ) K) (calls : List (Call K)) (events : List (Event K)) → AreLast s.last events
      → AreStill s.last (trace_end order backstep s calls).last (events ++ events_of (trace_told order backstep s calls))
  still s [] events are = rw (append-nil events) (record { nodes = refl; are_last = are })
  still s (c ∷ calls) events are =
      let next = behind_call order backstep s c in
      let entry = option_to_list (call_entry order (clocks_of backstep) s c) in
      let told = trace_told order backstep next calls in
      let one = one_told s.last next.last _ _ events (call_told order backstep s c) are in
      let more = still next calls (events ++ events_of entry) one.are_last in
      rw (events_of-append entry told, ← append_assoc events (events_of entry) (events_of told))
      (record { nodes = more.nodes ∙ one.nodes; are_last = more.are_last })

  -- no close is told of calls
  pub no_close : (s : State (ℕ → ℕ) K) (calls : List (Call K)) → IsIn Closed (trace_told order backstep s calls) → ⊥
  no_close s [] is_in = elim is_in [ ]
  no_close s (c ∷ calls) is_in =
      in_neither Closed (option_to_list (call_entry order (clocks_of backstep) s c)) _
      (no_close_told s.last _ _ _ (call_told order backstep s c)) (no_close (behind_call order backstep s c) calls) is_in
