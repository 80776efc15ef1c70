-- The events of a history are entered one behind another.
use Rattle.std.proofs.Common.{◌≡◌, ℕ, zero, suc, ◌<◌, List, [], ◌∷◌, ◌++◌, length, refl, sym, ap, ◌∙◌, subst, arith}
use Rattle.std.specs.Prelude.{take}
use Rattle.std.specs.declared.cmp.Ordering.{Ordering}
use Rattle.std.proofs.lemmas.List.Elements.{filter_map-append}
use Rattle.history.specs.Events.{event_at}
use Rattle.history.specs.History.{Closed, Cut, Entered, Entry, IsHistory, MayBeWritten, MayEnter, Read, Setup, entry_at, event_of}
use Rattle.history.specs.History.{events_of}
use Rattle.history.proofs.Places.{AreEntered}

module _ {K : Type 0} where
  pub events_of-append : (earlier later : List (Entry K)) → events_of (earlier ++ later) ≡ events_of earlier ++ events_of later
  events_of-append = filter_map-append event_of

  -- Event j of a history is the event of the entry at a place, and the events before it are those of the entries before that place.
  pub record HasEntry (history : List (Entry K)) (j : ℕ) : Type 0 where
    pub place : ℕ
    pub inside : place < length history
    pub is : entry_at history place ≡ Entered (event_at (events_of history) j)
    pub before : events_of (take place history) ≡ take j (events_of history)

  -- an entry that is no event puts it one place further
  has_entry_behind : (entry : Entry K) → ((entries : List (Entry K)) → events_of (entry ∷ entries) ≡ events_of entries)
      → (history : List (Entry K)) (j : ℕ) → HasEntry history j → HasEntry (entry ∷ history) j
  has_entry_behind entry none history j more = record {
    place = suc more.place;
    inside = omega (arith, more.inside);
    is = rw (none history) more.is;
    before = none (take more.place history) ∙ more.before ∙ ap (take j) (sym (none history));
  }

  -- each event has its entry
  pub has_entry : (history : List (Entry K)) (j : ℕ) → j < length (events_of history) → HasEntry history j
  has_entry [] j inside = absurd (omega (arith, inside))
  has_entry (Entered e ∷ history) zero inside = record { place = 0; inside = omega arith; is = refl; before = refl }
  has_entry (Entered e ∷ history) (suc j) inside =
      let more = has_entry history j (omega (arith, inside)) in
      record {
        place = suc more.place;
        inside = omega (arith, more.inside);
        is = more.is;
        before =
            ap (λ events. e ∷ events) more.before;
      }
  has_entry (Read key stamp answer ∷ history) j inside = has_entry_behind _ (λ es. refl) history j (has_entry history j inside)
  has_entry (Cut stamp count rows ∷ history) j inside = has_entry_behind _ (λ es. refl) history j (has_entry history j inside)
  has_entry (Closed ∷ history) j inside = has_entry_behind _ (λ es. refl) history j (has_entry history j inside)

  -- so that it was entered behind the events before it
  pub are_entered : (order : K → K → Ordering) (setup : Setup) (history : List (Entry K)) → IsHistory order setup history
      → AreEntered setup (events_of history)
  are_entered order setup history written j inside =
      let entry = has_entry history j inside in
      let may = subst (MayBeWritten order setup (take entry.place history)) entry.is (written entry.place entry.inside) in
      subst (λ earlier. MayEnter setup earlier (event_at (events_of history) j)) entry.before may.1
