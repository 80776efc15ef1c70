-- What the law of whole runs says of the page of a trace.
use Rattle.std.proofs.Common.{◌≡◌, ℕ, ◌+◌, ◌<◌, ◌≤◌, inl, inr, Bool, true, false, List, [], ◌∷◌, ◌++◌, length, refl, sym}
use Rattle.std.proofs.Common.{subst, arith}
use Rattle.std.specs.Prelude.{if◌then◌else◌}
use Rattle.std.specs.Cmp.{IsTotalOrder}
use Rattle.std.specs.declared.cmp.Ordering.{Ordering}
use Rattle.history.specs.Events.{Event, event_at, puts}
use Rattle.history.specs.History.{Closed, Cut, Entry, IsHistory}
use Rattle.history.specs.Law.{Cuts, Drift, IsLawful}
use Rattle.history.proofs.Lists.{in_append}
use Rattle.history.proofs.Places.{NodesRise}
use Rattle.keys.specs.Order.{IsKeyOrder}
use Rattle.store.specs.Newest.{IsIn}
use Rattle.store.specs.Page.{IsPage}
use Rattle.store.specs.declared.version.Version.{Version}
use Rattle.trace.specs.Contents.{Content}
use Rattle.trace_history.specs.Trace.{bound_of}
use Rattle.trace_replay.specs.Page.{is_final}
use Rattle.trace_replay.specs.Traced.{history_setup, told}
use Rattle.trace_run.specs.Calls.{KeyForm, calls_of}
use Rattle.trace_run.specs.SetUp.{SetUpNumbers}
use Rattle.page_law.specs.Inspected.{IsFinal, IsInspected, IsRight, PagesAreInspected, events, history, rows}
use Rattle.page_law.specs.Stays.{PageStays}
use Rattle.page_law.proofs.Counted.{counted}
use Rattle.page_law.proofs.Finality.{events_are, final, held_back, newest, settled}
use Rattle.page_law.proofs.Sources.{from, rise}
use Rattle.page_law.proofs.Stays.{final_pages_stay}

-- the cut of a final page is in the history
cut_in : {K : Type 0} (before close : List (Entry K)) (final : Bool) (stamp : ℕ) (shown : List (Version K)) → final ≡ true
    → let cut = Cut stamp (length shown) shown in
    IsIn cut (before ++ (close ++ (if final then cut ∷ [] else [])))
cut_in before close true stamp shown is = in_append _ before _ (inr (in_append _ close _ (inr (inl refl))))
cut_in before close false stamp shown is = absurd (cc is)

module _ {K : Type 0} (form : KeyForm K) (order : K → K → Ordering) (setup : SetUpNumbers) (ms : List Content) (closes : Bool)
    (stamp : ℕ) (written : IsHistory order (history_setup setup) (history form order setup ms closes stamp))
    (lawful : IsLawful order (history_setup setup) (history form order setup ms closes stamp))
    (stays : PageStays form order setup ms stamp) where
  abbrev the_events : List (Event K)
  the_events = events form order setup ms

  abbrev shown : List (Version K)
  shown = rows form order setup ms closes stamp

  bound : (j : ℕ) → j < length the_events
      → (event_at the_events j).stamp.time ≤ (event_at the_events j).reading + bound_of setup
  bound = rw (events_are form order setup ms closes stamp) (λ j inside. omega (arith, lawful Drift j inside))

  rises : NodesRise the_events
  rises = rw (events_are form order setup ms closes stamp)
      (rise order (history_setup setup) (history form order setup ms closes stamp) lawful)

  right : IsFinal form order setup ms closes stamp → IsRight form order setup ms closes stamp
  right is =
      let close : List (Entry K) = (if closes then Closed ∷ [] else []) in
      let cut = cut_in (told order setup (calls_of form ms)) close (is_final order setup (calls_of form ms) closes stamp)
      stamp shown is in
      let page : IsPage order (puts the_events) stamp shown =
      subst (λ es. IsPage order (puts es) stamp shown) (sym (events_are form order setup ms closes stamp))
      (lawful Cuts stamp (length shown) shown cut).0 in
      record { page = page; from = λ v is_in. from form order setup ms rises v (page.newest v is_in).there }

  -- of any page whose history is one, and lawful
  pub inspected : IsInspected form order setup ms closes stamp
  inspected = record {
    written = written;
    lawful = lawful;
    events_are = events_are form order setup ms closes stamp;
    bound = bound;
    counted = counted form 2 ms _;
    final = λ at. (settled form order setup ms stamp at closes, final form order setup ms stamp at closes);
    held_back = held_back form order setup ms stamp closes;
    right = right;
    stays = stays;
    newest = newest form order setup ms closes;
  }

pub pages_are_inspected : {K : Type 0} (form : KeyForm K) (order : K → K → Ordering) → IsTotalOrder order → IsKeyOrder order
    → PagesAreInspected form order
pages_are_inspected form order total law setup ms closes stamp answers answered paged =
    inspected form order setup ms closes stamp paged.written paged.lawful (final_pages_stay form order total law setup ms stamp)
