-- Every history is lawful.
use Rattle.std.proofs.Common.{◌≡◌, ℕ, List, length, Option, subst}
use Rattle.std.specs.Prelude.{drop, take}
use Rattle.std.specs.declared.cmp.Ordering.{Ordering}
use Rattle.std.proofs.lemmas.List.{take-append-drop}
use Rattle.store.specs.Newest.{IsIn, IsReadAnswer}
use Rattle.store.specs.Page.{IsPage}
use Rattle.store.specs.declared.version.Version.{Version}
use Rattle.history.specs.Events.{puts}
use Rattle.history.specs.History.{Closed, Cut, Entry, IsHistory, IsSettled, MayBeWritten, Read, Setup, events_of}
use Rattle.history.specs.Law.{Counter, Cuts, Drift, IsLawful, Later, Reads, Time}
use Rattle.history.proofs.Chains.{largest, longest}
use Rattle.history.proofs.Stamping.{ahead, follows, higher}
use Rattle.history.proofs.Entries.{are_entered}
use Rattle.history.proofs.Lists.{placed}
use Rattle.history.proofs.Places.{AreEntered}
use Rattle.history.proofs.Settling.{settled_puts}
use Rattle.history.proofs.SameVersions.{AreSameUpTo, answers_alike, pages_alike}

module _ {K : Type 0} (order : K → K → Ordering) (setup : Setup) (history : List (Entry K))
    (written : IsHistory order setup history) where
  entered : AreEntered setup (events_of history)
  entered = are_entered order setup history written

  -- an entry may be written behind those before it
  behind : (entry : Entry K) → IsIn entry history → (place : ℕ) × MayBeWritten order setup (take place history) entry
  behind entry is_in = let at = placed Closed entry history is_in in
      (at.0, subst (MayBeWritten order setup (take at.0 history)) at.2 (written at.0 at.1))

  -- and at or below a stamp that is settled there, the puts so far are all puts
  all_puts : (place stamp : ℕ) → IsSettled setup (take place history) stamp
      → AreSameUpTo stamp (puts (events_of (take place history))) (puts (events_of history))
  all_puts place stamp settled =
      let whole = take-append-drop place history in
      subst (λ h. AreSameUpTo stamp (puts (events_of (take place history))) (puts (events_of h))) whole
      (settled_puts order setup (take place history) (drop place history) stamp (rw whole written) settled)

  right_reads : (key : K) (stamp : ℕ) (answer : Option (Version K)) → IsIn (Read key stamp answer) history
      → IsReadAnswer (puts (events_of history)) key stamp answer
  right_reads key stamp answer is_in = let may = behind (Read key stamp answer) is_in in
      (answers_alike (all_puts may.0 stamp may.1.0) key answer).0 may.1.1

  right_cuts : (stamp count : ℕ) (rows : List (Version K)) → IsIn (Cut stamp count rows) history
      → IsPage order (puts (events_of history)) stamp rows × (count ≡ length rows)
  right_cuts stamp count rows is_in =
      let may = behind (Cut stamp count rows) is_in in
      ((pages_alike order (all_puts may.0 stamp may.1.0) rows).0 may.1.1, may.1.2)

  pub lawful : IsLawful order setup history
  lawful Time = largest (events_of history) (follows entered)
  lawful Drift = ahead entered
  lawful Counter = longest (events_of history) (follows entered)
  lawful Later = higher entered
  lawful Reads = right_reads
  lawful Cuts = right_cuts
