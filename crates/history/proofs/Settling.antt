-- What is written behind a settled stamp leaves its answers as they are.
use Rattle.std.proofs.Common.{◌≡◌, ℕ, ◌+◌, ◌-◌, ◌<◌, ◌≤◌, inl, inr, List, ◌++◌, length, refl, sym, ap, ◌∙◌, subst, arith}
use Rattle.std.specs.Prelude.{drop, take}
use Rattle.std.specs.declared.cmp.Ordering.{Ordering}
use Rattle.std.proofs.lemmas.Bool.{cases_lt, cases_order}
use Rattle.std.proofs.lemmas.List.{get_or-append-add, length-append, take-append-drop}
use Rattle.std.proofs.Math.Seq.{take-append-add, take-append_seam, take-length}
use Rattle.stamps.specs.Stamp.{code_of}
use Rattle.store.specs.Newest.{IsIn}
use Rattle.store.specs.declared.version.Version.{Version}
use Rattle.history.specs.Events.{Event, event_at, puts}
use Rattle.history.specs.History.{Closed, Entered, Entry, IsHistory, IsSettled, MayBeWritten, Setup, entry_at, events_of}
use Rattle.history.specs.History.{last_stamp}
use Rattle.history.specs.Law.{LeavesAnswers}
use Rattle.history.proofs.Stamping.{nodes_rise, not_early}
use Rattle.history.proofs.Entries.{are_entered, has_entry, events_of-append}
use Rattle.history.proofs.Last.{has_last}
use Rattle.history.proofs.Lists.{in_append}
use Rattle.history.proofs.Puts.{in_puts, of_put, put_at, puts-append}
use Rattle.history.proofs.SameVersions.{AreSameUpTo, answers_alike, pages_alike}
use Rattle.history.proofs.Places.{AreEntered, at_take, inside_take}

module _ {K : Type 0} {setup : Setup} {events : List (Event K)} (entered : AreEntered setup events) (n : ℕ)
    (within : n ≤ length events) where
  -- where the last stamp of a node among the first n events is not below a stamp, later events of the node are above it
  above_last : (node stamp : ℕ) → stamp ≤ code_of (last_stamp (take n events) node) → (place : ℕ) → n ≤ place
      → place < length events → (event_at events place).node ≡ node
      → stamp < code_of (event_at events place).stamp
  above_last node stamp passed place behind inside same = elim (has_last events node n within) [
    | inl last ↦
        let less = nodes_rise entered last.0 place (omega (arith, last.1.before, behind)) inside (last.1.of_node ∙ sym same) in
        omega (arith, passed, less, ap code_of last.1.stamp)
    | inr none ↦ omega (arith, passed, ap code_of none.stamp, not_early entered place inside, (entered place inside).reading)
  ]

  -- and the last stamp of the node among all events is not below it
  last_rises : (node stamp : ℕ) → stamp ≤ code_of (last_stamp (take n events) node) → stamp ≤ code_of (last_stamp events node)
  last_rises node stamp passed = elim (has_last events node n within) [
    | inr none ↦ omega (arith, passed, ap code_of none.stamp)
    | inl first ↦
        let inside : first.0 < length events = omega (arith, first.1.before, within) in
        let above : stamp ≤ code_of (event_at events first.0).stamp = omega (arith, passed, ap code_of first.1.stamp) in
        rw (← take-length events) (elim (has_last events node (length events) (omega arith)) [
          | inr none ↦ absurd (none.none first.0 inside first.1.of_node)
          | inl last ↦ rw (← last.1.stamp) (elim (cases_order first.0 last.0) [
            | inl same ↦ rw (← same) above
            | inr (inl less) ↦ omega (
              arith,
              above,
              nodes_rise entered first.0 last.0 less last.1.before (first.1.of_node ∙ sym last.1.of_node),
            )
            | inr (inr more) ↦ absurd (last.1.none_behind first.0 inside more first.1.of_node)
          ])
        ])
  ]

  -- where all later events are above a stamp, no later put is at or below it
  module _ (stamp : ℕ) (above : (place : ℕ) → n ≤ place → place < length events → stamp < code_of (event_at events place).stamp)
    where
      not_later : (v : Version K) → v.stamp ≤ stamp → IsIn v (puts events) → IsIn v (puts (take n events))
      not_later v below is_in =
          let put = put_at events v is_in in
          let e = event_at events put.place in
          elim (cases_lt put.place n) [
            | inl before ↦ in_puts (take n events) v put.place (inside_take events n put.place before within)
                (rw (at_take events n put.place before) put.is)
            | inr behind ↦ absurd (omega (arith, below, above put.place behind put.inside, (of_put e e.what v put.is).stamp))
          ]

      same_puts : AreSameUpTo stamp (puts (take n events)) (puts events)
      same_puts = record {
        there = λ v below is_in. subst (λ es. IsIn v (puts es)) (take-append-drop n events)
            (rw (puts-append (take n events) (drop n events)) (in_append v _ _ (inl is_in)));
        back = not_later;
      }

module _ {K : Type 0} (order : K → K → Ordering) (setup : Setup) (earlier later : List (Entry K)) (stamp : ℕ)
    (written : IsHistory order setup (earlier ++ later)) where
  entered : AreEntered setup (events_of (earlier ++ later))
  entered = are_entered order setup (earlier ++ later) written

  lengths : length (events_of (earlier ++ later)) ≡ length (events_of earlier) + length (events_of later)
  lengths = ap length (events_of-append earlier later) ∙ length-append (events_of earlier) (events_of later)

  -- the earlier events are the first: so many
  abbrev first : ℕ
  first = length (events_of earlier)

  within : first ≤ length (events_of (earlier ++ later))
  within = omega (arith, lengths)

  are_first : take first (events_of (earlier ++ later)) ≡ events_of earlier
  are_first = ap (take first) (events_of-append earlier later) ∙ take-append_seam (events_of earlier) (events_of later)

  -- a closed recorder takes no event
  none_after_close : IsIn Closed earlier → (j : ℕ) → j < length (events_of later) → ⊥
  none_after_close closed j inside =
      let entry = has_entry later j inside in
      let place = length earlier + entry.place in
      let is : entry_at (earlier ++ later) place ≡ Entered (event_at (events_of later) j) =
      get_or-append-add earlier later entry.place Closed ∙ entry.is in
      let may = subst (MayBeWritten order setup (take place (earlier ++ later))) is
      (written place (omega (arith, entry.inside, length-append earlier later))) in
      may.0 (subst (IsIn Closed) (sym (take-append-add earlier later entry.place))
      (in_append Closed earlier (take entry.place later) (inl closed)))

  -- a settled stamp stays settled, and all later events are above it, so that the puts at or below it stay the same
  stays_settled : IsSettled setup earlier stamp → IsSettled setup (earlier ++ later) stamp
  stays_settled (inl closed) = inl (in_append Closed earlier later (inl closed))
  stays_settled (inr passed) = inr (λ node is. last_rises entered first within node stamp (rw are_first (passed node is)))

  all_above : IsSettled setup earlier stamp → (place : ℕ) → first ≤ place → place < length (events_of (earlier ++ later))
      → stamp < code_of (event_at (events_of (earlier ++ later)) place).stamp
  all_above (inl closed) place behind inside =
      absurd (none_after_close closed (place - first) (omega (arith, behind, inside, lengths)))
  all_above (inr passed) place behind inside =
      above_last entered first within _ stamp (rw are_first (passed _ (entered place inside).node)) place behind inside refl

  pub settled_puts : IsSettled setup earlier stamp
      → AreSameUpTo stamp (puts (events_of earlier)) (puts (events_of (earlier ++ later)))
  settled_puts settled = subst (λ events. AreSameUpTo stamp (puts events) (puts (events_of (earlier ++ later)))) are_first
      (same_puts entered first within stamp (all_above settled))

  pub leaves_answers : IsSettled setup earlier stamp → LeavesAnswers order setup earlier later stamp
  leaves_answers settled = record {
    settled = stays_settled settled;
    reads = λ key answer. answers_alike (settled_puts settled) key answer;
    cuts = λ rows. pages_alike order (settled_puts settled) rows;
  }
