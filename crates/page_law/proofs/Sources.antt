-- Where the rows of a final page come from.
use Rattle.std.proofs.Common.{◌≡◌, ℕ, zero, suc, ◌<◌, inl, inr, Bool, true, false, List, [], ◌∷◌, length, map, get_or, Some, refl}
use Rattle.std.proofs.Common.{sym, ap, ◌∙◌, arith}
use Rattle.std.specs.List.{find}
use Rattle.std.specs.declared.cmp.Ordering.{Ordering}
use Rattle.std.proofs.lemmas.Bool.{cases_order}
use Rattle.std.proofs.lemmas.Bool.Decides.{nat_tests}
use Rattle.std.proofs.lemmas.List.{get_or-map, length-map}
use Rattle.history.specs.Before.{InOneStep, OnOneNode}
use Rattle.history.specs.Events.{Event, event_at, no_event, puts, version_of}
use Rattle.history.specs.History.{Entry, Setup, events_of}
use Rattle.history.specs.Law.{IsLawful, Later}
use Rattle.history.proofs.Lists.{at_in, placed}
use Rattle.history.proofs.Places.{NodesRise}
use Rattle.history.proofs.Puts.{of_put, put_at}
use Rattle.stamps.specs.Stamp.{code_of}
use Rattle.store.specs.Newest.{IsIn}
use Rattle.store.specs.declared.version.Version.{Version}
use Rattle.trace.specs.Contents.{Content}
use Rattle.trace_history.specs.Events.{Numbered}
use Rattle.trace_history.specs.Source.{is_source}
use Rattle.trace_history.specs.Trace.{trace_events}
use Rattle.trace_run.specs.Calls.{KeyForm}
use Rattle.trace_run.specs.SetUp.{SetUpNumbers}
use Rattle.page_law.specs.Inspected.{HasPut, IsFrom, events}
use Rattle.page_law.proofs.Recorded.{recorded}

-- a search finds the first that passes
finds_first : {X : Type 0} (test : X → Bool) (d : X) (xs : List X) (place : ℕ) → place < length xs
    → test (get_or xs place d) ≡ true → ((i : ℕ) → i < place → test (get_or xs i d) ≡ false)
    → find test xs ≡ Some (get_or xs place d)
finds_first test d [] place inside passes first = absurd (omega (arith, inside))
finds_first test d (x ∷ xs) zero inside passes first = rw passes refl
finds_first test d (x ∷ xs) (suc place) inside passes first =
    rw (first 0 (omega arith))
    (finds_first test d xs place (omega (arith, inside)) passes (λ i less. first (suc i) (omega (arith, less))))

module _ {K : Type 0} where
  -- a law that has every stamp later than those before it has the stamps of each node rise
  pub rise : (order : K → K → Ordering) (setup : Setup) (history : List (Entry K)) → IsLawful order setup history
      → NodesRise (events_of history)
  rise order setup history lawful i j less inside same = lawful Later i j (InOneStep (OnOneNode less inside same))

  abbrev nothing : Numbered K
  nothing = record { number = 0; event = no_event }

  module _ (v : Version K) (numbered : List (Numbered K)) where
    abbrev only : List (Event K)
    only = map (λ e. e.event) numbered

    at_place : (i : ℕ) → i < length numbered → event_at only i ≡ (get_or numbered i nothing).event
    at_place i inside = get_or-map (λ e. e.event) numbered i nothing no_event inside

    -- one of a node's stamp comes first, so that none before it has the version's
    module _ (rises : NodesRise only) (place : ℕ) (inside : place < length numbered)
        (node : v.node ≡ (event_at only place).node) (stamp : v.stamp ≡ code_of (event_at only place).stamp) where
      within : place < length only
      within = omega (arith, inside, length-map numbered (λ e. e.event))

      -- an event of its node and stamp stands neither before nor behind that place
      at_place_only : (i : ℕ) → i < length numbered → v.node ≡ (get_or numbered i nothing).event.node
          → v.stamp ≡ code_of (get_or numbered i nothing).event.stamp → i ≡ place
      at_place_only i there same_node same_stamp =
          let is = at_place i there in
          let of_node : (event_at only i).node ≡ (event_at only place).node = grind (arith, is, node, same_node) in
          let of_stamp : code_of (event_at only i).stamp ≡ code_of (event_at only place).stamp =
          grind (arith, is, stamp, same_stamp) in
          let too : i < length only = omega (arith, there, length-map numbered (λ e. e.event)) in
          elim (cases_order i place) [
            | inl same ↦ same
            | inr (inl before) ↦ absurd (omega (arith, rises i place before within of_node, of_stamp))
            | inr (inr behind) ↦ absurd (omega (arith, rises place i behind too (sym of_node), of_stamp))
          ]

      no_source : (i : ℕ) → i < place → (b : Bool) → is_source v (get_or numbered i nothing) ≡ b → b ≡ false
      no_source i less true is =
          let there : i < length numbered = omega (arith, less, inside) in
          absurd (omega (arith, less, at_place_only i there (grind (arith, nat_tests, is)) (grind (arith, nat_tests, is))))
      no_source i less false is = refl

      found : find (is_source v) numbered ≡ Some (get_or numbered place nothing)
      found =
          let is = at_place place inside in
          finds_first (is_source v) nothing numbered place inside (grind (arith, nat_tests, is, node, stamp))
          (λ i less. no_source i less _ refl)

      no_other : (other : Numbered K) → IsIn other numbered → version_of other.event other.event.what ≡ Some v
          → other ≡ get_or numbered place nothing
      no_other other is_in put =
          let stands = placed nothing other numbered is_in in
          let of = of_put other.event other.event.what v put in
          let same : stands.0 ≡ place =
          at_place_only stands.0 stands.1 (rw stands.2 of.node) (rw stands.2 of.stamp) in
          sym stands.2 ∙ ap (λ i. get_or numbered i nothing) same

module _ {K : Type 0} (form : KeyForm K) (order : K → K → Ordering) (setup : SetUpNumbers) (ms : List Content)
    (rises : NodesRise (events form order setup ms)) where
  pub from : (v : Version K) → IsIn v (puts (events form order setup ms))
      → (e : Numbered K) × IsFrom form order setup ms v e
  from v is_in =
      let all = trace_events form order setup ms in
      let put = put_at (events form order setup ms) v is_in in
      let inside : put.place < length all = omega (arith, put.inside, length-map all (λ e. e.event)) in
      let there = at_place v all put.place inside in
      let e = event_at (events form order setup ms) put.place in
      let of = of_put e e.what v put.is in
      let is_put : HasPut form order setup ms v (get_or all put.place nothing) = rw (← there) put.is in (
        get_or all put.place nothing,
        record {
          put = is_put;
          recorded = recorded form order setup ms v _ (at_in nothing all put.place inside) is_put;
          no_other = no_other v all rises put.place inside of.node of.stamp;
          found = found v all rises put.place inside of.node of.stamp;
        },
      )
