-- Two orders of the same events have the same stamps.
use Rattle.std.proofs.Common.{◌≡◌, ℕ, ◌<◌, ◌≤◌, ◌⊎◌, inl, inr, List, [], ◌∷◌, length, map, take, sym, ap, ◌∙◌, subst, arith}
use Rattle.std.proofs.lemmas.Bool.{cases_order}
use Rattle.std.proofs.lemmas.List.{length-map, length-take-le}
use Rattle.history.specs.Before.{ByMessage, HappenedBefore, InMoreSteps, InOneStep, IsChain, IsChainTo, IsLargestReading}
use Rattle.history.specs.Before.{IsLastSend, IsLongestChain, IsStep, IsUpTo, OnOneNode}
use Rattle.history.specs.History.{IsReceived, IsStamped, Setup}
use Rattle.history.specs.Events.{Event, Receipt, Send, event_at}
use Rattle.history.proofs.Lists.{of_map}
use Rattle.history.proofs.Places.{AreEntered, at_take, before_less, before_to, last_send_once}
use Rattle.history.specs.Unique.{AreSentOnce, IsReordering, KeepsMessages}

module _ {K : Type 0} (events : List (Event K)) where
  -- each event's time is the largest reading up to it
  abbrev AreTimed : Type 0
  AreTimed = (j : ℕ) → j < length events → IsLargestReading events j (event_at events j).stamp.time

  -- and its counter the length of the longest chain to it
  abbrev AreCounted : Type 0
  AreCounted = (j : ℕ) → j < length events → IsLongestChain events j (event_at events j).stamp.counter

  -- the last send before an event is an earlier event, and sends the number in the whole list too
  earlier_send : (j : ℕ) {number i : ℕ} → j < length events → IsLastSend (take j events) number i
      → (i < j) × ((event_at events i).what ≡ Send number)
  earlier_send j {number} {i} inside last =
      let less : i < j = omega (arith, last.inside, length-take-le j events) in
      (less, ap (λ e. e.what) (sym (at_take events j i less)) ∙ last.sends)

  -- an entered receipt has the stamp of one
  receipt_of : {setup : Setup} (j number : ℕ) → AreEntered setup events → j < length events
      → (event_at events j).what ≡ Receipt number
      → IsReceived setup.lead (take j events) (event_at events j) number
  receipt_of {setup} j number entered inside is =
      subst (IsStamped setup.lead (take j events) (event_at events j)) is (entered j inside).stamped

module _ {K : Type 0} (one other : List (Event K)) (to : ℕ → ℕ) where
  -- this is the same of each event there
  abbrev pub AreKept : {X : Type 0} → (Event K → X) → Type 0
  AreKept of = (i : ℕ) → i < length one → of (event_at other (to i)) ≡ of (event_at one i)

  -- this number of each event is no larger than there
  abbrev AreAtMost : (Event K → ℕ) → Type 0
  AreAtMost of = (i : ℕ) → i < length one → of (event_at one i) ≤ of (event_at other (to i))

module _ {K : Type 0} {one other : List (Event K)} {to from : ℕ → ℕ} (moved : IsReordering one other to from) where
  -- what is kept on the way there is kept on the way back
  kept_back : {X : Type 0} (of : Event K → X) → AreKept one other to of → AreKept other one from of
  kept_back of kept i inside = let back = moved.back i inside in
      sym (kept (from i) back.0) ∙ ap (λ place. of (event_at other place)) back.1

  in_order_back : (i j : ℕ) → i < j → j < length other → (event_at other i).node ≡ (event_at other j).node → from i < from j
  in_order_back i j less inside same =
      let first = moved.back i (omega arith) in
      let second = moved.back j inside in
      let node = kept_back (λ e. e.node) moved.node in
      let one_node = node i (omega arith) ∙ same ∙ sym (node j inside) in
      elim (cases_order (from i) (from j)) [
        | inl equal ↦ absurd (omega (arith, sym first.1 ∙ ap to equal ∙ second.1))
        | inr (inl before) ↦ before
        | inr (inr after) ↦ absurd (omega
            (arith, moved.in_order (from j) (from i) after first.0 (sym one_node), first.1, second.1))
      ]

  -- the other order is a reordering back
  turned : IsReordering other one from to
  turned = record {
    there = moved.back;
    back = moved.there;
    node = kept_back (λ e. e.node) moved.node;
    reading = kept_back (λ e. e.reading) moved.reading;
    what = kept_back (λ e. e.what) moved.what;
    in_order = in_order_back;
  }

  -- Messages are kept where each number is sent once, and on the way back where they are on the way there.
  keeps_there : {setup : Setup} → AreEntered setup other → KeepsMessages one other to ⊎ AreSentOnce one
      → KeepsMessages one other to
  keeps_there entered (inl keeps) = keeps
  keeps_there entered (inr once) = λ number i j inside is last.
      let moved_inside = (moved.there j inside).0 in
      let receipt = receipt_of other (to j) number entered moved_inside (moved.what j inside ∙ is) in
      let send = earlier_send other (to j) moved_inside receipt.last_send in
      let first = earlier_send one j inside last in
      let back = moved.back receipt.send (omega arith) in
      let sends = kept_back (λ e. e.what) moved.what receipt.send (omega arith) ∙ send.1 in
      let same = once number (from receipt.send) i back.0 (omega arith) sends first.1 in
      subst (IsLastSend (take (to j) other) number) (sym back.1 ∙ ap to same) receipt.last_send

  keeps_back : {setup : Setup} → AreEntered setup one → KeepsMessages one other to → KeepsMessages other one from
  keeps_back entered keeps number i j inside is last =
      let back = moved.back j inside in
      let receipt_is = kept_back (λ e. e.what) moved.what j inside ∙ is in
      let receipt = receipt_of one (from j) number entered back.0 receipt_is in
      let send = earlier_send one (from j) back.0 receipt.last_send in
      let there = subst (λ place. IsLastSend (take place other) number (to receipt.send)) back.1
      (keeps number receipt.send (from j) back.0 receipt_is receipt.last_send) in
      let same = sym (moved.there receipt.send (omega arith)).1 ∙ ap from (last_send_once there last) in
      subst (IsLastSend (take (from j) one) number) same receipt.last_send

  module _ (keeps : KeepsMessages one other to) where
    -- steps are steps there, and what happened before happened before
    step_there : (i j : ℕ) → IsStep one i j → IsStep other (to i) (to j)
    step_there i j (OnOneNode less inside same) =
        OnOneNode (moved.in_order i j less inside same) (moved.there j inside).0
        (moved.node i (omega arith) ∙ same ∙ sym (moved.node j inside))
    step_there i j (ByMessage number inside is last) =
        ByMessage number (moved.there j inside).0 (moved.what j inside ∙ is) (keeps number i j inside is last)

    before_there : (i j : ℕ) → HappenedBefore one i j → HappenedBefore other (to i) (to j)
    before_there i j (InOneStep step) = InOneStep (step_there i j step)
    before_there i j (InMoreSteps {j = k} before step) = InMoreSteps (before_there i k before) (step_there k j step)

    -- a time is no larger than the time there
    up_to_there : (i j : ℕ) → j < length one → IsUpTo one i j → (i < length one) × IsUpTo other (to i) (to j)
    up_to_there i j inside (inl same) = (omega (arith, same), inl (ap to same))
    up_to_there i j inside (inr before) = (omega (arith, before_less before, inside), inr (before_there i j before))

    time_at_most : AreTimed one → AreTimed other → AreAtMost one other to (λ e. e.stamp.time)
    time_at_most times other_times j inside =
        let largest = (times j inside).one in
        let there = up_to_there largest.0 j inside largest.1 in
        omega (
          arith,
          largest.2,
          moved.reading largest.0 there.0,
          (other_times (to j) (moved.there j inside).0).none_larger (to largest.0) there.1,
        )

    -- where events keep their times, a counter is no larger than the counter there
    module _ (times : AreKept one other to (λ e. e.stamp.time)) where
      chain_there : (chain : List ℕ) → IsChain one chain → IsChain other (map to chain)
      chain_there [] is = tt
      chain_there (i ∷ []) is = tt
      chain_there (i ∷ j ∷ chain) is = (before_there i j is.0, chain_there (j ∷ chain) is.1)

      chain_to_there : (j : ℕ) (chain : List ℕ) → IsChainTo one j chain → IsChainTo other (to j) (map to chain)
      chain_to_there j chain is = record {
        is_chain = chain_there chain is.is_chain;
        before = of_map (λ i. HappenedBefore other i (to j)) to chain (λ i is_in. before_there i j (is.before i is_in));
        of_its_time = of_map (λ i. (event_at other i).stamp.time ≡ (event_at other (to j)).stamp.time) to chain (λ i is_in.
            let before = is.before i is_in in
            times i (omega (arith, before_less before, before_to before)) ∙ is.of_its_time i is_in
            ∙ sym (times j (before_to before)));
      }

      counter_at_most : AreCounted one → AreCounted other → AreAtMost one other to (λ e. e.stamp.counter)
      counter_at_most counters other_counters j inside =
          let longest = (counters j inside).one in
          let there = chain_to_there j longest.0 longest.1 in
          omega (
            arith,
            longest.2,
            length-map longest.0 to,
            (other_counters (to j) (moved.there j inside).0).none_longer (map to longest.0) there,
          )

  -- a number that is no larger on the way there, nor on the way back, is the same
  same_number : (of : Event K → ℕ) → AreAtMost one other to of → AreAtMost other one from of → AreKept one other to of
  same_number of above below i inside =
      let there = moved.there i inside in
      omega (arith, above i inside, below (to i) there.0, ap (λ place. of (event_at one place)) there.1)

-- the same events in two orders have the same stamps
module _ {K : Type 0} {setup other_setup : Setup} {one other : List (Event K)} {to from : ℕ → ℕ} where
  pub stamps_same : AreEntered setup one → AreEntered other_setup other → AreTimed one → AreCounted one → AreTimed other
      → AreCounted other
      → IsReordering one other to from → KeepsMessages one other to ⊎ AreSentOnce one → AreKept one other to (λ e. e.stamp)
  stamps_same entered other_entered times counters other_times other_counters moved messages i inside =
      let keeps = keeps_there moved other_entered messages in
      let keeps_from = keeps_back moved entered keeps in
      let back = turned moved in
      let time = same_number moved (λ e. e.stamp.time) (time_at_most moved keeps times other_times)
      (time_at_most back keeps_from other_times times) in
      let time_back = kept_back moved (λ e. e.stamp.time) time in
      let counters_there = counter_at_most moved keeps time counters other_counters in
      let counters_back = counter_at_most back keeps_from time_back other_counters counters in
      let counter = same_number moved (λ e. e.stamp.counter) counters_there counters_back in
      λ k. record { time = time i inside k; counter = counter i inside k }
