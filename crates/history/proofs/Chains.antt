-- What single steps say of an event's stamp, all that happened before it says too: its time is the largest reading, its counter
-- the length of the longest chain, and it is later.
use Rattle.std.proofs.Common.{◌≡◌, ℕ, suc, ◌+◌, ◌<◌, ◌≤◌, ◌⊎◌, inl, inr, List, [], ◌∷◌, ◌++◌, length, refl, sym, ◌∙◌, subst}
use Rattle.std.proofs.Common.{arith}
use Rattle.std.proofs.lemmas.List.{length_push}
use Rattle.stamps.specs.Stamp.{Timestamp}
use Rattle.store.specs.Newest.{IsIn}
use Rattle.history.specs.Events.{Event, event_at}
use Rattle.history.specs.Before.{HappenedBefore, InMoreSteps, InOneStep, IsChain, IsChainTo, IsLargestReading, IsLongestChain}
use Rattle.history.specs.Before.{IsStep, IsUpTo}
use Rattle.history.proofs.Lists.{by_earlier, each_push}
use Rattle.history.proofs.Places.{before_less, step_less, step_to}

-- t has a larger time than s, or the same and a larger counter
pub record IsLater (s t : Timestamp) : Type 0 where
  pub time : s.time ≤ t.time
  pub counter : s.time ≡ t.time → s.counter < t.counter

pub later_through : {s t u : Timestamp} → IsLater s t → IsLater t u → IsLater s u
later_through {s} {t} {u} first second = record {
  time = omega (arith, first.time, second.time);
  counter = λ same.
      let left : s.time ≡ t.time = omega (arith, first.time, second.time, same) in
      let right : t.time ≡ u.time = omega (arith, first.time, second.time, same) in
      omega (arith, first.counter left, second.counter right);
}

-- The stamp of event j, and the events from which one step leads to it.
pub record Follows {K : Type 0} (events : List (Event K)) (j : ℕ) : Type 0 where
  pub later : (i : ℕ) → IsStep events i j → IsLater (event_at events i).stamp (event_at events j).stamp
  pub own : (event_at events j).reading ≤ (event_at events j).stamp.time
  pub time :
      ((event_at events j).reading ≡ (event_at events j).stamp.time)
      ⊎ ((i : ℕ) × IsStep events i j × ((event_at events i).stamp.time ≡ (event_at events j).stamp.time))
  pub counter :
      ((event_at events j).stamp.counter ≡ 0)
      ⊎ ((i : ℕ) × IsStep events i j × ((event_at events i).stamp.time ≡ (event_at events j).stamp.time)
      × ((event_at events j).stamp.counter ≡ suc (event_at events i).stamp.counter))

module _ {K : Type 0} (events : List (Event K)) where
  -- a chain goes on with an event that happened after all of it
  chain_end : (i : ℕ) (chain : List ℕ) → IsChain events chain → ((k : ℕ) → IsIn k chain → HappenedBefore events k i)
      → IsChain events (chain ++ i ∷ [])
  chain_end i [] is all = tt
  chain_end i (j ∷ []) is all = (all j (inl refl), tt)
  chain_end i (j ∷ k ∷ chain) is all = (is.0, chain_end i (k ∷ chain) is.1 (λ l there. all l (inr there)))

  module _ (follows : (j : ℕ) → j < length events → Follows events j) where
    -- what happened before has an earlier stamp
    pub later : {i j : ℕ} → HappenedBefore events i j → IsLater (event_at events i).stamp (event_at events j).stamp
    later {i} {j} (InOneStep step) = (follows j (step_to step)).later i step
    later {i} {j} (InMoreSteps {j = k} before step) = later_through (later before) ((follows j (step_to step)).later k step)

    -- the time is at least each reading up to it
    none_larger : (j : ℕ) → j < length events → (i : ℕ) → IsUpTo events i j
        → (event_at events i).reading ≤ (event_at events j).stamp.time
    none_larger j inside i (inl same) = rw same (follows j inside).own
    none_larger j inside i (inr before) =
        let less = before_less before in
        omega (arith, (later before).time, (follows i (omega (arith, less, inside))).own)

    -- and is one of them
    has_reading : (j : ℕ) → j < length events
        → (i : ℕ) × IsUpTo events i j × ((event_at events i).reading ≡ (event_at events j).stamp.time)
    has_reading = by_earlier _ (λ j earlier inside. elim (follows j inside).time [
      | inl own ↦ (j, inl refl, own)
      | inr from ↦
          let less = step_less from.1 in
          let found = earlier from.0 less (omega (arith, less, inside)) in (
            found.0,
            elim found.1 [
              | inl same ↦ inr (InOneStep (subst (λ k. IsStep events k j) (sym same) from.1))
              | inr before ↦ inr (InMoreSteps before from.1)
            ],
            found.2 ∙ from.2,
          )
    ])

    pub largest : (j : ℕ) → j < length events → IsLargestReading events j (event_at events j).stamp.time
    largest j inside = record { one = has_reading j inside; none_larger = none_larger j inside }

    -- some chain is as long as the counter
    has_chain : (j : ℕ) → j < length events
        → (chain : List ℕ) × IsChainTo events j chain × (length chain ≡ (event_at events j).stamp.counter)
    has_chain = by_earlier _ (λ j earlier inside. elim (follows j inside).counter [
      | inl none ↦ (
        [],
        record { is_chain = tt; before = λ i there. elim there [ ]; of_its_time = λ i there. elim there [ ] },
        sym none,
      )
      | inr from ↦
          let less = step_less from.1 in
          let found = earlier from.0 less (omega (arith, less, inside)) in (
            found.0 ++ from.0 ∷ [],
            record {
              is_chain = chain_end from.0 found.0 found.1.is_chain found.1.before;
              before = each_push _ from.0 found.0 (λ i there. InMoreSteps (found.1.before i there) from.1) (InOneStep from.1);
              of_its_time = each_push _ from.0 found.0 (λ i there. found.1.of_its_time i there ∙ from.2) from.2;
            },
            omega (arith, length_push found.0 from.0, found.2, from.3),
          )
    ])

    -- counters rise along a chain,
    counters_rise : (j i : ℕ) (chain : List ℕ) → IsChainTo events j (i ∷ chain)
        → (event_at events i).stamp.counter + length (i ∷ chain) ≤ (event_at events j).stamp.counter
    counters_rise j i [] is = omega (arith, (later (is.before i (inl refl))).counter (is.of_its_time i (inl refl)))
    counters_rise j i (k ∷ chain) is =
        let rest = counters_rise j k chain (record {
          is_chain = is.is_chain.1;
          before = λ l there. is.before l (inr there);
          of_its_time = λ l there. is.of_its_time l (inr there);
        }) in
        let step = (later is.is_chain.0).counter (is.of_its_time i (inl refl) ∙ sym (is.of_its_time k (inr (inl refl)))) in
        omega (arith, rest, step)

    -- so that none is longer than the counter
    none_longer : (j : ℕ) (chain : List ℕ) → IsChainTo events j chain → length chain ≤ (event_at events j).stamp.counter
    none_longer j [] is = omega arith
    none_longer j (i ∷ chain) is = omega (arith, counters_rise j i chain is)

    pub longest : (j : ℕ) → j < length events → IsLongestChain events j (event_at events j).stamp.counter
    longest j inside = record { one = has_chain j inside; none_longer = none_longer j }
