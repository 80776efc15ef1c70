-- Where events stand, and which step leads where.
use Rattle.std.proofs.Common.{◌≡◌, ℕ, ◌<◌, ◌≤◌, inl, inr, List, length, arith}
use Rattle.std.proofs.lemmas.Bool.{cases_order}
use Rattle.std.proofs.lemmas.List.{get_or-take, length-take-le}
use Rattle.std.specs.Prelude.{take}
use Rattle.stamps.specs.Stamp.{code_of}
use Rattle.store.specs.Newest.{IsIn}
use Rattle.history.specs.Events.{Event, event_at, no_event}
use Rattle.history.specs.Before.{HappenedBefore, InMoreSteps, InOneStep, IsLastSend, IsStep, ByMessage, OnOneNode}
use Rattle.history.specs.History.{MayEnter, Setup}
use Rattle.history.proofs.Lists.{at_in}

module _ {K : Type 0} where
  -- each of the events may be entered behind those before it
  abbrev pub AreEntered : Setup → List (Event K) → Type 0
  AreEntered setup events = (j : ℕ) → j < length events → MayEnter setup (take j events) (event_at events j)

  -- the stamps of each node rise
  abbrev pub NodesRise : List (Event K) → Type 0
  NodesRise events = (i j : ℕ) → i < j → j < length events → (event_at events i).node ≡ (event_at events j).node
      → code_of (event_at events i).stamp < code_of (event_at events j).stamp

  -- the first n events stand where they stand among all
  pub at_take : (events : List (Event K)) (n place : ℕ) → place < n → event_at (take n events) place ≡ event_at events place
  at_take events n place before = get_or-take n events place no_event before

  pub inside_take : (events : List (Event K)) (n place : ℕ) → place < n → n ≤ length events → place < length (take n events)
  inside_take events n place before within = omega (arith, before, length-take-le n events within)

  pub in_take : (events : List (Event K)) (n place : ℕ) → place < n → n ≤ length events
      → IsIn (event_at events place) (take n events)
  in_take events n place before within =
      rw (← at_take events n place before) (at_in no_event (take n events) place (inside_take events n place before within))

module _ {K : Type 0} {events : List (Event K)} where
  -- a number has one last send
  pub last_send_once : {number i j : ℕ} → IsLastSend events number i → IsLastSend events number j → i ≡ j
  last_send_once {i = i} {j = j} first second = elim (cases_order i j) [
    | inl same ↦ same
    | inr (inl less) ↦ absurd (first.none_behind j less second.inside second.sends)
    | inr (inr more) ↦ absurd (second.none_behind i more first.inside first.sends)
  ]

  -- steps lead to later events, and so does what happened before
  pub step_to : {i j : ℕ} → IsStep events i j → j < length events
  step_to (OnOneNode before inside same) = inside
  step_to (ByMessage number inside receipt last) = inside

  pub step_less : {i j : ℕ} → IsStep events i j → i < j
  step_less (OnOneNode before inside same) = before
  step_less {j} (ByMessage number inside receipt last) =
      omega (arith, last.inside, inside, length-take-le j events (omega (arith, inside)))

  pub before_to : {i j : ℕ} → HappenedBefore events i j → j < length events
  before_to (InOneStep step) = step_to step
  before_to (InMoreSteps before step) = step_to step

  pub before_less : {i j : ℕ} → HappenedBefore events i j → i < j
  before_less (InOneStep step) = step_less step
  before_less (InMoreSteps before step) = omega (arith, before_less before, step_less step)
