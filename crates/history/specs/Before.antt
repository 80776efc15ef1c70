-- "Happened before", chains of events, and what both say of times and counters.
use Rattle.std.specs.Prelude.{◌≡◌, ◌≢◌, ℕ, ◌<◌, ◌≤◌, ◌⊎◌, ⊤, List, [], ◌∷◌, length, take}
use Rattle.store.specs.Newest.{IsIn}
use Rattle.history.specs.Events.{Event, Receipt, Send, event_at}

-- Event i is the last of these that sent the message of this number.
pub record IsLastSend {K : Type 0} (events : List (Event K)) (number i : ℕ) : Type 0 where
  pub inside : i < length events
  pub sends : (event_at events i).what ≡ Send number
  pub none_behind : (other : ℕ) → i < other → other < length events → (event_at events other).what ≢ Send number

-- One step from event i to event j: both are of one node and i was accepted earlier; or j is a receipt, and i is the last event
-- before it that sent its message number.
pub data IsStep {K : Type 0} (events : List (Event K)) (i j : ℕ) : Type 0 where
  OnOneNode : i < j → j < length events → (event_at events i).node ≡ (event_at events j).node → IsStep events i j
  ByMessage : (number : ℕ) → j < length events → (event_at events j).what ≡ Receipt number → IsLastSend (take j events) number i
      → IsStep events i j

-- Event i happened before event j: one step leads from i to j, or several one after another do.
pub data HappenedBefore {K : Type 0} (events : List (Event K)) (i : ℕ) : ℕ → Type 0 where
  InOneStep : {j : ℕ} → IsStep events i j → HappenedBefore events i j
  InMoreSteps : {j k : ℕ} → HappenedBefore events i j → IsStep events j k → HappenedBefore events i k

module _ {K : Type 0} (events : List (Event K)) where
  -- A chain is a list of places of events, each of which happened before the next. Its length is the number of its events.
  abbrev pub IsChain : List ℕ → Type 0
  IsChain [] = ⊤
  IsChain (i ∷ []) = ⊤
  IsChain (i ∷ j ∷ chain) = HappenedBefore events i j × IsChain (j ∷ chain)

  -- a chain of events that happened before event j and have its time
  pub record IsChainTo (j : ℕ) (chain : List ℕ) : Type 0 where
    pub is_chain : IsChain chain
    pub before : (i : ℕ) → IsIn i chain → HappenedBefore events i j
    pub of_its_time : (i : ℕ) → IsIn i chain → (event_at events i).stamp.time ≡ (event_at events j).stamp.time

  -- n is the length of the longest such chain: one is so long, and none longer
  pub record IsLongestChain (j n : ℕ) : Type 0 where
    pub one : (chain : List ℕ) × IsChainTo j chain × (length chain ≡ n)
    pub none_longer : (chain : List ℕ) → IsChainTo j chain → length chain ≤ n

  -- event i is event j, or happened before it
  abbrev pub IsUpTo : ℕ → ℕ → Type 0
  IsUpTo i j = (i ≡ j) ⊎ HappenedBefore events i j

  -- t is the largest reading among event j and the events that happened before it: one of them has it, and none a larger
  pub record IsLargestReading (j t : ℕ) : Type 0 where
    pub one : (i : ℕ) × IsUpTo i j × ((event_at events i).reading ≡ t)
    pub none_larger : (i : ℕ) → IsUpTo i j → (event_at events i).reading ≤ t
