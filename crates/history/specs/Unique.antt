-- What a history determines: its answers, and its stamps.
use Rattle.std.specs.Prelude.{◌≡◌, ℕ, ◌<◌, ◌⊎◌, ◌↔◌, List, length, take, Option}
use Rattle.std.specs.declared.cmp.Ordering.{Ordering}
use Rattle.store.specs.Newest.{IsOnlyAnswer, IsReadAnswer}
use Rattle.store.specs.Page.{IsOnlyPage, IsPage}
use Rattle.store.specs.declared.version.Version.{Version}
use Rattle.history.specs.Events.{Event, Receipt, Send, event_at, puts}
use Rattle.history.specs.Before.{IsLastSend}
use Rattle.history.specs.History.{Entry, IsHistory, Setup, events_of}

-- The same events in two orders, which may differ in their stamps: event i of the one is event (to i) of the other, and back.
-- Each node's own events keep their order.
pub record IsReordering {K : Type 0} (one other : List (Event K)) (to from : ℕ → ℕ) : Type 0 where
  pub there : (i : ℕ) → i < length one → (to i < length other) × (from (to i) ≡ i)
  pub back : (i : ℕ) → i < length other → (from i < length one) × (to (from i) ≡ i)
  pub node : (i : ℕ) → i < length one → (event_at other (to i)).node ≡ (event_at one i).node
  pub reading : (i : ℕ) → i < length one → (event_at other (to i)).reading ≡ (event_at one i).reading
  pub what : (i : ℕ) → i < length one → (event_at other (to i)).what ≡ (event_at one i).what
  pub in_order : (i j : ℕ) → i < j → j < length one → (event_at one i).node ≡ (event_at one j).node → to i < to j

-- each receipt is of the same send in both orders
abbrev pub KeepsMessages : {K : Type 0} (one other : List (Event K)) (to : ℕ → ℕ) → Type 0
KeepsMessages one other to = (number i j : ℕ) → j < length one → (event_at one j).what ≡ Receipt number
    → IsLastSend (take j one) number i → IsLastSend (take (to j) other) number (to i)

-- each message number is sent once
abbrev pub AreSentOnce : {K : Type 0} → List (Event K) → Type 0
AreSentOnce events = (number i j : ℕ) → i < length events → j < length events
    → (event_at events i).what ≡ Send number → (event_at events j).what ≡ Send number → i ≡ j

module _ {K : Type 0} (order : K → K → Ordering) where
  -- at each stamp a history has exactly one answer to a read of a key
  abbrev pub OneAnswer : Type 0
  OneAnswer = (setup : Setup) (history : List (Entry K)) → IsHistory order setup history
      → (key : K) (stamp : ℕ) → (answer : Option (Version K)) × IsOnlyAnswer (puts (events_of history)) key stamp answer

  -- and exactly one page
  abbrev pub OnePage : Type 0
  OnePage = (setup : Setup) (history : List (Entry K)) → IsHistory order setup history
      → (stamp : ℕ) → (rows : List (Version K)) × IsOnlyPage order (puts (events_of history)) stamp rows

  -- what does not depend on the order of events: the stamp of each, and what is right to answer
  pub record AreSame (one other : List (Event K)) (to : ℕ → ℕ) : Type 0 where
    pub stamps : (i : ℕ) → i < length one → (event_at other (to i)).stamp ≡ (event_at one i).stamp
    pub reads : (key : K) (stamp : ℕ) (answer : Option (Version K))
        → IsReadAnswer (puts one) key stamp answer ↔ IsReadAnswer (puts other) key stamp answer
    pub cuts : (stamp : ℕ) (rows : List (Version K)) → IsPage order (puts one) stamp rows ↔ IsPage order (puts other) stamp rows

  -- Two histories have the same stamps, answers and pages if their events are the same in two orders. Each node's own events keep their
  -- order; each receipt is of the same send, which is so by itself where each message number is sent once; the set-ups may differ.
  abbrev pub OneStamping : Type 0
  OneStamping = (setup other_setup : Setup) (one other : List (Entry K)) (to from : ℕ → ℕ)
      → IsHistory order setup one → IsHistory order other_setup other
      → IsReordering (events_of one) (events_of other) to from
      → KeepsMessages (events_of one) (events_of other) to ⊎ AreSentOnce (events_of one)
      → AreSame (events_of one) (events_of other) to
