-- The law of whole runs, and what settled stamps are good for.
use Rattle.std.specs.Prelude.{◌≡◌, ℕ, ◌+◌, ◌<◌, ◌≤◌, ◌↔◌, ◌++◌, List, length, Option}
use Rattle.std.specs.declared.cmp.Ordering.{Ordering}
use Rattle.stamps.specs.Stamp.{code_of}
use Rattle.store.specs.Newest.{IsIn, IsReadAnswer}
use Rattle.store.specs.Page.{IsPage}
use Rattle.store.specs.declared.version.Version.{Version}
use Rattle.history.specs.Events.{Event, event_at, puts}
use Rattle.history.specs.Before.{HappenedBefore, IsLargestReading, IsLongestChain}
use Rattle.history.specs.History.{Closed, Cut, Entry, IsHistory, IsSettled, Read, Setup, events_of}

-- The clauses of the law.
pub data Clause : Type 0 where
  Time Drift Counter Later Reads Cuts : Clause

module _ {K : Type 0} (order : K → K → Ordering) (setup : Setup) (history : List (Entry K)) where
  -- its events
  abbrev events : List (Event K)
  events = events_of history

  -- What each clause says of a history: the first four of each of its events, the last two of each of its answers.
  abbrev pub Holds : Clause → Type 0
  -- the time is the largest reading among the event itself and those that happened before it
  Holds Time = (j : ℕ) → j < length events → IsLargestReading events j (event_at events j).stamp.time
  -- the drift, by which the time is above the event's own reading, is at most the lead plus the node's backstep
  Holds Drift = (j : ℕ) → j < length events
      → (event_at events j).stamp.time ≤ (event_at events j).reading + setup.lead + setup.backstep (event_at events j).node
  -- the counter is the length of the longest chain of events that happened before it and have its time
  Holds Counter = (j : ℕ) → j < length events → IsLongestChain events j (event_at events j).stamp.counter
  -- the stamp is later than that of every event that happened before it
  Holds Later = (i j : ℕ) → HappenedBefore events i j → code_of (event_at events i).stamp < code_of (event_at events j).stamp
  -- the answer to a read is the newest version of its key at or below the stamp, the higher node among equal stamps, or none: among
  -- all puts of the history, later ones too
  Holds Reads = (key : K) (stamp : ℕ) (answer : Option (Version K))
      → IsIn (Read key stamp answer) history → IsReadAnswer (puts events) key stamp answer
  -- the rows of a cut are the page, again among all puts of the history, and as many as it answered
  Holds Cuts = (stamp count : ℕ) (rows : List (Version K))
      → IsIn (Cut stamp count rows) history → IsPage order (puts events) stamp rows × (count ≡ length rows)

  -- every clause holds
  abbrev pub IsLawful : Type 0
  IsLawful = (clause : Clause) → Holds clause

-- Every history is lawful.
abbrev pub Law : {K : Type 0} → (K → K → Ordering) → Type 0
Law {K} order = (setup : Setup) (history : List (Entry K)) → IsHistory order setup history → IsLawful order setup history

-- What was written behind `earlier` leaves a stamp settled, and right exactly those answers at it that were right before.
pub record LeavesAnswers {K : Type 0} (order : K → K → Ordering) (setup : Setup) (earlier later : List (Entry K))
    (stamp : ℕ) : Type 0 where
  pub settled : IsSettled setup (earlier ++ later) stamp
  pub reads : (key : K) (answer : Option (Version K))
      → IsReadAnswer (puts (events_of earlier)) key stamp answer ↔ IsReadAnswer (puts (events_of (earlier ++ later))) key stamp
      answer
  pub cuts : (rows : List (Version K))
      → IsPage order (puts (events_of earlier)) stamp rows ↔ IsPage order (puts (events_of (earlier ++ later))) stamp rows

module _ {K : Type 0} (order : K → K → Ordering) where
  -- whatever is written later, however much, leaves the answers at a settled stamp as they are
  abbrev pub SettledStays : Type 0
  SettledStays = (setup : Setup) (earlier later : List (Entry K)) (stamp : ℕ)
      → IsHistory order setup (earlier ++ later) → IsSettled setup earlier stamp → LeavesAnswers order setup earlier later stamp

  -- once the recorder is closed, every stamp is settled
  abbrev pub AllSettledWhenClosed : Type 0
  AllSettledWhenClosed = (setup : Setup) (history : List (Entry K)) (stamp : ℕ) → IsIn Closed history
      → IsSettled setup history stamp
