-- Histories, and for each clause of the law entries that break it alone.
use Rattle.std.specs.Prelude.{◌≡◌, ◌≢◌, ℕ, zero, suc, ◌++◌, negsuc, if◌then◌else◌, ◌==◌, slice_index, List, [], ◌∷◌, None, Some}
use Rattle.std.specs.declared.cmp.Ordering.{Ordering}
use Rattle.std.specs.declared.cmp.Ordering.TheVariants.{Less}
use Rattle.store.specs.Newest.{IsIn}
use Rattle.store.specs.declared.version.Version.{Version}
use Rattle.history.specs.Events.{Note, Put, Receipt, Send, What}
use Rattle.history.specs.History.{Closed, Cut, Entered, Entry, IsHistory, Read, Setup, events_of}
use Rattle.history.specs.Law.{Clause, Counter, Cuts, Drift, Holds, IsLawful, Later, Reads, Time}
use Rattle.history.specs.Unique.{AreSentOnce, IsReordering, KeepsMessages}

-- two nodes, whose clocks may fall by 20 ms and by 30 ms; messages may be ahead by 500 ms
abbrev pub small_setup : Setup
small_setup = record { nodes = 2; lead = 500; backstep = λ node. (if node == 0 then 20 else 30) }

module _ {K : Type 0} where
  -- the node did this at the reading, stamped time.counter
  abbrev pub did : ℕ → ℕ → ℕ → ℕ → What K → Entry K
  did node reading time counter what =
      Entered (record { node = node; reading = reading; stamp = record { time = time; counter = counter }; what = what })

  -- what the history below puts: −9.000 at 1000.0 by node 0, −8.500 at 1000.3 by node 1, −8.000 at 1500.2 by node 1, −7.500 at
  -- 1600.1 by node 0
  abbrev pub first_put : K → Version K
  first_put key = record { key = key; stamp = 65536000; node = 0; value = negsuc 8999 }

  abbrev pub second_put : K → Version K
  second_put key = record { key = key; stamp = 65536003; node = 1; value = negsuc 8499 }

  abbrev pub third_put : K → Version K
  third_put key = record { key = key; stamp = 98304002; node = 1; value = negsuc 7999 }

  abbrev pub fourth_put : K → Version K
  fourth_put key = record { key = key; stamp = 104857601; node = 0; value = negsuc 7499 }

  -- Node 1's clock is slow, so that its stamps go on from the message's. Node 0's note settles 1000.2. Then two messages are under way
  -- at once, number 1 again among them, and one is received as far ahead as may be; node 1's clock falls as far as may be, and it puts
  -- another key; node 0's clock falls as far as may be, and it receives a message of its own; it receives one long after, and puts the
  -- first key again. After the close all is settled.
  abbrev pub small_history : K → K → List (Entry K)
  small_history key other =
      did 0 1000 1000 0 (Put key (negsuc 8999))
      ∷ did 0 1000 1000 1 (Send 1)
      ∷ did 1 990 1000 2 (Receipt 1)
      ∷ did 1 985 1000 3 (Put key (negsuc 8499))
      ∷ did 0 1000 1000 2 Note
      ∷ Read key 65536002 (Some (first_put key))
      ∷ Cut 65536002 1 (first_put key ∷ [])
      ∷ did 0 1500 1500 0 (Send 1)
      ∷ did 0 1500 1500 1 (Send 2)
      ∷ did 1 1000 1500 1 (Receipt 1)
      ∷ did 1 970 1500 2 (Put other (negsuc 7999))
      ∷ did 0 1480 1500 2 (Receipt 2)
      ∷ did 1 970 1500 3 (Send 3)
      ∷ did 0 1600 1600 0 (Receipt 3)
      ∷ did 0 1600 1600 1 (Put key (negsuc 7499))
      ∷ Closed
      ∷ Read key 65536003 (Some (second_put key))
      ∷ Read key 0 None
      ∷ Cut 104857601 2 (fourth_put key ∷ third_put other ∷ [])
      ∷ Closed
      ∷ []

  -- The same six events in two orders. The number of the second message is left open: 1 again, or another.
  abbrev pub one_order : K → ℕ → List (Entry K)
  one_order key number =
      did 0 1 1 0 (Send 1) ∷ did 1 1 1 0 (Put key (negsuc 8999)) ∷ did 1 1 1 1 (Receipt 1)
      ∷ did 0 1 1 1 (Put key (negsuc 8499)) ∷ did 0 1 1 2 (Send number) ∷ did 1 1 1 3 (Receipt number) ∷ []

  abbrev pub other_order : K → ℕ → List (Entry K)
  other_order key number =
      did 1 1 1 0 (Put key (negsuc 8999)) ∷ did 0 1 1 0 (Send 1) ∷ did 0 1 1 1 (Put key (negsuc 8499))
      ∷ did 1 1 1 1 (Receipt 1) ∷ did 0 1 1 2 (Send number) ∷ did 1 1 1 3 (Receipt number) ∷ []

  -- so many notes of node 0 at the reading 1000, stamped 1000.0, 1000.1, and so on
  abbrev pub notes : ℕ → List (Entry K)
  notes zero = []
  notes (suc n) = notes n ++ did 0 1000 1000 n Note ∷ []

  -- For each clause, in how many ways it may be broken: lists of entries, each of which breaks it.
  abbrev pub broken : K → Clause → List (List (Entry K))
  -- the time is no reading's; it is a reading's, though not the largest
  broken key Time = (did 0 1000 1001 0 Note ∷ []) ∷ (notes 1 ++ did 0 1001 1000 1 Note ∷ []) ∷ []
  -- the clock fell by 521, and the drift is as much
  broken key Drift = (notes 1 ++ did 0 479 1000 1 Note ∷ []) ∷ []
  -- nothing happened before it
  broken key Counter = (did 0 1000 1000 1 Note ∷ []) ∷ []
  -- The counter ran past its end: the code of 1000.65536 is that of 1001.0. (Within its range this clause follows from the others.)
  broken key Later = (notes 65537 ++ did 0 1001 1001 0 Note ∷ []) ∷ []
  -- a version was put later; the one that was answered was never put
  broken key Reads =
      (Read key 65536000 None ∷ did 0 1000 1000 0 (Put key (negsuc 8999)) ∷ [])
      ∷ (Read key 65536000 (Some (first_put key)) ∷ []) ∷ []
  -- a version was put later that has no row; a row was never put; a row comes twice; the count is not that of the rows
  broken key Cuts =
      (Cut 65536000 0 [] ∷ did 0 1000 1000 0 (Put key (negsuc 8999)) ∷ [])
      ∷ (Cut 65536000 1 (first_put key ∷ []) ∷ [])
      ∷ (Cut 65536000 2 (first_put key ∷ first_put key ∷ []) ∷ did 0 1000 1000 0 (Put key (negsuc 8999)) ∷ [])
      ∷ (Cut 65536000 1 [] ∷ []) ∷ []

-- where each event of the one order stands in the other, and the other way round
abbrev pub crossed : ℕ → ℕ
crossed i = slice_index (1 ∷ 0 ∷ 3 ∷ 2 ∷ 4 ∷ 5 ∷ []) i

module _ {K : Type 0} (order : K → K → Ordering) where
  -- there are histories
  abbrev pub ExampleIsHistory : Type 0
  ExampleIsHistory = (key other : K) → order key other ≡ Less → IsHistory order small_setup (small_history key other)

  -- and long ones: a counter may run to its end
  abbrev pub LongIsHistory : Type 0
  LongIsHistory = IsHistory order small_setup (notes 65536)

  -- there are histories of the same events in two orders, whatever the second number
  pub record ExampleIsReordered (key : K) (number : ℕ) : Type 0 where
    pub one : IsHistory order small_setup (one_order key number)
    pub other : IsHistory order small_setup (other_order key number)
    pub same : IsReordering (events_of (one_order key number)) (events_of (other_order key number)) crossed crossed
    pub kept : KeepsMessages (events_of (one_order key number)) (events_of (other_order key number)) crossed
    pub once : number ≢ 1 → AreSentOnce (events_of (one_order key number))

  -- the entries break this clause of the law, and no other
  pub record BreaksOnly (history : List (Entry K)) (clause : Clause) : Type 0 where
    pub breaks : Holds order small_setup history clause → ⊥
    pub others : (other : Clause) → other ≢ clause → Holds order small_setup history other

  -- no clause of the law is empty, and none is left out of it
  abbrev pub EachClauseBites : Type 0
  EachClauseBites = (key : K) (clause : Clause) (history : List (Entry K)) → IsIn history (broken key clause)
      → BreaksOnly history clause × (IsLawful order small_setup history → ⊥)
