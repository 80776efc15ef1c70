-- For each clause of the law, entries that break it alone.
use Rattle.std.proofs.Common.{◌≡◌, ◌≢◌, ℕ, suc, zero, ◌+◌, ◌-◌, ◌<◌, ◌≤◌, ◌⊎◌, ◌++◌, inl, inr, false, List, [], ◌∷◌, length}
use Rattle.std.proofs.Common.{nat_eq, None, Some, refl, sym, ap, ◌∙◌, subst, arith}
use Rattle.std.specs.Prelude.{negsuc}
use Rattle.std.specs.declared.cmp.Ordering.{Ordering}
use Rattle.std.proofs.Math.Dec.{lit<, lit≤}
use borrow.Author.Count.{below_more}
use Rattle.std.specs.List.Sorted.{IsStrictlySortedBy}
use Rattle.std.specs.Ordering.{is_lt}
use Rattle.std.proofs.lemmas.Bool.{both_ways, cases_lt}
use Rattle.std.proofs.lemmas.List.{append_assoc}
use Rattle.keys.specs.Order.{IsKeyOrder}
use Rattle.store.specs.Newest.{IsIn}
use Rattle.store.specs.declared.version.Version.{Version}
use Rattle.history.specs.Events.{Event, Note, Put, event_at}
use Rattle.history.specs.Before.{HappenedBefore, InOneStep, IsChainTo, IsLargestReading, IsLongestChain, IsStep, OnOneNode}
use Rattle.history.specs.History.{Cut, Entered, Entry, Read, events_of}
use Rattle.history.specs.Law.{Clause, Counter, Cuts, Drift, Holds, Later, Reads, Time}
use Rattle.history_examples.specs.Examples.{BreaksOnly, EachClauseBites, broken, did, first_put, notes, small_setup}
use Rattle.history.proofs.Chains.{Follows, largest, longest}
use Rattle.history_examples.proofs.Entering.{has_kind, none_of_kind}
use Rattle.history.proofs.Places.{before_less, before_to, step_less}

-- clause by clause
each : (P : Clause → Type 0) → P Time → P Drift → P Counter → P Later → P Reads → P Cuts → (clause : Clause) → P clause
each P time drift counter later reads cuts clause =
    elim clause as P [ Time ↦ time | Drift ↦ drift | Counter ↦ counter | Later ↦ later | Reads ↦ reads | Cuts ↦ cuts ]

first : (j : ℕ) → j < 1 → j ≡ 0
first j below = omega arith

-- where nothing is read or cut, all answers are right
module _ {K : Type 0} (order : K → K → Ordering) (history : List (Entry K)) where
  no_reads : has_kind 1 history ≡ false → Holds order small_setup history Reads
  no_reads none key stamp answer is_in = absurd (none_of_kind 1 history none (Read key stamp answer) is_in refl)

  no_cuts : has_kind 2 history ≡ false → Holds order small_setup history Cuts
  no_cuts none stamp count rows is_in = absurd (none_of_kind 2 history none (Cut stamp count rows) is_in refl)

-- nothing happened before the first event
module _ {K : Type 0} (events : List (Event K)) where
  none_before : (chain : List ℕ) → IsChainTo events 0 chain → length chain ≡ 0
  none_before [] to = refl
  none_before (i ∷ chain) to = absurd (omega (arith, before_less (to.before i (inl refl))))

  longest_first : IsLongestChain events 0 0
  longest_first = record {
    one = ([], record { is_chain = tt; before = λ i is_in. elim is_in [ ]; of_its_time = λ i is_in. elim is_in [ ] }, refl);
    none_longer = λ chain to. omega (arith, none_before chain to);
  }

  longest_is : (n : ℕ) → IsLongestChain events 0 n → n ≡ 0
  longest_is n is = sym is.one.2 ∙ none_before is.one.0 is.one.1

-- one event alone
module _ {K : Type 0} (e : Event K) where
  never : {A : Type 0} (i j : ℕ) → HappenedBefore (e ∷ []) i j → A
  never i j before = absurd (omega (arith, before_less before, before_to before))

  largest_alone : IsLargestReading (e ∷ []) 0 e.reading
  largest_alone = record {
    one = (0, inl refl, refl);
    none_larger = λ i up_to. elim up_to [ inl here ↦ rw here (omega arith) | inr before ↦ never i 0 before ];
  }

  largest_is : (t : ℕ) → IsLargestReading (e ∷ []) 0 t → e.reading ≡ t
  largest_is t is = elim is.one.1
      [ inl here ↦ ap (λ i. (event_at (e ∷ []) i).reading) (sym here) ∙ is.one.2 | inr before ↦ never is.one.0 0 before ]

  module _ (order : K → K → Ordering) (history : List (Entry K)) (is : events_of history ≡ e ∷ []) where
    -- what each clause then asks for
    abbrev Asks : Clause → Type 0
    Asks Time = e.reading ≡ e.stamp.time
    Asks Drift = e.stamp.time ≤ e.reading + 500 + small_setup.backstep e.node
    Asks Counter = e.stamp.counter ≡ 0
    Asks Later = Unit {0}
    Asks Reads = has_kind 1 history ≡ false
    Asks Cuts = has_kind 2 history ≡ false

    holds : (clause : Clause) → Asks clause → Holds order small_setup history clause
    holds Time asked = rw is (λ j below. rw (first j below) (subst (IsLargestReading (e ∷ []) 0) asked largest_alone))
    holds Drift asked = rw is (λ j below. rw (first j below) asked)
    holds Counter asked = rw is (λ j below. rw (first j below)
        (subst (IsLongestChain (e ∷ []) 0) (sym asked) (longest_first (e ∷ []))))
    holds Later asked = rw is (λ i j before. never i j before)
    holds Reads asked = no_reads order history asked
    holds Cuts asked = no_cuts order history asked

    breaks : (clause : Clause) → (Holds order small_setup history clause → ⊥) → ((other : Clause) → (other ≡ clause) ⊎ Asks other)
        → BreaksOnly order history clause
    breaks clause not asked = record {
      breaks = not;
      others = λ other differs. elim (asked other)
          [ inl same ↦ absurd (differs same) | inr asks ↦ holds other asks ];
    }

-- no event at all
module _ {K : Type 0} (order : K → K → Ordering) (history : List (Entry K)) (is : events_of history ≡ []) where
  abbrev EmptyAsks : Clause → Type 0
  EmptyAsks Time = Unit {0}
  EmptyAsks Drift = Unit {0}
  EmptyAsks Counter = Unit {0}
  EmptyAsks Later = Unit {0}
  EmptyAsks Reads = has_kind 1 history ≡ false
  EmptyAsks Cuts = has_kind 2 history ≡ false

  empty_holds : (clause : Clause) → EmptyAsks clause → Holds order small_setup history clause
  empty_holds Time asked = rw is (λ j below. absurd (omega arith))
  empty_holds Drift asked = rw is (λ j below. absurd (omega arith))
  empty_holds Counter asked = rw is (λ j below. absurd (omega arith))
  empty_holds Later asked = rw is (λ i j before. absurd (omega (arith, before_to before)))
  empty_holds Reads asked = no_reads order history asked
  empty_holds Cuts asked = no_cuts order history asked

  empty_breaks : (clause : Clause) → (Holds order small_setup history clause → ⊥)
      → ((other : Clause) → (other ≡ clause) ⊎ EmptyAsks other) → BreaksOnly order history clause
  empty_breaks clause not asked =
      record {
        breaks = not;
        others =
            λ other differs. elim (asked other) [ inl same ↦ absurd (differs same) | inr asks ↦ empty_holds other asks ];
      }

-- notes, and what stands behind them
module _ {K : Type 0} where
  abbrev note : ℕ → Event K
  note i = record { node = 0; reading = 1000; stamp = record { time = 1000; counter = i }; what = Note }

  count : (n : ℕ) (rest : List (Entry K)) → length (events_of (notes n ++ rest)) ≡ n + length (events_of rest)
  count zero rest = omega arith
  count (suc n) rest = rw append_assoc (omega (arith, count n (Entered (note n) ∷ rest)))

  behind : (n i j : ℕ) (rest : List (Entry K)) → j ≡ n + i
      → event_at (events_of (notes n ++ rest)) j ≡ event_at (events_of rest) i
  behind zero i j rest is = ap (event_at (events_of rest)) (omega (arith, is))
  behind (suc n) i j rest is = rw append_assoc (behind n (suc i) j (Entered (note n) ∷ rest) (omega (arith, is)))

  at_note : (n i : ℕ) (rest : List (Entry K)) → i < n → event_at (events_of (notes n ++ rest)) i ≡ note i
  at_note zero i rest below = absurd (omega arith)
  at_note (suc n) i rest below =
      let more : List (Entry K) = Entered (note n) ∷ rest in
      rw append_assoc (below_more (λ j. event_at (events_of (notes n ++ more)) j ≡ note j) n (λ j less. at_note n j more less)
      (behind n 0 n more (omega arith)) i (omega arith))

  without : (kind n : ℕ) (rest : List (Entry K)) → nat_eq 0 kind ≡ false → has_kind kind rest ≡ false
      → has_kind kind (notes n ++ rest) ≡ false
  without kind zero rest event none = none
  without kind (suc n) rest event none = rw append_assoc (without kind n (Entered (note n) ∷ rest) event (rw event none))

-- n notes and one more
module _ {K : Type 0} (order : K → K → Ordering) (n reading time counter : ℕ) where
  abbrev ramp : List (Entry K)
  ramp = notes n ++ did 0 reading time counter Note ∷ []

  abbrev marks : List (Event K)
  marks = events_of ramp

  abbrev last : Event K
  last = record { node = 0; reading = reading; stamp = record { time = time; counter = counter }; what = Note }

  at_last : event_at marks n ≡ last
  at_last = behind n 0 n (Entered last ∷ []) (omega arith)

  each_event : (P : Event K → Type 0) → ((i : ℕ) → P (note i)) → P last → (j : ℕ) → j < suc n → P (event_at marks j)
  each_event P of_notes of_last j below =
      below_more (λ j. P (event_at marks j)) n (λ j less. rw (at_note n j _ less) (of_notes j)) (rw at_last of_last) j
      (omega arith)

  step : (i j : ℕ) → i < j → j < suc n → IsStep marks i j
  step i j before below =
      let of_node = each_event (λ e. e.node ≡ 0) (λ i. refl) refl in
      OnOneNode before (rw count (omega arith)) (of_node i (omega arith) ∙ sym (of_node j below))

  note_follows : (j : ℕ) → j < n → Follows marks j
  note_follows j below =
      let here = at_note n j (Entered last ∷ []) below in
      let there = at_note n (j - 1) (Entered last ∷ []) (omega arith) in
      record {
        later = λ i from. rw (at_note n i _ (omega (arith, step_less from)), here)
            (record { time = omega arith; counter = λ same. step_less from });
        own = rw here (omega arith);
        time = inl (rw here refl);
        counter = elim (cases_lt 0 j) [
          | inl more ↦ inr (
            j - 1,
            step (j - 1) j (omega arith) (omega arith),
            rw (there, here) refl,
            rw (there, here) (omega arith),
          )
          | inr none ↦ inl (rw here (omega arith))
        ];
      }

  module _ (of_last : Follows marks n) where
    follows : (j : ℕ) → j < length marks → Follows marks j
    follows j inside = below_more (Follows marks) n note_follows of_last j (rw count at inside)

    follows_breaks : (clause : Clause) → (Holds order small_setup ramp clause → ⊥)
        → (Drift ≢ clause → Holds order small_setup ramp Drift) → (Later ≢ clause → Holds order small_setup ramp Later)
        → BreaksOnly order ramp clause
    follows_breaks clause not drift later = record {
      breaks = not;
      others = each _ (λ is. largest marks follows) drift (λ is. longest marks follows) later
          (λ is. no_reads order ramp (without 1 n (Entered last ∷ []) refl refl))
          (λ is. no_cuts order ramp (without 2 n (Entered last ∷ []) refl refl));
    }

-- one note and another
module _ {K : Type 0} (order : K → K → Ordering) where
  one_rises : (reading : ℕ) → Holds order small_setup (ramp order 1 reading 1000 1) Later
  one_rises reading i j before =
      let end : j ≡ 1 = omega (arith, before_less before, before_to before) in
      rw (end, first i (omega (arith, before_less before))) (lit< tt)

  drift_bites : BreaksOnly order (ramp order 1 479 1000 1) Drift
  drift_bites =
      let from = step order 1 479 1000 1 0 1 (lit< tt) (lit< tt) in
      follows_breaks order 1 479 1000 1 (record {
        later = λ i to. rw (first i (step_less to)) (record { time = lit≤ tt; counter = λ same. lit< tt });
        own = lit≤ tt;
        time = inr (0, from, refl);
        counter = inr (0, from, refl, refl);
      }) Drift
      (λ h. omega (arith, h 1 (lit< tt)))
      (λ is. absurd (is refl))
      (λ is. one_rises 479)

  -- 65537 notes and one of the next millisecond: the last note has the code of 1001.0
  later_bites : (m : ℕ) → m ≡ 65536 → BreaksOnly order (ramp order (suc m) 1001 1001 0) Later
  later_bites m is =
      let end = at_last order (suc m) 1001 1001 0 in
      follows_breaks order (suc m) 1001 1001 0 (record {
        later = λ i from. rw (at_note (suc m) i _ (step_less from), end)
            (record { time = lit≤ tt; counter = λ same. absurd (omega (arith, same)) });
        own = rw end (lit≤ tt);
        time = inl (rw end refl);
        counter = inl (rw end refl);
      }) Later
      (λ h. omega (
        arith,
        is,
        rw (at_note (suc m) m _ (omega arith), end) at
            (h m (suc m) (InOneStep (step order (suc m) 1001 1001 0 m (suc m) (omega arith) (omega arith)))),
      ))
      (λ is j inside. each_event order (suc m) 1001 1001 0 (λ e. e.stamp.time ≤ e.reading + 500 + small_setup.backstep e.node)
      (λ i. lit≤ tt) (lit≤ tt) j (omega (arith, rw count at inside)))
      (λ is. absurd (is refl))

  -- two notes, of which the other has a larger reading than its time
  abbrev low : List (Event K)
  low = marks order 1 1001 1000 1

  short : (chain : List ℕ) → IsChainTo low 1 chain → length chain ≤ 1
  short [] to = omega arith
  short (i ∷ []) to = omega arith
  short (i ∷ k ∷ chain) to = absurd (omega (arith, before_less to.is_chain.0, before_less (to.before k (inr (inl refl)))))

  low_counters : (j : ℕ) → j < 2 → IsLongestChain low j (event_at low j).stamp.counter
  low_counters zero inside = longest_first low
  low_counters (suc zero) inside = record {
    one = (
      0 ∷ [],
      record {
        is_chain = tt;
        before = λ i is_in. elim is_in [
          | inl here ↦
              rw here (InOneStep (step order 1 1001 1000 1 0 1 (lit< tt) (lit< tt)))
          | inr there ↦ elim there [ ]
        ];
        of_its_time = λ i is_in. elim is_in [ inl here ↦ rw here refl | inr there ↦ elim there [ ] ];
      },
      refl,
    );
    none_longer = short;
  }
  low_counters (suc (suc j)) inside = absurd (omega (arith, inside))

  low_bites : BreaksOnly order (ramp order 1 1001 1000 1) Time
  low_bites = record {
    breaks = λ h. omega (arith, (h 1 (lit< tt)).none_larger 1 (inl refl));
    others = each _ (λ is. absurd (is refl))
        (λ is j inside. each_event order 1 1001 1000 1 (λ e. e.stamp.time ≤ e.reading + 500 + small_setup.backstep e.node)
        (λ i. lit≤ tt) (lit≤ tt) j inside)
        (λ is. low_counters) (λ is. one_rises 1001) (λ is. no_reads order (ramp order 1 1001 1000 1) refl)
        (λ is. no_cuts order (ramp order 1 1001 1000 1) refl);
  }

-- each of the lists
module _ {K : Type 0} (order : K → K → Ordering) (law : IsKeyOrder order) (key : K) where
  abbrev put : Entry K
  put = did 0 1000 1000 0 (Put key (negsuc 8999))

  -- a row does not come twice
  twice : (rest : List (Version K))
      → IsStrictlySortedBy (λ (v w : Version K). order v.key w.key) (first_put key ∷ first_put key ∷ rest) → ⊥
  unfolding IsStrictlySortedBy
  twice rest sorted = both_ways (is_lt (order key key)) (ap is_lt (law.itself key)) (ap is_lt sorted.0.0)

  times : (history : List (Entry K)) → IsIn history (broken key Time) → BreaksOnly order history Time
  times history (inl here) = rw here (breaks _ order _ refl Time (λ h. omega (arith, largest_is _ 1001 (h 0 (lit< tt))))
      (each _ (inl refl) (inr (lit≤ tt)) (inr refl) (inr tt) (inr refl) (inr refl)))
  times history (inr (inl here)) = rw here (low_bites order)
  times history (inr (inr there)) = elim there [ ]

  reads : (history : List (Entry K)) → IsIn history (broken key Reads) → BreaksOnly order history Reads
  reads history (inl here) = rw here
      (breaks _ order (Read key 65536000 None ∷ put ∷ []) refl Reads
      (λ h. omega (arith, h key 65536000 None (inl refl) (first_put key) (inl refl) refl))
      (each _ (inr refl) (inr (lit≤ tt)) (inr refl) (inr tt) (inl refl) (inr refl)))
  reads history (inr (inl here)) = rw here (empty_breaks order (Read key 65536000 (Some (first_put key)) ∷ []) refl Reads
      (λ h. elim (h key 65536000 (Some (first_put key)) (inl refl)).there [ ])
      (each _ (inr tt) (inr tt) (inr tt) (inr tt) (inl refl) (inr refl)))
  reads history (inr (inr there)) = elim there [ ]

  cuts : (history : List (Entry K)) → IsIn history (broken key Cuts) → BreaksOnly order history Cuts
  cuts history (inl here) = rw here (breaks _ order (Cut 65536000 0 [] ∷ put ∷ []) refl Cuts
      (λ h. elim ((h 65536000 0 [] (inl refl)).0.complete (first_put key) (inl refl) (lit≤ tt)).1 [ ])
      (each _ (inr refl) (inr (lit≤ tt)) (inr refl) (inr tt) (inr refl) (inl refl)))
  cuts history (inr (inl here)) = rw here (empty_breaks order (Cut 65536000 1 (first_put key ∷ []) ∷ []) refl Cuts
      (λ h. elim ((h 65536000 1 (first_put key ∷ []) (inl refl)).0.newest (first_put key) (inl refl)).there [ ])
      (each _ (inr tt) (inr tt) (inr tt) (inr tt) (inr refl) (inl refl)))
  cuts history (inr (inr (inl here))) =
      rw here (breaks _ order (Cut 65536000 2 (first_put key ∷ first_put key ∷ []) ∷ put ∷ []) refl Cuts
      (λ h. twice [] (h 65536000 2 (first_put key ∷ first_put key ∷ []) (inl refl)).0.ascending)
      (each _ (inr refl) (inr (lit≤ tt)) (inr refl) (inr tt) (inr refl) (inl refl)))
  cuts history (inr (inr (inr (inl here)))) = rw here (empty_breaks order (Cut 65536000 1 [] ∷ []) refl Cuts
      (λ h. omega (arith, (h 65536000 1 [] (inl refl)).1)) (each _ (inr tt) (inr tt) (inr tt) (inr tt) (inr refl) (inl refl)))
  cuts history (inr (inr (inr (inr there)))) = elim there [ ]

  bites : (clause : Clause) (history : List (Entry K)) → IsIn history (broken key clause) → BreaksOnly order history clause
  bites Time history is_in = times history is_in
  bites Drift history (inl here) = rw here (drift_bites order)
  bites Drift history (inr there) = elim there [ ]
  bites Counter history (inl here) = rw here (breaks _ order _ refl Counter (λ h. omega (arith, longest_is _ 1 (h 0 (lit< tt))))
      (each _ (inr refl) (inr (lit≤ tt)) (inl refl) (inr tt) (inr refl) (inr refl)))
  bites Counter history (inr there) = elim there [ ]
  bites Later history (inl here) = rw here (later_bites order 65536 refl)
  bites Later history (inr there) = elim there [ ]
  bites Reads history is_in = reads history is_in
  bites Cuts history is_in = cuts history is_in

pub each_clause_bites : {K : Type 0} (order : K → K → Ordering) → IsKeyOrder order → EachClauseBites order
each_clause_bites order law key clause history is_in =
    let only = bites order law key clause history is_in in
    (only, λ lawful. only.breaks (lawful clause))
