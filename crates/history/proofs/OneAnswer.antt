-- Puts have exactly one answer and one page at each stamp, since a store that they are put into, one after another, has them in order.
use Rattle.std.proofs.Common.{◌≡◌, ℕ, suc, ◌<◌, ◌⊎◌, ◌↔◌, inl, inr, List, [], ◌∷◌, Some, None, Option, refl, sym, ◌∙◌, subst}
use Rattle.std.proofs.Common.{arith}
use Rattle.std.specs.Cmp.{IsTotalOrder}
use Rattle.std.specs.declared.cmp.Ordering.{Ordering}
use Rattle.std.specs.List.{cons_option, fold}
use Rattle.std.specs.List.Sorted.{IsStrictlySortedBy}
use Rattle.keys.specs.Order.{IsKeyOrder}
use Rattle.store.specs.Newest.{IsIn, IsOnlyAnswer, newest}
use Rattle.store.specs.Page.{IsOnlyPage, page}
use Rattle.store.specs.Versions.{IsSorted, with_version}
use Rattle.store.specs.declared.version.Version.{Version}
use Rattle.store.proofs.Adding.{in_with_version, no_id, sorted_with_version}
use Rattle.store.proofs.InWords.{only_answer}
use Rattle.store.proofs.PageInWords.{only_page}
use Rattle.history.specs.Events.{Event, event_at, puts, version_of}
use Rattle.history.proofs.Places.{NodesRise}
use Rattle.history.proofs.Puts.{IsPutAt, of_put, put_at}
use Rattle.history.proofs.SameVersions.{AreSameUpTo, answers_alike, pages_alike}

module _ {K : Type 0} where
  -- its stamp is below that of each of these that has its node
  abbrev pub IsEarlier : Version K → List (Version K) → Type 0
  IsEarlier v ws = (w : Version K) → IsIn w ws → w.node ≡ v.node → v.stamp < w.stamp

  -- along these versions the stamps of each node rise
  abbrev pub AreRising : List (Version K) → Type 0
  AreRising [] = Unit {0}
  AreRising (v ∷ vs) = IsEarlier v vs × AreRising vs

  module _ (order : K → K → Ordering) where
    -- these versions, put one after another into a store that has some
    abbrev pub recorded_onto : List (Version K) → List (Version K) → List (Version K)
    recorded_onto ws vs = fold (λ ws v. with_version order v ws) ws vs

    -- and into an empty one
    abbrev pub recorded : List (Version K) → List (Version K)
    recorded vs = recorded_onto [] vs

    onto_same : (u : Version K) (vs ws : List (Version K)) → (IsIn u vs ⊎ IsIn u ws) ↔ IsIn u (recorded_onto ws vs)
    onto_same u [] ws = (λ is_in. grind arith, λ is_in. inr is_in)
    onto_same u (v ∷ vs) ws = let more = onto_same u vs (with_version order v ws) in let first = in_with_version order u v ws in
        (λ is_in. grind arith, λ is_in. grind arith)

    -- what is recorded is what was put in
    pub recorded_there : (v : Version K) (vs : List (Version K)) → IsIn v vs → IsIn v (recorded vs)
    recorded_there v vs is_in = (onto_same v vs []).0 (inl is_in)

    pub recorded_back : (v : Version K) (vs : List (Version K)) → IsIn v (recorded vs) → IsIn v vs
    recorded_back v vs is_in = let back = (onto_same v vs []).1 is_in in grind arith

    pub recorded_same : (stamp : ℕ) (vs : List (Version K)) → AreSameUpTo stamp (recorded vs) vs
    recorded_same stamp vs = record { there = λ v below. recorded_back v vs; back = λ v below. recorded_there v vs }

    module _ (total : IsTotalOrder order) where
      onto_sorted : (vs ws : List (Version K)) → IsSorted order ws → AreRising vs → ((w : Version K) → IsIn w ws → IsEarlier w vs)
          → IsSorted order (recorded_onto ws vs)
      onto_sorted [] ws sorted rising before = sorted
      onto_sorted (v ∷ vs) ws sorted rising before =
          let new = no_id order v ws (λ w is_in same. before w is_in v (inl refl) (sym same)) in
          onto_sorted vs (with_version order v ws) (sorted_with_version order total v ws sorted new) rising.1
          (λ w is_in. elim ((in_with_version order w v ws).1 is_in) [
            | inl here ↦ subst (λ u. IsEarlier u vs) (sym here) rising.0
            | inr there ↦ λ u behind. before w there u (inr behind)
          ])

      -- where the stamps of each node rise, what is recorded is in order
      pub recorded_sorted : (vs : List (Version K)) → AreRising vs → IsSorted order (recorded vs)
      unfolding IsStrictlySortedBy
      recorded_sorted vs rising = onto_sorted vs [] tt rising (λ w is_in. elim is_in [ ])

  -- where the stamps of each node rise along events, they rise along what these put
  earlier_than_put : (e : Event K) (events : List (Event K)) (v w : Version K) → NodesRise (e ∷ events)
      → version_of e e.what ≡ Some v → IsPutAt events w → w.node ≡ v.node → v.stamp < w.stamp
  earlier_than_put e events v w rises is put same =
      let first = of_put e e.what v is in
      let second = of_put (event_at events put.place) (event_at events put.place).what w put.is in
      let rise = rises 0 (suc put.place) (omega arith) (omega (arith, put.inside)) (sym first.node ∙ sym same ∙ second.node) in
      omega (arith, first.stamp, second.stamp, rise)

  rise_by : (e : Event K) (events : List (Event K)) (found : Option (Version K)) → version_of e e.what ≡ found
      → NodesRise (e ∷ events) → AreRising (puts events) → AreRising (cons_option found (puts events))
  rise_by e events None none rises more = more
  rise_by e events (Some v) some rises more = (λ w is_in. earlier_than_put e events v w rises some (put_at events w is_in), more)

  pub puts_rise : (events : List (Event K)) → NodesRise events → AreRising (puts events)
  puts_rise [] rises = tt
  puts_rise (e ∷ events) rises =
      let more = puts_rise events (λ i j before inside. rises (suc i) (suc j) (omega (arith, before)) (omega (arith, inside))) in
      rise_by e events (version_of e e.what) refl rises more

  module _ (order : K → K → Ordering) (total : IsTotalOrder order) (law : IsKeyOrder order) (events : List (Event K))
      (rises : NodesRise events) where
    pub sorted : IsSorted order (recorded order (puts events))
    sorted = recorded_sorted order total (puts events) (puts_rise events rises)

    pub one_answer : (key : K) (stamp : ℕ) → (answer : Option (Version K)) × IsOnlyAnswer (puts events) key stamp answer
    one_answer key stamp =
        let alike = answers_alike (recorded_same order stamp (puts events)) key in
        let found = only_answer order total law (recorded order (puts events)) key stamp sorted _ refl in (
          newest order (recorded order (puts events)) key stamp,
          record { answers = (alike _).0 found.answers; only = λ other is. found.only other ((alike other).1 is) },
        )

    pub one_page : (stamp : ℕ) → (rows : List (Version K)) × IsOnlyPage order (puts events) stamp rows
    one_page stamp =
        let alike = pages_alike order (recorded_same order stamp (puts events)) in
        let found = only_page order total law (recorded order (puts events)) stamp sorted in (
          page order (recorded order (puts events)) stamp,
          record { is = (alike _).0 found.is; only = λ other is. found.only other ((alike other).1 is) },
        )
