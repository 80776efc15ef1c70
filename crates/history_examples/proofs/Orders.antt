-- The same events in two orders.
use Rattle.std.proofs.Common.{◌≡◌, ◌≢◌, ℕ, zero, suc, ◌<◌, ◌⊎◌, inl, inr, ◌&&◌, Bool, true, if◌then◌else◌, List, nat_eq, nat_lt}
use Rattle.std.proofs.Common.{take, refl, arith}
use Rattle.std.specs.declared.cmp.Ordering.{Ordering}
use Rattle.std.proofs.Math.Dec.{lit<}
use Rattle.std.proofs.lemmas.Bool.Decides.{nat_tests}
use Rattle.history.specs.Events.{Event, Receipt, Send, event_at}
use Rattle.history.specs.Before.{IsLastSend}
use Rattle.history.specs.History.{IsHistory, events_of}
use Rattle.history.specs.Unique.{AreSentOnce, IsReordering, KeepsMessages}
use Rattle.history.proofs.Places.{last_send_once}
use Rattle.history_examples.specs.Examples.{ExampleIsReordered, crossed, one_order, other_order, small_setup}
use Rattle.history_examples.proofs.Entering.{enters, last_send, received}

-- what holds of each of six places
six : (P : ℕ → Type 0) → P 0 → P 1 → P 2 → P 3 → P 4 → P 5 → (i : ℕ) → i < 6 → P i
six P a b c d e f zero inside = a
six P a b c d e f (suc zero) inside = b
six P a b c d e f (suc (suc zero)) inside = c
six P a b c d e f (suc (suc (suc zero))) inside = d
six P a b c d e f (suc (suc (suc (suc zero)))) inside = e
six P a b c d e f (suc (suc (suc (suc (suc zero))))) inside = f
six P a b c d e f (suc (suc (suc (suc (suc (suc i)))))) inside = absurd (omega (arith, inside))

module _ {K : Type 0} (key : K) (number : ℕ) where
  abbrev ones : List (Event K)
  ones = events_of (one_order key number)

  abbrev others : List (Event K)
  others = events_of (other_order key number)

  -- where one node's event stands before another, it does so in the other order
  abbrev keeps_order : ℕ → ℕ → Bool
  keeps_order i j = if nat_lt i j && nat_eq (event_at ones i).node (event_at ones j).node then nat_lt (crossed i) (crossed j)
      else true

  all_keep_order : (i : ℕ) → i < 6 → (j : ℕ) → j < 6 → keeps_order i j ≡ true
  all_keep_order = six _ (six _ refl refl refl refl refl refl) (six _ refl refl refl refl refl refl)
      (six _ refl refl refl refl refl refl)
      (six _ refl refl refl refl refl refl) (six _ refl refl refl refl refl refl) (six _ refl refl refl refl refl refl)

  same : IsReordering ones others crossed crossed
  same = record {
    there = six _ (lit< tt, refl) (lit< tt, refl) (lit< tt, refl) (lit< tt, refl) (lit< tt, refl) (lit< tt, refl);
    back = six _ (lit< tt, refl) (lit< tt, refl) (lit< tt, refl) (lit< tt, refl) (lit< tt, refl) (lit< tt, refl);
    node = six _ refl refl refl refl refl refl;
    reading = six _ refl refl refl refl refl refl;
    what = six _ refl refl refl refl refl refl;
    in_order = λ i j less inside same. grind
        (arith, nat_tests, less, same, all_keep_order i (omega (arith, less, inside)) j inside);
  }

  -- place j receives message m, in both orders from event `send` of the one
  keeps : (m send j : ℕ) → (event_at ones j).what ≡ Receipt m → IsLastSend (take j ones) m send
      → IsLastSend (take (crossed j) others) m (crossed send)
      → (n i : ℕ) → (event_at ones j).what ≡ Receipt n → IsLastSend (take j ones) n i
      → IsLastSend (take (crossed j) others) n (crossed i)
  keeps m send j receives here there n i is last =
      let number_is : n ≡ m = cc (receives, is) in
      rw (number_is, last_send_once (rw number_is at last) here) there

  kept : KeepsMessages ones others crossed
  kept n i j inside = six (λ j. (event_at ones j).what ≡ Receipt n → IsLastSend (take j ones) n i
      → IsLastSend (take (crossed j) others) n (crossed i))
      (λ is. absurd (cc is)) (λ is. absurd (cc is))
      (keeps 1 0 2 refl (last_send _ 1 0 refl refl refl) (last_send _ 1 1 refl refl refl) n i)
      (λ is. absurd (cc is)) (λ is. absurd (cc is))
      (keeps number 4 5 refl (last_send _ number 4 refl refl refl) (last_send _ number 4 refl refl refl) n i) j inside

  -- only events 0 and 4 send
  only : (n i : ℕ) → i < 6 → (event_at ones i).what ≡ Send n → ((i ≡ 0) × (1 ≡ n)) ⊎ ((i ≡ 4) × (number ≡ n))
  only n = six (λ i. (event_at ones i).what ≡ Send n → ((i ≡ 0) × (1 ≡ n)) ⊎ ((i ≡ 4) × (number ≡ n)))
      (λ is. inl (refl, cc is)) (λ is. absurd (cc is)) (λ is. absurd (cc is)) (λ is. absurd (cc is)) (λ is. inr (refl, cc is))
      (λ is. absurd (cc is))

  once : number ≢ 1 → AreSentOnce ones
  once other n i j inside inside′ sends sends′ = grind (arith, other, only n i inside sends, only n j inside′ sends′)

  module _ (order : K → K → Ordering) where
    one : IsHistory order small_setup (one_order key number)
    one = six _
        (enters order (take 0 (one_order key number)) _ refl refl refl refl)
        (enters order (take 1 (one_order key number)) _ refl refl refl refl)
        (enters order (take 2 (one_order key number)) _ refl refl refl (received _ _ 1 0 refl refl refl refl refl))
        (enters order (take 3 (one_order key number)) _ refl refl refl refl)
        (enters order (take 4 (one_order key number)) _ refl refl refl refl)
        (enters order (take 5 (one_order key number)) _ refl refl refl (received _ _ number 4 refl refl refl refl refl))

    other : IsHistory order small_setup (other_order key number)
    other = six _
        (enters order (take 0 (other_order key number)) _ refl refl refl refl)
        (enters order (take 1 (other_order key number)) _ refl refl refl refl)
        (enters order (take 2 (other_order key number)) _ refl refl refl refl)
        (enters order (take 3 (other_order key number)) _ refl refl refl (received _ _ 1 1 refl refl refl refl refl))
        (enters order (take 4 (other_order key number)) _ refl refl refl refl)
        (enters order (take 5 (other_order key number)) _ refl refl refl (received _ _ number 4 refl refl refl refl refl))

pub is_reordered : {K : Type 0} (order : K → K → Ordering) (key : K) (number : ℕ) → ExampleIsReordered order key number
is_reordered order key number = record {
  one = one key number order;
  other = other key number order;
  same = same key number;
  kept = kept key number;
  once = once key number;
}
