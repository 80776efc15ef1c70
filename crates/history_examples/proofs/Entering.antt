-- How a list of entries that is written out is shown to be a history.
use Rattle.std.proofs.Common.{◌≡◌, ◌≢◌, ℕ, suc, zero, ◌+◌, ◌-◌, ◌<◌, ◌++◌, Bool, ◌&&◌, false, true, List, [], ◌∷◌, drop, get_or}
use Rattle.std.proofs.Common.{length, nat_eq, nat_le, nat_lt, refl, subst, ap, ◌∙◌, arith}
use Rattle.std.specs.declared.cmp.Ordering.{Ordering}
use Rattle.std.specs.List.{list_any}
use Rattle.std.proofs.lemmas.Bool.{or_parts}
use Rattle.std.proofs.lemmas.Bool.Decides.{nat_tests}
use Rattle.std.proofs.lemmas.List.{append-nil, append_assoc, get_or-drop, length-drop}
use Rattle.stamps.specs.Range.{max_counter}
use Rattle.stamps.specs.Rules.{receipt_stamp}
use Rattle.store.specs.Newest.{IsIn}
use Rattle.history.specs.Events.{Event, Note, Put, Receipt, Send, What, event_at, no_event}
use Rattle.history.specs.Before.{IsLastSend}
use Rattle.history.specs.History.{Closed, Cut, Entered, Entry, IsHistory, IsReceived, IsStamped, MayBeWritten, Read, events_of}
use Rattle.history.specs.History.{last_stamp}
use Rattle.history.proofs.Lists.{none_passes, one_more}
use Rattle.history_examples.specs.Examples.{small_setup}

infixr 30 ◌▹◌
-- a proof, and the proofs for what follows
pub ◌▹◌ : {A B : Type 0} → A → B → A × B
a ▹ b = (a, b)

module _ {K : Type 0} (order : K → K → Ordering) where
  -- the entries may be written, one behind another, behind `earlier`
  abbrev pub MayFollow : List (Entry K) → List (Entry K) → Type 0
  MayFollow earlier [] = Unit {0}
  MayFollow earlier (entry ∷ rest) = MayBeWritten order small_setup earlier entry × MayFollow (earlier ++ entry ∷ []) rest

  goes_on : (earlier rest : List (Entry K)) → IsHistory order small_setup earlier → MayFollow earlier rest
      → IsHistory order small_setup (earlier ++ rest)
  goes_on earlier [] written may = rw (append-nil earlier) written
  goes_on earlier (entry ∷ rest) written may =
      let more : IsHistory order small_setup (earlier ++ entry ∷ []) =
      one_more (MayBeWritten order small_setup) Closed earlier entry written may.0 in
      subst (IsHistory order small_setup) (append_assoc earlier (entry ∷ []) rest)
      (goes_on (earlier ++ entry ∷ []) rest more may.1)

  -- so they are a history
  pub by_entries : (history : List (Entry K)) → MayFollow [] history → IsHistory order small_setup history
  by_entries history may = goes_on [] history (λ j inside. absurd (omega (arith, inside))) may

-- where none passes a test, what stands at a place does not
none_at : {X : Type 0} (test : X → Bool) (d : X) (xs : List X) (i : ℕ) → i < length xs → list_any test xs ≡ false
    → test (get_or xs i d) ≡ false
none_at test d [] i inside none = absurd (omega (arith, inside))
none_at test d (x ∷ xs) zero inside none = (or_parts (test x) (list_any test xs) none).0
none_at test d (x ∷ xs) (suc i) inside none =
    none_at test d xs i (omega (arith, inside)) (or_parts (test x) (list_any test xs) none).1

-- the kinds of entries, and whether one of a kind is there
abbrev pub kind : {K : Type 0} → Entry K → ℕ
kind (Entered e) = 0
kind (Read key stamp answer) = 1
kind (Cut stamp count rows) = 2
kind Closed = 3

abbrev pub has_kind : {K : Type 0} → ℕ → List (Entry K) → Bool
has_kind n history = list_any (λ entry. nat_eq (kind entry) n) history

pub none_of_kind : {K : Type 0} (n : ℕ) (history : List (Entry K)) → has_kind n history ≡ false → (entry : Entry K)
    → IsIn entry history → kind entry ≢ n
none_of_kind n history none entry is_in is =
    grind (arith, nat_tests, none_passes (λ entry. nat_eq (kind entry) n) entry history none is_in)

module _ {K : Type 0} (order : K → K → Ordering) where
  -- an event of small numbers may be entered where no reading of its node is above its own by more than the backstep
  abbrev is_small : Event K → Bool
  is_small e = nat_lt e.node 2 && (nat_le 1 e.reading && nat_le e.stamp.counter max_counter)

  abbrev fell : Event K → Event K → Bool
  fell e d = nat_eq d.node e.node && nat_lt (e.reading + small_setup.backstep e.node) d.reading

  pub enters : (earlier : List (Entry K)) (e : Event K) → has_kind 3 earlier ≡ false
      → list_any (fell e) (events_of earlier) ≡ false
      → is_small e ≡ true → IsStamped 500 (events_of earlier) e e.what → MayBeWritten order small_setup earlier (Entered e)
  enters earlier e unclosed low small stamped = (
    λ closed. none_of_kind 3 earlier unclosed Closed closed refl,
    record {
      node = grind (arith, nat_tests, small);
      reading = grind (arith, nat_tests, small);
      clock = λ d is_in same. grind (arith, nat_tests, small, same, none_passes (fell e) d (events_of earlier) low is_in);
      stamped = stamped;
      counter = grind (arith, nat_tests, small);
    },
  )

-- the last send of a number, told by what is behind it
module _ {K : Type 0} where
  abbrev pub sends : ℕ → What K → Bool
  sends number Note = false
  sends number (Send n) = nat_eq n number
  sends number (Receipt n) = false
  sends number (Put key value) = false

  pub last_send : (events : List (Event K)) (number i : ℕ) → nat_lt i (length events) ≡ true
      → (event_at events i).what ≡ Send number
      → list_any (λ e. sends number e.what) (drop (suc i) events) ≡ false → IsLastSend events number i
  last_send events number i inside is none = record {
    inside = grind (arith, nat_tests, inside);
    sends = is;
    none_behind = λ other behind within sent.
        let place : suc i + (other - suc i) ≡ other = omega (arith, behind) in
        let there : get_or (drop (suc i) events) (other - suc i) no_event ≡ event_at events other =
        get_or-drop (suc i) events (other - suc i) no_event ∙ ap (event_at events) place in
        let not = none_at (λ e. sends number e.what) no_event (drop (suc i) events) (other - suc i)
        (omega (arith, length-drop (suc i) events, within, behind)) none in
        let itself : nat_eq number number ≡ true = grind (arith, nat_tests) in
        grind (arith, ap (λ e. sends number e.what) there, ap (sends number) sent, not, itself);
  }

  pub received : (events : List (Event K)) (e : Event K) (number send : ℕ) → nat_lt send (length events) ≡ true
      → (event_at events send).what ≡ Send number
      → list_any (λ e. sends number e.what) (drop (suc send) events) ≡ false
      → nat_le (event_at events send).stamp.time (e.reading + 500) ≡ true
      → e.stamp ≡ receipt_stamp (last_stamp events e.node) (event_at events send).stamp e.reading → IsReceived 500 events e number
  received events e number send inside is none near by_rule = record {
    send = send;
    last_send = last_send events number send inside is none;
    not_ahead = grind (arith, nat_tests, near);
    by_rule = by_rule;
  }
