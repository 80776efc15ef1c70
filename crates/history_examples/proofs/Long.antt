-- Notes are a history up to the last counter.
use Rattle.std.proofs.Common.{◌≡◌, ℕ, zero, suc, ◌+◌, ◌≤◌, ◌++◌, true, [], ◌∷◌, refl, ap, ◌∙◌, subst, sym, arith}
use Rattle.std.specs.declared.cmp.Ordering.{Ordering}
use Rattle.std.proofs.Math.Dec.{lit<, lit≤}
use Rattle.stamps.specs.Rules.{own_stamp}
use Rattle.store.specs.Newest.{IsIn}
use Rattle.history.specs.Events.{Event, Note}
use Rattle.history.specs.History.{Closed, Entered, Entry, IsHistory, MayBeWritten, events_of, last_stamp}
use Rattle.history.proofs.Entries.{events_of-append}
use Rattle.history.proofs.Last.{last_stamp-push}
use Rattle.history.proofs.Lists.{each_push}
use Rattle.history_examples.specs.Examples.{LongIsHistory, notes, small_setup}
use Rattle.history_examples.proofs.Entering.{kind}
use Rattle.history.proofs.Lists.{one_more}

module _ (K : Type 0) where
  abbrev note : ℕ → Event K
  note n = record { node = 0; reading = 1000; stamp = record { time = 1000; counter = n }; what = Note }

  -- one note more
  more : (n : ℕ) → events_of (notes (suc n)) ≡ events_of (notes n) ++ note n ∷ []
  more n = events_of-append (notes n) (Entered (note n) ∷ [])

  all_entered : (n : ℕ) (entry : Entry K) → IsIn entry (notes n) → kind entry ≡ 0
  all_entered zero entry is_in = elim is_in [ ]
  all_entered (suc n) entry is_in =
      each_push (λ entry. kind entry ≡ 0) (Entered (note n)) (notes n) (all_entered n) refl entry is_in

  all_at_1000 : (n : ℕ) (e : Event K) → IsIn e (events_of (notes n)) → e.reading ≡ 1000
  all_at_1000 zero e is_in = elim is_in [ ]
  all_at_1000 (suc n) e is_in = each_push (λ e. e.reading ≡ 1000) (note n) (events_of (notes n)) (all_at_1000 n) refl e
      (subst (IsIn e) (more n) is_in)

  stamped : (n : ℕ) → (note n).stamp ≡ own_stamp (last_stamp (events_of {K = K} (notes n)) 0) 1000
  stamped zero = refl
  stamped (suc n) =
      let last : last_stamp (events_of {K = K} (notes (suc n))) 0 ≡ (note n).stamp =
      ap (λ events. last_stamp events 0) (more n) ∙ last_stamp-push (events_of (notes n)) (note n) 0 true refl in
      let next : suc n ≡ n + 1 = omega arith in
      let goes_on : (note (suc n)).stamp ≡ own_stamp (note n).stamp 1000 = λ i. record { time = 1000; counter = next i } in
      goes_on ∙ ap (λ s. own_stamp s 1000) (sym last)

  long : (order : K → K → Ordering) (n : ℕ) → n ≤ 65536 → IsHistory order small_setup (notes n)
  long order zero within = λ j inside. absurd (omega (arith, inside))
  long order (suc n) within = one_more (MayBeWritten order small_setup) Closed (notes n) (Entered (note n))
      (long order n (omega (arith, within))) (
        λ closed. absurd (omega (arith, all_entered n Closed closed)),
        record {
          node = lit< tt;
          reading = lit≤ tt;
          clock = λ d is_in same. omega (arith, all_at_1000 n d is_in);
          stamped = stamped n;
          counter = omega (arith, within);
        },
      )

pub long_is_history : {K : Type 0} (order : K → K → Ordering) → LongIsHistory order
long_is_history {K} order = long K order 65536 (lit≤ tt)
