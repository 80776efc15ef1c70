-- A page has no more rows than there are places for versions.
use Rattle.std.proofs.Common.{◌≡◌, ℕ, suc, ◌<◌, ◌≤◌, ℤ, Bool, true, false, List, [], ◌∷◌, length, map, Some, None, Ok, Err, Option}
use Rattle.std.proofs.Common.{Result, refl, arith}
use Rattle.std.specs.List.{cons_option, dedup, dedup_from, filter_map}
use Rattle.std.specs.Cmp.{IsTotalOrder}
use Rattle.std.specs.Ordering.{is_eq}
use Rattle.std.specs.declared.cmp.Ordering.{Ordering}
use Rattle.std.proofs.lemmas.Bool.Decides.{nat_tests}
use Rattle.std.proofs.lemmas.List.{length-map}
use Rattle.clocks.specs.declared.sample.Sample.{Sample}
use Rattle.recorder.specs.Answers.{put_answer}
use Rattle.recorder.specs.Changes.{after_put}
use Rattle.recorder.specs.State.{State}
use Rattle.replay.specs.declared.call.Call.{Call}
use Rattle.replay.specs.declared.call.Call.TheVariants as call
use Rattle.stamps.specs.Rules.{StampedNumbers}
use Rattle.stamps.specs.Stamp.{code_of}
use Rattle.store.specs.Keys.{keys}
use Rattle.store.specs.Newest.{newest}
use Rattle.store.specs.Page.{page}
use Rattle.store.specs.declared.version.Version.{Version}
use Rattle.store.proofs.Adding.{length-with_version}
use Rattle.trace_replay.specs.Machine.{behind_call, clocks_of, trace_end}

-- what a map gives of a list is no longer
no_longer : {X Y : Type 0} (f : X → Option Y) (xs : List X) → length (filter_map f xs) ≤ length xs
no_longer f [] = omega arith
no_longer f (x ∷ xs) = go (f x) (no_longer f xs)
  where
    go : (found : Option _) → length (filter_map f xs) ≤ length xs → length (cons_option found (filter_map f xs)) ≤ suc (length xs)
    go None rest = omega (arith, rest)
    go (Some y) rest = omega (arith, rest)

-- nor is what is left of it without repeats
fewer_from : {X : Type 0} (same : X → X → Bool) (k : X) (xs : List X) → length (dedup_from same k xs) ≤ suc (length xs)
fewer_from same k [] = omega arith
fewer_from same k (x ∷ xs) = go (same x k) refl (fewer_from same k xs) (fewer_from same x xs)
  where
    go : (b : Bool) → same x k ≡ b → length (dedup_from same k xs) ≤ suc (length xs)
        → length (dedup_from same x xs) ≤ suc (length xs) → length (dedup_from same k (x ∷ xs)) ≤ suc (suc (length xs))
    go true is kept other = rw is (omega (arith, kept))
    go false is kept other = rw is (omega (arith, other))

fewer : {X : Type 0} (same : X → X → Bool) (xs : List X) → length (dedup same xs) ≤ length xs
fewer same [] = omega arith
fewer same (x ∷ xs) = fewer_from same x xs

module _ {K : Type 0} (order : K → K → Ordering) (total : IsTotalOrder order) where
  page_fits : (versions : List (Version K)) (stamp : ℕ) → length (page order versions stamp) ≤ length versions
  page_fits versions stamp =
      omega (
        arith,
        no_longer (λ key. newest order versions key stamp) (keys order versions),
        fewer (λ k l. is_eq (order k l)) (map (λ (v : Version K). v.key) versions),
        length-map versions (λ (v : Version K). v.key),
      )

  -- no more versions than there are places
  abbrev Fits : ℕ → State (ℕ → ℕ) K → Type 0
  Fits places s = (s.contents.capacity ≡ places) × (length s.contents.versions ≤ places)

  module _ (backstep places : ℕ) where
    -- where a put was answered so
    fits_put : (s : State (ℕ → ℕ) K) (sample : Sample) (key : K) (value : ℤ) (answer : Result StampedNumbers ℕ)
        (bank : ℕ → ℕ)
        → put_answer (clocks_of backstep) s sample ≡ answer → Fits places s
        → Fits places (after_put s order sample key value answer bank)
    fits_put s sample key value (Err refusal) bank is fits = fits
    fits_put s sample key value (Ok event) bank is fits =
        let room : length s.contents.versions < s.contents.capacity = grind (arith, nat_tests, is) in
        let v : Version K = record { key = key; stamp = code_of event.stamp; node = sample.node; value = value } in
        (fits.0, omega (arith, room, fits.0, length-with_version order total v s.contents.versions))

    fits_next : (s : State (ℕ → ℕ) K) (c : Call K) → Fits places s → Fits places (behind_call order backstep s c)
    fits_next s (call.Note sample) fits = grind (arith, fits)
    fits_next s (call.Send sample to number) fits = grind (arith, fits)
    fits_next s (call.Receipt sample number) fits = grind (arith, fits)
    fits_next s (call.Loss number) fits = grind (arith, fits)
    fits_next s (call.Put sample key value) fits = fits_put s sample key value _ _ refl fits
    fits_next s (call.Ask q) fits = fits

    fits_end : (s : State (ℕ → ℕ) K) (calls : List (Call K)) → Fits places s → Fits places (trace_end order backstep s calls)
    fits_end s [] fits = fits
    fits_end s (c ∷ calls) fits = fits_end (behind_call order backstep s c) calls (fits_next s c fits)

  -- so that a page of what is there behind the calls has a row for each place at most
  pub rows_fit : (backstep places : ℕ) (s : State (ℕ → ℕ) K) (calls : List (Call K)) (stamp : ℕ)
      → s.contents.capacity ≡ places → s.contents.versions ≡ []
      → length (page order (trace_end order backstep s calls).contents.versions stamp) ≤ places
  rows_fit backstep places s calls stamp capacity none =
      let fits = fits_end backstep places s calls (capacity, rw none (omega arith)) in
      omega (arith, fits.1, page_fits (trace_end order backstep s calls).contents.versions stamp)
