-- What is in a list, and induction on numbers.
use Rattle.std.proofs.Common.{◌≡◌, ℕ, zero, suc, ◌<◌, ◌⊎◌, inl, inr, Bool, false, List, [], ◌∷◌, ◌++◌, get_or, length, map, refl}
use Rattle.std.proofs.Common.{sym, subst, arith}
use Rattle.std.specs.Prelude.{take}
use Rattle.std.specs.List.{list_any}
use Rattle.std.proofs.lemmas.Bool.{cases_lt, or_parts}
use Rattle.std.proofs.lemmas.List.{get_or_append_left, get_or_push, length-append, take-append-le, take_at}
use Rattle.store.specs.Newest.{IsIn}

-- what is in one of two lists is in both joined
pub in_append : {X : Type 0} (x : X) (xs ys : List X) → IsIn x xs ⊎ IsIn x ys → IsIn x (xs ++ ys)
in_append x [] ys is_in = grind arith
in_append x (z ∷ xs) ys is_in = let more = in_append x xs ys in grind arith

-- what holds of each in a list, and of y, holds of each in the list with y at its end
pub each_push : {X : Type 0} (P : X → Type 0) (y : X) (xs : List X) → ((x : X) → IsIn x xs → P x) → P y → (x : X)
    → IsIn x (xs ++ y ∷ []) → P x
each_push P y [] each here x (inl is) = subst P (sym is) here
each_push P y [] each here x (inr there) = elim there [ ]
each_push P y (z ∷ xs) each here x (inl is) = each x (inl is)
each_push P y (z ∷ xs) each here x (inr there) = each_push P y xs (λ w is_in. each w (inr is_in)) here x there

-- what stands at a place of a list is in it, and what is in it stands at a place (d is what stands nowhere)
module _ {X : Type 0} (d : X) where
  pub at_in : (xs : List X) (place : ℕ) → place < length xs → IsIn (get_or xs place d) xs
  at_in [] place inside = absurd (omega (arith, inside))
  at_in (x ∷ xs) zero inside = inl refl
  at_in (x ∷ xs) (suc place) inside = inr (at_in xs place (omega (arith, inside)))

  pub placed : (x : X) (xs : List X) → IsIn x xs → (place : ℕ) × (place < length xs) × (get_or xs place d ≡ x)
  placed x [] is_in = elim is_in [ ]
  placed x (y ∷ xs) (inl here) = (0, omega arith, sym here)
  placed x (y ∷ xs) (inr there) = let found = placed x xs there in (suc found.0, omega (arith, found.1), found.2)

-- where none passes a test, what is in does not
pub none_passes : {X : Type 0} (test : X → Bool) (x : X) (xs : List X) → list_any test xs ≡ false → IsIn x xs → test x ≡ false
none_passes test x [] none is_in = elim is_in [ ]
none_passes test x (y ∷ ys) none (inl here) = rw here (or_parts (test y) (list_any test ys) none).0
none_passes test x (y ∷ ys) none (inr there) = none_passes test x ys (or_parts (test y) (list_any test ys) none).1 there

-- Where each of a list may stand behind those before it, and x behind all, this holds with x at the end too. (d is what stands nowhere.)
pub one_more : {X : Type 0} (May : List X → X → Type 0) (d : X) (xs : List X) (x : X)
    → ((j : ℕ) → j < length xs → May (take j xs) (get_or xs j d)) → May xs x
    → (j : ℕ) → j < length (xs ++ x ∷ []) → May (take j (xs ++ x ∷ [])) (get_or (xs ++ x ∷ []) j d)
one_more May d xs x each may j inside = elim (cases_lt j (length xs)) [
  | inl earlier ↦ rw (take-append-le j xs (x ∷ []) (omega (arith, earlier)), get_or_append_left xs (x ∷ []) d j earlier)
      (each j earlier)
  | inr last ↦
      let is : length xs ≡ j = omega (arith, last, inside, length-append xs (x ∷ [])) in
      rw (take_at xs (x ∷ []) j is, get_or_push xs x d j is) may
]

-- what holds of f x for each x in a list holds of each y in the list that f makes of it
pub of_map : {X Y : Type 0} (P : Y → Type 0) (f : X → Y) (xs : List X) → ((x : X) → IsIn x xs → P (f x)) → (y : Y)
    → IsIn y (map f xs) → P y
of_map P f [] each y is_in = elim is_in [ ]
of_map P f (x ∷ xs) each y (inl here) = subst P (sym here) (each x (inl refl))
of_map P f (x ∷ xs) each y (inr there) = of_map P f xs (λ z is_in. each z (inr is_in)) y there

-- what holds of the numbers below n, and of n, holds of those below the next
pub up_to_next : (P : ℕ → Type 0) (n : ℕ) → ((k : ℕ) → k < n → P k) → P n → (k : ℕ) → k < suc n → P k
up_to_next P n below here k less =
    elim (cases_lt k n) [ inl earlier ↦ below k earlier | inr at ↦ subst P (omega (arith, at, less)) here ]

-- what holds of each number if it holds of all smaller ones holds of all: of those below any n, and so of each
all_below : (P : ℕ → Type 0) → ((j : ℕ) → ((i : ℕ) → i < j → P i) → P j) → (n k : ℕ) → k < n → P k
all_below P each zero k less = absurd (omega (arith, less))
all_below P each (suc n) k less = let below = all_below P each n in up_to_next P n below (each n below) k less

pub by_earlier : (P : ℕ → Type 0) → ((j : ℕ) → ((i : ℕ) → i < j → P i) → P j) → (j : ℕ) → P j
by_earlier P each j = each j (all_below P each j)
