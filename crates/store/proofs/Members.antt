-- What is in a list.
use Rattle.std.proofs.Common.{◌≡◌, ◌⊎◌, inl, inr, Bool, true, false, List, [], ◌∷◌, Some, None, Option, refl, sym, ap, ◌∙◌, subst}
use Rattle.std.specs.Cmp.{IsTotalOrder}
use Rattle.std.specs.declared.cmp.Ordering.{Ordering}
use Rattle.std.specs.declared.cmp.Ordering.TheVariants.{Less, Equal, Greater}
use Rattle.std.specs.List.{AllByRecursion, filter, last_or}
use Rattle.std.specs.Option.{unwrap_or}
use Rattle.std.specs.Ordering.{is_eq, is_lt, ordering_reverse}
use Rattle.std.specs.List.Sorted.{IsStrictlySortedBy}
use Rattle.std.proofs.lemmas.Bool.{both_ways}
use Rattle.std.proofs.lemmas.Cmp.{tied_back, tied_itself}
use Rattle.store.specs.Newest.{IsIn}

not_both : Equal ≡ Less → ⊥
not_both is = both_ways false refl (sym (ap is_eq is))

not_turned : Less ≡ Greater → ⊥
not_turned is = both_ways false refl (sym (ap is_lt is))

module _ {X : Type 0} where
  -- what holds of each holds of what is in
  pub of_each : (P : X → Type 0) (x : X) (xs : List X) → AllByRecursion P xs → IsIn x xs → P x
  of_each P x [] all is_in = elim is_in [ ]
  of_each P x (y ∷ ys) all (inl here) = subst P (sym here) all.0
  of_each P x (y ∷ ys) all (inr there) = of_each P x ys all.1 there

  in_filter_by : (p : X → Bool) (x y : X) (ys : List X) (b : Bool) → p y ≡ b → p x ≡ true → IsIn x (y ∷ ys)
      → (IsIn x ys → IsIn x (filter p ys)) → IsIn x (filter p (y ∷ ys))
  in_filter_by p x y ys true is passes (inl here) more = rw is (inl here)
  in_filter_by p x y ys true is passes (inr there) more = rw is (inr (more there))
  in_filter_by p x y ys false is passes (inl here) more = absurd (both_ways (p y) is (subst (λ z. p z ≡ true) here passes))
  in_filter_by p x y ys false is passes (inr there) more = rw is (more there)

  pub in_filter : (p : X → Bool) (x : X) (xs : List X) → p x ≡ true → IsIn x xs → IsIn x (filter p xs)
  in_filter p x [] passes is_in = elim is_in [ ]
  in_filter p x (y ∷ ys) passes is_in = in_filter_by p x y ys (p y) refl passes is_in (in_filter p x ys passes)

  from_filter_by : (p : X → Bool) (x y : X) (ys : List X) (b : Bool) → p y ≡ b → IsIn x (filter p (y ∷ ys))
      → (IsIn x (filter p ys) → IsIn x ys × (p x ≡ true)) → IsIn x (y ∷ ys) × (p x ≡ true)
  from_filter_by p x y ys true is is_in more = from_first (rw is at is_in)
    where
      from_first : (x ≡ y) ⊎ IsIn x (filter p ys) → IsIn x (y ∷ ys) × (p x ≡ true)
      from_first (inl here) = (inl here, ap p here ∙ is)
      from_first (inr there) = (inr (more there).0, (more there).1)
  from_filter_by p x y ys false is is_in more = let found = more (rw is at is_in) in (inr found.0, found.1)

  pub from_filter : (p : X → Bool) (x : X) (xs : List X) → IsIn x (filter p xs) → IsIn x xs × (p x ≡ true)
  from_filter p x [] is_in = elim is_in [ ]
  from_filter p x (y ∷ ys) is_in = from_filter_by p x y ys (p y) refl is_in (from_filter p x ys)

  pub last_in : (found : Option X) (x : X) (xs : List X) → (y : X) × (last_or found (x ∷ xs) ≡ Some y) × IsIn y (x ∷ xs)
  last_in found x [] = (x, refl, inl refl)
  last_in found x (y ∷ ys) = let last = last_in (Some x) y ys in (last.0, last.1, inr last.2)

  pub only_some : (x y : X) → ◌≡◌ {A = Option X} (Some x) (Some y) → x ≡ y
  only_some x y is = ap (λ found. unwrap_or found x) is

  pub last_is_in : (x : X) (xs : List X) (y : X) → last_or None (x ∷ xs) ≡ Some y → IsIn y (x ∷ xs)
  last_is_in x xs y is = let last = last_in None x xs in
      subst (λ z. IsIn z (x ∷ xs)) (only_some last.0 y (sym last.1 ∙ is)) last.2

  -- in a list in order, all but the last are before it
  pub before_last : (R : X → X → Ordering) (found : Option X) (x : X) (xs : List X) (y : X) → IsStrictlySortedBy R (x ∷ xs)
      → last_or found (x ∷ xs) ≡ Some y → (z : X) → IsIn z (x ∷ xs) → (z ≡ y) ⊎ (R z y ≡ Less)
  unfolding IsStrictlySortedBy
  before_last R found x [] y sorted is z (inl here) = inl (here ∙ only_some x y is)
  before_last R found x [] y sorted is z (inr there) = elim there [ ]
  before_last R found x (w ∷ ws) y sorted is z (inl here) =
      inr (subst (λ u. R u y ≡ Less) (sym here) (of_each (λ u. R x u ≡ Less) y (w ∷ ws) sorted.0 (last_is_in w ws y is)))
  before_last R found x (w ∷ ws) y sorted is z (inr there) = before_last R (Some x) w ws y sorted.1 is z there

  -- of what is in a list in order, two that tie are the same
  pub tied_same : (R : X → X → Ordering) → IsTotalOrder R → (xs : List X) → IsStrictlySortedBy R xs → (x y : X) → IsIn x xs
      → IsIn y xs → R x y ≡ Equal → x ≡ y
  unfolding IsStrictlySortedBy
  tied_same R total [] sorted x y in_x in_y tie = elim in_x [ ]
  tied_same R total (z ∷ zs) sorted x y (inl here) (inl there) tie = here ∙ sym there
  tied_same R total (z ∷ zs) sorted x y (inl here) (inr there) tie =
      absurd (not_both (sym tie ∙ ap (λ u. R u y) here ∙ of_each (λ u. R z u ≡ Less) y zs sorted.0 there))
  tied_same R total (z ∷ zs) sorted x y (inr there) (inl here) tie =
      absurd (not_both (sym (tied_back total x y tie) ∙ ap (λ u. R u x) here ∙ of_each (λ u. R z u ≡ Less) x zs sorted.0 there))
  tied_same R total (z ∷ zs) sorted x y (inr there) (inr here) tie = tied_same R total zs sorted.1 x y there here tie

  same_head : (R : X → X → Ordering) → IsTotalOrder R → (x y : X) (xs ys : List X) → AllByRecursion (λ z. R x z ≡ Less) xs
      → AllByRecursion (λ z. R y z ≡ Less) ys → IsIn x (y ∷ ys) → IsIn y (x ∷ xs) → x ≡ y
  same_head R total x y xs ys before before′ (inl same) from = same
  same_head R total x y xs ys before before′ (inr there) (inl same) = sym same
  same_head R total x y xs ys before before′ (inr there) (inr there′) =
      absurd (not_turned (sym (of_each (λ z. R x z ≡ Less) y xs before there′) ∙ total.antisymm x y
      ∙ ap ordering_reverse (of_each (λ z. R y z ≡ Less) x ys before′ there)))

  not_itself : (R : X → X → Ordering) → IsTotalOrder R → (x z : X) → z ≡ x → R x z ≡ Less → ⊥
  not_itself R total x z same before = not_both (sym (tied_itself total x) ∙ ap (R x) (sym same) ∙ before)

  behind_head : (R : X → X → Ordering) → IsTotalOrder R → (x y : X) (xs ys : List X) → x ≡ y
      → AllByRecursion (λ z. R x z ≡ Less) xs → ((z : X) → IsIn z (x ∷ xs) → IsIn z (y ∷ ys)) → (z : X) → IsIn z xs → IsIn z ys
  behind_head R total x y xs ys same before to z there = elim (to z (inr there)) [
    | inl here ↦ absurd (not_itself R total x z (here ∙ sym same) (of_each (λ u. R x u ≡ Less) z xs before there))
    | inr there′ ↦ there′
  ]

  -- two lists in order of which each has what the other has are the same
  pub same_members : (R : X → X → Ordering) → IsTotalOrder R → (xs ys : List X) → IsStrictlySortedBy R xs
      → IsStrictlySortedBy R ys → ((z : X) → IsIn z xs → IsIn z ys) → ((z : X) → IsIn z ys → IsIn z xs) → xs ≡ ys
  unfolding IsStrictlySortedBy
  same_members R total [] [] sorted sorted′ to from = refl
  same_members R total [] (y ∷ ys) sorted sorted′ to from = elim (from y (inl refl)) [ ]
  same_members R total (x ∷ xs) [] sorted sorted′ to from = elim (to x (inl refl)) [ ]
  same_members R total (x ∷ xs) (y ∷ ys) sorted sorted′ to from =
      let same = same_head R total x y xs ys sorted.0 sorted′.0 (to x (inl refl)) (from y (inl refl)) in
      let rest = same_members R total xs ys sorted.1 sorted′.1 (behind_head R total x y xs ys same sorted.0 to)
      (behind_head R total y x ys xs (sym same) sorted′.0 from) in
      λ i. same i ∷ rest i
