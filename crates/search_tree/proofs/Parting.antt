-- Versions in order, seen from one in their midst.
use Rattle.std.proofs.Common.{◌≡◌, ℕ, true, false, List, [], ◌∷◌, ◌++◌, Option, Some, None, refl, arith}
use Rattle.std.specs.Cmp.{IsTotalOrder}
use Rattle.std.specs.declared.cmp.Ordering.{Ordering}
use Rattle.std.specs.declared.cmp.Ordering.TheVariants.{Less}
use Rattle.std.specs.List.{AllByRecursion, filter, find, last_or}
use Rattle.std.specs.List.Sorted.{IsStrictlySortedBy}
use Rattle.std.specs.Option.{option_map, option_or}
use Rattle.std.proofs.lemmas.Bool.Decides.{nat_tests}
use Rattle.std.proofs.lemmas.List.{append-nil}
use Rattle.std.proofs.lemmas.List.Elements.{filter-append}
use Rattle.std.proofs.lemmas.List.Folds.{find-append}
use Rattle.store.specs.Keys.{first_key, is_after, next_key}
use Rattle.store.specs.Versions.{IsSorted, is_up_to, id_cmp}
use Rattle.store.specs.declared.version.Version.{Version}
use Rattle.store.proofs.Descent.{none_up_to, not_after_before}
use Rattle.store.proofs.Order.{Leads}

pub or_none : {X : Type 0} (o : Option X) → option_or o None ≡ o
or_none None = refl
or_none (Some x) = refl

first_found : {K : Type 0} (found : Option (Version K)) (v : Version K) (next : Option K)
    → option_or (option_map (λ w. w.key) (option_or found (Some v))) next ≡ option_or (option_map (λ w. w.key) found) (Some v.key)
first_found None v next = refl
first_found (Some w) v next = refl

last_behind : {X : Type 0} (last : Option X) (xs : List X) (y : X) (ys : List X)
    → last_or last (xs ++ y ∷ ys) ≡ last_or (Some y) ys
last_behind last [] y ys = refl
last_behind last (x ∷ xs) y ys = last_behind (Some x) xs y ys

pub first_key_step : {K : Type 0} (first : Option K) (us : List (Version K)) (v : Version K) (ws : List (Version K))
    → option_or (first_key (us ++ v ∷ ws)) first ≡ option_or (first_key us) (Some v.key)
first_key_step first [] v ws = refl
first_key_step first (u ∷ us) v ws = refl

-- Versions, seen from one in their midst
module _ {K : Type 0} (order : K → K → Ordering) where
  -- each of these is before v
  abbrev pub Trails : Version K → List (Version K) → Type 0
  Trails v us = AllByRecursion (λ u. id_cmp order u v ≡ Less) us

  pub record IsParted (us : List (Version K)) (v : Version K) (ws : List (Version K)) : Type 0 where
    pub left : IsSorted order us
    pub right : IsSorted order ws
    pub before : Trails v us
    pub after : Leads order v ws

  leads_parts : (u v : Version K) (us ws : List (Version K)) → Leads order u (us ++ v ∷ ws)
      → Leads order u us × (id_cmp order u v ≡ Less)
  leads_parts u v [] ws leads = (tt, leads.0)
  leads_parts u v (x ∷ us) ws leads = let rest = leads_parts u v us ws leads.1 in ((leads.0, rest.0), rest.1)

  pub parted : (us : List (Version K)) (v : Version K) (ws : List (Version K)) → IsSorted order (us ++ v ∷ ws) → IsParted us v ws
  unfolding IsStrictlySortedBy
  parted [] v ws sorted = record { left = tt; right = sorted.1; before = tt; after = sorted.0 }
  parted (u ∷ us) v ws sorted =
      let rest = parted us v ws sorted.1 in
      let leads = leads_parts u v us ws sorted.0 in
      record { left = (leads.0, rest.left); right = rest.right; before = (leads.1, rest.before); after = rest.after }

  module _ (total : IsTotalOrder order) (key : K) where
    none_after : (v : Version K) (us : List (Version K)) → Trails v us → is_after order key v ≡ false
        → find (is_after order key) us ≡ None
    none_after v [] before not_after = refl
    none_after v (u ∷ us) before not_after =
        grind (arith, nat_tests, not_after_before order total key u v before.0, none_after v us before.1 not_after)

    -- one that is not after has only such before it
    pub next_key_right : (next : Option K) (us : List (Version K)) (v : Version K) (ws : List (Version K)) → Trails v us
        → is_after order key v ≡ false → option_or (next_key order (us ++ v ∷ ws) key) next
        ≡ option_or (next_key order ws key) next
    next_key_right next us v ws before not_after =
        rw (find-append (is_after order key) us (v ∷ ws), none_after v us before not_after, not_after)

    pub next_key_left : (next : Option K) (us : List (Version K)) (v : Version K) (ws : List (Version K))
        → is_after order key v ≡ true → option_or (next_key order (us ++ v ∷ ws) key) next
        ≡ option_or (next_key order us key) (Some v.key)
    next_key_left next us v ws after =
        rw (find-append (is_after order key) us (v ∷ ws), after) (first_found (find (is_after order key) us) v next)

  module _ (total : IsTotalOrder order) (key : K) (stamp : ℕ) where
    pub last_right : (last : Option (Version K)) (us : List (Version K)) (v : Version K) (ws : List (Version K))
        → is_up_to order key stamp v ≡ true
        → last_or last (filter (is_up_to order key stamp) (us ++ v ∷ ws))
        ≡ last_or (Some v) (filter (is_up_to order key stamp) ws)
    last_right last us v ws up = rw (filter-append (is_up_to order key stamp) us (v ∷ ws), up)
        (last_behind last (filter (is_up_to order key stamp) us) v (filter (is_up_to order key stamp) ws))

    -- one that is above has only such behind it
    pub last_left : (last : Option (Version K)) (us : List (Version K)) (v : Version K) (ws : List (Version K)) → Leads order v ws
        → is_up_to order key stamp v ≡ false
        → last_or last (filter (is_up_to order key stamp) (us ++ v ∷ ws)) ≡ last_or last (filter (is_up_to order key stamp) us)
    last_left last us v ws behind above =
        rw (
          filter-append (is_up_to order key stamp) us (v ∷ ws),
          above,
          none_up_to order total key stamp v ws above behind,
          append-nil,
        )
