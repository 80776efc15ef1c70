-- The last event of a node.
use Rattle.std.proofs.Common.{◌≡◌, ℕ, zero, suc, ◌<◌, ◌≤◌, ◌⊎◌, inl, inr, Bool, true, false, List, [], ◌∷◌, ◌++◌, Some, Option}
use Rattle.std.proofs.Common.{refl, sym, ap, ◌∙◌, arith}
use Rattle.std.specs.Prelude.{◌≢◌, ◌==◌, if◌then◌else◌, length, take}
use Rattle.std.specs.List.{last_or}
use Rattle.std.proofs.lemmas.Bool.Decides.{nat_tests}
use Rattle.std.proofs.lemmas.List.{append-nil, map-append}
use Rattle.std.proofs.Math.Seq.{take-suc}
use Rattle.std.proofs.lemmas.List.Elements.{filter-append}
use Rattle.stamps.specs.Stamp.{zero_stamp}
use Rattle.history.specs.Events.{Event, event_at, no_event}
use Rattle.history.specs.History.{last_stamp}
use Rattle.history.proofs.Lists.{up_to_next}

-- the last of a list with x at its end is x
last_or-push : {X : Type 0} (found : Option X) (xs : List X) (x : X) → last_or found (xs ++ x ∷ []) ≡ Some x
last_or-push found [] x = refl
last_or-push found (y ∷ ys) x = last_or-push (Some y) ys x

-- an event more is the last of its node, and of no other
pub last_stamp-push : {K : Type 0} (events : List (Event K)) (e : Event K) (node : ℕ) (same : Bool) → (e.node == node) ≡ same
    → last_stamp (events ++ e ∷ []) node ≡ (if same then e.stamp else last_stamp events node)
last_stamp-push events e node true is = simp (filter-append, is, map-append, last_or-push)
last_stamp-push events e node false is = simp (filter-append, is, append-nil)

module _ {K : Type 0} (events : List (Event K)) (node : ℕ) where
  -- Event i is the last of the node among the first n events.
  pub record IsLastOf (n i : ℕ) : Type 0 where
    pub before : i < n
    pub of_node : (event_at events i).node ≡ node
    pub none_behind : (k : ℕ) → k < n → i < k → (event_at events k).node ≢ node
    pub stamp : (event_at events i).stamp ≡ last_stamp (take n events) node

  -- None of the first n events is of the node.
  pub record HasNone (n : ℕ) : Type 0 where
    pub none : (k : ℕ) → k < n → (event_at events k).node ≢ node
    pub stamp : last_stamp (take n events) node ≡ zero_stamp

  abbrev pub HasLast : ℕ → Type 0
  HasLast n = ((i : ℕ) × IsLastOf n i) ⊎ HasNone n

  has_last_by : (n : ℕ) (same : Bool) → ((event_at events n).node == node) ≡ same
      → last_stamp (take (suc n) events) node ≡ (if same then (event_at events n).stamp else last_stamp (take n events) node)
      → HasLast n → HasLast (suc n)
  has_last_by n true is stamp found = inl (
    n,
    record {
      before = omega arith;
      of_node = grind (arith, nat_tests);
      none_behind = λ k less behind. absurd (omega arith);
      stamp = sym stamp;
    },
  )
  has_last_by n false is stamp found =
      let differs : (event_at events n).node ≢ node = λ same. grind (arith, nat_tests) in
      elim found [
        | inl last ↦ inl (
          last.0,
          record {
            before = omega (arith, last.1.before);
            of_node = last.1.of_node;
            none_behind = up_to_next _ n last.1.none_behind (λ behind. differs);
            stamp = last.1.stamp ∙ sym stamp;
          },
        )
        | inr none ↦ inr (record { none = up_to_next _ n none.none differs; stamp = stamp ∙ none.stamp })
      ]

  -- one of the first n events is the last of the node, or none is of it
  pub has_last : (n : ℕ) → n ≤ length events → HasLast n
  has_last zero within = inr (record { none = λ k less. absurd (omega arith); stamp = refl })
  has_last (suc n) within =
      let more = take-suc events n no_event within in
      has_last_by n _ refl (ap (λ es. last_stamp es node) more ∙ last_stamp-push (take n events) (event_at events n) node _ refl)
      (has_last n (omega (arith, within)))
