-- No version is above the last stamp of its node.
use Rattle.std.proofs.Common.{◌≡◌, ℕ, ◌<◌, ◌≤◌, inl, inr, Bool, true, false, if◌then◌else◌, List, length, nat_le, Ok, Err, Result}
use Rattle.std.proofs.Common.{IsOk, OnOk, refl, arith}
use Rattle.std.specs.declared.cmp.Ordering.{Ordering}
use Rattle.std.proofs.lemmas.Bool.{cases_eq}
use Rattle.std.proofs.lemmas.Bool.Decides.{nat_tests}
use Rattle.std.proofs.lemmas.List.{get_or-set_other, get_or-set_same}
use Rattle.refusals.specs.Refusals.{shown}
use Rattle.refusals.specs.declared.refusal.Refusal.{Refusal}
use Rattle.stamps.specs.Stamp.{Timestamp, code_of, zero_stamp}
use Rattle.store.specs.Contents.{Contents, add_answer, after_add}
use Rattle.store.specs.Versions.{has_id}
use Rattle.store.specs.declared.version.Version.{Version}
use Rattle.store.proofs.Adding.{in_with_version, no_id}
use Rattle.stamper.specs.Readings.{taken_answer}
use Rattle.stamper.specs.Stamps.{stamp_at, with_last}
use Rattle.recorder.specs.State.{IsBehind}

module _ {K : Type 0} (last : List Timestamp) (contents : Contents K) (behind : IsBehind last contents) where
  -- a later stamp of a node leaves it so
  pub behind_later : (node : ℕ) (stamp : Timestamp) → node < length last → code_of (stamp_at last node) < code_of stamp
      → IsBehind (with_last node stamp last) contents
  behind_later node stamp inside later v is_in = elim (cases_eq v.node node) [
    | inl same ↦
        let old : v.stamp ≤ code_of (stamp_at last node) = rw (← same) (behind v is_in) in
        rw (same, get_or-set_same last node stamp zero_stamp inside) (omega (arith, old, later))
    | inr other ↦ rw (get_or-set_other last node v.node stamp zero_stamp other) (behind v is_in)
  ]

  module _ (order : K → K → Ordering) (v : Version K) (stamp : Timestamp) (is : v.stamp ≡ code_of stamp)
      (inside : v.node < length last) (later : code_of (stamp_at last v.node) < code_of stamp) where
    -- a version of that stamp is not there yet
    pub is_new : has_id order v contents.versions ≡ false
    is_new = no_id order v contents.versions (λ w is_in same.
        let old : w.stamp ≤ code_of (stamp_at last v.node) = rw (← same) (behind w is_in) in
        omega (arith, old, later, is))

    -- so that there being room, it is added
    pub not_refused : length contents.versions < contents.capacity → (r : Result (Unit {0}) Refusal)
        → shown r ≡ add_answer order contents v → (refusal : Refusal) → r ≡ Err refusal → ⊥
    not_refused room r answer refusal refused =
        let added : add_answer order contents v ≡ Ok tt = rw is_new (grind (arith, nat_tests)) in
        let z : ◌≡◌ {A = ℕ} 0 1 = cc in
        omega (arith, z)

    -- which leaves it so
    put_by : (full : Bool) → nat_le contents.capacity (length contents.versions) ≡ full
        → IsBehind (with_last v.node stamp last) (after_add order contents v)
    put_by true is_full = rw (is_new, is_full) (behind_later v.node stamp inside later)
    put_by false has_room = rw (is_new, has_room) (λ w is_in. elim ((in_with_version order w v contents.versions).1 is_in) [
      | inl here ↦ rw (here, get_or-set_same last v.node stamp zero_stamp inside) (omega (arith, is))
      | inr there ↦ behind_later v.node stamp inside later w there
    ])

    pub behind_put : IsBehind (with_last v.node stamp last) (after_add order contents v)
    behind_put = put_by (nat_le contents.capacity (length contents.versions)) refl

-- where there is such a node and its clock answers a reading, the event is entered
pub when_read : (P : Type 0) (r : Result (Unit {0}) Refusal) (inside : Bool) (clock : Result ℕ ℕ)
    → inside ≡ true → IsOk clock → shown r ≡ (if inside then taken_answer clock else Err 7) → OnOk r P → P
when_read P (Ok u) inside clock is read answer holds = holds
when_read P (Err refusal) true (Ok reading) is read answer holds = absurd (let z : ◌≡◌ {A = ℕ} 0 1 = cc in omega (arith, z))
when_read P (Err refusal) true (Err number) is read answer holds = absurd (let z : ◌≡◌ {A = ℕ} 0 1 = cc in omega (arith, z))
when_read P (Err refusal) false clock is read answer holds = absurd (let z : ◌≡◌ {A = ℕ} 0 1 = cc in omega (arith, z))
