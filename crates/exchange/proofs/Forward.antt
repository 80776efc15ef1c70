-- A later stamp of a node leaves no last stamp behind.
use Rattle.std.proofs.Common.{ℕ, ◌<◌, inl, inr, List, length, arith}
use Rattle.std.proofs.lemmas.Bool.{cases_eq}
use Rattle.std.proofs.lemmas.List.{get_or-set_other, get_or-set_same}
use Rattle.stamper.specs.Stamps.{stamp_at, with_last}
use Rattle.stamps.specs.Stamp.{Timestamp, code_of, zero_stamp}
use Rattle.exchange.specs.State.{GoesForward}

pub forward_with_last : (last : List Timestamp) (node : ℕ) (stamp : Timestamp) → node < length last
    → code_of (stamp_at last node) < code_of stamp → GoesForward last (with_last node stamp last)
forward_with_last last node stamp inside later other = elim (cases_eq other node) [
  | inl same ↦ rw (same, get_or-set_same last node stamp zero_stamp inside) (omega (arith, later))
  | inr differs ↦ rw (get_or-set_other last node other stamp zero_stamp differs) (omega arith)
]
