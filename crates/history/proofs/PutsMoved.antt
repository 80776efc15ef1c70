-- Where the events of one order are those of another, so are their puts.
use Rattle.std.proofs.Common.{◌≡◌, ℕ, ◌<◌, List, length}
use Rattle.history.specs.Events.{Event, event_at, puts}
use Rattle.history.specs.Unique.{IsReordering}
use Rattle.history.proofs.Puts.{in_puts, put_at}
use Rattle.history.proofs.SameVersions.{AreSameUpTo}
use Rattle.history.proofs.StampsMoved.{AreKept}

module _ {K : Type 0} {one other : List (Event K)} {to from : ℕ → ℕ} (moved : IsReordering one other to from)
    (stamps : AreKept one other to (λ e. e.stamp)) where
  -- an event is the same at its other place, so that it puts the same version
  event_moved : (i : ℕ) → i < length one → event_at other (to i) ≡ event_at one i
  event_moved i inside = λ k. record {
    node = moved.node i inside k;
    reading = moved.reading i inside k;
    stamp = stamps i inside k;
    what =
        moved.what i inside k;
  }

  pub puts_same : (stamp : ℕ) → AreSameUpTo stamp (puts one) (puts other)
  puts_same stamp = record {
    there = λ v below is_in.
        let put = put_at one v is_in in
        in_puts other v (to put.place) (moved.there put.place put.inside).0 (rw (event_moved put.place put.inside) put.is);
    back = λ v below is_in.
        let put = put_at other v is_in in
        let place = moved.back put.place put.inside in
        in_puts one v (from put.place) place.0 (rw (← event_moved (from put.place) place.0, place.1) put.is);
  }
