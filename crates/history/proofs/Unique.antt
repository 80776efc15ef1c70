-- What a history determines.
use Rattle.std.specs.Cmp.{IsTotalOrder}
use Rattle.std.specs.declared.cmp.Ordering.{Ordering}
use Rattle.keys.specs.Order.{IsKeyOrder}
use Rattle.history.specs.History.{events_of}
use Rattle.history.specs.Law.{Counter, Time}
use Rattle.history.specs.Unique.{OneAnswer, OnePage, OneStamping}
use Rattle.history.proofs.Entries.{are_entered}
use Rattle.history.proofs.Lawful.{lawful}
use Rattle.history.proofs.OneAnswer.{one_answer, one_page}
use Rattle.history.proofs.PutsMoved.{puts_same}
use Rattle.history.proofs.SameVersions.{answers_alike, pages_alike}
use Rattle.history.proofs.Stamping.{nodes_rise}
use Rattle.history.proofs.StampsMoved.{stamps_same}

module _ {K : Type 0} (order : K → K → Ordering) where
  module _ (total : IsTotalOrder order) (law : IsKeyOrder order) where
    pub answers_once : OneAnswer order
    answers_once setup history written =
        one_answer order total law (events_of history) (nodes_rise (are_entered order setup history written))

    pub pages_once : OnePage order
    pages_once setup history written =
        one_page order total law (events_of history) (nodes_rise (are_entered order setup history written))

  pub stamps_once : OneStamping order
  stamps_once setup other_setup one other to from written other_written moved messages =
      let law = lawful order setup one written in
      let other_law = lawful order other_setup other other_written in
      let same = stamps_same (are_entered order setup one written) (are_entered order other_setup other other_written) (law Time)
      (law Counter) (other_law Time) (other_law Counter) moved messages in
      record {
        stamps = same;
        reads = λ key stamp answer. answers_alike (puts_same moved same stamp) key answer;
        cuts = λ stamp rows. pages_alike order (puts_same moved same stamp) rows;
      }
