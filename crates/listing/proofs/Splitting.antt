-- A slice of bytes is a trace that splits in one way.
use Rattle.std.proofs.Common.{ℕ, List, get_or, w8, Fits}
use Rattle.trace.specs.Whole.{SplitsOneWay}
use Rattle.trace.proofs.OneWay.{one_way}

pub bytes_split : (bs : List ℕ) → ((j : ℕ) → Fits w8 (get_or bs j 0)) → SplitsOneWay bs
bytes_split bs u = one_way bs (λ j. (u j).fits)
