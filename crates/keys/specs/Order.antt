-- What every kind of key owes of its order.
use Rattle.std.specs.Prelude.{◌≡◌}
use Rattle.std.specs.declared.cmp.Ordering.{Ordering}
use Rattle.std.specs.declared.cmp.Ordering.TheVariants.{Less, Equal}
use Rattle.std.specs.Ordering.{ordering_reverse}

pub record IsKeyOrder {K : Type 0} (order : K → K → Ordering) : Type 0 where
  -- of two keys exactly one is first, or they are the same: turned about, the answer is turned too
  pub turns : (a b : K) → order b a ≡ ordering_reverse (order a b)
  -- what is before a key that is before a third is before the third
  pub through : (a b c : K) → order a b ≡ Less → order b c ≡ Less → order a c ≡ Less
  -- keys are the same exactly if they are equal
  pub same : (a b : K) → order a b ≡ Equal → a ≡ b
  pub itself : (a : K) → order a a ≡ Equal
