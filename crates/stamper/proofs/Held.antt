-- The stamps that are held: the first of sixteen, as many as there are nodes.
use Rattle.std.proofs.Common.{◌≡◌, refl, ℕ, zero, suc, ◌∷◌, ◌<◌, ◌≤◌, List, length, map, replicate, take, ap, ◌∙◌, arith}
use Rattle.std.proofs.Common.{slice_set}
use Rattle.std.proofs.lemmas.List.{length-map, length-take-le, map-set}
use Rattle.std.proofs.Math.Seq.{take-set-lt}

module _ {X Y : Type 0} (f : X → Y) (n : ℕ) where
  pub length_held : (xs : List X) → n ≤ 16 → length xs ≡ 16 → length (map f (take n xs)) ≡ n
  length_held xs few sixteen = length-map (take n xs) f ∙ length-take-le n xs (omega (arith, few, sixteen))

  pub held_set : (xs : List X) (i : ℕ) (x : X) → i < n → map f (take n (slice_set xs i x)) ≡ slice_set (map f (take n xs)) i (f x)
  held_set xs i x less = ap (map f) (take-set-lt n xs i x less) ∙ map-set f (take n xs) i x

pub map_replicate : {X Y : Type 0} (f : X → Y) (n : ℕ) (x : X) → map f (replicate n x) ≡ replicate n (f x)
map_replicate f zero x = refl
map_replicate f (suc n) x = ap (λ ys. f x ∷ ys) (map_replicate f n x)
