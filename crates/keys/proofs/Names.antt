-- The bytes of a name.
use Rattle.std.proofs.Common.{◌≡◌, ℕ, zero, suc, ◌<◌, List, [], ◌∷◌, length, take, slice_index, lit<, arith}
use Rattle.std.proofs.lemmas.Bool.Decides.{nat_tests}
use Rattle.std.proofs.lemmas.List.Folds.{length-prefix_len}
use Rattle.keys.specs.Laws.{name_of-cons}
use Rattle.keys.specs.Name.{is_name_byte, name_of}

name_is_ascii : (bytes : List ℕ) (k : ℕ) → slice_index (name_of bytes) k < 128
name_is_ascii [] k = lit< tt
name_is_ascii (x ∷ xs) zero = grind (arith, nat_tests, name_of-cons)
name_is_ascii (x ∷ xs) (suc k) = let h = name_is_ascii xs k in grind (arith, nat_tests, name_of-cons)

-- the bytes before the name's end are ASCII
pub front_is_ascii : (bytes : List ℕ) (n k : ℕ) → n ≡ length (name_of bytes) → slice_index (take n bytes) k < 128
front_is_ascii bytes n k e = rw (e, length-prefix_len is_name_byte bytes) (name_is_ascii bytes k)
