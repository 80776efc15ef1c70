-- The tag of some bytes.
use Rattle.std.specs.Prelude.{◌≡◌, ℕ, Bool, true, false, ◌&&◌, ◌==◌, List, length, IsTrue, Ok, Err, Result, refl}
use Rattle.std.proofs.Common.{arith}
use Rattle.std.proofs.lemmas.Bool.Decides.{nat_tests}
use Rattle.keys.specs.Name.{is_padded_name}
use Rattle.keys.specs.declared.tag.Tag.{Tag}

-- sixteen, and a padded name
abbrev pub is_tag : List ℕ → Bool
is_tag bytes = (length bytes == 16) && is_padded_name bytes

pub sixteen : (bytes : List ℕ) → is_tag bytes ≡ true → length bytes ≡ 16
sixteen bytes e = grind (arith, nat_tests)

pub named : (bytes : List ℕ) → is_tag bytes ≡ true → IsTrue (is_padded_name bytes)
named bytes e = grind (arith, nat_tests)

abbrev pub tag_if : (bytes : List ℕ) (b : Bool) → is_tag bytes ≡ b → Result Tag ℕ
tag_if bytes true e = Ok (record { bytes = bytes; sixteen = sixteen bytes e; named = named bytes e })
tag_if bytes false e = Err 3

-- the tag, or 3
abbrev pub tag_of_bytes : List ℕ → Result Tag ℕ
tag_of_bytes bytes = tag_if bytes (is_tag bytes) refl
