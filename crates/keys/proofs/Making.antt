-- The tag that is read from bytes.
use Rattle.std.proofs.Common.{◌≡◌, ℕ, Bool, true, false, List, length, Ok, Err, Result, refl, ap, arith}
use Rattle.std.proofs.lemmas.Bool.Decides.{nat_tests}
use Rattle.keys.specs.Laws.{same_tag}
use Rattle.keys.specs.Making.{is_tag, named, sixteen, tag_if, tag_of_bytes}
use Rattle.keys.specs.Name.{tag_answer}
use Rattle.keys.specs.Tag.{bytes_of}
use Rattle.keys.specs.declared.tag.Tag.{Tag}
use Rattle.refusals.specs.Refusals.{result_map, shown}
use Rattle.refusals.specs.declared.refusal.Refusal.{Refusal}

same_bytes : (bytes : List ℕ) (tag : Tag) → is_tag bytes ≡ true → shown (result_map bytes_of (Ok tag)) ≡ tag_answer bytes
    → tag.bytes ≡ bytes
same_bytes bytes tag is f = grind (arith, nat_tests, is, f)

-- what was made of sixteen bytes is their tag, or the refusal
pub tag_made : (bytes : List ℕ) (r : Result Tag Refusal) → length bytes ≡ 16 → shown (result_map bytes_of r) ≡ tag_answer bytes
    → shown r ≡ tag_of_bytes bytes
tag_made bytes r n e = go (is_tag bytes) refl r e
  where
    go : (b : Bool) (is : is_tag bytes ≡ b) (q : Result Tag Refusal) → shown (result_map bytes_of q) ≡ tag_answer bytes
        → shown q ≡ tag_if bytes b is
    go true is (Ok tag) f = ap Ok (same_tag tag (record { bytes = bytes; sixteen = sixteen bytes is; named = named bytes is })
        (same_bytes bytes tag is f))
    go true is (Err k) f = grind (arith, nat_tests, is, f)
    go false is (Ok tag) f = grind (arith, nat_tests, is, f)
    go false is (Err k) f = grind (arith, nat_tests, is, f)
