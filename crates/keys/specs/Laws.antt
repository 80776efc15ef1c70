-- Why the order of tags is an order. These lemmas stand here since an `impl` may cite no file of proofs/.
use Rattle.std.specs.Prelude.{◌≡◌, ℕ, true, if◌then◌else◌, List, [], ◌∷◌, length, IsTrue, nat_eq}
use Rattle.std.specs.Cmp.Lexicographic.{slice_cmp, pointwise, texts_ties, nat_list_cmp_total}
use Rattle.std.specs.Ordering.{nat_cmp, is_eq, eq_by_cmp, as_partial_cmp}
use Rattle.std.specs.Cmp.{IsTotalOrder, IsPartialOrder, partial_order_from_agreeing_total}
use Rattle.std.proofs.lemmas.Cmp.{on_total, tied_itself}
use Rattle.std.proofs.lemmas.Map.Lookups.{exact_bytes}
use Rattle.keys.specs.Order.{IsKeyOrder}
use Rattle.keys.specs.Tag.{bytes_of, tag_cmp}
use Rattle.std.specs.declared.cmp.Ordering.TheVariants.{Equal}
use Rattle.std.proofs.Common.{refl, sym, ◌∙◌, ap, arith}
use Rattle.std.proofs.lemmas.Bool.Decides.{nat_tests}
use Rattle.std.proofs.lemmas.List.Sums.{take_while-cons}
use Rattle.std.proofs.Props.{props}
use mathlib.Core.HLevel.{is_prop→PathP}
use Rattle.keys.specs.declared.tag.Tag.{Tag}
use Rattle.keys.specs.Name.{is_name_byte, name_of, padding_of, is_blank, is_padded_name}

pub name_of-cons : (x : ℕ) (xs : List ℕ) → name_of (x ∷ xs) ≡ (if is_name_byte x then x ∷ name_of xs else [])
name_of-cons = take_while-cons is_name_byte

padding_of-cons : (x : ℕ) (xs : List ℕ) → padding_of (x ∷ xs) ≡ (if is_name_byte x then padding_of xs else x ∷ xs)
padding_of-cons x xs = grind (arith, nat_tests, name_of-cons)

-- as many zero bytes are the same
blank_cmp : (xs ys : List ℕ) → length xs ≡ length ys → is_blank xs ≡ true → is_blank ys ≡ true
    → slice_cmp nat_cmp xs ys ≡ Equal
blank_cmp [] [] e p q = refl
blank_cmp [] (y ∷ ys) e p q = absurd (omega arith)
blank_cmp (x ∷ xs) [] e p q = absurd (omega arith)
blank_cmp (x ∷ xs) (y ∷ ys) e p q = let h = blank_cmp xs ys in grind (arith, nat_tests)

-- bytes with blank paddings compare as the names in them do
cmp_by_name : (xs ys : List ℕ) → length xs ≡ length ys → is_blank (padding_of xs) ≡ true → is_blank (padding_of ys) ≡ true
    → slice_cmp nat_cmp xs ys ≡ slice_cmp nat_cmp (name_of xs) (name_of ys)
cmp_by_name [] [] e p q = refl
cmp_by_name [] (y ∷ ys) e p q = absurd (omega arith)
cmp_by_name (x ∷ xs) [] e p q = absurd (omega arith)
cmp_by_name (x ∷ xs) (y ∷ ys) e p q =
    let h = cmp_by_name xs ys in
    let k = blank_cmp xs ys in
    grind (arith, nat_tests, name_of-cons, padding_of-cons)

-- tags of the same bytes are the same tag, since each ghost fact has one proof at most
pub same_tag : (a b : Tag) → a.bytes ≡ b.bytes → a ≡ b
same_tag a b e = λ i. record {
  bytes = e i;
  sixteen = is_prop→PathP (λ j. length (e j) ≡ 16) (λ j. hlevel props) a.sixteen b.sixteen i;
  named = is_prop→PathP (λ j. IsTrue (is_padded_name (e j))) (λ j. hlevel props) a.named b.named i;
}

blank_padding : (tag : Tag) → is_blank (padding_of tag.bytes) ≡ true
blank_padding tag = let padded = tag.named in grind (arith, nat_tests)

-- the bytes of two tags compare as the names do
pub bytes_cmp : (a b : Tag) → slice_cmp nat_cmp a.bytes b.bytes ≡ tag_cmp a b
bytes_cmp a b = cmp_by_name a.bytes b.bytes (a.sixteen ∙ sym b.sixteen) (blank_padding a) (blank_padding b)

pub tag_cmp-total : IsTotalOrder tag_cmp
tag_cmp-total = on_total (λ tag. name_of (bytes_of tag)) nat_list_cmp_total

-- `==` on the bytes holds where the names are the same
pub tag_cmp-ties : (a b : Tag) → pointwise nat_eq a.bytes b.bytes ≡ eq_by_cmp tag_cmp a b
tag_cmp-ties a b = texts_ties a.bytes b.bytes ∙ ap is_eq (bytes_cmp a b)

pub tag_cmp-partial : IsPartialOrder (λ (a b : Tag). pointwise nat_eq a.bytes b.bytes) (as_partial_cmp tag_cmp)
tag_cmp-partial = partial_order_from_agreeing_total tag_cmp tag_cmp-total (λ a b. refl) tag_cmp-ties

pub tag_cmp-key_order : IsKeyOrder tag_cmp
tag_cmp-key_order = record {
  turns = λ a b. tag_cmp-total.antisymm b a;
  through = tag_cmp-total.trans;
  same = λ a b e. same_tag a b (exact_bytes a.bytes b.bytes (bytes_cmp a b ∙ e));
  itself = tied_itself tag_cmp-total;
}
