-- What the library says of digits.
use Rattle.std.proofs.Common.{◌≡◌, ℕ, ◌<◌, ◌^◌, ◌&&◌, Bool, true, false, List, length, Some, None, Ok, Err, Result}
use Rattle.std.proofs.Common.{refl, arith, nat_le}
use Rattle.std.specs.Prelude.{if◌then◌else◌}
use Rattle.std.specs.List.{list_all}
use Rattle.std.specs.Char.{is_ascii_digit}
use Rattle.std.specs.Result.{OkIff}
use Rattle.std.specs.Str.{IsUtf8}
use Rattle.std.specs.Str.Parse.{digits_value, ParsesUnsigned}
use Rattle.std.specs.Result.{result_ok}
use Rattle.std.proofs.lemmas.Str.{IsUtf8-from_ascii}
use Rattle.std.proofs.lemmas.Str.Ascii.{IsAscii-from_all}
use Rattle.std.proofs.Common.{All, Bor, MatchResult, subst}
use Rattle.std.proofs.lemmas.Str.Parse.{IsNumeralModel, IsDigitsTest, numerals_by_value, parse_digits}
use Rattle.std.proofs.Common.{ap, ◌∙◌}
use Rattle.std.specs.Str.{IsValidUpTo, valid_up_to}
use Rattle.std.specs.declared.str.Utf8Error.{Utf8Error}
use Rattle.std.proofs.lemmas.List.Sums.{AllPass-from_list_all}
use Rattle.std.proofs.lemmas.Bool.Decides.{nat_tests}
use Rattle.numerals.specs.Numerals.{is_numeral, number_of}

-- what `parse` reads are words of digits
tells : IsDigitsTest (λ word. list_all is_ascii_digit word ≡ true)
tells = record {
  empty = refl;
  parts = λ c cs h. grind (arith, nat_tests);
  more = λ c cs h t. grind (arith, nat_tests);
}

-- so they are numerals, in the library's sense
own : IsNumeralModel (λ word. list_all is_ascii_digit word ≡ true) (digits_value 10)
own = numerals_by_value _ tells

-- digits are ASCII
digit_is_ascii : (c : ℕ) → is_ascii_digit c ≡ true → c < 128
digit_is_ascii c h = grind (arith, nat_tests)

all_ascii : (word : List ℕ) → list_all is_ascii_digit word ≡ true → All (λ b. b < 128) word
all_ascii word h = λ k d short. digit_is_ascii _ (AllPass-from_list_all is_ascii_digit word h k d short)

digits_are_text : (word : List ℕ) → list_all is_ascii_digit word ≡ true → IsUtf8 word
digits_are_text word h = IsUtf8-from_ascii word (IsAscii-from_all word (all_ascii word h))

digits : (word : List ℕ) → is_numeral word ≡ true → list_all is_ascii_digit word ≡ true
digits word h = grind (arith, nat_tests)

-- what a call on the word answers that takes it for text
abbrev pub Reads : List ℕ → Result (Bor (List ℕ)) Utf8Error → Type 0
Reads word r =
    MatchResult r (λ s. (s.now ≡ word) × IsUtf8 word) (λ e. ¬ (IsUtf8 word) × IsValidUpTo word (valid_up_to e))

-- digits are text, and so it does not fail
pub no_failure : (word : List ℕ) (r : Result (Bor (List ℕ)) Utf8Error) → is_numeral word ≡ true → Reads word r
    → result_ok r ≡ None → ⊥
no_failure word (Err e) h m is = m.0 (digits_are_text word (digits word h))
no_failure word (Ok s) h m is = cc

-- the text is the word
pub same_text : (word : List ℕ) (r : Result (Bor (List ℕ)) Utf8Error) (s : Bor (List ℕ)) → Reads word r
    → result_ok r ≡ Some s → s.now ≡ word
same_text word (Err e) s m is = cc
same_text word (Ok t) s m is = let e : t ≡ s = cc in subst (λ (t : Bor (List ℕ)). t.now ≡ word) e m.0

-- the number is one of 64 bits, or none
fits : (v : ℕ) (numeral : Bool) → numeral ≡ true → v < 2 ^ 64
    → Some v ≡ (if numeral && nat_le v 18446744073709551615 then Some v else None)
fits v numeral is h = grind (arith, nat_tests)

fails : (v : ℕ) (numeral : Bool) → ¬ (v < 2 ^ 64)
    → None ≡ (if numeral && nat_le v 18446744073709551615 then Some v else None)
fails v numeral h = grind (arith, nat_tests)

has_length : (word : List ℕ) → is_numeral word ≡ true → 0 < length word
has_length word h = grind (arith, nat_tests)

-- what `parse` answers is the number
pub parsed : {E : Type 0} (word text : List ℕ) (r : Result ℕ E) → is_numeral word ≡ true → text ≡ word
    → ParsesUnsigned 64 10 text r → result_ok r ≡ number_of 18446744073709551615 word
unfolding number_of
parsed {E = E} word text r h same p =
    go r (parse_digits own 64 word r (subst (λ t. ParsesUnsigned 64 10 t r) same p) (digits word h))
  where
    go : (r : Result ℕ E) → OkIff r ((0 < length word) × (digits_value 10 word < 2 ^ 64)) (digits_value 10 word)
        → result_ok r ≡ number_of 18446744073709551615 word
    go (Ok n) is = ap Some is.1 ∙ fits (digits_value 10 word) (is_numeral word) h is.0.1
    go (Err e) is = fails (digits_value 10 word) (is_numeral word) (λ less. is (has_length word h, less))

-- a word that is no numeral is no number
pub no_number : (word : List ℕ) → is_numeral word ≡ false → None ≡ number_of 18446744073709551615 word
unfolding number_of
no_number word h = rw h refl
