-- Numbers as a person writes them.
use Rattle.std.specs.Prelude.{ℕ, ◌+◌, ◌*◌, Bool, ◌&&◌, ◌==◌, if◌then◌else◌, List, length, drop, position, take, Option}
use Rattle.std.specs.Prelude.{Some, None, option_and_then, ℤ, pos, neg_ℤ, nat_le}
use Rattle.std.specs.List.{list_all}
use Rattle.std.specs.Char.{is_ascii_digit}
use Rattle.std.specs.Option.{option_map}
use Rattle.std.specs.Str.Parse.{digits_value, starts_with_minus}

-- one or more digits 0 to 9, and nothing else
abbrev pub is_numeral : List ℕ → Bool
is_numeral word = nat_le 1 (length word) && list_all is_ascii_digit word

-- the number that digits write, in base ten
abbrev pub numeral_value : List ℕ → ℕ
numeral_value digits = digits_value 10 digits

-- the number that a word is, if it is one of at most `most`
unfoldable pub number_of : ℕ → List ℕ → Option ℕ
number_of most word =
    (if is_numeral word && nat_le (numeral_value word) most then Some (numeral_value word) else None)

-- the number that a word is, if it is one of 32 bits that may have a minus sign (45) before it
unfoldable pub signed_of : List ℕ → Option ℤ
signed_of word =
    (if starts_with_minus word
    then option_map (λ size. neg_ℤ (pos size)) (number_of 2147483648 (drop 1 word))
    else option_map (λ size. pos size) (number_of 2147483647 word))

-- the code of a stamp of this time and this counter
abbrev pub code_of : Option ℕ → Option ℕ → Option ℕ
code_of None counter = None
code_of (Some time) None = None
code_of (Some time) (Some counter) = Some (time * 65536 + counter)

-- the dot, 46
abbrev pub is_dot : ℕ → Bool
is_dot byte = byte == 46

-- the code of a word that is a time of 48 bits, a dot and a counter of 16 (0 with a counter is the stamp of no event)
unfoldable pub stamp_code_of : List ℕ → Option ℕ
stamp_code_of word = option_and_then at_dot (position is_dot word)
  where
    at_dot : ℕ → Option ℕ
    at_dot place =
        code_of (number_of 281474976710655 (take place word)) (number_of 65535 (drop (place + 1) word))
