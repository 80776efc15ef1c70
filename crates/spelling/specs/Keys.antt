-- Keys as a person writes them.
use Rattle.std.specs.Prelude.{ℕ, ◌-◌, Bool, ◌&&◌, ◌==◌, if◌then◌else◌, List, ◌++◌, length, drop, take, replicate}
use Rattle.std.specs.Prelude.{Option, Some, None, nat_le, slice_index}
use Rattle.std.specs.List.{list_all}
use Rattle.std.specs.Option.{option_map}
use Rattle.keys.specs.Name.{is_name_byte}
use Rattle.trace.specs.Numbers.{bytes_of}
use Rattle.spelling.specs.declared.key.WrittenKey.{WrittenKey}
use Rattle.spelling.specs.declared.key.WrittenKey.TheVariants.{Point, Tag}
use Rattle.numerals.specs.Numerals.{is_numeral, number_of}

-- a double quote (34) stands at its first place and another at its last
abbrev pub is_quoted : List ℕ → Bool
is_quoted word =
    nat_le 2 (length word) && ((slice_index word 0 == 34) && (slice_index word (length word - 1) == 34))

-- the word without the double quotes that stand around it
abbrev pub unquoted : List ℕ → List ℕ
unquoted word = (if is_quoted word then drop 1 (take (length word - 1) word) else word)

-- 1 to 16 bytes of a name
abbrev pub is_name : List ℕ → Bool
is_name name = nat_le 1 (length name) && (nat_le (length name) 16 && list_all is_name_byte name)

-- a name with zero bytes behind it, up to the sixteenth
abbrev pub padded : List ℕ → List ℕ
padded name = name ++ replicate (16 - length name) 0

-- the bytes of the tag of this name, if it is a name
unfoldable pub tag_of : List ℕ → Option (List ℕ)
tag_of name = (if is_name name then Some (padded name) else None)

-- the key that a word is: a point if it is a number, of at most 32 bits, and else a tag
unfoldable pub key_of : List ℕ → Option WrittenKey
key_of word =
    (if is_numeral word
    then option_map (λ point. Point (bytes_of 4 point)) (number_of 4294967295 word)
    else option_map (λ bytes. Tag bytes) (tag_of (unquoted word)))
