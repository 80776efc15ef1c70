-- Names in sixteen bytes.
use Rattle.std.specs.Prelude.{ℕ, Bool, List, ◌&&◌, ◌||◌, ◌==◌, nat_le, length, take_while, drop, if◌then◌else◌, Result, Ok, Err}
use Rattle.std.specs.List.{list_all}
use Rattle.std.specs.Int.{is_in_range}

-- a capital letter A to Z (65 to 90), a digit 0 to 9 (48 to 57) or the hyphen (45)
abbrev pub is_name_byte : ℕ → Bool
is_name_byte byte = is_in_range 65 90 byte || (is_in_range 48 57 byte || (byte == 45))

-- the name: the bytes from the first on, up to one that is no such byte
abbrev pub name_of : List ℕ → List ℕ
name_of bytes = take_while is_name_byte bytes

-- what stands behind the name
abbrev pub padding_of : List ℕ → List ℕ
padding_of bytes = drop (length (name_of bytes)) bytes

-- only zero bytes
abbrev pub is_blank : List ℕ → Bool
is_blank bytes = list_all (λ byte. byte == 0) bytes

-- a name of at least one byte, and only zero bytes behind it
abbrev pub is_padded_name : List ℕ → Bool
is_padded_name bytes = nat_le 1 (length (name_of bytes)) && is_blank (padding_of bytes)

-- the bytes of the tag, 3 where they are no padded name
abbrev pub tag_answer : List ℕ → Result (List ℕ) ℕ
tag_answer bytes = (if is_padded_name bytes then Ok bytes else Err 3)
