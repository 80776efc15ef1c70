-- The arguments of the program.
use Rattle.std.specs.Prelude.{ℕ, Bool, true, false, if◌then◌else◌, List, [], ◌∷◌, Some, None, Option, codes}
use Rattle.std.specs.Option.{option_map}
use Rattle.std.specs.Str.{bytes_eq}
use Rattle.numerals.specs.Numerals.{stamp_code_of}
use Rattle.sheet.specs.declared.request.Request.{Request}

-- that the recorder is closed
abbrev pub is_closed : List ℕ → Bool
is_closed word = bytes_eq word (codes "closed")

-- the page at the stamp that a word is, if it is one
abbrev pub at_stamp : List ℕ → Bool → Option Request
at_stamp word closed = option_map (λ code. record { stamp = Some code; closed = closed }) (stamp_code_of word)

-- what the arguments ask for: a stamp, that the recorder is closed, both in this order, or neither
abbrev pub request_of : List (List ℕ) → Option Request
request_of [] = Some (record { stamp = None; closed = false })
request_of (word ∷ []) =
    (if is_closed word then Some (record { stamp = None; closed = true }) else at_stamp word false)
request_of (stamp ∷ word ∷ []) = (if is_closed word then at_stamp stamp true else None)
request_of (stamp ∷ word ∷ other ∷ words) = None
