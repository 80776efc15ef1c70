-- Numbers in bytes, highest byte first.
use Rattle.std.specs.Prelude.{ℕ, zero, suc, ◌+◌, ◌*◌, List, ℤ, slice_index}
use Rattle.std.specs.Int.{w32, cast_signed, cast_unsigned, bytes_high_first}

-- the number in the w bytes from place i on
abbrev pub unsigned_at : ℕ → ℕ → List ℕ → ℕ
unsigned_at zero i bs = 0
unsigned_at (suc w) i bs = unsigned_at w i bs * 256 + slice_index bs (i + w)

-- the number in the four bytes from place i on, in two's complement
abbrev pub signed_at : ℕ → List ℕ → ℤ
signed_at i bs = cast_signed w32 (unsigned_at 4 i bs)

-- the w lowest bytes of n, highest first
abbrev pub bytes_of : ℕ → ℕ → List ℕ
bytes_of w n = bytes_high_first w n

-- the four bytes of a signed number, in two's complement
abbrev pub signed_bytes_of : ℤ → List ℕ
signed_bytes_of z = bytes_of 4 (cast_unsigned w32 z)
