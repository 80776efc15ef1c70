-- Numbers in bytes, at every width: what is written is read, and what is read is written.
use Rattle.std.proofs.Common.{◌≡◌, ℕ, zero, suc, ◌+◌, ◌*◌, ◌/◌, ◌%◌, ◌^◌, ◌<◌, ◌≤◌, List, [], ◌∷◌, ◌++◌, length, get_or, take}
use Rattle.std.proofs.Common.{drop, ℤ, sym, refl, ap, ◌∙◌, pow-suc, add-one, arith, length-drop, w32, SFits, to_z, of_z}
use native.Mathlib.Nat.{div-div-eq-div-mul, pow-succ'}
use mir.Facts.{Fits-of_z}
use Rattle.std.proofs.lemmas.List.{take_more, get_or-drop, same_from_push}
use Rattle.std.proofs.lemmas.Int.{to_z-of_z, of_z-to_z}
use Rattle.std.specs.Int.{byte_at}
use Rattle.trace.specs.Numbers.{unsigned_at, signed_at, bytes_of, signed_bytes_of}
use Rattle.trace.specs.Format.{part}

-- every number of the list is a byte
abbrev pub AllBytes : List ℕ → Type 0
AllBytes bs = (j : ℕ) → get_or bs j 0 < 256

div_push : (w m d : ℕ) → d < 256 → (m * 256 + d) / 256 ^ suc w ≡ m / 256 ^ w
div_push w m d h =
    let e : (m * 256 + d) / 256 ≡ m = omega arith in
    ap (λ (k : ℕ). (m * 256 + d) / k) (pow-succ' 256 w) ∙ sym (div-div-eq-div-mul (m * 256 + d) 256 (256 ^ w))
    ∙ ap (λ (k : ℕ). k / 256 ^ w) e

byte_push : (w m d : ℕ) → d < 256 → byte_at (suc w) (m * 256 + d) ≡ byte_at w m
byte_push zero m d h = omega arith
byte_push (suc w) m d h = ap (λ (k : ℕ). k % 256) (div_push (suc w) m d h)

-- one more byte behind a number
bytes_push : (w m d : ℕ) → d < 256 → bytes_of (suc w) (m * 256 + d) ≡ bytes_of w m ++ (d ∷ [])
bytes_push zero m d h = let e : (m * 256 + d) % 256 ≡ d = omega arith in ap (λ (k : ℕ). k ∷ []) e
bytes_push (suc w) m d h =
    ap (λ (k : ℕ). k ∷ bytes_of (suc w) (m * 256 + d)) (byte_push w m d h)
    ∙ ap (λ (t : List ℕ). byte_at w m ∷ t) (bytes_push w m d h)

-- one more byte of a part
part_push : (w i : ℕ) (bs : List ℕ) → i + suc w ≤ length bs → part (suc w) i bs ≡ part w i bs ++ (get_or bs (i + w) 0 ∷ [])
part_push w i bs h =
    let l : w < length (drop i bs) = omega (arith, length-drop i bs) in
    ap (λ (k : ℕ). take k (drop i bs)) (sym (add-one w)) ∙ take_more (drop i bs) w 0 l
    ∙ ap (λ (x : ℕ). part w i bs ++ (x ∷ [])) (get_or-drop i bs w 0)

-- the bytes of the number that a part writes are that part
pub bytes_unsigned : (w i : ℕ) (bs : List ℕ) → i + w ≤ length bs → AllBytes bs → bytes_of w (unsigned_at w i bs) ≡ part w i bs
bytes_unsigned zero i bs h u = refl
bytes_unsigned (suc w) i bs h u =
    bytes_push w (unsigned_at w i bs) (get_or bs (i + w) 0) (u (i + w))
    ∙ ap (λ (t : List ℕ). t ++ (get_or bs (i + w) 0 ∷ [])) (bytes_unsigned w i bs (omega arith) u)
    ∙ sym (part_push w i bs h)

pub unsigned_lt : (w i : ℕ) (bs : List ℕ) → AllBytes bs → unsigned_at w i bs < 256 ^ w
unsigned_lt zero i bs u = omega arith
unsigned_lt (suc w) i bs u = omega (arith, unsigned_lt w i bs u, u (i + w), pow-suc 256 w)

pub bytes_signed : (i : ℕ) (bs : List ℕ) → i + 4 ≤ length bs → AllBytes bs → signed_bytes_of (signed_at i bs) ≡ part 4 i bs
bytes_signed i bs h u = ap (bytes_of 4) (of_z-to_z w32 (unsigned_at 4 i bs) (unsigned_lt 4 i bs u)) ∙ bytes_unsigned 4 i bs h u

-- the last byte of a number
bytes_last : (w n : ℕ) → bytes_of (suc w) n ≡ bytes_of w (n / 256) ++ (n % 256 ∷ [])
bytes_last w n =
    let e : n ≡ n / 256 * 256 + n % 256 = omega arith in
    let l : n % 256 < 256 = omega arith in
    ap (bytes_of (suc w)) e ∙ bytes_push w (n / 256) (n % 256) l

-- the number of a part that has a number's bytes is that number
pub unsigned_bytes : (w n i : ℕ) (bs : List ℕ) → n < 256 ^ w → i + w ≤ length bs → part w i bs ≡ bytes_of w n
    → unsigned_at w i bs ≡ n
unsigned_bytes zero n i bs s h e = omega arith
unsigned_bytes (suc w) n i bs s h e =
    let p = same_from_push (part w i bs) (bytes_of w (n / 256)) (get_or bs (i + w) 0) (n % 256)
    (sym (part_push w i bs h) ∙ e ∙ bytes_last w n) in
    let k : n / 256 < 256 ^ w = omega (arith, pow-suc 256 w) in
    let r : unsigned_at w i bs ≡ n / 256 = unsigned_bytes w (n / 256) i bs k (omega arith) p.0 in
    omega (arith, p.1)

pub signed_bytes : (v : ℤ) (i : ℕ) (bs : List ℕ) → SFits w32 v → i + 4 ≤ length bs → part 4 i bs ≡ signed_bytes_of v
    → signed_at i bs ≡ v
signed_bytes v i bs f h e =
    let l : of_z w32 v < 256 ^ 4 = (Fits-of_z {w = w32} {z = v} f).fits in
    ap (to_z w32) (unsigned_bytes 4 (of_z w32 v) i bs l h e) ∙ to_z-of_z w32 v f
