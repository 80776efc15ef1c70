-- A record that was read has the bytes that it was read from.
use Rattle.std.proofs.Common.{◌≡◌, ℕ, suc, ◌+◌, ◌<◌, ◌≤◌, List, ◌∷◌, ◌++◌, length, get_or, take, drop, Some, None, Option, sym}
use Rattle.std.proofs.Common.{refl, ap, ◌∙◌, subst, add-zero, one-add, arith, drop-drop, take-add}
use Rattle.std.specs.Option.{option_map}
use Rattle.std.proofs.lemmas.Grind.{common_steps}
use Rattle.std.proofs.lemmas.List.{get_or-drop, drop_more}
use Rattle.trace.specs.declared.kind.Kind.{Kind}
use Rattle.trace.specs.declared.kind.Kind.TheVariants.{SetUp, Note, Send, Receipt, Loss, PutPoint, PutTag, ReadPoint, ReadTag}
use Rattle.trace.specs.Numbers.{unsigned_at, bytes_of}
use Rattle.trace.specs.Kinds.{kind_at, byte_of, body_len_of}
use Rattle.trace.specs.Contents.{Content, kind_of, size_of, body_of, encoding_of}
use Rattle.trace.specs.Format.{part, content_from, key_span_of, key_in_trace, key_in_body}
use Rattle.trace.proofs.Numbers.{AllBytes, bytes_unsigned, bytes_signed}
use Rattle.trace.proofs.Parsing.{kind_decoded}

ap2 : {A B C : Type 0} (f : A → B → C) {a a' : A} {b b' : B} → a ≡ a' → b ≡ b' → f a b ≡ f a' b'
ap2 f p q = cc

-- a part of n bytes from place i on, followed by m more bytes
part_then : (n m i : ℕ) (bs rest : List ℕ) → rest ≡ part m (i + n) bs → part n i bs ++ rest ≡ part (n + m) i bs
part_then n m i bs rest e = ap (λ (t : List ℕ). part n i bs ++ t) (e ∙ ap (take m) (sym (drop-drop n i bs)))
    ∙ sym (take-add n m (drop i bs))

-- a number in w bytes at place i, followed by m more bytes
number_then : (w m i : ℕ) (bs rest : List ℕ) → i + w ≤ length bs → AllBytes bs → rest ≡ part m (i + w) bs
    → bytes_of w (unsigned_at w i bs) ++ rest ≡ part (w + m) i bs
number_then w m i bs rest h u e = ap (λ (t : List ℕ). t ++ rest) (bytes_unsigned w i bs h u) ∙ part_then w m i bs rest e

-- a byte at place i, followed by m more bytes
byte_then : (m i : ℕ) (bs rest : List ℕ) → i < length bs → rest ≡ part m (i + 1) bs
    → unsigned_at 1 i bs ∷ rest ≡ part (suc m) i bs
byte_then m i bs rest h e =
    let z : unsigned_at 1 i bs ≡ get_or bs i 0 = omega (arith, ap (λ (n : ℕ). get_or bs n 0) (add-zero i)) in
    ap2 ◌∷◌ z e ∙ ap (take (suc m)) (sym (drop_more bs i 0 h))

-- a node and its raw number, followed by m more bytes
origin_then : (m : ℕ) (bs rest : List ℕ) → 9 ≤ length bs → AllBytes bs → rest ≡ part m 9 bs
    → unsigned_at 1 0 bs ∷ (bytes_of 8 (unsigned_at 8 1 bs) ++ rest) ≡ part (suc (8 + m)) 0 bs
origin_then m bs rest h u e = byte_then (8 + m) 0 bs _ (omega arith) (number_then 8 m 1 bs rest h u e)

-- the body of a record that was decoded is the bytes that it was decoded from
body_decoded : (k : Kind) (bs : List ℕ) → body_len_of k ≤ length bs → AllBytes bs
    → body_of (content_from k bs) ≡ take (body_len_of k) bs
body_decoded SetUp bs l u = byte_then 9 0 bs _ (omega arith)
    (byte_then 8 1 bs _ (omega arith) (number_then 4 4 2 bs _ (omega arith) u (bytes_unsigned 4 6 bs l u)))
body_decoded Note bs l u = byte_then 8 0 bs _ (omega arith) (bytes_unsigned 8 1 bs l u)
body_decoded Send bs l u = origin_then 5 bs _ (omega arith) u (byte_then 4 9 bs _ (omega arith) (bytes_unsigned 4 10 bs l u))
body_decoded Receipt bs l u = origin_then 4 bs _ (omega arith) u (bytes_unsigned 4 9 bs l u)
body_decoded Loss bs l u = bytes_unsigned 4 0 bs l u
body_decoded PutPoint bs l u = origin_then 8 bs _ (omega arith) u (part_then 4 4 9 bs _ (bytes_signed 13 bs l u))
body_decoded PutTag bs l u = origin_then 20 bs _ (omega arith) u (part_then 16 4 9 bs _ (bytes_signed 25 bs l u))
body_decoded ReadPoint bs l u = number_then 8 4 0 bs _ (omega arith) u refl
body_decoded ReadTag bs l u = number_then 8 16 0 bs _ (omega arith) u refl

-- a kind's byte stands for it
byte_of_kind : (b : ℕ) (k : Kind) → kind_at b ≡ Some k → byte_of k ≡ b
byte_of_kind b k e = grind (arith, common_steps)

-- the trace has the bytes of the record that was read at `at`
pub own_bytes : (bs : List ℕ) (at : ℕ) (k : Kind) (m : Content) → at < length bs → kind_at (get_or bs at 0) ≡ Some k
    → body_len_of k ≤ length (drop (at + 1) bs) → AllBytes bs
    → m ≡ content_from k (drop (at + 1) bs) → part (size_of m) at bs ≡ encoding_of m
own_bytes bs at k m h e l u d =
    let body = drop (at + 1) bs in
    let bytes : AllBytes body = λ j. subst (λ (x : ℕ). x < 256) (sym (get_or-drop (at + 1) bs j 0)) (u (at + 1 + j)) in
    let kind : kind_of m ≡ k = ap kind_of d ∙ kind_decoded k body in
    let byte : get_or bs at 0 ≡ byte_of (kind_of m) = sym (byte_of_kind (get_or bs at 0) k e) ∙ ap byte_of (sym kind) in
    ap2 take (ap (λ (n : Kind). 1 + body_len_of n) kind ∙ one-add (body_len_of k)) (drop_more bs at 0 h)
    ∙ ap2 ◌∷◌ byte (sym (body_decoded k body l bytes) ∙ ap body_of (sym d))

-- a key within a body is a part of the trace
pub key_within : (k : Kind) (at : ℕ) (bs : List ℕ) → key_in_body k (at + 1) (drop (at + 1) bs) ≡ key_in_trace k at bs
key_within k at bs = go (key_span_of k)
  where
    go : (span : Option (ℕ × ℕ)) → option_map {U = ℕ × List ℕ}
        (λ field. (at + 1 + field.1, part field.0 field.1 (drop (at + 1) bs))) span
        ≡ option_map {U = ℕ × List ℕ} (λ field. (at + 1 + field.1, part field.0 (at + 1 + field.1) bs)) span
    go None = refl
    go (Some field) = ap (λ (t : List ℕ). Some (at + 1 + field.1, take field.0 t)) (drop-drop field.1 (at + 1) bs)
