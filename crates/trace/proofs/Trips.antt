-- A record that was written is read back.
use Rattle.std.proofs.Common.{◌≡◌, ℕ, ◌+◌, ◌^◌, ◌<◌, ◌≤◌, ℤ, w32, FitsSigned, List, ◌∷◌, ◌++◌, length, get_or, take, drop, Some}
use Rattle.std.proofs.Common.{Ok, Result, sym, refl, ap, ◌∙◌, subst, append_assoc, add-zero, zero-add, arith, length-append}
use Rattle.std.proofs.Common.{take_at, drop_at, drop-drop}
use lib.Seq.{drop-append-add}
use Rattle.std.proofs.lemmas.List.{get_or-append-add, length-take-le}
use Rattle.std.proofs.lemmas.Bool.Decides.{nat_tests}
use Rattle.std.proofs.lemmas.Grind.{common_steps}
use Rattle.trace.specs.declared.kind.Kind.{Kind}
use Rattle.trace.specs.Numbers.{unsigned_at, signed_at, bytes_of, signed_bytes_of}
use Rattle.trace.specs.Kinds.{kind_at, byte_of, body_len_of}
use Rattle.trace.specs.Contents.{Content, set_up, note, send, receipt, loss, put_point, put_tag, read_point, read_tag, kind_of}
use Rattle.trace.specs.Contents.{body_of, encoding_of}
use Rattle.trace.specs.Ranges.{IsInRange}
use Rattle.trace.specs.Format.{part, content_from, finding_at}
use Rattle.trace.specs.Writing.{overlay, write_answer, buffer_after_write, read_back_answer}
use Rattle.trace.proofs.Numbers.{unsigned_bytes, signed_bytes}
use Rattle.trace.proofs.Parsing.{parse_found}

-- a key of n bytes, and what follows it
key_part : (n : ℕ) (t u post : List ℕ) → length t ≡ n → take n ((t ++ u) ++ post) ≡ t
key_part n t u post l = ap (take n) (append_assoc t u post) ∙ take_at t (u ++ post) n l

key_rest : (n : ℕ) (t u post : List ℕ) → length t ≡ n → drop n ((t ++ u) ++ post) ≡ u ++ post
key_rest n t u post l = ap (drop n) (append_assoc t u post) ∙ drop_at t (u ++ post) n l

-- the same of a put by a key of w bytes
decode_put : (put : ℕ → ℕ → List ℕ → ℤ → Content) (w n raw : ℕ) (t : List ℕ) (v : ℤ) (post : List ℕ) → raw < 2 ^ 64 → length t ≡ w
    → FitsSigned w32 v
    → let bs = n ∷ (bytes_of 8 raw ++ (t ++ signed_bytes_of v) ++ post) in
    put (unsigned_at 1 0 bs) (unsigned_at 8 1 bs) (part w 9 bs) (signed_at (9 + w) bs) ≡ put n raw t v
decode_put put w n raw t v post r l f =
    let bs = n ∷ (bytes_of 8 raw ++ (t ++ signed_bytes_of v) ++ post) in
    let long : 9 + w + 4 ≤ length bs =
    omega (arith, length-append (t ++ signed_bytes_of v) post, length-append t (signed_bytes_of v), l) in
    let stamp : unsigned_at 8 1 bs ≡ raw = unsigned_bytes 8 raw 1 bs r (omega arith) refl in
    let rest : drop (9 + w) bs ≡ signed_bytes_of v ++ post = sym (drop-drop w 9 bs) ∙ key_rest w t (signed_bytes_of v) post l in
    let value : signed_at (9 + w) bs ≡ v = signed_bytes v (9 + w) bs f long (ap (take 4) rest) in
    rw (stamp, key_part w t (signed_bytes_of v) post l, value, zero-add n)

-- the body of a record, whatever follows it, is decoded to that record
decode_body : (m : Content) (post : List ℕ) → IsInRange m → content_from (kind_of m) (body_of m ++ post) ≡ m
decode_body (set_up n k l b) post s =
    let bs = body_of (set_up n k l b) ++ post in
    let lead : unsigned_at 4 2 bs ≡ l = unsigned_bytes 4 l 2 bs s.2 (omega arith) refl in
    let backstep : unsigned_at 4 6 bs ≡ b = unsigned_bytes 4 b 6 bs s.3 (omega arith) refl in
    rw (lead, backstep, zero-add n, zero-add k)
decode_body (note n raw) post s =
    let bs = body_of (note n raw) ++ post in
    let stamp : unsigned_at 8 1 bs ≡ raw = unsigned_bytes 8 raw 1 bs s.1 (omega arith) refl in
    rw (stamp, zero-add n)
decode_body (send n raw to m) post s =
    let bs = body_of (send n raw to m) ++ post in
    let stamp : unsigned_at 8 1 bs ≡ raw = unsigned_bytes 8 raw 1 bs s.1 (omega arith) refl in
    let message : unsigned_at 4 10 bs ≡ m = unsigned_bytes 4 m 10 bs s.3 (omega arith) refl in
    rw (stamp, message, zero-add n, zero-add to)
decode_body (receipt n raw m) post s =
    let bs = body_of (receipt n raw m) ++ post in
    let stamp : unsigned_at 8 1 bs ≡ raw = unsigned_bytes 8 raw 1 bs s.1 (omega arith) refl in
    let message : unsigned_at 4 9 bs ≡ m = unsigned_bytes 4 m 9 bs s.2 (omega arith) refl in
    rw (stamp, message, zero-add n)
decode_body (loss m) post s = ap loss (unsigned_bytes 4 m 0 (body_of (loss m) ++ post) s (omega arith) refl)
decode_body (put_point n raw t v) post s = decode_put put_point 4 n raw t v post s.1 s.2 s.3
decode_body (put_tag n raw t v) post s = decode_put put_tag 16 n raw t v post s.1 s.2 s.3
decode_body (read_point at t) post s =
    rw (unsigned_bytes 8 at 0 (body_of (read_point at t) ++ post) s.0 (omega arith) refl, take_at t post 4 s.1)
decode_body (read_tag at t) post s =
    rw (unsigned_bytes 8 at 0 (body_of (read_tag at t) ++ post) s.0 (omega arith) refl, take_at t post 16 s.1)

pub length_body : (m : Content) → IsInRange m → length (body_of m) ≡ body_len_of (kind_of m)
length_body m s = grind (arith, common_steps)

-- each kind's byte stands for it
kind_of_byte : (k : Kind) → kind_at (byte_of k) ≡ Some k
kind_of_byte k = grind (arith, common_steps)

-- what stands behind `pre`
parse_behind : (pre body : List ℕ) (k : Kind) → body_len_of k ≤ length body
    → finding_at (pre ++ (byte_of k ∷ body)) (length pre) ≡ Ok (Some (length pre, content_from k body))
parse_behind pre body k l =
    let bs = pre ++ (byte_of k ∷ body) in
    let at = length pre in
    let eb : get_or bs at 0 ≡ byte_of k =
    ap (λ (n : ℕ). get_or bs n 0) (sym (add-zero at)) ∙ get_or-append-add pre (byte_of k ∷ body) 0 0 in
    let ed : drop (at + 1) bs ≡ body = drop-append-add pre (byte_of k ∷ body) 1 in
    let lt : at < length bs = omega (arith, length-append pre (byte_of k ∷ body)) in
    let lb : body_len_of k ≤ length (drop (at + 1) bs) = omega (arith, ap length ed) in
    parse_found bs at k lt (ap kind_at eb ∙ kind_of_byte k) lb ∙ ap (λ (b : List ℕ). Ok (Some (at, content_from k b))) ed

pub read_written : (m : Content) (pre post : List ℕ) → IsInRange m
    → finding_at (pre ++ (encoding_of m ++ post)) (length pre) ≡ Ok (Some (length pre, m))
read_written m pre post s =
    parse_behind pre (body_of m ++ post) (kind_of m) (omega (arith, length-append (body_of m) post, length_body m s))
    ∙ ap (λ (x : Content). Ok (Some (length pre, x))) (decode_body m post s)

-- a record that was written over a buffer stands there
pub read_over : (m : Content) (place : ℕ) (buffer : List ℕ) → IsInRange m → place ≤ length buffer
    → finding_at (overlay place (encoding_of m) buffer) place ≡ Ok (Some (place, m))
unfolding overlay
read_over m place buffer s h =
    let pre = take place buffer in
    let l : length pre ≡ place = length-take-le place buffer h in
    let bs = overlay place (encoding_of m) buffer in
    subst (λ (n : ℕ). finding_at bs n ≡ Ok (Some (n, m))) l (read_written m pre (drop (place + length (encoding_of m)) buffer) s)

-- a record that the writer took is read back
pub read_back : (m : Content) (place n : ℕ) (was after : List ℕ) → ◌≡◌ {A = Result ℕ ℕ} (Ok n) (write_answer m place was)
    → after ≡ buffer_after_write m place was → IsInRange m
    → (finding_at after place ≡ Ok (Some (place, m))) × (read_back_answer m place was ≡ Ok (place, m))
read_back m place n was after e w s = grind (arith, nat_tests, read_over)
