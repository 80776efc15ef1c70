-- What `finding_at` answers, by what the bytes at a place are.
use Rattle.std.proofs.Common.{◌≡◌, ℕ, ◌+◌, ◌<◌, ◌≤◌, List, length, get_or, drop, Some, None, Ok, Err, Option, ap, ◌∙◌, sym, arith}
use Rattle.std.proofs.Common.{length-drop}
use Rattle.std.proofs.lemmas.Bool.{lt-leb, le-ltb}
use Rattle.std.proofs.lemmas.Bool.Decides.{nat_tests}
use Rattle.trace.specs.declared.kind.Kind.{Kind}
use Rattle.trace.specs.Kinds.{kind_at, body_len_of}
use Rattle.trace.specs.Contents.{Content, kind_of, size_of}
use Rattle.trace.specs.Format.{content_from, finding_for, finding_at}

pub kind_decoded : (k : Kind) (body : List ℕ) → kind_of (content_from k body) ≡ k
kind_decoded k body = grind arith

-- a record of a known kind with its whole body is found
pub parse_found : (bs : List ℕ) (at : ℕ) (k : Kind) → at < length bs → kind_at (get_or bs at 0) ≡ Some k
    → body_len_of k ≤ length (drop (at + 1) bs)
    → finding_at bs at ≡ Ok (Some (at, content_from k (drop (at + 1) bs)))
parse_found bs at k h e l = rw (lt-leb (length bs) at h, e, le-ltb (length (drop (at + 1) bs)) (body_len_of k) l)

-- the same of a record that was read from there
pub record_found : (bs : List ℕ) (at : ℕ) (k : Kind) (m : Content) → at < length bs → kind_at (get_or bs at 0) ≡ Some k
    → body_len_of k ≤ length (drop (at + 1) bs)
    → m ≡ content_from k (drop (at + 1) bs) → Ok (Some (at, m)) ≡ finding_at bs at
record_found bs at k m h e l d = rw d (sym (parse_found bs at k h e l))

-- what it takes that a record is found at `at`
pub record Says (bs : List ℕ) (at i : ℕ) (m : Content) : Type 0 where
  pub before : at < length bs
  pub kind : kind_at (get_or bs at 0) ≡ Some (kind_of m)
  pub body : m ≡ content_from (kind_of m) (drop (at + 1) bs)
  pub enough : body_len_of (kind_of m) ≤ length (drop (at + 1) bs)

-- the same of what follows a byte of kind
says_behind : (at i : ℕ) (m : Content) (rest : List ℕ) (o : Option Kind) → finding_for at rest o ≡ Ok (Some (i, m))
    → (o ≡ Some (kind_of m)) × (m ≡ content_from (kind_of m) rest) × (body_len_of (kind_of m) ≤ length rest)
says_behind at i m rest None e = absurd (grind arith)
says_behind at i m rest (Some k) e =
    let body : m ≡ content_from k rest = grind (arith, nat_tests) in
    let kind : kind_of m ≡ k = ap kind_of body ∙ kind_decoded k rest in
    let enough : body_len_of k ≤ length rest = grind (arith, nat_tests) in
    (ap Some (sym kind), rw kind body, rw kind enough)

pub parse_says : (bs : List ℕ) (at i : ℕ) (m : Content) → finding_at bs at ≡ Ok (Some (i, m)) → Says bs at i m
parse_says bs at i m e =
    let before : at < length bs = grind (arith, nat_tests) in
    let s = says_behind at i m (drop (at + 1) bs) (kind_at (get_or bs at 0)) (rw (lt-leb (length bs) at before) at e) in
    record { before = before; kind = s.0; body = s.1; enough = s.2 }

-- where a record was found, it lies within the trace
pub parse_within : (bs : List ℕ) (at i : ℕ) (m : Content) → finding_at bs at ≡ Ok (Some (i, m)) → at + size_of m ≤ length bs
parse_within bs at i m e = let s = parse_says bs at i m e in omega (arith, s.enough, length-drop (at + 1) bs)

-- nothing is found only at the end
pub parse_none : (bs : List ℕ) (at : ℕ) → finding_at bs at ≡ Ok None → length bs ≤ at
parse_none bs at e = grind (arith, nat_tests)

pub parse_end : (bs : List ℕ) (at : ℕ) → length bs ≤ at → finding_at bs at ≡ Ok None
parse_end bs at h = grind (arith, nat_tests)

-- a refusal comes only before the end
pub parse_refused : (bs : List ℕ) (at n : ℕ) → finding_at bs at ≡ Err n → at < length bs
parse_refused bs at n e = grind (arith, nat_tests)
