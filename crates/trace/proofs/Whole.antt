-- A whole trace, step by step.
use Rattle.std.proofs.Common.{◌≡◌, ℕ, zero, suc, ◌+◌, ◌-◌, ◌<◌, ◌≤◌, List, [], length, Some, None, Ok, Err, sym, refl, ap, ◌∙◌}
use Rattle.std.proofs.Common.{arith}
use native.Mathlib.Nat.{sub-zero}
use Rattle.trace.specs.Contents.{Content, size_of}
use Rattle.trace.specs.Format.{Finding, finding_at, place_behind}
use Rattle.trace.specs.Whole.{Whole, complete, refused, whole_with, whole_from, whole_of}
use Rattle.trace.proofs.Parsing.{parse_within}

-- the trace from `at` on
abbrev pub rest : List ℕ → ℕ → Whole
rest bs at = whole_from (suc (length bs - at)) bs at

pub whole_rest : (bs : List ℕ) → whole_of bs ≡ rest bs 0
whole_rest bs = ap (λ (k : ℕ). whole_from (suc k) bs 0) (sym (sub-zero (length bs)))

-- the bound on the records does not matter where it is large enough
turns : (f g : ℕ) (bs : List ℕ) (at : ℕ) → length bs < at + f → length bs < at + g → at ≤ length bs
    → whole_from f bs at ≡ whole_from g bs at
turns zero g bs at hf hg h = absurd (omega arith)
turns (suc f) zero bs at hf hg h = absurd (omega arith)
turns (suc f) (suc g) bs at hf hg h = go (finding_at bs at) refl (λ k l r. turns f g bs k (omega arith) (omega arith) r)
  where
    go : (a : Finding) → finding_at bs at ≡ a → ((k : ℕ) → at < k → k ≤ length bs → whole_from f bs k ≡ whole_from g bs k)
        → whole_with at a (whole_from f bs (place_behind at a)) ≡ whole_with at a (whole_from g bs (place_behind at a))
    go (Err n) e later = refl
    go (Ok None) e later = refl
    go (Ok (Some (i, m))) e later =
        let w = parse_within bs at i m e in
        ap (whole_with at (Ok (Some (i, m)))) (later (at + size_of m) (omega arith) (omega (arith, w)))

pub rest_record : (bs : List ℕ) (at i : ℕ) (m : Content) → at ≤ length bs → finding_at bs at ≡ Ok (Some (i, m))
    → rest bs at ≡ whole_with at (Ok (Some (i, m))) (rest bs (at + size_of m))
rest_record bs at i m h e =
    let w = parse_within bs at i m e in
    ap (λ (a : Finding). whole_with at a (whole_from (length bs - at) bs (place_behind at a))) e
    ∙ ap (whole_with at (Ok (Some (i, m))))
    (turns (length bs - at) (suc (length bs - (at + size_of m))) bs (at + size_of m) (omega arith) (omega arith)
    (omega (arith, w)))

pub rest_end : (bs : List ℕ) (at : ℕ) → finding_at bs at ≡ Ok None → rest bs at ≡ record { records = []; ending = complete }
rest_end bs at e = ap (λ (a : Finding). whole_with at a (whole_from (length bs - at) bs (place_behind at a))) e

pub rest_refused : (bs : List ℕ) (at n : ℕ) → finding_at bs at ≡ Err n
    → rest bs at ≡ record { records = []; ending = refused n at }
rest_refused bs at n e = ap (λ (a : Finding). whole_with at a (whole_from (length bs - at) bs (place_behind at a))) e
