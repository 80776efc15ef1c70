-- What one line adds to a trace.
use Rattle.std.proofs.Common.{◌≡◌, ℕ, ◌+◌, ◌∙◌, ◌++◌, Bool, true, false, List, [], ◌∷◌, length, take, drop, map, is_ok}
use Rattle.std.proofs.Common.{OnOk, Some, None, Ok, Err, Option, Result, Bor}
use Rattle.std.proofs.Common.{ap, sym, subst, refl, append-nil, arith}
use Rattle.std.specs.Prelude.{if◌then◌else◌}
use Rattle.std.proofs.Math.Seq.{take-append_seam}
use Rattle.std.proofs.lemmas.List.Elements.{All-nil, All-cons}
use Rattle.refusals.specs.Refusals.{shown}
use Rattle.refusals.specs.declared.refusal.Refusal.{Refusal}
use Rattle.trace.specs.Contents.{Content, encoding_of, size_of}
use Rattle.trace.specs.Ranges.{IsInRange}
use Rattle.trace.specs.Writing.{buffer_after_write, is_within, overlay, write_answer}
use Rattle.trace.proofs.Trips.{length_body}
use Rattle.assembly.specs.declared.line.Line.{Line}
use Rattle.assembly.specs.Lines.{contents_of_line, records_of, spelled_by, words_of, AddsLine}

-- the first bytes of a buffer are the record that was written there
pub written_first : (m : Content) (end : ℕ) (buffer : List ℕ) → IsInRange m → Ok end ≡ write_answer m 0 buffer
    → take end (buffer_after_write m 0 buffer) ≡ encoding_of m
unfolding overlay
written_first m end buffer fits e = go (is_within 0 (size_of m) buffer) e
  where
    go : (b : Bool) → ◌≡◌ {A = Result ℕ ℕ} (Ok end) (if b then Ok (0 + size_of m) else Err 19)
        → take end (if b then overlay 0 (encoding_of m) buffer else buffer) ≡ encoding_of m
    go true e =
        let whole : end ≡ 0 + size_of m = cc in
        let n : end ≡ length (encoding_of m) = omega (arith, length_body m fits) in
        ap (λ (n : ℕ). take n (encoding_of m ++ drop (0 + length (encoding_of m)) buffer)) n
        ∙ take-append_seam (encoding_of m) (drop (0 + length (encoding_of m)) buffer)
    go false e = cc

-- what a line says
pub line_says : (line : List ℕ) (words : List (Bor (List ℕ))) (said : Line) → map (λ word. word.now) words ≡ words_of line
    → contents_of_line said ≡ spelled_by (map (λ word. word.now) words) → contents_of_line said ≡ records_of line
unfolding records_of
line_says line words said same says = says ∙ ap spelled_by same

-- what is added of a line that says nothing, of a record, and of a line that is not understood
pub adds_nothing : (records : Option (List Content)) (trace : List ℕ) → Some [] ≡ records → AddsLine records trace trace true
adds_nothing records trace is =
    subst (λ records. AddsLine records trace trace true) is (refl, sym (append-nil trace), All-nil IsInRange)

pub adds_one : (records : Option (List Content)) (m n : Content) (trace after : List ℕ) → Some (m ∷ []) ≡ records → n ≡ m
    → after ≡ trace ++ encoding_of n → IsInRange n → AddsLine records trace after true
adds_one records m n trace after is same bytes fits =
    subst (λ records. AddsLine records trace after true) is (
      refl,
      bytes ∙ ap (λ (m : Content). trace ++ encoding_of m) same
          ∙ ap (λ (t : List ℕ). trace ++ t) (sym (append-nil (encoding_of m))),
      All-cons IsInRange m [] (subst IsInRange same fits) (All-nil IsInRange),
    )

-- a record that was written over the first of a buffer's bytes and added from there
pub gained : {E : Type 0} (m : Content) (r : Result ℕ Refusal) (end : ℕ) (buffer after was is : List ℕ) (o : Result (Unit {0}) E)
    → OnOk r (IsInRange m) → shown r ≡ write_answer m 0 buffer → r ≡ Ok end → after ≡ buffer_after_write m 0 buffer
    → is ≡ (if is_ok o then was ++ take end after else was) → OnOk o (is ≡ was ++ encoding_of m)
gained m r end buffer after was is (Err e) fits answer ok wrote added = tt
gained m r end buffer after was is (Ok u) fits answer ok wrote added =
    let in_range : IsInRange m = subst (λ (r : Result ℕ Refusal). OnOk r (IsInRange m)) ok fits in
    let number : Ok end ≡ write_answer m 0 buffer =
    subst (λ (r : Result ℕ Refusal). shown r ≡ write_answer m 0 buffer) ok answer in
    added ∙ ap (λ (t : List ℕ). was ++ take end t) wrote
    ∙ ap (λ (t : List ℕ). was ++ t) (written_first m end buffer in_range number)

pub not_understood : (records : Option (List Content)) (trace : List ℕ) → None ≡ records → AddsLine records trace trace false
not_understood records trace is = subst (λ records. AddsLine records trace trace false) is refl
