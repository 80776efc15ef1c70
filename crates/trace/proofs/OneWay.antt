-- A trace splits into records in one way, and `whole_of` gives it.
use Rattle.std.proofs.Common.{◌≡◌, ℕ, zero, suc, ◌+◌, ◌<◌, ◌≤◌, List, [], ◌∷◌, ◌++◌, length, drop, Some, None, Ok, Err, sym, refl}
use Rattle.std.proofs.Common.{ap, ◌∙◌, subst, append_assoc, append-nil, add-zero, arith, length-append, length-drop}
use Rattle.std.proofs.Common.{take-append-drop, length-take-le, drop-drop, w32, Fits, FitsSigned}
use mir.Facts.{sfits_to_z}
use Rattle.std.specs.Prelude.{All}
use Rattle.std.proofs.lemmas.List.Elements.{All-nil, All-cons, All-head, All-tail}
use Rattle.std.proofs.lemmas.List.{drop_all, get_or-drop}
use Rattle.trace.specs.declared.kind.Kind.{Kind}
use Rattle.trace.specs.declared.kind.Kind.TheVariants.{SetUp, Note, Send, Receipt, Loss, PutPoint, PutTag, ReadPoint, ReadTag}
use Rattle.trace.specs.Numbers.{unsigned_at, signed_at}
use Rattle.trace.specs.Kinds.{body_len_of}
use Rattle.trace.specs.Contents.{Content, kind_of, size_of, encoding_of}
use Rattle.trace.specs.Ranges.{IsInRange}
use Rattle.trace.specs.Format.{Finding, part, content_from, finding_at, place_behind}
use Rattle.trace.specs.Whole.{Whole, Ending, complete, refused, whole_with, whole_from, whole_of, trace_of, Splits, SplitsOneWay}
use Rattle.trace.proofs.Numbers.{AllBytes, unsigned_lt}
use Rattle.trace.proofs.Parsing.{parse_says, parse_within, parse_none, parse_end, parse_refused}
use Rattle.trace.proofs.Reading.{own_bytes}
use Rattle.trace.proofs.Trips.{read_written, length_body}
use Rattle.trace.proofs.Whole.{rest, whole_rest, rest_record, rest_end, rest_refused}

-- ---- the records that are read have fields in range

part_length : (w i : ℕ) (bs : List ℕ) → i + w ≤ length bs → length (part w i bs) ≡ w
part_length w i bs h = length-take-le w (drop i bs) (omega (arith, length-drop i bs))

signed_fits : (i : ℕ) (bs : List ℕ) → AllBytes bs → FitsSigned w32 (signed_at i bs)
signed_fits i bs u =
    let f : Fits w32 (unsigned_at 4 i bs) = record { fits = unsigned_lt 4 i bs u } in
    sfits_to_z {w = w32} f

decoded_in_range : (k : Kind) (bs : List ℕ) → body_len_of k ≤ length bs → AllBytes bs → IsInRange (content_from k bs)
decoded_in_range SetUp bs h u = (unsigned_lt 1 0 bs u, unsigned_lt 1 1 bs u, unsigned_lt 4 2 bs u, unsigned_lt 4 6 bs u)
decoded_in_range Note bs h u = (unsigned_lt 1 0 bs u, unsigned_lt 8 1 bs u)
decoded_in_range Send bs h u = (unsigned_lt 1 0 bs u, unsigned_lt 8 1 bs u, unsigned_lt 1 9 bs u, unsigned_lt 4 10 bs u)
decoded_in_range Receipt bs h u = (unsigned_lt 1 0 bs u, unsigned_lt 8 1 bs u, unsigned_lt 4 9 bs u)
decoded_in_range Loss bs h u = unsigned_lt 4 0 bs u
decoded_in_range PutPoint bs h u =
    (unsigned_lt 1 0 bs u, unsigned_lt 8 1 bs u, part_length 4 9 bs (omega arith), signed_fits 13 bs u)
decoded_in_range PutTag bs h u =
    (unsigned_lt 1 0 bs u, unsigned_lt 8 1 bs u, part_length 16 9 bs (omega arith), signed_fits 25 bs u)
decoded_in_range ReadPoint bs h u = (unsigned_lt 8 0 bs u, part_length 4 8 bs (omega arith))
decoded_in_range ReadTag bs h u = (unsigned_lt 8 0 bs u, part_length 16 8 bs (omega arith))

bytes_drop : (n : ℕ) (bs : List ℕ) → AllBytes bs → AllBytes (drop n bs)
bytes_drop n bs u j = subst (λ (x : ℕ). x < 256) (sym (get_or-drop n bs j 0)) (u (n + j))

found_in_range : (bs : List ℕ) (at i : ℕ) (m : Content) → AllBytes bs → finding_at bs at ≡ Ok (Some (i, m)) → IsInRange m
found_in_range bs at i m u e =
    let s = parse_says bs at i m e in
    subst IsInRange (sym s.body) (decoded_in_range (kind_of m) (drop (at + 1) bs) s.enough (bytes_drop (at + 1) bs u))

-- ---- the trace splits into the records that are read

-- the trace from `at` on is the bytes of these records one after another, and ends so
abbrev SplitsFrom : List ℕ → ℕ → List Content → Ending → Type 0
SplitsFrom bs at ms complete = drop at bs ≡ trace_of ms
SplitsFrom bs at ms (refused n k) = (drop at bs ≡ trace_of ms ++ drop k bs) × (finding_at bs k ≡ Err n)

found_bytes : (bs : List ℕ) (at i : ℕ) (m : Content) → AllBytes bs → finding_at bs at ≡ Ok (Some (i, m))
    → drop at bs ≡ encoding_of m ++ drop (at + size_of m) bs
found_bytes bs at i m u e =
    let s = parse_says bs at i m e in
    sym (take-append-drop (size_of m) (drop at bs))
    ∙ ap (λ (t : List ℕ). t ++ drop (size_of m) (drop at bs)) (own_bytes bs at (kind_of m) m s.before s.kind s.enough u s.body)
    ∙ ap (λ (t : List ℕ). encoding_of m ++ t) (drop-drop (size_of m) at bs)

splits_more : (bs : List ℕ) (at next : ℕ) (m : Content) (ms : List Content) (e : Ending)
    → drop at bs ≡ encoding_of m ++ drop next bs → SplitsFrom bs next ms e → SplitsFrom bs at (m ∷ ms) e
splits_more bs at next m ms complete d s = d ∙ ap (λ (t : List ℕ). encoding_of m ++ t) s
splits_more bs at next m ms (refused n k) d s =
    (d ∙ ap (λ (t : List ℕ). encoding_of m ++ t) s.0 ∙ sym (append_assoc (encoding_of m) (trace_of ms) (drop k bs)), s.1)

-- both facts of the trace from `at` on
abbrev ReadsFrom : List ℕ → ℕ → Whole → Type 0
ReadsFrom bs at w = All IsInRange w.records × SplitsFrom bs at w.records w.ending

reads : (f : ℕ) (bs : List ℕ) (at : ℕ) → AllBytes bs → at ≤ length bs → length bs < at + f → ReadsFrom bs at (whole_from f bs at)
reads zero bs at u h l = absurd (omega arith)
reads (suc f) bs at u h l = go (finding_at bs at) refl (λ k p q. reads f bs k u q (omega arith))
  where
    go : (a : Finding) → finding_at bs at ≡ a → ((k : ℕ) → at < k → k ≤ length bs → ReadsFrom bs k (whole_from f bs k))
        → ReadsFrom bs at (whole_with at a (whole_from f bs (place_behind at a)))
    go (Err n) e later = (All-nil IsInRange, (refl, e))
    go (Ok None) e later = (All-nil IsInRange, drop_all at bs (parse_none bs at e))
    go (Ok (Some (i, m))) e later =
        let next = at + size_of m in
        let w = parse_within bs at i m e in
        let r = later next (omega arith) (omega (arith, w)) in (
          All-cons IsInRange m (whole_from f bs next).records (found_in_range bs at i m u e) r.0,
          splits_more bs at next m (whole_from f bs next).records (whole_from f bs next).ending (found_bytes bs at i m u e) r.1,
        )

splits_all : (bs : List ℕ) (ms : List Content) (e : Ending) → SplitsFrom bs 0 ms e → Splits bs ms e
splits_all bs ms e s = grind arith

-- ---- no other records do

abbrev whole_behind : List Content → Whole → Whole
whole_behind ms w = record { records = ms ++ w.records; ending = w.ending }

encode_length : (m : Content) → IsInRange m → length (encoding_of m) ≡ size_of m
encode_length m s = let l = length_body m s in omega arith

-- records behind `pre` are read one after another
read_all : (ms : List Content) (pre post bs : List ℕ) → All IsInRange ms → bs ≡ pre ++ (trace_of ms ++ post)
    → rest bs (length pre) ≡ whole_behind ms (rest bs (length pre + length (trace_of ms)))
read_all [] pre post bs a e = ap (rest bs) (sym (add-zero (length pre)))
read_all (m ∷ ms) pre post bs a e =
    let at = length pre in
    let first : IsInRange m = All-head IsInRange m ms a in
    let e2 : bs ≡ pre ++ (encoding_of m ++ (trace_of ms ++ post)) =
    e ∙ ap (λ (t : List ℕ). pre ++ t) (append_assoc (encoding_of m) (trace_of ms) post) in
    let p : finding_at bs at ≡ Ok (Some (at, m)) =
    ap (λ (t : List ℕ). finding_at t at) e2 ∙ read_written m pre (trace_of ms ++ post) first in
    let h : at ≤ length bs = omega (arith, ap length e2, length-append pre (encoding_of m ++ (trace_of ms ++ post))) in
    let q : length (pre ++ encoding_of m) ≡ at + size_of m =
    length-append pre (encoding_of m) ∙ ap (λ (n : ℕ). at + n) (encode_length m first) in
    let later = read_all ms (pre ++ encoding_of m) post bs (All-tail IsInRange m ms a)
    (e2 ∙ sym (append_assoc pre (encoding_of m) (trace_of ms ++ post))) in
    let k : length (pre ++ encoding_of m) + length (trace_of ms) ≡ at + length (trace_of (m ∷ ms)) =
    omega (arith, length-append pre (encoding_of m), length-append (encoding_of m) (trace_of ms)) in
    rest_record bs at at m h p
    ∙ ap (λ (n : ℕ). whole_with at (Ok (Some (at, m))) (rest bs n)) (sym q)
    ∙ ap (whole_with at (Ok (Some (at, m)))) later
    ∙ ap (λ (n : ℕ). whole_behind (m ∷ ms) (rest bs n)) k

only_one : (bs : List ℕ) (ms : List Content) (e : Ending) → All IsInRange ms → Splits bs ms e
    → whole_of bs ≡ record { records = ms; ending = e }
only_one bs ms complete a s =
    let at = 0 + length (trace_of ms) in
    let r = rest_end bs at (parse_end bs at (omega (arith, ap length s))) in
    whole_rest bs
    ∙ read_all ms [] [] bs a (s ∙ sym (append-nil (trace_of ms)))
    ∙ ap (whole_behind ms) r
    ∙ ap (λ (t : List Content). record { records = t; ending = complete }) (append-nil ms)
only_one bs ms (refused n at) a s =
    let b = parse_refused bs at n s.1 in
    let k : 0 + length (trace_of ms) ≡ at =
    omega (arith, ap length s.0, length-append (trace_of ms) (drop at bs), length-drop at bs) in
    whole_rest bs
    ∙ read_all ms [] (drop at bs) bs a s.0
    ∙ ap (λ (i : ℕ). whole_behind ms (rest bs i)) k
    ∙ ap (whole_behind ms) (rest_refused bs at n s.1)
    ∙ ap (λ (t : List Content). record { records = t; ending = refused n at }) (append-nil ms)

pub one_way : (bs : List ℕ) → AllBytes bs → SplitsOneWay bs
one_way bs u =
    let r = reads (suc (length bs)) bs 0 u (omega arith) (omega arith) in
    record {
      fields = r.0;
      splits = splits_all bs (whole_of bs).records (whole_of bs).ending r.1;
      only = only_one bs;
    }
