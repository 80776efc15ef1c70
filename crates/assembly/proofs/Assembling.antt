-- A text on the way to its trace.
use Rattle.std.proofs.Common.{◌≡◌, ℕ, ◌+◌, ◌<◌, ◌≤◌, ◌∙◌, ◌++◌, zero, suc, Bool, true, false, All, List, [], ◌∷◌}
use Rattle.std.proofs.Common.{length, Some, None, Ok, Err, Option, Result, get_or}
use Rattle.std.proofs.Common.{ap, sym, subst, refl, append-nil, append_assoc, lit<, arith}
use Rattle.std.specs.List.{after_first, before_first, slice_split}
use Rattle.std.proofs.lemmas.List.Elements.{All-append, All-nil}
use Rattle.refusals.specs.Refusals.{result_map}
use Rattle.trace.specs.Contents.{Content, encoding_of}
use Rattle.trace.specs.Ranges.{IsInRange}
use Rattle.trace.specs.Whole.{Whole, complete, trace_of}
use Rattle.trace.proofs.OneWay.{one_way}
use Rattle.assembly.specs.Lines.{is_line_feed, records_of, AddsLine}
use Rattle.assembly.specs.Texts.{assembly_of, contents_of, records_from, records_with, ReadsBack}
use Rattle.assembly.proofs.Splitting.{by_line, nothing}

-- the records that were found so far, and what is still to be found
abbrev pub onward : List Content → Result (List Content) ℕ → Result (List Content) ℕ
onward done later = result_map (λ rest. done ++ rest) later

-- in steps
onward_none : (later : Result (List Content) ℕ) → later ≡ onward [] later
onward_none (Ok rest) = refl
onward_none (Err n) = refl

onward_twice : (done more : List Content) (later : Result (List Content) ℕ)
    → onward done (onward more later) ≡ onward (done ++ more) later
onward_twice done more (Ok rest) = ap Ok (sym (append_assoc done more rest))
onward_twice done more (Err n) = refl

trace_of-append : (ms ns : List Content) → trace_of ms ++ trace_of ns ≡ trace_of (ms ++ ns)
trace_of-append [] ns = refl
trace_of-append (m ∷ ms) ns =
    append_assoc (encoding_of m) (trace_of ms) (trace_of ns) ∙ ap (λ (t : List ℕ). encoding_of m ++ t) (trace_of-append ms ns)

-- so many lines of the text were taken, and the rest is to come
pub record Assembling (text rest : List ℕ) (before : ℕ) (trace : List ℕ) : Type 0 where
  pub done : List Content
  pub bytes : trace ≡ trace_of done
  pub ranges : All IsInRange done
  pub todo : contents_of text ≡ onward done (records_from (before + 1) (slice_split is_line_feed rest))
  pub octets : All (λ byte. byte < 256) trace
  pub short : before + length rest ≤ length text

-- before the first line
pub start : (text trace : List ℕ) → trace ≡ [] → Assembling text text 0 trace
unfolding contents_of
start text trace none = record {
  done = [];
  bytes = none;
  ranges = All-nil IsInRange;
  todo = onward_none (records_from 1 (slice_split is_line_feed text));
  octets = subst (All (λ byte. byte < 256)) (sym none) (All-nil (λ (byte : ℕ). byte < 256));
  short = omega arith;
}

-- the next line is taken
taken : (text rest line behind : List ℕ) (before : ℕ) → line ≡ before_first is_line_feed rest
    → behind ≡ after_first is_line_feed rest
    → records_from (before + 1) (slice_split is_line_feed rest)
    ≡ records_with (before + 1) (records_of line) (records_from (before + 1 + 1) (slice_split is_line_feed behind))
taken text rest line behind before first second =
    by_line (before + 1) rest
    ∙ ap (λ (line : List ℕ). records_with (before + 1) (records_of line)
    (records_from (before + 1 + 1) (slice_split is_line_feed (after_first is_line_feed rest)))) (sym first)
    ∙ ap (λ (behind : List ℕ). records_with (before + 1) (records_of line)
    (records_from (before + 1 + 1) (slice_split is_line_feed behind))) (sym second)

-- behind the next line
pub step : (text rest line behind : List ℕ) (before : ℕ) (trace after : List ℕ) → Assembling text rest before trace
    → line ≡ before_first is_line_feed rest → behind ≡ after_first is_line_feed rest → length behind < length rest
    → (understood : Bool) → understood ≡ true → AddsLine (records_of line) trace after understood → All (λ byte. byte < 256) after
    → Assembling text behind (before + 1) after
step text rest line behind before trace after w first second less understood so adds octets = go (records_of line) refl adds
  where
    go : (records : Option (List Content)) → records_of line ≡ records → AddsLine records trace after understood
        → Assembling text behind (before + 1) after
    go None is a = cc
    go (Some ms) is a = record {
      done = w.done ++ ms;
      bytes = a.1 ∙ ap (λ (t : List ℕ). t ++ trace_of ms) w.bytes ∙ trace_of-append w.done ms;
      ranges = All-append IsInRange w.done ms w.ranges a.2;
      todo =
          w.todo ∙ ap (onward w.done) (taken text rest line behind before first second ∙ ap (λ (r : Option (List Content)).
          records_with (before + 1) r (records_from (before + 1 + 1) (slice_split is_line_feed behind))) is)
          ∙ onward_twice w.done ms (records_from (before + 1 + 1) (slice_split is_line_feed behind));
      octets = octets;
      short = omega (arith, w.short);
    }

-- where a line is not understood
pub fails : (text rest line : List ℕ) (before : ℕ) (trace after : List ℕ) → Assembling text rest before trace
    → line ≡ before_first is_line_feed rest → (understood : Bool) → understood ≡ false
    → AddsLine (records_of line) trace after understood → Err (before + 1) ≡ assembly_of text
unfolding assembly_of
fails text rest line before trace after w first understood so adds = go (records_of line) refl adds
  where
    go : (records : Option (List Content)) → records_of line ≡ records → AddsLine records trace after understood
        → Err (before + 1) ≡ assembly_of text
    go None is a =
        ap (result_map trace_of) (sym (w.todo ∙ ap (onward w.done) (by_line (before + 1) rest
        ∙ ap (λ (line : List ℕ). records_with (before + 1) (records_of line)
        (records_from (before + 1 + 1) (slice_split is_line_feed (after_first is_line_feed rest)))) (sym first)
        ∙ ap (λ (r : Option (List Content)). records_with (before + 1) r
        (records_from (before + 1 + 1) (slice_split is_line_feed (after_first is_line_feed rest)))) is)))
    go (Some ms) is a = let yes = a.0 in cc

-- and where no line is left
all_found : (text rest : List ℕ) (before : ℕ) (trace : List ℕ) (w : Assembling text rest before trace) → length rest ≡ 0
    → contents_of text ≡ Ok w.done
all_found text [] before trace w none =
    w.todo ∙ ap (onward w.done) (nothing (before + 1)) ∙ ap Ok (append-nil w.done)
all_found text (x ∷ rest) before trace w none = absurd (omega arith)

pub ends : (text rest : List ℕ) (before : ℕ) (trace : List ℕ) → Assembling text rest before trace → length rest ≡ 0
    → Ok trace ≡ assembly_of text
unfolding assembly_of
ends text rest before trace w none =
    ap Ok w.bytes ∙ ap (result_map trace_of) (sym (all_found text rest before trace w none))

each_byte : (trace : List ℕ) → All (λ byte. byte < 256) trace → (i : ℕ) → get_or trace i 0 < 256
each_byte [] octets i = lit< tt
each_byte (x ∷ xs) octets zero = octets 0 0 (omega arith)
each_byte (x ∷ xs) octets (suc i) = each_byte xs (λ k d short. octets (suc k) d (omega arith)) i

-- a reader finds those records
pub reads_back : (text rest : List ℕ) (before : ℕ) (trace : List ℕ) → Assembling text rest before trace → length rest ≡ 0
    → ReadsBack text trace
reads_back text rest before trace w none =
    let whole = (one_way trace (each_byte trace w.octets)).only w.done complete w.ranges w.bytes in
    record {
      records = all_found text rest before trace w none ∙ ap (λ (r : Whole). Ok r.records) (sym whole);
      ending = ap (λ (r : Whole). r.ending) whole;
    }
