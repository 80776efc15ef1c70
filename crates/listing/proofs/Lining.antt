-- What is known between the lines of two records.
use Rattle.std.proofs.Common.{◌≡◌, ℕ, suc, ◌+◌, ◌<◌, Bool, List, ◌++◌, ◌∷◌, [], length, map, drop, get_or, Ok, Err, Result}
use Rattle.std.proofs.Common.{String, IsOk, is_ok, is_err, true, ◌≤◌, ap, ◌∙◌, refl, arith}
use Rattle.std.proofs.lemmas.List.{at_drop_all, at_drop_more}
use Rattle.std.proofs.lemmas.Bool.Decides.{nat_tests}
use Rattle.std.proofs.lemmas.Grind.{common_steps}
use Rattle.std.specs.List.{cons_option}
use Rattle.std.specs.Result.{result_ok}
use Rattle.lines.specs.Adding.{Adds}
use Rattle.lines.proofs.Adding.{OnTheWay, start, step, stop}
use Rattle.replay.specs.Calls.{AnswerNumbers}
use Rattle.replay.specs.declared.call.Call.{Call}
use Rattle.trace.specs.Contents.{Content, content_of}
use Rattle.trace.specs.declared.records.Record.{Record}
use Rattle.trace_run.specs.Calls.{KeyForm, answers_left, call_of, calls_of}
use Rattle.record_lines.specs.Lines.{Outcome, accepted_among, outcome_line, outcome_lines, refused_among}
use Rattle.listing.specs.Outcomes.{AddsOutcomes, after_one, next_outcome, recorded}
use Rattle.record_lines.specs.declared.end.Counts.{Counts}

-- a call has taken one answer
behind_call : {K : Type 0} (left : List (AnswerNumbers K)) (c : Call K) {n : ℕ} → length left ≡ suc n
    → length (answers_left {K = K} (Ok c) left) ≡ n
behind_call [] c e = absurd (omega (arith, e))
behind_call (a ∷ left) c e = omega (arith, e)

-- the first line, and the others
lines_more : (k n j : ℕ) (o p : Outcome) (os : List Outcome) → n ≡ k → j ≡ k + 1 → p ≡ o
    → outcome_lines k (o ∷ os) ≡ outcome_line n p ++ outcome_lines j os
lines_more k n j o p os e f h = rw (e, f, h) refl

module _ {K : Type 0} (form : KeyForm K) (records : List Record) (answers : List (AnswerNumbers K)) where
  abbrev all : List Outcome
  all = recorded form (map content_of records) answers

  abbrev rest : ℕ → List (AnswerNumbers K) → List Outcome
  rest i left = recorded form (map content_of (drop i records)) left

  -- the lines of the first i records were added to the text `was`, which is `mid`; these answers are left, and these are the counts
  pub record IsLined {Z : Type 0} (was mid : String Z) (i : ℕ) (left : List (AnswerNumbers K)) (accepted refused : ℕ) : Type 0
    where
      pub way : OnTheWay was mid (outcome_lines 2 all) (outcome_lines (2 + i) (rest i left))
      pub accepted_counted : accepted + accepted_among (rest i left) ≡ 1 + accepted_among all
      pub refused_counted : refused + refused_among (rest i left) ≡ refused_among all
      pub number : accepted + refused ≡ 1 + i
      pub enough : length left ≡ length (calls_of form (map content_of (drop i records)))

  -- before the first
  pub lined_none : {Z : Type 0} (was : String Z) → length answers ≡ length (calls_of form (map content_of records))
      → IsLined was was 0 answers 1 0
  lined_none was e = record {
    way = start was (outcome_lines 2 all);
    accepted_counted = refl;
    refused_counted = omega arith;
    number = refl;
    enough = e;
  }

  module _ {Z : Type 0} {was mid : String Z} {i accepted refused : ℕ} {left : List (AnswerNumbers K)}
      (g : IsLined was mid i left accepted refused) (r : Record) (h : i < length records) where
    -- the record that comes next, and what comes of it
    abbrev pub content : Content
    content = content_of (get_or records i r)

    abbrev pub outcome : Outcome
    outcome = next_outcome content (call_of form content) left

    abbrev pub left_then : List (AnswerNumbers K)
    left_then = answers_left (call_of form content) left

    rest_more : rest i left ≡ outcome ∷ rest (i + 1) left_then
    rest_more = at_drop_more (λ (rs : List Record). recorded form (map content_of rs) left) records i r h

    abbrev calls_then : List (Call K)
    calls_then = calls_of form (map content_of (drop (i + 1) records))

    enough_more : length left ≡ length (cons_option (result_ok (call_of form content)) calls_then)
    enough_more = g.enough ∙ at_drop_more (λ (rs : List Record). length (calls_of form (map content_of rs))) records i r h

    enough_then : length left_then ≡ length calls_then
    enough_then = go (call_of form content) enough_more
      where
        go : (c : Result (Call K) ℕ) → length left ≡ length (cons_option (result_ok c) calls_then)
            → length (answers_left c left) ≡ length calls_then
        go (Ok c) n = behind_call left c n
        go (Err refusal) n = n

    -- a record with a call has an answer
    pub answer_there : IsOk (call_of form content) → 0 < length left
    answer_there ok = go (call_of form content) ok enough_more
      where
        go : (c : Result (Call K) ℕ) → IsOk c → length left ≡ length (cons_option (result_ok c) calls_then) → 0 < length left
        go (Ok c) ok n = omega (arith, n)
        go (Err refusal) ok n = grind (arith, ok)

    module _ (n : ℕ) (o : Outcome) (e : n ≡ accepted + refused + 1) (is : o ≡ outcome) where
      line_more : outcome_lines (2 + i) (rest i left) ≡ outcome_line n o ++ outcome_lines (2 + (i + 1)) (rest (i + 1) left_then)
      line_more = ap (outcome_lines (2 + i)) rest_more
          ∙ lines_more (2 + i) n (2 + (i + 1)) outcome o (rest (i + 1) left_then) (omega (arith, e, g.number)) (omega arith) is

      -- behind its line
      pub lined : {after : String Z} {X E : Type 0} {x : X} (counts : Counts) (b : Bool) (later : List (AnswerNumbers K))
          → later ≡ left_then
          → counts ≡ after_one b (record { accepted = accepted; refused = refused }) → b ≡ is_ok o
          → Adds {E = E} mid after (outcome_line n o) (Ok x)
          → IsLined was after (i + 1) later counts.accepted counts.refused
      lined counts b later l one ok a =
          let line = line_more in
          let counted = ap accepted_among rest_more in
          let counted_refused = ap refused_among rest_more in
          let enough = enough_then in
          let accepted_is : b ≡ is_ok outcome = ok ∙ ap is_ok is in
          rw l record {
            way = step _ _ g.way line a;
            accepted_counted = grind (arith, nat_tests, one, accepted_is, counted, g.accepted_counted);
            refused_counted = grind (arith, nat_tests, one, accepted_is, counted_refused, g.refused_counted);
            number = grind (arith, nat_tests, one, g.number);
            enough = enough;
          }

      -- where that line fails
      pub line_failed : {after : String Z} {X E F : Type 0} {x : E} (q : Result Counts F)
          → Adds {X = X} mid after (outcome_line n o) (Err x) → is_err q ≡ true
          → AddsOutcomes was after all q
      line_failed (Ok x) a f = grind (arith, nat_tests, f)
      line_failed (Err x) a f = record { text = stop _ _ (Err x) g.way line_more a f; counts = tt }

  -- behind the last
  pub lined_all : {Z : Type 0} {was mid : String Z} {i : ℕ} {left : List (AnswerNumbers K)} {E : Type 0} (counts : Counts)
      → IsLined was mid i left counts.accepted counts.refused → length records ≤ i → AddsOutcomes {E = E} was mid all (Ok counts)
  lined_all {i = i} {left = left} counts g h =
      let lines = at_drop_all (λ (rs : List Record). outcome_lines (2 + i) (recorded form (map content_of rs) left)) records i
      h in
      let accepted = at_drop_all (λ (rs : List Record). accepted_among (recorded form (map content_of rs) left)) records i h in
      let refused = at_drop_all (λ (rs : List Record). refused_among (recorded form (map content_of rs) left)) records i h in
      record {
        text = grind (arith, common_steps, lines, g.way.bytes, g.way.kept, g.way.capacity);
        counts = (omega (arith, accepted, g.accepted_counted), omega (arith, refused, g.refused_counted));
      }
