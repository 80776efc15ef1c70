-- The text of a listing that has a set-up, part by part.
use Rattle.std.proofs.Common.{◌≡◌, ℕ, ◌+◌, List, [], ◌∷◌, ◌++◌, map, Ok, Err, Result, String, is_err, true, refl, sym, ap, ◌∙◌}
use Rattle.std.proofs.Common.{append_assoc, arith}
use Rattle.lines.specs.Adding.{Adds}
use Rattle.lines.specs.declared.line.Piece.{Piece}
use Rattle.lines.proofs.Adding.{OnTheWay, onward, start, step, stop}
use Rattle.trace.specs.Contents.{content_of}
use Rattle.trace.specs.Whole.{Ending}
use Rattle.trace.specs.declared.records.Record.{Record}
use Rattle.record_lines.specs.Lines.{Outcome, accepted_among, end_line, ending_lines, outcome_for, outcome_line, outcome_lines}
use Rattle.record_lines.specs.Lines.{refused_among}
use Rattle.listing.specs.Outcomes.{AreCounts}
use Rattle.trace_run.specs.SetUp.{SetUpNumbers, set_up_answer}
use Rattle.listing.specs.Text.{listing_of, listing_text, outcomes_for, set_up_listing}
use Rattle.record_lines.specs.declared.end.Counts.{Counts}

-- the records are a first, which is this set-up, and these others
module _ (records : List Record) (first : Record) (later : List Record) (setup : SetUpNumbers) (ending : Ending)
    (more : List Piece)
    (are : records ≡ first ∷ later) (is : Ok setup ≡ set_up_answer (content_of first)) (none : more ≡ []) where
  abbrev all : List ℕ
  all = listing_text (listing_of (map content_of records) ending)

  abbrev line : List ℕ
  line = outcome_line 1 (outcome_for (content_of first) (Ok more))

  abbrev os : List Outcome
  os = outcomes_for setup.keys setup (map content_of later)

  abbrev last : List ℕ
  last = ending_lines ending ++ end_line (1 + accepted_among os) (refused_among os)

  refused_others : 0 + refused_among os ≡ refused_among os
  refused_others = omega arith

  parts : all ≡ line ++ (outcome_lines 2 os ++ last)
  parts =
      let m = content_of first in
      ap (λ (rs : List Record). listing_text (listing_of (map content_of rs) ending)) are
      ∙ ap (λ (s : Result SetUpNumbers ℕ). listing_text (set_up_listing s m (map content_of later) ending)) (sym is)
      ∙ ap (λ (ps : List Piece). listing_text (record { outcomes = outcome_for m (Ok ps) ∷ os; ending = ending })) (sym none)
      ∙ ap (λ (n : ℕ). (line ++ outcome_lines 2 os) ++ (ending_lines ending ++ end_line (1 + accepted_among os) n)) refused_others
      ∙ append_assoc line (outcome_lines 2 os) last

  module _ {Z : Type 0} (was : String Z) {mid : String Z} where
    pub first_failed : {X Y E F : Type 0} {x : E} (q : Result Y F) → Adds {X = X} was mid line (Err x) → is_err q ≡ true
        → Adds was mid all q
    first_failed q a f = stop line (outcome_lines 2 os ++ last) q (start was all) parts a f

    module _ {X E : Type 0} {x : X} (a : Adds {E = E} was mid line (Ok x)) where
      behind_first : OnTheWay was mid all (outcome_lines 2 os ++ last)
      behind_first = step line (outcome_lines 2 os ++ last) (start was all) parts a

      pub others_failed : {after : String Z} {X Y E F : Type 0} {x : E} (q : Result Y F)
          → Adds {X = X} mid after (outcome_lines 2 os) (Err x) → is_err q ≡ true → Adds was after all q
      others_failed q b f = stop (outcome_lines 2 os) last q behind_first refl b f

      pub all_added : {after end : String Z} {Y E F : Type 0} {counts : Counts} (q : Result Y F)
          → Adds {E = E} mid after (outcome_lines 2 os) (Ok counts) → AreCounts os counts
          → Adds after end (ending_lines ending ++ end_line counts.accepted counts.refused) q → Adds was end all q
      all_added {after = after} {end = end} q b counted d =
          let added : Adds after end last q = rw (← counted.0, ← counted.1) d in
          onward q (step (outcome_lines 2 os) last behind_first refl b) added
