-- A text and its first line.
use Rattle.std.proofs.Common.{◌≡◌, ℕ, ◌+◌, ◌<◌, ◌≤◌, ◌∙◌, Bool, true, false, List, [], ◌∷◌, length, get_or, map, Some}
use Rattle.std.proofs.Common.{None, Bor, ap, sym, refl, arith, not, cond, nat_lt}
use Rattle.std.specs.Prelude.{◌==◌, position, slice_index}
use Rattle.std.specs.List.{after_first, before_first, onto_first, position_or_len, slice_split}
use Rattle.std.proofs.lemmas.Bool.{ltb-true, ltb-false}
use Rattle.std.proofs.lemmas.List.{take_all, drop_all}
use Rattle.std.proofs.lemmas.List.Splits.{slice_split_first}
use Rattle.assembly.specs.Lines.{is_line_feed, is_silent, records_of, spelled_by}
use Rattle.assembly.specs.Texts.{records_from, records_with}

-- how far it is to the first line feed
abbrev pub reach : List ℕ → ℕ
reach text = position_or_len is_line_feed text

pub at_line_feed : (text : List ℕ) (place : ℕ) → position is_line_feed text ≡ Some place → reach text ≡ place
at_line_feed text place h = go (nat_lt (reach text) (length text)) h
  where
    go : (b : Bool) → cond b (Some (reach text)) None ≡ Some place → reach text ≡ place
    go true h = cc
    go false h = cc

-- without one it is past the end
past : (text : List ℕ) → position is_line_feed text ≡ None → length text ≤ reach text
past text h = go (nat_lt (reach text) (length text)) refl h
  where
    go : (b : Bool) → nat_lt (reach text) (length text) ≡ b → cond b (Some (reach text)) None ≡ None → length text ≤ reach text
    go true is h = cc
    go false is h = ltb-false (reach text) (length text) is

-- without one the text is its first line
pub record NoLineFeed (text : List ℕ) : Type 0 where
  pub line : before_first is_line_feed text ≡ text
  pub behind : after_first is_line_feed text ≡ []

all_one_line : (text : List ℕ) → length text ≤ reach text → NoLineFeed text
all_one_line text h = record { line = take_all _ text h; behind = drop_all _ text (omega arith) }

pub no_line_feed : (text : List ℕ) → position is_line_feed text ≡ None → NoLineFeed text
no_line_feed text h = all_one_line text (past text h)

-- what is left is one line
last_line : (text : List ℕ) → length text ≤ reach text → slice_split is_line_feed text ≡ text ∷ []
last_line [] h = refl
last_line (x ∷ xs) h = go (is_line_feed x) h (last_line xs)
  where
    go : (b : Bool) → length (x ∷ xs) ≤ cond (not b) (1 + reach xs) 0
        → (length xs ≤ reach xs → slice_split is_line_feed xs ≡ xs ∷ [])
        → cond b ([] ∷ slice_split is_line_feed xs) (onto_first x (slice_split is_line_feed xs)) ≡ (x ∷ xs) ∷ []
    go true h rest = absurd (omega arith)
    go false h rest = ap (onto_first x) (rest (omega arith))

-- an empty line says nothing
pub nothing : (number : ℕ) → records_from number ([] ∷ []) ≡ records_from number []
unfolding records_of spelled_by is_silent
nothing number = refl

-- the records of a text are those of its first line, and then those of what is behind it
pub by_line : (number : ℕ) (text : List ℕ) → records_from number (slice_split is_line_feed text)
    ≡ records_with number (records_of (before_first is_line_feed text))
    (records_from (number + 1) (slice_split is_line_feed (after_first is_line_feed text)))
by_line number text = go (nat_lt (reach text) (length text)) refl
  where
    go : (b : Bool) → nat_lt (reach text) (length text) ≡ b → records_from number (slice_split is_line_feed text)
        ≡ records_with number (records_of (before_first is_line_feed text))
        (records_from (number + 1) (slice_split is_line_feed (after_first is_line_feed text)))
    go true is =
        ap (records_from number) (slice_split_first is_line_feed text 0 (ltb-true (reach text) (length text) is))
    go false is =
        let far = ltb-false (reach text) (length text) is in
        let one = all_one_line text far in
        ap (records_from number) (last_line text far)
        ∙ ap (records_with number (records_of text)) (sym (nothing (number + 1)))
        ∙ ap (λ (line : List ℕ). records_with number (records_of line) (records_from (number + 1) ([] ∷ []))) (sym one.line)
        ∙ ap (λ (behind : List ℕ). records_with number (records_of (before_first is_line_feed text))
        (records_from (number + 1) (slice_split is_line_feed behind))) (sym one.behind)

-- whether words say nothing, by the first
pub no_word : (ws : List (Bor (List ℕ))) → length ws ≡ 0 → is_silent (map (λ word. word.now) ws) ≡ true
unfolding is_silent
no_word [] h = refl
no_word (w ∷ ws) h = absurd (omega arith)

pub first_word : (ws : List (Bor (List ℕ))) (d : Bor (List ℕ)) → 0 < length ws
    → is_silent (map (λ word. word.now) ws) ≡ (slice_index (get_or ws 0 d).now 0 == 35)
unfolding is_silent
first_word [] d h = absurd (omega arith)
first_word (w ∷ ws) d h = refl
