-- The pieces of a line, one after another.
use Rattle.std.proofs.Common.{◌≡◌, ℕ, ◌+◌, ◌<◌, true, List, [], ◌∷◌, ◌++◌, length, get_or, drop, is_err, Ok, Err, Result, String}
use Rattle.std.proofs.Common.{ap, ◌∙◌, append_assoc}
use Rattle.std.proofs.lemmas.List.{at_drop_more}
use Rattle.lines.specs.Adding.{AddsInRoom}
use Rattle.lines.specs.declared.line.Piece.{Piece}
use Rattle.lines.specs.Lines.{gap, piece_text, spaced_text}
use Rattle.lines.proofs.Adding.{OnTheWay, step, stop_in_room}

-- before the i-th of the pieces of a line
module _ (ps : List Piece) (i : ℕ) (d : Piece) where
  -- that piece, and what follows it
  abbrev pub from_piece : List ℕ
  from_piece = piece_text (get_or ps i d) ++ (spaced_text (i + 1) (drop (i + 1) ps) ++ 10 ∷ [])

  gap_first : i < length ps → spaced_text i (drop i ps) ++ 10 ∷ [] ≡ gap i ++ from_piece
  gap_first h = ap (λ (t : List ℕ). t ++ 10 ∷ []) (at_drop_more (spaced_text i) ps i d h) ∙ simp append_assoc

  module _ {Z : Type 0} {was mid : String Z} {all : List ℕ} (w : OnTheWay was mid all (spaced_text i (drop i ps) ++ 10 ∷ []))
      (h : i < length ps) where
    pub gap_added : {X E : Type 0} {after : String Z} {x : X} → AddsInRoom {E = E} mid after (gap i) (Ok x)
        → OnTheWay was after all from_piece
    gap_added a = step _ _ w (gap_first h) a.adds

    pub gap_failed : {X Y E F : Type 0} {after : String Z} {x : E} (q : Result Y F) → AddsInRoom {X = X} mid after (gap i) (Err x)
        → is_err q ≡ true → AddsInRoom was after all q
    gap_failed q a f = stop_in_room _ _ q w (gap_first h) a f
