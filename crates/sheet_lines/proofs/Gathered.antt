-- The line of one node more behind those of the others.
use Rattle.std.proofs.Common.{◌≡◌, ℕ, suc, ◌+◌, List, ◌++◌, ap, ◌∙◌, append_assoc, arith}
use Rattle.history.specs.Events.{Event}
use Rattle.history.specs.History.{last_stamp}
use Rattle.stamps.specs.Stamp.{Timestamp}
use Rattle.sheet_lines.specs.Lines.{held_back_line, held_back_lines}

pub one_more_node : {K : Type 0} (events : List (Event K)) (stamp node : ℕ) (last : Timestamp) (was mid after : List ℕ)
    → mid ≡ was ++ held_back_lines events stamp node → last ≡ last_stamp events node
    → after ≡ mid ++ held_back_line stamp node last → after ≡ was ++ held_back_lines events stamp (node + 1)
one_more_node events stamp node last was mid after so_far is more =
    let next : suc node ≡ node + 1 = omega arith in
    let line = held_back_line stamp node in
    more ∙ ap (λ bytes. bytes ++ line last) so_far ∙ append_assoc was (held_back_lines events stamp node) (line last)
    ∙ ap (λ t. was ++ (held_back_lines events stamp node ++ line t)) is
    ∙ ap (λ n. was ++ held_back_lines events stamp n) next
