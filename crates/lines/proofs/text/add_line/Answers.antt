use Rattle.std.proofs.Common.{refl, arith}
use Rattle.lines.specs.declared.line.Piece.TheVariants.{Word}
use Rattle.lines.specs.declared.line.Word.TheVariants.{SetUp}
use Rattle.lines.proofs.Adding.{stop_in_room, step}
use Rattle.lines.proofs.Spacing.{gap_added, gap_failed}
use Rattle.lines.proofs.text.add_line.Goals as goal

pub returns-in_err-add_gap : goal.returns-in_err-add_gap
returns-in_err-add_gap c =
    gap_failed c.args.pieces.now c.loop-place.place (Word SetUp) c.loop-place.invariant (omega arith)
    c.from_residual.result c.in_err-add_gap.ensures c.from_residual.ensures.0

pub returns-in_err-add_piece : goal.returns-in_err-add_piece
returns-in_err-add_piece c =
    let way = gap_added c.args.pieces.now c.loop-place.place (Word SetUp) c.loop-place.invariant (omega arith)
    c.in_ok-add_gap.ensures in
    stop_in_room _ _ _ way refl c.in_err-add_piece.ensures c.from_residual-in_err-add_piece.ensures.0

pub loop-place-preserved : goal.loop-place-preserved
loop-place-preserved c =
    let way = gap_added c.args.pieces.now c.loop-place.place (Word SetUp) c.loop-place.invariant (omega arith)
    c.in_ok-add_gap.ensures in
    step _ _ way refl c.in_ok-add_piece.ensures.adds
