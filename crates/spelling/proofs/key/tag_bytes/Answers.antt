use Rattle.std.proofs.Common.{◌∙◌, sym}
use Rattle.spelling.proofs.Padding.{over_zeros}
use Rattle.spelling.proofs.key.tag_bytes.Goals as goal

pub returns : goal.returns
returns c =
    over_zeros c.args.name.now c.copy_from_slice.new.self (sym c.is_tag_name.ensures ∙ c.if-not-is_tag_name.false)
    c.copy_from_slice.ensures.after
