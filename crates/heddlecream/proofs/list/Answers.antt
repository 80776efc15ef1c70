use Rattle.std.proofs.Common.{◌≡◌, ◌∙◌, ◌++◌, ap, refl}
use Rattle.listing.specs.Text.{text_of}
use Rattle.heddlecream.proofs.Longest.{listed}
use Rattle.heddlecream.proofs.list.Goals as goal

-- the text is that of the bytes that were read, which are all or one too many
pub returns : goal.returns
returns g c =
    let text : c.as_bytes.result.now ≡ text_of c.read_to_end.new.buf.items =
    c.as_bytes.ensures.value ∙ (c.in_ok-add_listing.ensures.text.text refl
    ∙ (ap (λ was. was ++ text_of c.deref.result.now) c.new-text.ensures.bytes ∙ ap text_of c.deref.ensures.value)) in
    listed g.R.Read.remaining c.args.input c.take.result _ _ _ _ _ _ c.take.ensures.inner c.take.ensures.limit
    c.new-trace.ensures.items c.in_ok-read_to_end.ensures.bytes text c.write_all.ensures.bytes
