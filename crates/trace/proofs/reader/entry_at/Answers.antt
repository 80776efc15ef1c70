use Rattle.std.proofs.Common.{◌≡◌, ◌+◌, ◌-◌, ◌<◌, ◌≤◌, length, get_or, take, drop, Some, Ok, Option, Result, ℕ, sym, ap, ◌∙◌}
use Rattle.std.proofs.Common.{arith, take_all, length-drop}
use Rattle.std.proofs.lemmas.Grind.{common_steps}
use Rattle.std.specs.Option.{ok_or}
use Rattle.trace.specs.declared.kind.Kind.{Kind}
use Rattle.trace.specs.Kinds.{kind_at, body_len_of}
use Rattle.trace.specs.Contents.{content_of, kind_of}
use Rattle.trace.specs.Format.{content_from, finding_at, key_in_body, key_in_trace}
use Rattle.trace.proofs.Numbers.{AllBytes}
use Rattle.trace.proofs.Parsing.{record_found, kind_decoded}
use Rattle.trace.proofs.Reading.{own_bytes, key_within}
use Rattle.trace.proofs.reader.entry_at.Goals as goal

known : (o : Option Kind) (k : Kind) → ◌≡◌ {A = Result Kind ℕ} (Ok k) (ok_or o 1) → o ≡ Some k
known o k e = grind arith

pub returns : goal.returns
returns c =
    let bs = c.args.trace.now in
    let at = c.args.offset in
    let k = c.in_ok-kind.kind in
    let m = content_of c.decoded-record.result in
    let body = drop (at + 1) bs in
    let before : at < length bs = grind (arith, common_steps) in
    let byte : c.in-Some.field-0.now ≡ get_or bs at 0 = grind (arith, common_steps) in
    let kind : kind_at (get_or bs at 0) ≡ Some k =
    ap kind_at (sym byte) ∙ known (kind_at c.in-Some.field-0.now) k c.in_ok-kind.ensures in
    let enough : body_len_of k ≤ length body = grind (arith, common_steps) in
    let whole : take (length bs - (at + 1)) body ≡ body =
    take_all (length bs - (at + 1)) body (omega (arith, length-drop (at + 1) bs)) in
    let content : m ≡ content_from k body = c.decoded-record.ensures.content ∙ ap (content_from k) whole in
    let same_kind : k ≡ kind_of m = sym (ap kind_of content ∙ kind_decoded k body) in
    let bytes : AllBytes bs = λ j. (c.type_inv.trace j).fits in
    let found : Ok (Some (at, m)) ≡ finding_at bs at = record_found bs at k m before kind enough content in
    record {
      answer = found;
      stands = record {
        bytes = own_bytes bs at k m before kind enough bytes content;
        key = c.decoded-record.ensures.key ∙ ap (key_in_body k (at + 1)) whole ∙ key_within k at bs
            ∙ ap (λ (j : Kind). key_in_trace j at bs) same_kind;
      };
    }
