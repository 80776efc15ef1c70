use Rattle.std.proofs.Common.{◌≡◌, ◌≢◌, ◌∙◌, ap, sym, length, None, arith}
use borrow.Author.Tests.{tests}
use Rattle.spelling.specs.declared.verb.Verb.{Verb}
use Rattle.spelling.specs.declared.verb.Verb.TheVariants.{SetUp, Note, Send, Receipt, Loss, Put, Read}
use Rattle.spelling.specs.Records.{record_for}
use Rattle.spelling.proofs.Shapes.{Words, arity, texts, loss_at, none_at, note_at, put_at, read_at, receipt_at, send_at}
use Rattle.spelling.proofs.Shapes.{set_up_at}
use Rattle.spelling.proofs.record.record_by.Goals as goal
use Rattle.spelling.proofs.record.record_by.Goals.{in_default-via-in-SetUp+then-words-lt4}
use Rattle.spelling.proofs.record.record_by.Goals.{in_default-via-in-SetUp+else-words-lt4+else-this-lt5}
use Rattle.spelling.proofs.record.record_by.Goals.{in_default-via-in-Note+then-this-lt2}
use Rattle.spelling.proofs.record.record_by.Goals.{in_default-via-in-Note+else-this-lt2+else-this-lt3}
use Rattle.spelling.proofs.record.record_by.Goals.{in_default-via-in-Send+then-this-lt4}
use Rattle.spelling.proofs.record.record_by.Goals.{in_default-via-in-Send+else-this-lt4+else-this-lt5-2}
use Rattle.spelling.proofs.record.record_by.Goals.{in_default-via-in-Receipt+then-this-lt3-2}
use Rattle.spelling.proofs.record.record_by.Goals.{in_default-via-in-Receipt+else-this-lt3-2+else-this-lt4-2}
use Rattle.spelling.proofs.record.record_by.Goals.{in_default-via-in-Loss+then-this-lt1}
use Rattle.spelling.proofs.record.record_by.Goals.{in_default-via-in-Loss+else-this-lt1+else-this-lt2-2}
use Rattle.spelling.proofs.record.record_by.Goals.{in_default-via-in-Put+then-this-lt4-3}
use Rattle.spelling.proofs.record.record_by.Goals.{in_default-via-in-Put+else-this-lt4-3+else-this-lt5-3}
use Rattle.spelling.proofs.record.record_by.Goals.{in_default-via-in-Read+then-this-lt2-3}
use Rattle.spelling.proofs.record.record_by.Goals.{in_default-via-in-Read+else-this-lt2-3+else-this-lt3-3}

as_read : (verb v : Verb) (ws : Words) → verb ≡ v → record_for v (texts ws) ≡ record_for verb (texts ws)
as_read verb v ws is = ap (λ v. record_for v (texts ws)) (sym is)

none : (verb v : Verb) (ws : Words) → verb ≡ v → length ws ≢ arity v → None ≡ record_for verb (texts ws)
none verb v ws is h = none_at v ws h ∙ as_read verb v ws is

pub returns-in-SetUp-len4 : goal.returns-in-SetUp-len4
returns-in-SetUp-len4 c =
    c.set_up_from.ensures ∙ set_up_at _ c.args.words.now (omega arith)
    ∙ as_read c.args.verb SetUp c.args.words.now c.in-SetUp-len4.is-0

pub returns-in-Note-len2 : goal.returns-in-Note-len2
returns-in-Note-len2 c =
    c.note_from.ensures ∙ note_at _ c.args.words.now (omega arith) ∙ as_read c.args.verb Note c.args.words.now c.in-Note-len2.is-0

pub returns-in-Send-len4 : goal.returns-in-Send-len4
returns-in-Send-len4 c =
    c.send_from.ensures ∙ send_at _ c.args.words.now (omega arith) ∙ as_read c.args.verb Send c.args.words.now c.in-Send-len4.is-0

pub returns-in-Receipt-len3 : goal.returns-in-Receipt-len3
returns-in-Receipt-len3 c =
    c.receipt_from.ensures ∙ receipt_at _ c.args.words.now (omega arith)
    ∙ as_read c.args.verb Receipt c.args.words.now c.in-Receipt-len3.is-0

pub returns-in-Loss-len1 : goal.returns-in-Loss-len1
returns-in-Loss-len1 c =
    c.loss_from.ensures ∙ loss_at _ c.args.words.now (omega arith) ∙ as_read c.args.verb Loss c.args.words.now c.in-Loss-len1.is-0

pub returns-in-Put-len4 : goal.returns-in-Put-len4
returns-in-Put-len4 c =
    c.put_from.ensures ∙ put_at _ c.args.words.now (omega arith) ∙ as_read c.args.verb Put c.args.words.now c.in-Put-len4.is-0

pub returns-in-Read-len2 : goal.returns-in-Read-len2
returns-in-Read-len2 c =
    c.read_from.ensures ∙ read_at _ c.args.words.now (omega arith) ∙ as_read c.args.verb Read c.args.words.now c.in-Read-len2.is-0

pub returns-in_default : goal.returns-in_default
returns-in_default c =
    elim c.in_default.branch [
      | in_default-via-in-SetUp+then-words-lt4 w ↦
          none c.args.verb SetUp c.args.words.now (cc) (λ h. grind (arith, tests))
      | in_default-via-in-SetUp+else-words-lt4+else-this-lt5 w ↦
          none c.args.verb SetUp c.args.words.now (cc) (λ h. grind (arith, tests))
      | in_default-via-in-Note+then-this-lt2 w ↦
          none c.args.verb Note c.args.words.now (cc) (λ h. grind (arith, tests))
      | in_default-via-in-Note+else-this-lt2+else-this-lt3 w ↦
          none c.args.verb Note c.args.words.now (cc) (λ h. grind (arith, tests))
      | in_default-via-in-Send+then-this-lt4 w ↦
          none c.args.verb Send c.args.words.now (cc) (λ h. grind (arith, tests))
      | in_default-via-in-Send+else-this-lt4+else-this-lt5-2 w ↦
          none c.args.verb Send c.args.words.now (cc) (λ h. grind (arith, tests))
      | in_default-via-in-Receipt+then-this-lt3-2 w ↦
          none c.args.verb Receipt c.args.words.now (cc) (λ h. grind (arith, tests))
      | in_default-via-in-Receipt+else-this-lt3-2+else-this-lt4-2 w ↦
          none c.args.verb Receipt c.args.words.now (cc) (λ h. grind (arith, tests))
      | in_default-via-in-Loss+then-this-lt1 w ↦
          none c.args.verb Loss c.args.words.now (cc) (λ h. grind (arith, tests))
      | in_default-via-in-Loss+else-this-lt1+else-this-lt2-2 w ↦
          none c.args.verb Loss c.args.words.now (cc) (λ h. grind (arith, tests))
      | in_default-via-in-Put+then-this-lt4-3 w ↦
          none c.args.verb Put c.args.words.now (cc) (λ h. grind (arith, tests))
      | in_default-via-in-Put+else-this-lt4-3+else-this-lt5-3 w ↦
          none c.args.verb Put c.args.words.now (cc) (λ h. grind (arith, tests))
      | in_default-via-in-Read+then-this-lt2-3 w ↦
          none c.args.verb Read c.args.words.now (cc) (λ h. grind (arith, tests))
      | in_default-via-in-Read+else-this-lt2-3+else-this-lt3-3 w ↦
          none c.args.verb Read c.args.words.now (cc) (λ h. grind (arith, tests))
    ]
