use mir.Syntax.{w32}
use mir.Val.{of_z, to_z}
use Rattle.std.proofs.Common.{◌≡◌, ◌<◌, IsOk, ap, arith, length, nat_lt, subst, sym, true}
use Rattle.std.proofs.lemmas.Bool.Decides.{nat_tests}
use Rattle.stamps.specs.Stamp.{code_of, stamp_of}
use Rattle.recorder.specs.Answers.{clock_answer}
use Rattle.stamper.specs.Stamps.{stamp_at}
use Rattle.recorder.proofs.Behind.{behind_put, not_refused, when_read}
use Rattle.recorder.proofs.open.Open.enter_put.Goals as goal

-- the store refuses nothing
refused : (g : _) (c : goal.After-from_residual g) → ⊥
refused g c =
    let node = subst (λ s. c.args.sample.node < length s.last) (sym c.self.view_is) c.requires.node in
    let later = subst (λ s. code_of (stamp_at s.last c.args.sample.node) < code_of (stamp_of c.args.stamped.stamp))
    (sym c.self.view_is) c.requires.later in
    let room = subst (λ s. length s.contents.versions < s.contents.capacity) (sym c.self.view_is) c.requires.room in
    not_refused c.self.inside.exchange.last (g.S.VersionStore.contents c.self.inside.store) c.self.invariant g.K.Ord.cmp
    (record { key = c.args.key; stamp = c.code.result; node = c.args.sample.node; value = to_z w32 (of_z w32 c.args.value) })
    (stamp_of c.args.stamped.stamp) c.code.ensures.code node later room _ c.add.ensures.answer _ c.in_err-add.was

pub returns-in_err-add-clause-answer : goal.returns-in_err-add-clause-answer
returns-in_err-add-clause-answer g c = absurd (refused g c)

pub returns-in_err-add-clause-change : goal.returns-in_err-add-clause-change
returns-in_err-add-clause-change g c = absurd (refused g c)

pub returns-in_err-add-clause-reading : goal.returns-in_err-add-clause-reading
returns-in_err-add-clause-reading g c = absurd (refused g c)

pub invariant_of-self-2 : goal.invariant_of-self-2
invariant_of-self-2 g c =
    let node = subst (λ s. c.args.sample.node < length s.last) (sym c.self.view_is) c.requires.node in
    let later = subst (λ s. code_of (stamp_at s.last c.args.sample.node) < code_of (stamp_of c.args.stamped.stamp))
    (sym c.self.view_is) c.requires.later in
    let put = behind_put c.self.inside.exchange.last (g.S.VersionStore.contents c.self.inside.store) c.self.invariant g.K.Ord.cmp
    (record { key = c.args.key; stamp = c.code.result; node = c.args.sample.node; value = to_z w32 (of_z w32 c.args.value) })
    (stamp_of c.args.stamped.stamp) c.code.ensures.code node later in
    let clock = subst (λ s. IsOk (clock_answer g.B.ClockBank.meaning s c.args.sample)) (sym c.self.view_is) c.requires.clock in
    let here : nat_lt c.args.sample.node (length c.self.inside.exchange.last) ≡ true = grind (arith, nat_tests, node) in
    let entered = when_read _ c.enter.result _ _ here clock c.enter.ensures.answer c.enter.ensures.change in
    rw (ap (λ s. s.last) entered, c.add.ensures.change) put
