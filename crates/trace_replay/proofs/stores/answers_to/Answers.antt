use Rattle.std.proofs.Common.{refl}
use Rattle.trace_run.specs.SetUp.{set_up_numbers}
use Rattle.trace_replay.proofs.Machine.{answers_traced}
use Rattle.trace_replay.proofs.stores.answers_to.Goals as goal

pub returns : goal.returns
returns g c =
    answers_traced _ _ (λ bank. refl) (set_up_numbers c.args.setup) _ _ c.new-bank.ensures c.requires _ _ _
    c.new-answers.ensures.items c.in_ok-replay.ensures.replayed
