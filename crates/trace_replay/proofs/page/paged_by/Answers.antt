use Rattle.std.proofs.Common.{◌<◌, IsSome, length, arith}
use Rattle.trace_run.specs.SetUp.{set_up_numbers}
use Rattle.trace_replay.proofs.Paging.{is_paged}
use Rattle.trace_replay.proofs.page.paged_by.Goals as goal

pub page_of-page-requires : goal.page_of-page-requires
page_of-page-requires g c =
    let found : 0 < length c.in_ok-answers.answers.items → IsSome c.pop.result = λ there. c.pop.ensures.variant.1 (omega (arith, there)) in
    (is_paged g.K.Ord.cmp g.met.K.Ord.total (set_up_numbers c.args.setup) c.args.calls.items c.args.closes c.args.stamp _ _ _ _
    c.in_ok-answers.ensures c.in_ok-questions.ensures c.pop.ensures.items found).0

pub returns : goal.returns
returns g c =
    let found : 0 < length c.in_ok-answers.answers.items → IsSome c.pop.result = λ there. c.pop.ensures.variant.1 (omega (arith, there)) in
    rw c.page_of-page.ensures
    (is_paged g.K.Ord.cmp g.met.K.Ord.total (set_up_numbers c.args.setup) c.args.calls.items c.args.closes c.args.stamp _ _ _ _
    c.in_ok-answers.ensures c.in_ok-questions.ensures c.pop.ensures.items found).1
