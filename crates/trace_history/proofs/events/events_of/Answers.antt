use Rattle.std.proofs.Common.{◌≡◌, ◌++◌, append-nil, map, sym, arith}
use Rattle.std.specs.Option.{option_to_list}
use Rattle.std.proofs.lemmas.Bool.Decides.{nat_tests}
use Rattle.replay.specs.Calls.{answer_numbers}
use Rattle.trace_history.proofs.Listed.{listed}
use Rattle.trace_history.proofs.events.events_of.Goals as goal
use Rattle.trace_history.proofs.events.events_of.Goals.{in-Some+in_ok-push, in_default}

pub loop-place-preserved : goal.loop-place-preserved
loop-place-preserved g c =
    let next = c.next_of-next.ensures in
    let is : c.match-next.events.items ≡ c.loop-place.events.items ++ option_to_list c.next_of-next.result.event =
    elim c.match-next.branch [
      | in-Some+in_ok-push w ↦ grind (arith, nat_tests, w.events-is, w.in_ok-push.ensures, w.in-Some.is, w.in-Some.event-is)
      | in_default w ↦ rw (w.events-is, w.in_default.is) (sym (append-nil c.loop-place.events.items))
    ] in
    listed g.K.TraceKey.form c.args.records.now (map answer_numbers c.args.answers.now) c.loop-place.place _ c.loop-place-test.true
    _ _ c.loop-place.invariant c.next_of-next.result.event _ _ next.event next.left is
