use Rattle.page_program.proofs.Longest.{read_up_to}
use Rattle.page_program.proofs.printing.read_trace.Goals as goal

pub returns : goal.returns
returns g c =
    read_up_to g.R.Read.remaining c.args.input c.take.result _ _ c.take.ensures.inner c.take.ensures.limit
    c.new-trace.ensures.items c.in_ok-read_to_end.ensures.bytes
