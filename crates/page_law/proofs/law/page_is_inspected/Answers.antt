use Rattle.page_law.proofs.Inspected.{pages_are_inspected}
use Rattle.page_law.proofs.law.page_is_inspected.Goals as goal

pub returns-clause-inspected : goal.returns-clause-inspected
returns-clause-inspected g c = pages_are_inspected _ _ g.met.K.Ord.total g.met.K.KeyKind.law
