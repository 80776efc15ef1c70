use Rattle.page_law.proofs.Stays.{final_pages_stay}
use Rattle.page_law.proofs.later.final_pages_stay.Goals as goal

pub returns-clause-stays : goal.returns-clause-stays
returns-clause-stays g c = final_pages_stay _ _ g.met.K.Ord.total g.met.K.KeyKind.law
