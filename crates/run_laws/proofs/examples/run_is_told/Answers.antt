use Rattle.run_laws.proofs.Written.{run_is_told}
use Rattle.run_laws.proofs.examples.run_is_told.Goals as goal

pub returns-clause-told : goal.returns-clause-told
returns-clause-told c = run_is_told
