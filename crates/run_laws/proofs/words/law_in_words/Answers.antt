use Rattle.run_laws.proofs.InWords.{answers_keep_law, history_keeps_law, orders_are_alike, runs_keep_beside}
use Rattle.run_laws.proofs.words.law_in_words.Goals as goal

pub returns-clause-answers : goal.returns-clause-answers
returns-clause-answers g c = answers_keep_law _ _ _

pub returns-clause-orders : goal.returns-clause-orders
returns-clause-orders g c = orders_are_alike _ _ _

pub returns-clause-beside : goal.returns-clause-beside
returns-clause-beside g c = runs_keep_beside _ _ _

pub returns-clause-law : goal.returns-clause-law
returns-clause-law g c = history_keeps_law _ _ _
