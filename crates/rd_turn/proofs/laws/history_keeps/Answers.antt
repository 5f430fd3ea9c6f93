use Rattle.std.proofs.Common.{◌≡◌, true}
use Rattle.rd_turn.proofs.HistoryLemmas.{Leads-keeps, Leads-keeps_fact}
use Rattle.rd_turn.proofs.laws.history_keeps.Goals as goal

pub returns-clause-value : goal.returns-clause-value
returns-clause-value g k f one a entries b = Leads-keeps g.O.Object.steps f one a entries b

pub returns-clause-truth : goal.returns-clause-truth
returns-clause-truth g k test one a entries b = Leads-keeps_fact g.O.Object.steps (λ o. test o ≡ true) one a entries b
