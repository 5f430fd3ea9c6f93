use Rattle.rd_pending.proofs.Histories.{outcomes, sound}
use Rattle.rd_pending.proofs.laws.histories_tell_outcomes.Goals as goal

pub returns-clause-slots : goal.returns-clause-slots
returns-clause-slots c h holds = (sound h holds).slots

pub returns-clause-outcomes : goal.returns-clause-outcomes
returns-clause-outcomes c = outcomes

pub returns-clause-count : goal.returns-clause-count
returns-clause-count c h holds = (sound h holds).count
