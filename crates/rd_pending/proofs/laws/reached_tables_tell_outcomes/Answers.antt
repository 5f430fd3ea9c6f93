use Rattle.rd_pending.proofs.Reaching.{reached_count, reached_outcomes, reached_slots}
use Rattle.rd_pending.proofs.laws.reached_tables_tell_outcomes.Goals as goal

pub returns-clause-slots : goal.returns-clause-slots
returns-clause-slots c = reached_slots

pub returns-clause-outcomes : goal.returns-clause-outcomes
returns-clause-outcomes c = reached_outcomes

pub returns-clause-count : goal.returns-clause-count
returns-clause-count c = reached_count
