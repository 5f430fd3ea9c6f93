use Rattle.rd_ranges.proofs.SessionLemmas.{given_full, outcome_room}
use Rattle.rd_ranges.proofs.laws.session_replies_complete.Goals as goal

pub returns-clause-given : goal.returns-clause-given
returns-clause-given c = given_full

pub returns-clause-outcomes : goal.returns-clause-outcomes
returns-clause-outcomes c = outcome_room
