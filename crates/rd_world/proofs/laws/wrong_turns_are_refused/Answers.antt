use Rattle.rd_world.proofs.Refused.{issued_early, told_early, unopened}
use Rattle.rd_world.proofs.laws.wrong_turns_are_refused.Goals as goal

pub returns-clause-told_early : goal.returns-clause-told_early
returns-clause-told_early c = told_early

pub returns-clause-issued_early : goal.returns-clause-issued_early
returns-clause-issued_early c = issued_early

pub returns-clause-issued_unopened : goal.returns-clause-issued_unopened
returns-clause-issued_unopened c due = unopened due.opened
