use Rattle.rd_exchanges.proofs.ReachedLemmas.{calls_reached, lives_reached, removals_reached}
use Rattle.rd_exchanges.proofs.laws.tables_stay_reached.Goals as goal

pub returns-clause-goes : goal.returns-clause-goes
returns-clause-goes c = calls_reached

pub returns-clause-lives : goal.returns-clause-lives
returns-clause-lives c = lives_reached

pub returns-clause-removes : goal.returns-clause-removes
returns-clause-removes c = removals_reached
