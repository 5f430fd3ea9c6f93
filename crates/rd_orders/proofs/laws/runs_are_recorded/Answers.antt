use Rattle.rd_orders.proofs.RecordedLemmas.{reached_recorded, script_recorded}
use Rattle.rd_orders.proofs.laws.runs_are_recorded.Goals as goal

pub returns-clause-points : goal.returns-clause-points
returns-clause-points c lines starves w premises writable reached = reached_recorded lines starves w premises writable reached

pub returns-clause-sessions : goal.returns-clause-sessions
returns-clause-sessions c m text script w is run = script_recorded m text script w is run
