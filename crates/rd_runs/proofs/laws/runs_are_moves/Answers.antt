use Rattle.rd_runs.proofs.Reaching.{run_reached, run_rests}
use Rattle.rd_runs.proofs.laws.runs_are_moves.Goals as goal

pub returns-clause-steps : goal.returns-clause-steps
returns-clause-steps c most starves lines w is = run_reached lines starves most w is

pub returns-clause-session : goal.returns-clause-session
returns-clause-session c lines w (most, is) = run_reached lines _ most w is

pub returns-clause-rest : goal.returns-clause-rest
returns-clause-rest c most starves lines w is = run_rests starves most lines w is
