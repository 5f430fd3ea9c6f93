use Rattle.rd_runs.proofs.Reaching.{run_reached, run_rests}
use Rattle.rd_runs.proofs.Resting.{client_heard_all, host_heard_all, quiet}
use Rattle.rd_runs.proofs.laws.runs_come_to_rest.Goals as goal

pub returns-clause-sent : goal.returns-clause-sent
returns-clause-sent c most starves lines w run = let q = quiet w (run_rests starves most lines w run) in (q.host_sends, q.client_sends)

pub returns-clause-heard : goal.returns-clause-heard
returns-clause-heard c most starves lines w premises run is = host_heard_all lines starves premises w (run_reached lines starves most w run) (run_rests starves most lines w run) is

pub returns-clause-read : goal.returns-clause-read
returns-clause-read c most starves lines w premises run is kept =
    client_heard_all lines starves premises w (run_reached lines starves most w run) (run_rests starves most lines w run) is kept
