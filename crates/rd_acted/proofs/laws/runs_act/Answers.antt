use Rattle.rd_acted.proofs.RunLemmas.{run_acted}
use Rattle.rd_acted.proofs.laws.runs_act.Goals as goal

pub returns : goal.returns
returns c lines starves most w premises few ordered run well told = run_acted lines starves premises most w few ordered run well told
