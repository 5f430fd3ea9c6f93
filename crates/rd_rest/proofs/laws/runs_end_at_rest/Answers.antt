use Rattle.rd_rest.proofs.LastLemmas.{runs_end}
use Rattle.rd_rest.proofs.laws.runs_end_at_rest.Goals as goal

pub returns : goal.returns
returns c lines starves most w ordered premises is = runs_end lines starves most w ordered premises is
