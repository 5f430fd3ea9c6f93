use Rattle.rd_rest.proofs.RunLemmas.{script_ends}
use Rattle.rd_rest.proofs.laws.sessions_end_at_rest.Goals as goal

pub returns : goal.returns
returns c text script w is run = script_ends text script w is run
