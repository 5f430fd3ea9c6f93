use Rattle.rd_loads.proofs.LoadLemmas.{loads_meet_all}
use Rattle.rd_loads.proofs.laws.loads_meet_all_premises.Goals as goal

pub returns : goal.returns
returns c count few = loads_meet_all count few
