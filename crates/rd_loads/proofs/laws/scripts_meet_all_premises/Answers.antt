use Rattle.rd_loads.proofs.ScriptLemmas.{scripts_meet_all}
use Rattle.rd_loads.proofs.laws.scripts_meet_all_premises.Goals as goal

pub returns : goal.returns
returns c = scripts_meet_all
