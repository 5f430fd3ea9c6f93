use Rattle.rd_said.proofs.ToldLemmas.{script_left}
use Rattle.rd_said.proofs.laws.scripts_leave_channels_so.Goals as goal

pub returns : goal.returns
returns c m text script starves w is reached = script_left m text script is starves w reached
