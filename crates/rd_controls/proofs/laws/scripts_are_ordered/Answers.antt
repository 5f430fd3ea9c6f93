use Rattle.rd_controls.proofs.ScriptLemmas.{scripts_ordered}
use Rattle.rd_controls.proofs.laws.scripts_are_ordered.Goals as goal

pub returns : goal.returns
returns c = scripts_ordered
