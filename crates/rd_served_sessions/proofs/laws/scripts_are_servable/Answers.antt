use Rattle.rd_served_causes.proofs.RunsBoundLemmas.{scripts_are_bounded}
use Rattle.rd_declared.proofs.DeclaredLemmas.{scripts_are_declared}
use Rattle.rd_served_sessions.proofs.ScriptLemmas.{scripts_are_placed}
use Rattle.rd_served_sessions.proofs.laws.scripts_are_servable.Goals as goal

pub returns : goal.returns
returns c m text script is = record { declared = scripts_are_declared m text script is; bounded = scripts_are_bounded m text script is; placed = scripts_are_placed m text script is }
