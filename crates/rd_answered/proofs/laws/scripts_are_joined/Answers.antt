use Rattle.rd_answered.proofs.SessionLemmas.{script_joined, script_joins}
use Rattle.rd_answered.proofs.laws.scripts_are_joined.Goals as goal

pub returns-clause-answered : goal.returns-clause-answered
returns-clause-answered c m text script starves w is reached = (script_joined m text script is starves w reached).told

pub returns-clause-joined : goal.returns-clause-joined
returns-clause-joined c m text script starves w is reached = script_joined m text script is starves w reached

pub returns-clause-joins : goal.returns-clause-joins
returns-clause-joins c m text script starves w is reached = script_joins m text script is starves w reached
