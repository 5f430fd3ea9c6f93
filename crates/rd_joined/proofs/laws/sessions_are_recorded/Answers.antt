use Rattle.std.proofs.lemmas.List.Elements.{All-from_recursion}
use Rattle.rd_journals.proofs.RunsCarrying.{IsFit}
use Rattle.rd_journals.proofs.RunsTogether.{known}
use Rattle.rd_joined.proofs.ScriptLemmas.{script_premises}
use Rattle.rd_joined.proofs.laws.sessions_are_recorded.Goals as goal

pub returns-clause-fit : goal.returns-clause-fit
returns-clause-fit c m text script starves w is reached = All-from_recursion IsFit w.deeds (known script.lines starves (script_premises m text script is) w reached).fits.deeds

pub returns-clause-on_open : goal.returns-clause-on_open
returns-clause-on_open c m text script starves w is reached = (known script.lines starves (script_premises m text script is) w reached).carries.on_open
