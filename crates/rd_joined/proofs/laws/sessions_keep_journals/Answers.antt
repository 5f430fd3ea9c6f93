use Rattle.std.proofs.Common.{◌∙◌}
use Rattle.rd_joined.proofs.BookLemmas as here
use Rattle.rd_joined.proofs.ScriptLemmas.{script_fit, script_premises}
use Rattle.rd_joined.proofs.laws.sessions_keep_journals.Goals as goal

pub returns-clause-each : goal.returns-clause-each
returns-clause-each c m text script starves w is reached books same = same ∙ here.stored script.lines starves (script_premises m text script is) (script_fit m text script is) w reached

pub returns-clause-named : goal.returns-clause-named
returns-clause-named c m text script starves w is reached device = here.named script.lines starves (script_premises m text script is) (script_fit m text script is) w reached device

pub returns-clause-still_clock : goal.returns-clause-still_clock
returns-clause-still_clock c m text script starves w is reached device = here.still_clock script.lines starves (script_premises m text script is) (script_fit m text script is) w reached device

pub returns-clause-marked : goal.returns-clause-marked
returns-clause-marked c m text script starves w is reached = here.marked script.lines starves (script_premises m text script is) (script_fit m text script is) w reached
