use Rattle.std.proofs.Common.{arith}
use Rattle.std.proofs.lemmas.Grind.{common_steps}
use Rattle.rd_script.proofs.texts.next_unit.Goals as goal

pub returns-in-len1-up-clause-units : goal.returns-in-len1-up-clause-units
returns-in-len1-up-clause-units c = grind (arith, common_steps)

pub returns-in-len1-up-clause-shorter : goal.returns-in-len1-up-clause-shorter
returns-in-len1-up-clause-shorter c = grind (arith, common_steps)
