use Rattle.std.proofs.Common.{arith}
use Rattle.std.proofs.lemmas.Grind.{common_steps}
use Rattle.rd_script.proofs.keys.seen.Goals as goal

pub collect-requires-clause-can : goal.collect-requires-clause-can
collect-requires-clause-can c = grind (arith, common_steps)

pub collect-requires-clause-finite : goal.collect-requires-clause-finite
collect-requires-clause-finite c = grind (arith, common_steps)

pub collect-requires-clause-can_collect : goal.collect-requires-clause-can_collect
collect-requires-clause-can_collect c = grind (arith, common_steps)

pub returns-in-Exact : goal.returns-in-Exact
returns-in-Exact c = grind (arith, common_steps)

pub returns-in-Folded : goal.returns-in-Folded
returns-in-Folded c = grind (arith, common_steps)
