use Rattle.rd_core.proofs.OpeningLemmas.{hello_met}
use Rattle.rd_core.proofs.opening.read_opening.Goals as goal

pub returns-in-Ok-clause-spelled : goal.returns-in-Ok-clause-spelled
returns-in-Ok-clause-spelled c = hello_met c.args.message.now c.in-Ok.hello _ c.in-Ok.ensures.spelled
