use Rattle.rd_front.proofs.WorkedLemmas.{worked}
use Rattle.rd_front.proofs.laws.a_front_is_there.Goals as goal

pub returns : goal.returns
returns c = worked
