use Rattle.rd_rest.proofs.LeftLemmas.{left_waits}
use Rattle.rd_rest.proofs.laws.what_is_left_waits.Goals as goal

pub returns : goal.returns
returns c lines starves w premises reached none is = left_waits lines starves premises w reached none is
