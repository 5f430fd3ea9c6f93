use Rattle.rd_controls.proofs.Leading.{rests_where_settled}
use Rattle.rd_controls.proofs.laws.settle_lines_rest.Goals as goal

pub returns : goal.returns
returns c = rests_where_settled
