use Rattle.rd_rest.proofs.EndLemmas.{left_is_open}
use Rattle.rd_rest.proofs.laws.left_channel_is_open.Goals as goal

pub returns : goal.returns
returns c lines starves said w premises ends = left_is_open lines starves premises said w ends
