use Rattle.rd_rest.proofs.EndLemmas.{left_is_said}
use Rattle.rd_rest.proofs.laws.left_channel_is_said.Goals as goal

pub returns : goal.returns
returns c lines starves w premises ends does = left_is_said lines starves premises w ends does
