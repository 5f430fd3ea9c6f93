use Rattle.rd_rest.proofs.EndLemmas.{at_end}
use Rattle.rd_rest.proofs.laws.left_channels_are_still.Goals as goal

pub returns : goal.returns
returns c lines starves said w premises ends still = at_end lines starves premises said w ends still
