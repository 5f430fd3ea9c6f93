use Rattle.rd_said.proofs.ToldLemmas.{ended_left}
use Rattle.rd_said.proofs.laws.ended_channels_are_left_so.Goals as goal

pub returns : goal.returns
returns c lines starves w premises declare writable few reached = ended_left lines starves premises few declare writable w reached
