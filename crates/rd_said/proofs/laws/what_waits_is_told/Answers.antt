use Rattle.rd_said.proofs.ToldLemmas.{open_left}
use Rattle.rd_said.proofs.laws.what_waits_is_told.Goals as goal

pub returns : goal.returns
returns c lines starves w premises declare writable few reached = open_left lines starves premises few declare writable w reached
