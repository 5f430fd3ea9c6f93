use Rattle.rd_joined.proofs.RoomLemmas.{read_few}
use Rattle.rd_joined.proofs.laws.reads_are_few.Goals as goal

pub returns : goal.returns
returns c lines starves w premises reached = read_few lines starves premises w reached
