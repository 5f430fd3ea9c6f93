use Rattle.rd_carry.proofs.IncomingLemmas.{stream_to_the_end}
use Rattle.rd_carry.proofs.laws.read_to_the_end.Goals as goal

pub returns : goal.returns
returns c = stream_to_the_end
