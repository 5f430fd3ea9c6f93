use Rattle.rd_carry.proofs.IncomingLemmas.{stream_read}
use Rattle.rd_carry.proofs.laws.all_handled.Goals as goal

pub returns : goal.returns
returns c = stream_read
