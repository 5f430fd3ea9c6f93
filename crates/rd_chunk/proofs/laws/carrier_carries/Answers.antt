use Rattle.rd_chunk.proofs.CarrierLemmas.{stream_carried}
use Rattle.rd_chunk.proofs.laws.carrier_carries.Goals as goal

pub returns : goal.returns
returns c = stream_carried
