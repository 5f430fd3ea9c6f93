use Rattle.rd_chunk.proofs.CarrierLemmas.{data_slice}
use Rattle.rd_chunk.proofs.splitter.carrier_data.Goals as goal

pub returns-clause-value : goal.returns-clause-value
returns-clause-value c = data_slice c.args.message.now c.args.k c.min-to.result c.min-to.ensures c.requires.place
