use Rattle.rd_chunk.proofs.StreamLemmas as streams
use Rattle.rd_chunk.proofs.laws.one_reading.Goals as goal

pub returns-clause-fault : goal.returns-clause-fault
returns-clause-fault c = streams.one_fault

pub returns-clause-messages : goal.returns-clause-messages
returns-clause-messages c = streams.one_reading
