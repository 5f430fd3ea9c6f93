use Rattle.rd_chunk.proofs.ChunkFaultLemmas.{stands_clean}
use Rattle.rd_chunk.proofs.laws.stands_without_fault.Goals as goal

pub returns : goal.returns
returns c = stands_clean
