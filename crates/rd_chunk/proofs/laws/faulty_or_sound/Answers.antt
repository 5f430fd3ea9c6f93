use Rattle.rd_chunk.proofs.StreamLemmas.{never_both}
use Rattle.rd_chunk.proofs.ChunkFaultLemmas as exists
use Rattle.rd_chunk.proofs.laws.faulty_or_sound.Goals as goal

pub returns-clause-either : goal.returns-clause-either
returns-clause-either c = exists.either

pub returns-clause-never_both : goal.returns-clause-never_both
returns-clause-never_both c = λ bytes messages. never_both messages bytes
