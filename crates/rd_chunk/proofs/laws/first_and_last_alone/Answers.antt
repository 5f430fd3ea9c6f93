use Rattle.rd_chunk.proofs.FlagLemmas.{first_alone, last_alone}
use Rattle.rd_chunk.proofs.laws.first_and_last_alone.Goals as goal

pub returns-clause-first : goal.returns-clause-first
returns-clause-first c = first_alone

pub returns-clause-last : goal.returns-clause-last
returns-clause-last c = last_alone
