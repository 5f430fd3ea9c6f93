use Rattle.rd_world.proofs.GrowingLemmas.{acted_keys, acted_longer}
use Rattle.rd_world.proofs.laws.journals_grow.Goals as goal

pub returns-clause-longer : goal.returns-clause-longer
returns-clause-longer c = acted_longer

pub returns-clause-ids : goal.returns-clause-ids
returns-clause-ids c = acted_keys
