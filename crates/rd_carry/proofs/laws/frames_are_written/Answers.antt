use Rattle.rd_carry.proofs.OutgoingLemmas.{all_written, prefix_written}
use Rattle.rd_carry.proofs.laws.frames_are_written.Goals as goal

pub returns-clause-prefix : goal.returns-clause-prefix
returns-clause-prefix c = prefix_written

pub returns-clause-all : goal.returns-clause-all
returns-clause-all c = all_written
