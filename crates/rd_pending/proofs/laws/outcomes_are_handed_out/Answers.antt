use Rattle.rd_pending.proofs.Handed.{handed_out}
use Rattle.rd_pending.proofs.laws.outcomes_are_handed_out.Goals as goal

pub returns : goal.returns
returns c = record { handed = handed_out }
