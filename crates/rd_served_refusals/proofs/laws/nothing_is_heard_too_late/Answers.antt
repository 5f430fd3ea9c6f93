use Rattle.rd_served_refusals.proofs.HinderLemmas.{hear_before}
use Rattle.rd_served_refusals.proofs.laws.nothing_is_heard_too_late.Goals as goal

pub returns : goal.returns
returns c old new entries parts goes unhindered = hear_before entries parts old new goes unhindered
