use Rattle.rd_served_causes.proofs.LeftLemmas.{all_left}
use Rattle.rd_served_causes.proofs.laws.fronts_leave_answers.Goals as goal

pub returns : goal.returns
returns c calm announced devices old new entries parts begins have opened goes gives quiet bytes unhindered n = all_left calm announced devices old new entries parts begins have opened goes gives quiet bytes unhindered n
