use Rattle.rd_acted.proofs.ActLemmas.{acts_by_deeds, control_by_acts}
use Rattle.rd_acted.proofs.DueLemmas.{notices_are_due, told_is_due}
use Rattle.rd_acted.proofs.laws.control_lines_are_by_acts.Goals as goal

pub returns-clause-acts : goal.returns-clause-acts
returns-clause-acts c ids lines left = control_by_acts ids lines left

pub returns-clause-deeds : goal.returns-clause-deeds
returns-clause-deeds c ids deeds = acts_by_deeds ids deeds

pub returns-clause-told : goal.returns-clause-told
returns-clause-told c ids channel deeds = told_is_due ids channel deeds

pub returns-clause-notices : goal.returns-clause-notices
returns-clause-notices c ids channel deeds = notices_are_due ids channel deeds
