use Rattle.rd_ranges.proofs.SpelledLemmas.{completes, fault_full, is_message}
use Rattle.rd_ranges.proofs.laws.completions_complete.Goals as goal
use Rattle.rd_ranges.specs.Ranges.{completion_with}
use Rattle.rd_deeds.proofs.TestedAnswers.{same_reply}

pub returns-clause-message : goal.returns-clause-message
returns-clause-message c r reply full = is_message r reply (full.replies).1

pub returns-clause-completes : goal.returns-clause-completes
returns-clause-completes c = completes

pub returns-clause-alone : goal.returns-clause-alone
returns-clause-alone c r reply full device id other other_completes = same_reply r reply other (completion_with r reply) (completes r reply full device id) other_completes

pub returns-clause-faults : goal.returns-clause-faults
returns-clause-faults c = fault_full
