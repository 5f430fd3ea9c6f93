use Rattle.rd_outcomes.proofs.NumberedLemmas.{are_applications, outcomes_numbered}
use Rattle.rd_outcomes.proofs.laws.outcomes_are_numbered.Goals as goal

pub returns : goal.returns
returns c lines starves w numbered reached = outcomes_numbered w (are_applications lines starves numbered w reached)
