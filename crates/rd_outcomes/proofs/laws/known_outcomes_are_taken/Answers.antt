use Rattle.rd_outcomes.proofs.AwaitedLemmas.{awaited_unknown}
use Rattle.rd_outcomes.proofs.laws.known_outcomes_are_taken.Goals as goal

pub returns : goal.returns
returns c lines starves w reached = awaited_unknown lines starves w reached
