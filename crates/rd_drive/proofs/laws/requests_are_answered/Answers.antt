use Rattle.rd_drive.proofs.OperationLemmas.{outcome_answered}
use Rattle.rd_drive.proofs.laws.requests_are_answered.Goals as goal

pub returns : goal.returns
returns c = λ s key file operation moment fitting. outcome_answered s key fitting file operation moment
