use Rattle.rd_hosted.proofs.KeptLemmas.{outcome_came}
use Rattle.rd_hosted.proofs.laws.outcomes_are_those_of_the_deeds.Goals as goal

pub returns : goal.returns
returns g c seen entries number taken keeps has = outcome_came seen entries number taken keeps has
