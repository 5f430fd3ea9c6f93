use Rattle.rd_deeds.proofs.Joining.{all_join}
use Rattle.rd_deeds.proofs.laws.joined_sides_agree.Goals as goal

pub returns : goal.returns
returns c = all_join
