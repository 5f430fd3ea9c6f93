use Rattle.rd_pool.proofs.DeskLemmas.{all_home}
use Rattle.rd_pool.proofs.laws.passes_come_home.Goals as goal

pub returns : goal.returns
returns g c = all_home
