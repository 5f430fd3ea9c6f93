use Rattle.rd_pool.proofs.DeskLemmas.{still_other, zero_still}
use Rattle.rd_pool.proofs.MomentLemmas.{idle_keeps}
use Rattle.rd_pool.proofs.laws.calls_keep_passes.Goals as goal

pub returns : goal.returns
returns g c = record { other = still_other; first = zero_still; moments = idle_keeps }
