use Rattle.rd_host.proofs.KeptLemmas.{host_kept}
use Rattle.rd_host.proofs.laws.hosts_keep.Goals as goal

pub returns : goal.returns
returns c = host_kept
