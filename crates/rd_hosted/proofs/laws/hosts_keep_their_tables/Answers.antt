use Rattle.rd_hosted.proofs.KeptLemmas.{host_keeps}
use Rattle.rd_hosted.proofs.laws.hosts_keep_their_tables.Goals as goal

pub returns : goal.returns
returns c = host_keeps
