use Rattle.rd_acted.proofs.ReadLemmas.{behind_read_as}
use Rattle.rd_acted.proofs.laws.caches_keep_what_is_read.Goals as goal
use Rattle.rd_rest.proofs.RunsParts.{reached_behind}

pub returns : goal.returns
returns c lines starves w premises reached well = (behind_read_as lines starves premises w (reached_behind lines starves w reached) well).2
