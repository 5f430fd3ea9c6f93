use Rattle.rd_host_lines.proofs.AlongLemmas.{goes_along}
use Rattle.rd_host_lines.proofs.laws.scripts_go_along_histories.Goals as goal

pub returns : goal.returns
returns c = λ lines other told old new hosts. goes_along lines other old new hosts.turn hosts.issuers hosts.last hosts.table hosts.leads hosts.plays
