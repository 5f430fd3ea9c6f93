use Rattle.rd_host_threads.proofs.ThreadLemmas.{threads_so}
use Rattle.rd_host_threads.proofs.laws.threads_make_the_calls.Goals as goal

pub returns : goal.returns
returns g c turn lines other issuers first last old new found plays = threads_so turn lines other issuers first last old new found plays
