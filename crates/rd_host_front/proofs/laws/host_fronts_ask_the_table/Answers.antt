use Rattle.rd_host_front.proofs.AskedLemmas.{hear_asks}
use Rattle.rd_host_front.proofs.laws.host_fronts_ask_the_table.Goals as goal

pub returns : goal.returns
returns g c = λ old new channel message reply on few step. hear_asks old channel message reply new on few step
