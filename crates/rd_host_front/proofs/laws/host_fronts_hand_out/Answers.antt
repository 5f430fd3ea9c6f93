use Rattle.rd_host_front.proofs.HandedLemmas.{next_hands}
use Rattle.rd_host_front.proofs.laws.host_fronts_hand_out.Goals as goal

pub returns : goal.returns
returns g c = λ old new channel room reply on step. next_hands old channel room reply new on step
