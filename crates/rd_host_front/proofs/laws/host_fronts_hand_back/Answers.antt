use Rattle.rd_host_front.proofs.PassLemmas.{begin_back, drop_back}
use Rattle.rd_host_front.proofs.laws.host_fronts_hand_back.Goals as goal

pub returns-clause-begins : goal.returns-clause-begins
returns-clause-begins g c = λ old new channel first reply zero step. begin_back old channel first reply new zero step

pub returns-clause-drops : goal.returns-clause-drops
returns-clause-drops g c = λ old new first anew reply zero step. drop_back old first anew reply new zero step
