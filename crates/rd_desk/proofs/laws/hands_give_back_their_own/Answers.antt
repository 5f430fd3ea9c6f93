use Rattle.std.proofs.Common.{[], refl}
use Rattle.rd_desk.proofs.OwnLemmas.{idle_back, last_given, more_back, none_back, still_given}
use Rattle.rd_desk.proofs.laws.hands_give_back_their_own.Goals as goal

pub returns : goal.returns
returns c = record { none = none_back [] refl; more = more_back; idle = idle_back; given = last_given; earlier = still_given }
