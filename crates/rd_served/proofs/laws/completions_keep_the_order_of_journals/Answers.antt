use Rattle.std.proofs.Common.{[], refl}
use Rattle.rd_served.proofs.OrderLemmas.{all_written, history_order}
use Rattle.rd_served.proofs.StandingLemmas.{begins_known}
use Rattle.rd_served.proofs.laws.completions_keep_the_order_of_journals.Goals as goal

pub returns : goal.returns
returns c old new entries parts begins goes found =
    history_order entries parts old new [] (all_written entries parts old new goes found) goes (begins_known old begins.new begins.apart begins.stationed begins.idle_is) begins.idle_is (λ channel device. refl)
