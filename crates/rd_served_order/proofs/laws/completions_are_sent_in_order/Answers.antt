use Rattle.std.proofs.Common.{◌∙◌, [], refl}
use Rattle.rd_served.proofs.OrderLemmas.{all_written, history_order}
use Rattle.rd_served.proofs.StandingLemmas.{begins_known, history_known}
use Rattle.rd_served_order.proofs.SentLemmas.{history_tells, room_at, tells_order}
use Rattle.rd_served.specs.Deeds.{deeds_of_calls}
use Rattle.rd_served_order.proofs.laws.completions_are_sent_in_order.Goals as goal

pub returns : goal.returns
returns c old new entries parts begins goes found room channel device =
    let known = begins_known old begins.new begins.apart begins.stationed begins.idle_is in
    tells_order (deeds_of_calls parts []) (history_known entries parts old new [] goes known).standing.stand (history_tells entries parts old new [] goes known (room_at (old.front).desks room) tt) channel device
    ∙ history_order entries parts old new [] (all_written entries parts old new goes found) goes known begins.idle_is (λ x y. refl) channel device
