use Rattle.std.proofs.Common.{[]}
use Rattle.rd_served.proofs.ChannelLemmas.{begins_here, history_on}
use Rattle.rd_served.proofs.KeyLemmas.{begins_at}
use Rattle.rd_served.proofs.StandingLemmas.{begins_known}
use Rattle.rd_served_order.specs.Orders.{none_until}
use Rattle.rd_served_order.proofs.OrderLemmas.{begins_order, history_ordered}
use Rattle.rd_served_order.proofs.OwnLemmas.{begins_own}
use Rattle.rd_served_order.proofs.laws.messages_are_in_order.Goals as goal

pub returns : goal.returns
returns c devices old new entries parts begins goes n =
    let is = begins.new in
    (history_ordered devices begins.writable entries parts old new goes [] none_until
    (history_on entries parts old new goes (begins_at old is.new is.stationed is.idle_is) (begins_here old is.new.nothing is.idle_is))
    (begins_known old is.new is.apart is.stationed is.idle_is) (begins_own devices old begins) (begins_order devices old begins)).orders n
