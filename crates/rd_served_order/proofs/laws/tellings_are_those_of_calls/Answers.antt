use Rattle.std.proofs.Common.{[]}
use Rattle.rd_served.proofs.ChannelLemmas.{begins_here, history_on}
use Rattle.rd_served.proofs.KeyLemmas.{begins_at}
use Rattle.rd_served.proofs.StandingLemmas.{begins_known}
use Rattle.rd_served_order.specs.Orders.{none_until}
use Rattle.rd_served_order.proofs.OrderLemmas.{begins_order}
use Rattle.rd_served_order.proofs.OwnLemmas.{begins_own}
use Rattle.rd_served_order.proofs.TellingLemmas.{begins_telling, history_telling}
use Rattle.rd_served_order.proofs.laws.tellings_are_those_of_calls.Goals as goal

pub returns-clause-first : goal.returns-clause-first
returns-clause-first c devices old new entries parts begins goes n =
    let is = begins.new in
    (history_telling devices begins.writable entries parts old new goes [] none_until (λ x. [])
    (history_on entries parts old new goes (begins_at old is.new is.stationed is.idle_is) (begins_here old is.new.nothing is.idle_is))
    (begins_known old is.new is.apart is.stationed is.idle_is) (begins_own devices old begins) (begins_order devices old begins) (begins_telling devices old begins)).each n

pub returns-clause-all : goal.returns-clause-all
returns-clause-all c devices old new entries parts begins goes on =
    let is = begins.new in
    (history_telling devices begins.writable entries parts old new goes [] none_until (λ x. [])
    (history_on entries parts old new goes (begins_at old is.new is.stationed is.idle_is) (begins_here old is.new.nothing is.idle_is))
    (begins_known old is.new is.apart is.stationed is.idle_is) (begins_own devices old begins) (begins_order devices old begins) (begins_telling devices old begins)).now on
