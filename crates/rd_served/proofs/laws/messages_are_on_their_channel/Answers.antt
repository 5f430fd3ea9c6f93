use Rattle.rd_served.proofs.ChannelLemmas.{begins_here, history_on}
use Rattle.rd_served.proofs.KeyLemmas.{begins_at}
use Rattle.rd_served.proofs.laws.messages_are_on_their_channel.Goals as goal

pub returns : goal.returns
returns c old new entries parts begins goes = history_on entries parts old new goes (begins_at old begins.new begins.stationed begins.idle_is) (begins_here old begins.new.nothing begins.idle_is)
