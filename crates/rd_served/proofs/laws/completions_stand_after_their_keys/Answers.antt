use Rattle.std.proofs.Common.{[]}
use Rattle.rd_served.proofs.StandingLemmas.{begins_known, history_known}
use Rattle.rd_served.proofs.laws.completions_stand_after_their_keys.Goals as goal

pub returns : goal.returns
returns c old new entries parts begins goes = (history_known entries parts old new [] goes (begins_known old begins.new begins.apart begins.stationed begins.idle_is)).standing.stand
