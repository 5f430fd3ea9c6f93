use Rattle.std.proofs.Common.{[]}
use Rattle.rd_served.proofs.CauseLemmas.{begins_told_well, history_caused}
use Rattle.rd_served.proofs.KeyLemmas.{begins_at}
use Rattle.rd_served.proofs.laws.duplicates_have_a_cause.Goals as goal

pub returns : goal.returns
returns c old new entries parts begins goes =
    history_caused entries parts old new [] goes (begins_at old begins.new begins.stationed begins.idle_is) (begins_told_well old begins.new begins.apart begins.stationed begins.idle_is)
