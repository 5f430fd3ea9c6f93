use Rattle.std.proofs.Common.{[]}
use Rattle.rd_served.proofs.CauseLemmas.{begins_told_well}
use Rattle.rd_served.proofs.ComesLemmas.{history_read}
use Rattle.rd_served.proofs.KeyLemmas.{begins_at, history_keyed, keyed_lawful}
use Rattle.rd_served.proofs.laws.keys_come_after_their_requests.Goals as goal

pub returns-clause-read : goal.returns-clause-read
returns-clause-read c old new entries parts begins goes =
    history_read entries parts old new [] goes (begins_at old begins.new begins.stationed begins.idle_is) (begins_told_well old begins.new begins.apart begins.stationed begins.idle_is) tt

pub returns-clause-lawful : goal.returns-clause-lawful
returns-clause-lawful c old new entries parts begins goes place s there = keyed_lawful new (history_keyed entries parts old new goes (begins_at old begins.new begins.stationed begins.idle_is)) place s there
