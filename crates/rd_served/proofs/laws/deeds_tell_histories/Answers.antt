use Rattle.std.proofs.Common.{[]}
use Rattle.rd_served.proofs.CauseLemmas.{begins_told_well, history_told}
use Rattle.rd_served.proofs.DeedLemmas.{reads_told, writes_told}
use Rattle.rd_served.proofs.KeyLemmas.{begins_at}
use Rattle.rd_served.proofs.laws.deeds_tell_histories.Goals as goal

pub returns-clause-read : goal.returns-clause-read
returns-clause-read c parts before = reads_told parts before

pub returns-clause-written : goal.returns-clause-written
returns-clause-written c parts before = writes_told parts before

pub returns-clause-journals : goal.returns-clause-journals
returns-clause-journals c old new entries parts begins goes place d s there has =
    (history_told entries parts old new [] goes (begins_at old begins.new begins.stationed begins.idle_is) (begins_told_well old begins.new begins.apart begins.stationed begins.idle_is)).tied place d s (there, has)
