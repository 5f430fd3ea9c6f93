use Rattle.std.proofs.Common.{[], false}
use Rattle.rd_served.proofs.StandingLemmas.{begins_known}
use Rattle.rd_served_refusals.proofs.HinderLemmas.{hear_before}
use Rattle.rd_served_refusals.proofs.InLineLemmas.{begins_line_all, history_heeded, history_line, point_of}
use Rattle.rd_served_refusals.proofs.PointLemmas.{passes_each, passes_now}
use Rattle.rd_served_refusals.proofs.laws.fronts_pass_over_none.Goals as goal

pub returns-clause-ended : goal.returns-clause-ended
returns-clause-ended c old new entries parts begins goes room unhindered =
    history_heeded entries parts false old new [] goes (begins_known old begins.new begins.apart begins.stationed begins.idle_is) room (hear_before entries parts old new goes unhindered) (begins_line_all old begins.new begins.idle_is)

pub returns-clause-now : goal.returns-clause-now
returns-clause-now c old new entries parts begins goes room unhindered on =
    let (t, is) = history_line entries parts false old new [] goes (begins_known old begins.new begins.apart begins.stationed begins.idle_is) room (hear_before entries parts old new goes unhindered) (begins_line_all old begins.new begins.idle_is) in
    passes_now t (point_of new) _ on is

pub returns-clause-each : goal.returns-clause-each
returns-clause-each c old new entries parts begins goes room unhindered =
    let (t, is) = history_line entries parts false old new [] goes (begins_known old begins.new begins.apart begins.stationed begins.idle_is) room (hear_before entries parts old new goes unhindered) (begins_line_all old begins.new begins.idle_is) in
    passes_each t (point_of new) _ is
