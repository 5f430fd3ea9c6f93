use Rattle.std.proofs.Common.{[], false}
use Rattle.rd_served.proofs.StandingLemmas.{begins_known}
use Rattle.rd_served_refusals.proofs.HinderLemmas.{hear_before}
use Rattle.rd_served_refusals.proofs.InLineLemmas.{begins_line_all, history_line}
use Rattle.rd_served_refusals.proofs.PointLemmas.{in_order}
use Rattle.rd_served_refusals.proofs.laws.fronts_answer_in_order.Goals as goal

pub returns : goal.returns
returns c old new entries parts begins goes room unhindered =
    let (t, is) = history_line entries parts false old new [] goes (begins_known old begins.new begins.apart begins.stationed begins.idle_is) room (hear_before entries parts old new goes unhindered) (begins_line_all old begins.new begins.idle_is) in
    in_order t _ _ is
