use Rattle.rd_served.proofs.WalkLemmas.{history_goes}
use Rattle.rd_served.proofs.laws.histories_go_by_parts.Goals as goal

pub returns : goal.returns
returns c old new entries after leads at = let h = history_goes old entries new leads after at in (h.stations, h.at, (h.parts, h.goes))
