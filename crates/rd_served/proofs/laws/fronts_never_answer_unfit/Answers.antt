use Rattle.rd_served.proofs.KeyLemmas.{begins_well, history_fits}
use Rattle.rd_served.proofs.WalkLemmas.{history_goes, served}
use Rattle.rd_served.specs.Served.{idle}
use Rattle.rd_served.proofs.laws.fronts_never_answer_unfit.Goals as goal

pub returns : goal.returns
returns c old new entries after begins leads at =
    let h = history_goes old entries new leads after at in
    history_fits entries h.parts (served old idle h.stations) (served new idle after) h.goes (begins_well old h.stations begins h.at)
