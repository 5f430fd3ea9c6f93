use Rattle.std.proofs.Common.{◌∙◌}
use Rattle.rd_world.proofs.StationsLemmas.{told}
use Rattle.rd_world.proofs.stations.mark.Goals as goal

pub returns-clause-waiting : goal.returns-clause-waiting
returns-clause-waiting c = record { same = c.mark.ensures.same ∙ told _ _ c.waits.ensures; others = c.mark.ensures.others }

pub returns-clause-ready : goal.returns-clause-ready
returns-clause-ready c = record { same = c.mark-2.ensures.same ∙ told _ _ c.has_ready.ensures; others = c.mark-2.ensures.others }
