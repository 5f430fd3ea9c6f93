use Rattle.std.proofs.Common.{◌∙◌, sym}
use Rattle.rd_world.proofs.StationsLemmas.{length_zip}
use Rattle.rd_world.proofs.stations.Stations.len.Goals as goal

pub returns-clause-count : goal.returns-clause-count
returns-clause-count c = rw (← c.self.view_is) (c.len.ensures ∙ c.self.inside.list.ok.0 ∙ c.self.invariant.same ∙ sym (length_zip _ _ c.self.invariant.same))
