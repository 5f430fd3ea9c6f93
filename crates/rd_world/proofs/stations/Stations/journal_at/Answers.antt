use Rattle.std.proofs.Common.{rules, arith}
use Rattle.rd_world.proofs.StationsLemmas.{seen_at, within}
use Rattle.rd_world.proofs.stations.Stations.journal_at.Goals as goal

pub index-station-requires : goal.index-station-requires
index-station-requires c = omega (arith, within _ _ _ _ _ _ _ c.self.invariant c.self.view_is c.requires, c.self.inside.list.ok.0)

pub returns : goal.returns
returns c = rw (seen_at _ _ _ _ _ _ _ _ c.self.invariant c.self.view_is c.requires c.index-station.ensures) (search rules)
