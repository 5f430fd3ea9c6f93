use Rattle.std.proofs.Common.{subst, List}
use Rattle.std.specs.List.{AllZip}
use Rattle.rd_station.specs.Station.{StationState}
use Rattle.rd_world.specs.Stations.{DropsOne}
use Rattle.rd_world.proofs.StationsLemmas.{drops_are, drops_each, keeps_dropped, written_over}
use Rattle.rd_declared.specs.declared.device.SessionDevice.{SessionDevice}
use Rattle.rd_world.proofs.stations.Stations.drop_all.Goals as goal

pub invariant_of-self : goal.invariant_of-self
invariant_of-self c =
    let all = subst (λ (l : List (StationState SessionDevice)). AllZip DropsOne l c.drop_each.new.list) c.as_mut_slice.ensures.value c.drop_each.ensures in
    rw (written_over c.self.inside.list.items c.drop_each.new.list c.self.inside.list.len c.self.inside.list.ok.0 all, c.new-self-inside.ensures, c.new-self-inside-2.ensures)
    (keeps_dropped _ _ _ _ _ _ c.self.invariant all)

pub returns-clause-step : goal.returns-clause-step
returns-clause-step c =
    let all = subst (λ (l : List (StationState SessionDevice)). AllZip DropsOne l c.drop_each.new.list) c.as_mut_slice.ensures.value c.drop_each.ensures in
    rw (← c.self.view_is, written_over c.self.inside.list.items c.drop_each.new.list c.self.inside.list.len c.self.inside.list.ok.0 all) (drops_each _ _ _ all)

pub returns-clause-dropped : goal.returns-clause-dropped
returns-clause-dropped c = drops_are _ _ (returns-clause-step c)

pub returns-clause-kept : goal.returns-clause-kept
returns-clause-kept c = (invariant_of-self c).are
