use Rattle.std.proofs.Common.{arith}
use Rattle.rd_station.specs.Station.{removes}
use Rattle.rd_world.proofs.StationsLemmas.{keeps_call, steps_at, within}
use Rattle.rd_world.proofs.stations.Stations.remove.Goals as goal

pub index_mut-station-requires : goal.index_mut-station-requires
index_mut-station-requires c = omega (arith, within _ _ _ _ _ _ _ c.self.invariant c.self.view_is c.requires, c.self.inside.list.ok.0)

pub invariant_of-self : goal.invariant_of-self
invariant_of-self c = keeps_call _ _ _ _ _ _ (removes c.remove-answer.result) _ _ _ _ c.self.invariant (within _ _ _ _ _ _ _ c.self.invariant c.self.view_is c.requires) c.index_mut-station.ensures.value (λ key none. none) c.remove-answer.ensures.step c.remove-answer.ensures.reached c.mark.ensures.waiting c.mark.ensures.ready

pub returns-clause-step : goal.returns-clause-step
returns-clause-step c = rw (← c.self.view_is) (steps_at _ _ _ _ _ _ _ _ _ c.self.invariant (within _ _ _ _ _ _ _ c.self.invariant c.self.view_is c.requires) c.index_mut-station.ensures.value c.remove-answer.ensures.step)

pub returns-clause-kept : goal.returns-clause-kept
returns-clause-kept c = (invariant_of-self c).are
