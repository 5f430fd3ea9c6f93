use Rattle.std.proofs.Common.{arith}
use Rattle.rd_station.specs.Station.{MayPut, StationState}
use Rattle.rd_declared.specs.declared.device.SessionDevice.{SessionDevice}
use Rattle.rd_world.proofs.StationsLemmas.{if_err, on_err, put_unchanged, keeps_come, of_seen, on_ok, steps_at, within}
use Rattle.rd_world.proofs.stations.Stations.put.Goals as goal

pub index_mut-station-requires : goal.index_mut-station-requires
index_mut-station-requires c = omega (arith, within _ _ _ _ _ _ _ c.self.invariant c.self.view_is c.requires.there, c.self.inside.list.ok.0)

pub put-answer-requires : goal.put-answer-requires
put-answer-requires c =
    of_seen (λ (s : StationState SessionDevice). MayPut s c.args.job.key) _ _ _ _ _ c.self.invariant.same (within _ _ _ _ _ _ _ c.self.invariant c.self.view_is c.requires.there) c.index_mut-station.ensures.value c.self.view_is c.requires.may

pub invariant_of-self : goal.invariant_of-self
invariant_of-self c =
    rw c.last_of-self-inside.ensures
    (keeps_come _ _ _ _ _ _ c.args.job c.put-answer.result _ _ _ _ c.self.invariant (within _ _ _ _ _ _ _ c.self.invariant c.self.view_is c.requires.there) c.index_mut-station.ensures.value
    (rw c.self.view_is c.requires.below) c.put-answer.ensures.came c.put-answer.ensures.refused c.put-answer.ensures.reached c.mark.ensures.waiting c.mark.ensures.ready)

pub returns-clause-came : goal.returns-clause-came
returns-clause-came c =
    rw (← c.self.view_is) (on_ok _ _ c.put-answer.result (λ h. steps_at _ _ _ _ _ _ _ _ _ c.self.invariant (within _ _ _ _ _ _ _ c.self.invariant c.self.view_is c.requires.there) c.index_mut-station.ensures.value h) c.put-answer.ensures.came)

pub returns-clause-refused : goal.returns-clause-refused
returns-clause-refused c =
    rw (← c.self.view_is) (if_err _ _ c.put-answer.result (λ no h. steps_at _ _ _ _ _ _ _ _ _ c.self.invariant (within _ _ _ _ _ _ _ c.self.invariant c.self.view_is c.requires.there) c.index_mut-station.ensures.value h) c.put-answer.ensures.refused)

pub returns-clause-kept : goal.returns-clause-kept
returns-clause-kept c = (invariant_of-self c).are

pub returns-clause-unchanged : goal.returns-clause-unchanged
returns-clause-unchanged c =
    on_err _ _ c.put-answer.result (λ no h. put_unchanged _ _ _ _ _ _ _ no c.index_mut-station.ensures.value c.self.view_is h) c.put-answer.ensures.refused
