use Rattle.std.proofs.Common.{◌∙◌, sym, subst, ℕ, Option, arith}
use Rattle.std.specs.Prelude.{IfSome}
use Rattle.rd_station.specs.Station.{MayPut, StationState}
use Rattle.rd_world.proofs.KeysLemmas.{above_last}
use Rattle.rd_world.proofs.StationsLemmas.{seen_at, within}
use Rattle.rd_declared.specs.declared.device.SessionDevice.{SessionDevice}
use Rattle.rd_world.proofs.stations.Stations.may_put.Goals as goal

pub index-station-requires : goal.index-station-requires
index-station-requires c = omega (arith, within _ _ _ _ _ _ _ c.self.invariant c.self.view_is c.requires, c.self.inside.list.ok.0)

pub returns-then-above : goal.returns-then-above
returns-then-above c = λ so. (
  subst (λ (o : Option (ℕ × StationState SessionDevice)). IfSome o (λ (e : ℕ × StationState SessionDevice). MayPut e.1 c.args.key))
      (sym (seen_at _ _ _ _ _ _ _ _ c.self.invariant c.self.view_is c.requires c.index-station.ensures)) (c.may_put-may.ensures.0 so),
  rw (← c.self.view_is) (above_last _ _ _ c.self.invariant.up_to (sym c.is_above-above.ensures ∙ c.if-above.true)),
)
