use Rattle.std.proofs.Common.{ap, length, arith}
use Rattle.rd_base.specs.declared.journal.Item.{Item}
use Rattle.rd_station.specs.Station.{StationState, reserved}
use Rattle.rd_station.proofs.Soundness.{counted}
use Rattle.rd_station.proofs.station.Station.entries.Goals as goal

pub overflow_cast-result : goal.overflow_cast-result
overflow_cast-result g c =
    let all = counted _ _ _ _ _ _ _ c.self.invariant.0 in
    let same = ap (length {A = Item}) c.items.ensures in
    omega (arith, all, same)

pub overflow_add-result : goal.overflow_add-result
overflow_add-result g c =
    let all = counted _ _ _ _ _ _ _ c.self.invariant.0 in
    let same = ap (length {A = Item}) c.items.ensures in
    omega (arith, all, same, c.places.ensures.few)

pub returns-clause-few : goal.returns-clause-few
returns-clause-few g c =
    let all = counted _ _ _ _ _ _ _ c.self.invariant.0 in
    let same = ap (length {A = Item}) c.items.ensures in
    let places = c.places.ensures.count in
    let now = ap (λ (s : StationState _). reserved s) c.self.view_is in
    omega (arith, all, same, places, now)
