use Rattle.std.proofs.Common.{◌∙◌, ap, ℕ, List, [], ◌∷◌, ◌++◌}
use Rattle.rd_station.specs.Station.{StationState}
use Rattle.rd_world.proofs.StationsLemmas.{keeps_add, seen_add}
use Rattle.rd_declared.specs.declared.device.SessionDevice.{SessionDevice}
use Rattle.rd_world.proofs.stations.Stations.add.Goals as goal

pub invariant_of-self-2 : goal.invariant_of-self-2
invariant_of-self-2 c =
    let ids = c.push_reserved.ensures.items ∙ ap (λ (l : List ℕ). l ++ c.args.id ∷ []) c.reserve.ensures.items in
    let list = c.push_reserved-2.ensures.items ∙ ap (λ (l : List (StationState SessionDevice)). l ++ c.args.station ∷ []) c.reserve-2.ensures.items in
    rw (ids, list) (keeps_add _ _ _ _ _ _ _ _ c.self.invariant c.self.view_is c.requires.above c.requires.few c.requires.idle.0 c.requires.idle.1 c.requires.unused c.requires.reached)

pub returns-clause-added : goal.returns-clause-added
returns-clause-added c =
    let ids = c.push_reserved.ensures.items ∙ ap (λ (l : List ℕ). l ++ c.args.id ∷ []) c.reserve.ensures.items in
    let list = c.push_reserved-2.ensures.items ∙ ap (λ (l : List (StationState SessionDevice)). l ++ c.args.station ∷ []) c.reserve-2.ensures.items in
    rw (ids, list) (seen_add _ _ _ _ _ c.self.invariant.same c.self.view_is)

pub returns-clause-kept : goal.returns-clause-kept
returns-clause-kept c = (invariant_of-self-2 c).are
