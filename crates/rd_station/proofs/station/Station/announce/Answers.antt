use Rattle.std.proofs.Common.{◌∙◌, sym, ap, ℕ, ◌+◌}
use Rattle.std.specs.Prelude.{max}
use Rattle.rd_station.specs.Station.{StationState, entry_count, reserved}
use Rattle.rd_station.proofs.Parts.{announced_parts}
use Rattle.rd_station.proofs.station.Station.announce.Goals as goal

pub invariant_of-self-2 : goal.invariant_of-self-2
invariant_of-self-2 g c =
    let counted = c.entries-count.ensures.count ∙ sym (ap (λ (s : StationState _). entry_count s) c.self.view_is) in
    let places = c.places-places.ensures.count ∙ sym (ap (λ (s : StationState _). reserved s) c.self.view_is) in (
      announced_parts _ _ _ _ _ _ _ _ _ _ c.self.invariant.0 c.reserve.new.self.items c.reserve.new.self.spare c.if-self.false c.entries-count.result counted c.if-count-ge-MAX_ENTRIES.false c.reserve.ensures.items
          (c.in-Ok.ensures.ok ∙ ap (λ (n : ℕ). max c.self.inside.journal.spare (n + 1)) places),
      c.self.invariant.1,
    )

pub returns-clause-reached : goal.returns-clause-reached
returns-clause-reached g c = (invariant_of-self-2 g c).0.reached
