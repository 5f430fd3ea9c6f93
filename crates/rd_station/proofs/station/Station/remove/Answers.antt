use Rattle.rd_station.proofs.Parts.{remove_parts, remove_step}
use Rattle.rd_station.proofs.station.Station.remove.Goals as goal

pub invariant_of-self : goal.invariant_of-self
invariant_of-self g c = (
  remove_parts _ _ _ _ _ _ _ _ _ _ c.self.invariant.0 c.cut.new.self c.mark_removed.new.self c.cancel_parked.new.self c.cancel_waiting.new.self c.add.new.self.items c.cancel_waiting.new.journal.items c.if-not-self.false c.cut.ensures
      c.mark_removed.ensures c.cancel_parked.ensures c.cancel_waiting.ensures.held c.add.ensures.items c.cancel_waiting.ensures.journal c.add.new.self.spare c.cancel_waiting.new.journal.spare c.add.ensures.spare c.cancel_waiting.ensures.spare,
  c.self.invariant.1,
)

pub returns-clause-step : goal.returns-clause-step
returns-clause-step g c =
    remove_step _ _ _ _ _ _ _ _ _ _ c.self.invariant.0 c.cut.new.self c.mark_removed.new.self c.cancel_parked.new.self c.cancel_waiting.new.self c.add.new.self.items c.cancel_waiting.new.journal.items c.if-not-self.false c.cut.ensures
    c.mark_removed.ensures c.cancel_parked.ensures c.cancel_waiting.ensures.held c.add.ensures.items c.cancel_waiting.ensures.journal c.args.self.now c.self.view_is

pub returns-clause-reached : goal.returns-clause-reached
returns-clause-reached g c = (invariant_of-self g c).0.reached
