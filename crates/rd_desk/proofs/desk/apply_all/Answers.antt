use Rattle.std.proofs.Common.{rules, ◌≡◌, ◌∷◌}
use Rattle.rd_desk.proofs.StepLemmas.{applies_all, applies_next}
use Rattle.rd_desk.proofs.desk.apply_all.Goals as goal

pub loop-run-preserved : goal.loop-run-preserved
loop-run-preserved g c =
    let is : c.loop-run.runs.items ≡ c.in-Some.run' ∷ c.pop_front.new.self.items = c.in-Some.ensures.items in
    record {
      steps = applies_next g.D.Device.runs g.D.Device.parked g.D.Device.cuts c.args.station.now c.args.runs.now.items c.loop-run.station c.apply.new.self c.loop-run.runs.items c.pop_front.new.self.items c.in-Some.run'
          c.loop-run.applied.items c.push_back_reserved.new.self.items c.apply.result is c.push_back_reserved.ensures.items c.apply.ensures.step c.loop-run.invariant.steps;
      count = search rules;
      room = search rules;
      capacity = search rules;
    }

pub returns-clause-steps : goal.returns-clause-steps
returns-clause-steps g c = applies_all g.D.Device.runs g.D.Device.parked g.D.Device.cuts c.args.station.now c.args.runs.now.items c.loop-run.station c.loop-run.runs.items c.loop-run.applied.items (search rules) c.loop-run.invariant.steps
