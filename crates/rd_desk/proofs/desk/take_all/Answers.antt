use Rattle.std.proofs.Common.{rules, subst, true, false, arith}
use Rattle.rd_station.specs.declared.answers.Given.{Given}
use Rattle.rd_station.specs.Station.{StationStep, takes}
use Rattle.rd_desk.proofs.StepLemmas.{given_goes_on, takes_fewer, takes_next}
use Rattle.rd_desk.proofs.desk.take_all.Goals as goal

pub returns-in-Nothing-clause-steps : goal.returns-in-Nothing-clause-steps
returns-in-Nothing-clause-steps g c =
    takes_fewer g.D.Device.runs g.D.Device.parked g.D.Device.cuts c.args.station.now c.loop.station c.take.new.self c.loop.jobs.items false (omega (arith, c.loop.invariant.count, c.loop-test.true))
    (subst (λ (r : Given). StationStep g.D.Device.runs g.D.Device.parked g.D.Device.cuts c.loop.station (takes r) c.take.new.self) c.in-Nothing.is c.take.ensures.step) c.loop.invariant.steps

pub returns-in-Over-clause-steps : goal.returns-in-Over-clause-steps
returns-in-Over-clause-steps g c =
    takes_fewer g.D.Device.runs g.D.Device.parked g.D.Device.cuts c.args.station.now c.loop.station c.take.new.self c.loop.jobs.items true (omega (arith, c.loop.invariant.count, c.loop-test.true))
    (subst (λ (r : Given). StationStep g.D.Device.runs g.D.Device.parked g.D.Device.cuts c.loop.station (takes r) c.take.new.self) c.in-Over.is c.take.ensures.step) c.loop.invariant.steps

pub loop-preserved : goal.loop-preserved
loop-preserved g c =
    let step = subst (λ (r : Given). StationStep g.D.Device.runs g.D.Device.parked g.D.Device.cuts c.loop.station (takes r) c.take.new.self) c.in-Job.is c.take.ensures.step in
    record {
      steps = takes_next g.D.Device.runs g.D.Device.parked g.D.Device.cuts c.args.station.now c.loop.station c.take.new.self c.loop.jobs.items c.push_back_reserved.new.self.items c.in-Job.job c.push_back_reserved.ensures.items step
          c.loop.invariant.steps;
      count = search rules;
      goes_on = λ some. given_goes_on c.loop.station c.take.new.self c.in-Job.job step;
      room = search rules;
      capacity = search rules;
    }
