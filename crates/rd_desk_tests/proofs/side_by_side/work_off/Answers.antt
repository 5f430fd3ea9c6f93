use Rattle.std.proofs.Common.{◌∙◌, List, subst, sym}
use Rattle.rd_drive.specs.declared.plan.Job.{Job}
use Rattle.rd_turn.specs.History.{calls_of}
use Rattle.rd_desk.specs.Own.{WereGiven}
use Rattle.rd_desk_tests.proofs.side_by_side.work_off.Goals as goal

pub loop-preserved : goal.loop-preserved
loop-preserved g c =
    let same = c.work-worked.ensures.same in
    let before = c.loop.invariant.same in
    record {
      given = subst (λ (jobs : List Job). WereGiven (calls_of c.work-worked.new.self.pass.number c.work-worked.new.self.pass.seen) jobs) (sym c.into_batch-batch.ensures.jobs) c.work-worked.ensures.given;
      turn = c.work-worked.ensures.turn ∙ c.loop.invariant.turn;
      same = (same.0 ∙ before.0, same.1 ∙ before.1, same.2 ∙ before.2, same.3 ∙ before.3);
    }
