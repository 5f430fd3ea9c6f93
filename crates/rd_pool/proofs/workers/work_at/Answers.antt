use Rattle.std.proofs.Common.{◌∙◌, refl, subst, sym, List}
use Rattle.rd_drive.specs.declared.plan.Job.{Job}
use Rattle.rd_turn.specs.History.{calls_of}
use Rattle.rd_desk.specs.declared.calls.DeskCall.TheVariants as call
use Rattle.rd_desk.specs.declared.calls.DeskReply.TheVariants as reply
use Rattle.rd_desk.specs.Own.{WereGiven}
use Rattle.rd_pool.specs.Desks.{GivesThen, IsByHand}
use Rattle.rd_pool.proofs.CallsLemmas.{call_holds}
use Rattle.rd_pool.proofs.workers.work_at.Goals as goal

pub loop-preserved : goal.loop-preserved
loop-preserved g c =
    let own = calls_of c.work-worked.new.self.pass.number c.work-worked.new.self.pass.seen in
    record {
      given = subst (λ (jobs : List Job). WereGiven own jobs) (sym c.batch-batch.ensures.jobs) c.work-worked.ensures.given;
      turn = c.work-worked.ensures.turn ∙ c.loop.invariant.turn;
      number = c.work-worked.ensures.same.0 ∙ c.loop.invariant.number;
      batch = c.batch-batch.ensures.moments;
      moments = λ keeps. call_holds (GivesThen (g.X.Outside.moment c.args.outside.now)) c.loop.hand.pass c.work-worked.new.self.pass (call.Work c.loop.batch) (reply.Worked c.work-worked.result) c.work-worked.ensures.same c.work-worked.ensures.called c.loop.invariant.batch
          (c.loop.invariant.moments keeps);
      by_hand = λ none. call_holds IsByHand c.loop.hand.pass c.work-worked.new.self.pass (call.Work c.loop.batch) (reply.Worked c.work-worked.result) c.work-worked.ensures.same c.work-worked.ensures.called (c.loop.batch, refl) (c.loop.invariant.by_hand none);
    }

pub returns-then-done-clause-moments : goal.returns-then-done-clause-moments
returns-then-done-clause-moments g c keeps = call_holds (GivesThen (g.X.Outside.moment c.args.outside.now)) c.loop.hand.pass c.work-worked.new.self.pass (call.Work c.loop.batch) (reply.Worked c.work-worked.result) c.work-worked.ensures.same c.work-worked.ensures.called
    c.loop.invariant.batch (c.loop.invariant.moments keeps)

pub returns-then-done-clause-by_hand : goal.returns-then-done-clause-by_hand
returns-then-done-clause-by_hand g c none =
    call_holds IsByHand c.loop.hand.pass c.work-worked.new.self.pass (call.Work c.loop.batch) (reply.Worked c.work-worked.result) c.work-worked.ensures.same c.work-worked.ensures.called (c.loop.batch, refl) (c.loop.invariant.by_hand none)
