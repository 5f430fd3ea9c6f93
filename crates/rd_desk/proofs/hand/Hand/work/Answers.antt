use Rattle.std.proofs.Common.{◌++◌, subst, sym}
use Rattle.rd_turn.specs.History.{calls_of}
use Rattle.rd_desk.specs.declared.calls.DeskCall.TheVariants as call
use Rattle.rd_desk.specs.Batch.{jobs_of}
use Rattle.rd_desk.specs.Hand.{HandState}
use Rattle.rd_desk.specs.Own.{WereGiven}
use Rattle.rd_desk.proofs.OwnLemmas.{call_given, call_gives, reply_worked}
use Rattle.rd_desk.proofs.hand.Hand.work.Goals as goal

pub unreachable-requires : goal.unreachable-requires
unreachable-requires g c =
    let called = c.call-reply.ensures.called in
    let only = reply_worked g.D.Device.runs g.D.Device.parked g.D.Device.cuts c.self.inside.turn.now.opening c.call-reply.new.pass.seen (c.self.inside.pass.seen ++ called.0) c.self.inside.pass.number c.args.batch c.call-reply.result
    called.1 c.call-reply.ensures.legal in
    c.in_default.not-Worked only.0 only.1

pub invariant_of-self : goal.invariant_of-self
invariant_of-self g c = (
  c.call-reply.ensures.own,
  call_gives c.self.inside.pass c.call-reply.new.pass (call.Work c.args.batch) c.call-reply.result c.call-reply.ensures.same.0 c.call-reply.ensures.own_calls c.self.invariant.1
      (subst (λ (h : HandState g.row.D.Denot). WereGiven (calls_of h.pass.number h.pass.seen) (jobs_of c.args.batch)) (sym c.self.view_is) c.requires),
)

pub returns-clause-given : goal.returns-clause-given
returns-clause-given g c = call_given c.self.inside.pass c.call-reply.new.pass (call.Work c.args.batch) c.call-reply.result c.call-reply.ensures.same.0 c.call-reply.ensures.own_calls c.in-Worked.worked c.in-Worked.is
