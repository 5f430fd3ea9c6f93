use Rattle.std.proofs.Common.{refl}
use Rattle.rd_audit.proofs.ReplayLemmas.{ends_all, ends_one}
use Rattle.rd_audit.proofs.replay.Replay.end.Goals as goal

pub loop-end-preserved-in_ok-give : goal.loop-end-preserved-in_ok-give
loop-end-preserved-in_ok-give c =
    ends_one c.args.channels.now c.args.self.now c.loop-end.self _ c.args.courses.now c.loop-end.courses c.give.new.courses c.in-Some.end c.pop.new.self c.loop-end.invariant
    c.in-Some.ensures.some refl c.forget.ensures c.in_ok-give.ensures

pub loop-end-preserved : goal.loop-end-preserved
loop-end-preserved c =
    ends_one c.args.channels.now c.args.self.now c.loop-end.self _ c.args.courses.now c.loop-end.courses c.give.new.courses c.in-Some.end c.pop.new.self c.loop-end.invariant
    c.in-Some.ensures.some refl c.forget.ensures c.in_ok-give.ensures

pub returns-clause-waiting : goal.returns-clause-waiting
returns-clause-waiting c = (ends_all c.args.channels.now c.args.self.now c.loop-end.self c.args.courses.now c.loop-end.courses c.loop-end.invariant (c.pop.ensures.none c.in_default.is)).1
