use Rattle.std.proofs.Common.{◌≤◌, length, ap, arith}
use Rattle.rd_audit.proofs.ReplayLemmas.{cut_all, cut_step}
use Rattle.rd_audit.proofs.replay.Replay.cancel_waiting.Goals as goal

pub loop-key-preserved : goal.loop-key-preserved
loop-key-preserved c =
    cut_step c.args.channels.now c.args.self.now.count c.loop-key.key-index c.deref-key-items.result.now c.args.self.now.waiting.items _ c.fault.result c.args.courses.now c.loop-key.courses c.give.new.courses
    c.deref-key-items.ensures.value c.loop-key-test.true c.fault.ensures c.loop-key.invariant c.in_ok-give.ensures

pub returns : goal.returns
returns c =
    let same = ap length c.deref-key-items.ensures.value in
    let past : length c.args.self.now.waiting.items ≤ c.loop-key.key-index = omega (arith, same) in
    cut_all c.args.channels.now c.args.self.now.count c.loop-key.key-index c.args.self.now.waiting.items c.args.courses.now c.loop-key.courses past c.loop-key.invariant
