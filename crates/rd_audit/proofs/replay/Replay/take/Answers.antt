use Rattle.std.proofs.Common.{◌+◌, sym, subst, true}
use Rattle.rd_base.specs.declared.journal.Item.{Item}
use Rattle.rd_audit.specs.Kept.{TakesItem}
use Rattle.rd_audit.proofs.ReplayLemmas.{counted}
use Rattle.rd_audit.proofs.replay.Replay.take.Goals as goal

pub returns-in-Came-clause-taken : goal.returns-in-Came-clause-taken
returns-in-Came-clause-taken c d stands =
    subst (λ (e : Item). TakesItem c.args.channels.now d e c.come.new.self c.args.courses.now c.come.new.courses c.come.result) (sym c.in-Came.is) (c.come.ensures.taken d (counted c.args.self.now d stands))

pub returns-in-Cancelled-clause-taken : goal.returns-in-Cancelled-clause-taken
returns-in-Cancelled-clause-taken c d stands =
    subst (λ (e : Item). TakesItem c.args.channels.now d e (record c.args.self.now { count = c.args.self.now.count + 1 }) c.args.courses.now c.cancel.new.courses true) (sym c.in-Cancelled.is)
    (c.cancel.ensures c.args.channels.now d (counted c.args.self.now d stands))

pub returns-in-Sent-clause-taken : goal.returns-in-Sent-clause-taken
returns-in-Sent-clause-taken c d stands =
    subst (λ (e : Item). TakesItem c.args.channels.now d e (record c.args.self.now { count = c.args.self.now.count + 1 }) c.args.courses.now c.send.new.courses true) (sym c.in-Sent.is)
    (c.send.ensures c.args.channels.now d (counted c.args.self.now d stands))

pub returns-in_ok-cut-in-Cut-clause-taken : goal.returns-in_ok-cut-in-Cut-clause-taken
returns-in_ok-cut-in-Cut-clause-taken c d stands =
    subst (λ (e : Item). TakesItem c.args.channels.now d e c.cut.new.self c.args.courses.now c.cut.new.courses true) (sym c.in-Cut.is)
    (c.in_ok-cut-in-Cut.ensures.taken d c.in-Cut.field-0 (counted c.args.self.now d stands))
