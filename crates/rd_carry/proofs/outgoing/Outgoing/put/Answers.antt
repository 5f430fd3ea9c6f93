use Rattle.std.proofs.Common.{sym, subst}
use Rattle.rd_base.proofs.ResultLemmas.{on_ok_of, of_on_ok}
use Rattle.rd_carry.specs.Outgoing.{HasWritten}
use Rattle.rd_carry.proofs.OutgoingLemmas.{written_put}
use Rattle.rd_carry.proofs.outgoing.Outgoing.put.Goals as goal

-- The message's frames wait after the others.
pub returns-clause-since : goal.returns-clause-since
returns-clause-since g c = on_ok_of c.gather.result (λ ok began messages w.
    let half = c.self.inside in
    written_put began (g.K.Sink.held half.sink) half.failed (g.K.Sink.faults half.sink) messages half.buffer.items c.gather.new.buffer.items _ _ c.args.message.now
    c.requires c.self.invariant.failed_is (of_on_ok c.gather.result ok c.gather.ensures.items) (subst (HasWritten began messages) (sym c.self.view_is) w))
