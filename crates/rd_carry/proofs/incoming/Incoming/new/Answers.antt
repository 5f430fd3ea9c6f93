use Rattle.rd_carry.proofs.IncomingLemmas.{heard_of, kept_new}
use Rattle.rd_carry.proofs.incoming.Incoming.new.Goals as goal

pub returns-clause-heard : goal.returns-clause-heard
returns-clause-heard g c =
    heard_of (g.S.Source.left c.args.source) (g.S.Source.faults c.args.source) c.new.result c.args.buffer.items 0 0 0 0 c.new-2.result.items c.new-3.result.items
    (kept_new c.new.result c.args.buffer.items c.new-2.result.items c.new-3.result.items c.new.ensures.stands c.new.ensures.none_waits c.requires c.new-2.ensures c.new-3.ensures)
