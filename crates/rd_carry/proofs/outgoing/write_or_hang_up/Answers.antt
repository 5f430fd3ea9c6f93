use Rattle.std.proofs.Common.{sym, ◌∙◌}
use Rattle.rd_carry.proofs.OutgoingLemmas.{all_prefix, on_ok}
use Rattle.rd_carry.proofs.outgoing.write_or_hang_up.Goals as goal

pub returns-else-is_err-clause-prefix : goal.returns-else-is_err-clause-prefix
returns-else-is_err-clause-prefix g c =
    all_prefix (g.K.Sink.held c.args.sink.now) (g.K.Sink.held c.write_all.new.output) c.args.bytes.now
    (on_ok c.write_all.result _ (sym c.is_err.ensures.value ∙ c.if-is_err.false) c.write_all.ensures.written)
