use Rattle.std.proofs.Common.{◌∙◌, ap, sym, subst, false, []}
use Rattle.rd_carry.specs.Outgoing.{OutgoingState}
use Rattle.rd_host_channel.specs.Putting.{PutsTo}
use Rattle.rd_host_channel.proofs.PuttingLemmas.{flushed}
use Rattle.rd_host_channel.proofs.SendingLemmas.{sends}
use Rattle.rd_host_channel.proofs.sending.send.Goals as goal

pub returns-clause-sends : goal.returns-clause-sends
returns-clause-sends g c =
    sends c.args.channel false c.send_all.new.starved c.args.front.pass c.send_all.new.front.pass c.args.output c.send_all.new.output c.hang_up.new.self c.send_all.ensures.takes
    (subst (λ (s : OutgoingState). PutsTo false [] c.send_all.new.output s) (sym c.hang_up.ensures) (flushed c.send_all.new.output c.flush.new.self c.flush.ensures.since c.flush.ensures.over))
    (ap (λ (s : OutgoingState). s.pending) (c.hang_up.ensures ∙ c.flush.ensures.flushed))
