use Rattle.std.proofs.Common.{[], subst, sym, false}
use Rattle.rd_carry.specs.Outgoing.{OutgoingState}
use Rattle.rd_host_channel.specs.Putting.{PutsTo}
use Rattle.rd_host_channel.proofs.PuttingLemmas.{flushed}
use Rattle.rd_host_channel.proofs.putting.starve.Goals as goal

pub returns-clause-put : goal.returns-clause-put
returns-clause-put g c = subst (λ (s : OutgoingState). PutsTo false [] c.args.output.now s) (sym c.hang_up.ensures) (flushed c.args.output.now c.flush.new.self c.flush.ensures.since c.flush.ensures.over)
