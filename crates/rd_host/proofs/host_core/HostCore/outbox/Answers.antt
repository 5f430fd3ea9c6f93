use Rattle.rd_host.proofs.KeptLemmas.{end_sent_kept}
use Rattle.rd_host.proofs.host_core.HostCore.outbox.Goals as goal

pub invariant_of-self : goal.invariant_of-self
invariant_of-self c = end_sent_kept _ _ _ c.self.invariant c.send.ensures

pub returns-clause-kept : goal.returns-clause-kept
returns-clause-kept c = end_sent_kept _ _ _ c.self.invariant c.send.ensures
