use Rattle.rd_client.proofs.KeptLemmas.{kept_sent}
use Rattle.rd_client.proofs.client_core.ClientCore.outbox.Goals as goal

pub invariant_of-self : goal.invariant_of-self
invariant_of-self c = kept_sent _ _ _ c.self.invariant c.send.ensures

pub returns-clause-kept : goal.returns-clause-kept
returns-clause-kept c = kept_sent _ _ _ c.self.invariant c.send.ensures
