use Rattle.rd_core.proofs.KeptLemmas.{kept_new}
use Rattle.rd_hello.specs.declared.client.ClientState.TheVariants.{Start}
use Rattle.rd_client.specs.Core.{Outgoing}
use Rattle.rd_client.proofs.ListingLemmas.{announces_are}
use Rattle.rd_client.proofs.client_core.ClientCore.new.Goals as goal

pub invariant_of-result : goal.invariant_of-result
invariant_of-result c = record {
  core = rw c.new.ensures (kept_new (λ (o : Outgoing). o.message) Start);
  devices = rw (announces_are c.new-2.result c.into_vec.result.items, c.into_vec.ensures) c.requires;
}

pub returns-clause-kept : goal.returns-clause-kept
returns-clause-kept c = record {
  core = rw c.new.ensures (kept_new (λ (o : Outgoing). o.message) Start);
  devices = rw (announces_are c.new-2.result c.into_vec.result.items, c.into_vec.ensures) c.requires;
}
