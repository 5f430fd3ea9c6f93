use Rattle.std.proofs.Common.{◌≡◌, drop, fold}
use Rattle.rd_client.specs.Core.{listed}
use Rattle.rd_devices.specs.declared.list.Announce.{Announce}
use Rattle.rd_world.specs.Hearing.{announcing}
use Rattle.rd_world.proofs.ListedLemmas.{announcing_listed}
use Rattle.rd_world.proofs.world.World.announce_listed.Given as goal

-- those that are left are announced to what all were to be announced to
abbrev pub invariant-loop-place : goal.invariant-loop-place
invariant-loop-place l = record {
  reached : announcing_listed l.self (drop l.place l.fn.self.client.devices) ≡ fold (λ w (a : Announce). announcing w a.id) l.fn.self (listed l.fn.self.client);
  client : l.self.client ≡ l.fn.self.client;
  way : l.self.to_client ≡ l.fn.self.to_client;
}
