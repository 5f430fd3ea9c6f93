use Rattle.std.proofs.Common.{◌≡◌, fold}
use Rattle.std.specs.Prelude.{take}
use Rattle.rd_host.specs.Core.{IsHostReady}
use Rattle.rd_deeds.specs.Host.{admits}
use Rattle.rd_world.proofs.host.Host.admit_all.Given as goal

abbrev pub invariant-loop-device : goal.invariant-loop-device
invariant-loop-device l = record {
  admitted : l.self ≡ fold admits l.fn.self (take l.device-index l.fn.devices);
  ready : IsHostReady l.self.core;
}
