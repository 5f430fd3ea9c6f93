use Rattle.std.proofs.Common.{◌≤◌, ◌+◌}
use Rattle.rd_host.specs.Core.{IsHostReady}
use Rattle.rd_host_front.proofs.ListedLemmas.{AdmitsOn}
use Rattle.rd_host_front.proofs.host_front.HostFront.admit_all.Given as goal

-- those that are left come to what all come to
abbrev pub invariant-loop-device : goal.invariant-loop-device
invariant-loop-device g l = record {
  on : AdmitsOn l.devices l.device-index l.fn.self l.self;
  ready : IsHostReady l.self.core;
  few : l.self.unsent ≤ l.fn.self.unsent + l.device-index;
}
