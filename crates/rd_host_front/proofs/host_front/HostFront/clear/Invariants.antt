use Rattle.std.proofs.Common.{◌≡◌, length}
use Rattle.std.specs.Prelude.{[]}
use Rattle.rd_host_front.proofs.host_front.HostFront.clear.Given as goal

-- what there is to send is handed out, and nothing else changes
abbrev pub invariant-loop : goal.invariant-loop
invariant-loop g l = record {
  core : record l.self-inside.core { core = record l.self-inside.core.core { outbox = [] } } ≡ record l.fn.self.core { core = record l.fn.self.core.core { outbox = [] } };
  table : l.self-inside.table ≡ l.fn.self.table;
  channel : l.self-inside.channel ≡ l.fn.self.channel;
}

abbrev pub decreases-loop : goal.decreases-loop
decreases-loop g l = length l.self-inside.core.core.outbox
