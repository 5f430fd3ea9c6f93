use Rattle.std.proofs.Common.{◌≡◌, length}
use Rattle.std.specs.Prelude.{[]}
use Rattle.rd_world.specs.Client.{KeepsClient}
use Rattle.rd_world.proofs.client.Client.clear.Given as goal

-- what there is to send is handed out, and nothing else changes
abbrev pub invariant-loop : goal.invariant-loop
invariant-loop l = record {
  core : record l.self-inside.core { core = record l.self-inside.core.core { outbox = [] } } ≡ record l.fn.self { core = record l.fn.self.core { outbox = [] } };
  keeps : KeepsClient l.self-inside.core l.self-inside.ids.items;
}

abbrev pub decreases-loop : goal.decreases-loop
decreases-loop l = length l.self-inside.core.core.outbox
