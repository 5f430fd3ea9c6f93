use Rattle.std.proofs.Common.{◌≡◌, ◌≤◌, ℕ, suc, false}
use Rattle.rd_world.specs.Hearing.{host_handles}
use Rattle.rd_world.specs.World.{most_messages}
use Rattle.rd_world.proofs.HandlingLemmas.{left_in}
use Rattle.rd_world.proofs.world.World.host_handle.Given as goal

-- what is still to be handled is handled from here
abbrev pub invariant-handling : goal.invariant-handling
invariant-handling l = record {
  reached : (k : ℕ) × (host_handles (most_messages l.initial.self.to_host) l.initial.self ≡ host_handles (suc k) l.self) × (left_in (l.self.to_host) ≤ k);
  going : (l.self.to_host).ended ≡ false;
}

abbrev pub decreases-handling : goal.decreases-handling
decreases-handling l = left_in l.self.to_host
