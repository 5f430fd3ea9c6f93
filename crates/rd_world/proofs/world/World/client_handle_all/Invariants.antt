use Rattle.std.proofs.Common.{◌≡◌, ◌≤◌, ℕ, suc, false}
use Rattle.rd_world.specs.Hearing.{client_handles, client_handles_all}
use Rattle.rd_world.proofs.HandlingLemmas.{left_in}
use Rattle.rd_world.proofs.world.World.client_handle_all.Given as goal

-- what is still to be handled is handled from here
abbrev pub invariant-handling : goal.invariant-handling
invariant-handling l = record {
  reached : (k : ℕ) × (client_handles_all l.initial.self ≡ client_handles (suc k) l.self) × (left_in (l.self.to_client) ≤ k);
  going : (l.self.to_client).ended ≡ false;
}

abbrev pub decreases-handling : goal.decreases-handling
decreases-handling l = left_in l.self.to_client
