use Rattle.std.proofs.Common.{◌≡◌, ◌≤◌, ℕ}
use Rattle.rd_locks.specs.Slots.{slot_at, Leads, IsChained, Follows}
use Rattle.rd_locks.proofs.slots.unlink_to_standing.Given as goal

abbrev pub invariant-loop-place : goal.invariant-loop-place
invariant-loop-place l = record {
  within : l.place ≤ l.initial.place;
  follows : Follows l.initial.slots l.slots;
  stands : (i : ℕ) → (slot_at l.slots i).stands ≡ (slot_at l.initial.slots i).stands;
  chained : IsChained l.slots;
  leads : (node i : ℕ) → Leads l.initial.slots node i l.initial.place → Leads l.slots node i l.place;
}

abbrev pub decreases-loop-place : goal.decreases-loop-place
decreases-loop-place l = l.place
