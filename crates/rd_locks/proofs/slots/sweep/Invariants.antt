use Rattle.std.proofs.Common.{◌≡◌, ◌≤◌, ◌<◌, ◌-◌, ℕ, true, false, length}
use Rattle.rd_locks.specs.Slots.{slot_at, Leads, IsChained, Follows}
use Rattle.rd_locks.proofs.slots.sweep.Given as goal

abbrev pub invariant-loop-place : goal.invariant-loop-place
invariant-loop-place l = record {
  within : l.place ≤ length l.slots;
  follows : Follows l.initial.slots l.slots;
  stands : (i : ℕ) → (slot_at l.slots i).stands ≡ (slot_at l.initial.slots i).stands;
  chained : IsChained l.slots;
  leads : Leads l.slots l.node (length l.slots) l.top;
  same : 0 < l.place → (slot_at l.slots (l.place - 1)).lock.node ≡ l.node;
  here : 0 < l.place → (slot_at l.slots (l.place - 1)).stands ≡ true;
  swept : (i : ℕ) → l.place ≤ i → (slot_at l.slots i).lock.node ≡ l.node → (slot_at l.slots i).stands ≡ false → (slot_at l.slots i).linked ≡ false;
}

abbrev pub decreases-loop-place : goal.decreases-loop-place
decreases-loop-place l = l.place
