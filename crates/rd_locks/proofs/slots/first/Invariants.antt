use Rattle.std.proofs.Common.{◌≡◌, ◌≤◌, ◌<◌, ◌-◌, ℕ, true, false, length}
use Rattle.rd_locks.specs.Slots.{slot_at, shows}
use Rattle.rd_locks.proofs.slots.first.Given as goal

abbrev pub invariant-loop-place : goal.invariant-loop-place
invariant-loop-place l = record {
  within : l.place ≤ l.first;
  first_within : l.first ≤ length l.slots;
  same : 0 < l.place → (slot_at l.slots (l.place - 1)).lock.node ≡ l.wanted.node;
  before : (i : ℕ) → l.place ≤ i → i < l.first → shows l.aim l.wanted (slot_at l.slots i) ≡ false;
  found : l.first < length l.slots → shows l.aim l.wanted (slot_at l.slots l.first) ≡ true;
}

abbrev pub decreases-loop-place : goal.decreases-loop-place
decreases-loop-place l = l.place
