use Rattle.std.proofs.Common.{◌≡◌, ◌≤◌, ◌<◌, ◌+◌, ◌==◌, ◌&&◌, ℕ, not, false, length}
use Rattle.rd_locks.specs.Slots.{slot_at, standing, IsChained, Follows}
use Rattle.rd_locks.proofs.slots.release_everywhere.Given as goal

abbrev pub invariant-loop-i : goal.invariant-loop-i
invariant-loop-i l = record {
  follows : Follows l.initial.slots l.slots;
  chained : IsChained l.slots;
  settled : (i : ℕ) → ((slot_at l.initial.slots i).stands ≡ false → (slot_at l.initial.slots i).linked ≡ false) → (slot_at l.slots i).stands ≡ false → (slot_at l.slots i).linked ≡ false;
  done : (i : ℕ) → i < l.i → (slot_at l.slots i).stands ≡ ((slot_at l.initial.slots i).stands && not ((slot_at l.initial.slots i).lock.file == l.file));
  others : (i : ℕ) → l.i ≤ i → (slot_at l.slots i).stands ≡ (slot_at l.initial.slots i).stands;
  count : length (standing l.slots) + l.count ≡ length (standing l.initial.slots);
}
