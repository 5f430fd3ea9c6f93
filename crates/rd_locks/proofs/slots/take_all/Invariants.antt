use Rattle.std.proofs.Common.{◌≡◌, ◌+◌, ℕ, false, length, drop}
use Rattle.rd_locks.specs.Locks.{unlocked}
use Rattle.rd_locks.specs.Slots.{slot_at, standing, StaysLinked}
use Rattle.rd_locks.proofs.slots.take_all.Given as goal

abbrev pub invariant-loop-range : goal.invariant-loop-range
invariant-loop-range l = record {
  stays : StaysLinked l.initial.slots l.slots;
  unlocked : unlocked l.node l.file (standing l.initial.slots) l.ranges ≡ unlocked l.node l.file (standing l.slots) (drop l.range-index l.ranges);
  count : length (standing l.slots) + l.range-index ≡ length (standing l.initial.slots);
  others : (i : ℕ) → ((slot_at l.initial.slots i).lock.node ≡ l.node → ⊥) → (slot_at l.slots i).stands ≡ (slot_at l.initial.slots i).stands;
  fewer : (i : ℕ) → (slot_at l.initial.slots i).stands ≡ false → (slot_at l.slots i).stands ≡ false;
}
