use Rattle.std.proofs.Common.{◌≡◌, ◌≤◌, ◌<◌, ◌-◌, ℕ, length}
use Rattle.rd_locks.specs.Slots.{slot_at, StaysLinked}
use Rattle.rd_locks.proofs.slots.stand_again.Given as goal

abbrev pub invariant-loop-place : goal.invariant-loop-place
invariant-loop-place l = record {
  within : l.place ≤ length l.slots;
  same : 0 < l.place → (slot_at l.slots (l.place - 1)).lock.node ≡ l.node;
  stays : StaysLinked l.initial.slots l.slots;
  again : (i : ℕ) → l.place ≤ i → (slot_at l.initial.slots i).lock.node ≡ l.node → (slot_at l.slots i).stands ≡ (slot_at l.initial.slots i).linked;
  others : (i : ℕ) → ((slot_at l.initial.slots i).lock.node ≡ l.node → ⊥) → (slot_at l.slots i).stands ≡ (slot_at l.initial.slots i).stands;
}

abbrev pub decreases-loop-place : goal.decreases-loop-place
decreases-loop-place l = l.place
