use Rattle.std.proofs.Common.{◌≡◌, ◌+◌, ◌++◌, length, drop}
use Rattle.rd_locks.specs.Slots.{standing}
use Rattle.rd_locks.proofs.locks.Locks.rebuilt.Given as goal

abbrev pub invariant-loop-slot : goal.invariant-loop-slot
invariant-loop-slot l = record {
  locks : l.rebuilt.locks ++ standing (drop l.slot-index l.slot-items) ≡ l.self.locks;
  reserved : l.rebuilt.reserved ≡ l.self.reserved + l.count + length (standing (drop l.slot-index l.slot-items));
}
