use Rattle.std.proofs.Common.{◌≡◌, ◌+◌, ◌++◌, take}
use Rattle.rd_locks.specs.Locks.{wanted_locks}
use Rattle.rd_locks.proofs.locks.Locks.put_all.Given as goal

abbrev pub invariant-loop-range : goal.invariant-loop-range
invariant-loop-range l = record {
  locks : l.self.locks ≡ l.initial.self.locks ++ wanted_locks l.node l.file l.exclusive (take l.range-index l.ranges);
  reserved : l.self.reserved + l.range-index ≡ l.initial.self.reserved;
}
