use Rattle.std.proofs.Common.{◌≡◌, ◌+◌}
use Rattle.rd_drive.proofs.settle.give_back.Given as goal

abbrev pub invariant-loop : goal.invariant-loop
invariant-loop l = record {
  same : l.locks.locks ≡ l.initial.locks.locks;
  left : l.locks.reserved + l.index ≡ l.initial.locks.reserved;
}
