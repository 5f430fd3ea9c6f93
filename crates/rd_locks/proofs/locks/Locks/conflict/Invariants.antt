use Rattle.std.proofs.Common.{◌≡◌, ◌++◌, take, drop}
use Rattle.rd_locks.specs.Locks.{conflict, wanted_locks}
use Rattle.rd_locks.proofs.locks.Locks.conflict.Given as goal

abbrev pub invariant-loop-i : goal.invariant-loop-i
invariant-loop-i l =
    conflict l.self.locks (wanted_locks l.node l.file l.exclusive l.ranges)
    ≡ conflict (l.self.locks ++ wanted_locks l.node l.file l.exclusive (take l.i l.ranges)) (wanted_locks l.node l.file l.exclusive (drop l.i l.ranges))
