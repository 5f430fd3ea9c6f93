use Rattle.std.proofs.Common.{◌≡◌, drop}
use Rattle.std.specs.Prelude.{find}
use Rattle.rd_locks.specs.Locks.{is_in_way, wanted_locks}
use Rattle.rd_locks.proofs.locks.first_wanted.Given as goal

abbrev pub invariant-loop-range : goal.invariant-loop-range
invariant-loop-range l =
    find (is_in_way l.wanted) (wanted_locks l.wanted.node l.wanted.file l.wanted.exclusive l.ranges)
    ≡ find (is_in_way l.wanted) (wanted_locks l.wanted.node l.wanted.file l.wanted.exclusive (drop l.range-index l.ranges))
