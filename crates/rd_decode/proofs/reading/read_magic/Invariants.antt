use Rattle.std.proofs.Common.{◌≤◌, ◌-◌, length, vec_len}
use Rattle.rd_decode.specs.Streams.{Read, stream}
use Rattle.rd_decode.proofs.reading.read_magic.Given as goal

-- what is held was read, and it isn't much
abbrev pub invariant-loop-alloc : goal.invariant-loop-alloc
invariant-loop-alloc g l =
    Read (stream g.S.Source.left g.S.Source.faults l.fn.input) (stream g.S.Source.left g.S.Source.faults l.input) l.held.items × (length l.held.items ≤ 65544)

-- how many bytes of the magic are missing
abbrev pub decreases-loop-alloc : goal.decreases-loop-alloc
decreases-loop-alloc g l = 8 - vec_len l.held
