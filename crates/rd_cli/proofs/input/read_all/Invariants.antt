use Rattle.std.proofs.Common.{◌+◌, ◌-◌, ◌≤◌, vec_len}
use Rattle.rd_cli.specs.Outside.{Read, stream}
use Rattle.rd_cli.proofs.input.read_all.Given as goal

-- the bytes were read of the input so far, with no fault, and are at most a piece more than is wanted
abbrev pub invariant-loop-piece : goal.invariant-loop-piece
invariant-loop-piece g l = record {
  read : Read (stream g.S.Source.left g.S.Source.faults l.fn.input) (stream g.S.Source.left g.S.Source.faults l.input) l.bytes.items;
  bound : vec_len l.bytes ≤ l.most + 8192;
}

-- how many bytes may still come before the read stops
abbrev pub decreases-loop-piece : goal.decreases-loop-piece
decreases-loop-piece g l = l.most + 1 - vec_len l.bytes
