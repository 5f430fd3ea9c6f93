use Rattle.std.proofs.Common.{◌≡◌, ◌*◌, ◌≤◌, take}
use Rattle.std.specs.List.{sum}
use Rattle.rd_cli.proofs.summary.sum_of.Given as goal

-- the sum of the bytes so far, of which each is at most 255
abbrev pub invariant-loop-byte : goal.invariant-loop-byte
invariant-loop-byte l = record {
  is : l.sum ≡ sum (take l.byte-index l.bytes);
  few : l.sum ≤ 255 * l.byte-index;
}
