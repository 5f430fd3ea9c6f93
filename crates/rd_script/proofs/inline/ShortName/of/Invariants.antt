use Rattle.std.proofs.Common.{◌≡◌, length, take}
use Rattle.rd_script.proofs.inline.ShortName.of.Given as goal

-- the bytes so far
abbrev pub invariant-loop-i : goal.invariant-loop-i
invariant-loop-i l = record {
  long : length l.bytes ≡ 8;
  same : take l.i l.bytes ≡ take l.i l.name;
}
