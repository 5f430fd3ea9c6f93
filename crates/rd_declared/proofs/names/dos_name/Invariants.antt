use Rattle.std.proofs.Common.{◌≡◌, ◌-◌, take, drop}
use Rattle.std.specs.Prelude.{length, replicate}
use Rattle.rd_declared.proofs.names.dos_name.Given as goal

-- the bytes so far, and zeros after them
abbrev pub invariant-loop-i : goal.invariant-loop-i
invariant-loop-i l = record {
  long : length l.dos ≡ 8;
  same : take l.i l.dos ≡ take l.i l.name;
  rest : drop l.i l.dos ≡ replicate (8 - l.i) 0;
}
