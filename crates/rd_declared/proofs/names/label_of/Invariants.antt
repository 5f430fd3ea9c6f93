use Rattle.std.proofs.Common.{◌≡◌, take}
use Rattle.rd_declared.proofs.names.label_of.Given as goal

-- the bytes so far are units
abbrev pub invariant-loop-byte : goal.invariant-loop-byte
invariant-loop-byte l = l.label.items ≡ take l.byte-index l.name
