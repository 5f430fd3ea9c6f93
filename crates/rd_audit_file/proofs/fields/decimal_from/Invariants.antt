use Rattle.std.proofs.Common.{◌≡◌, ◌<◌, ◌^◌, drop}
use Rattle.rd_audit_file.specs.Taken.{decimal_from, fitting}
use Rattle.rd_audit_file.proofs.fields.decimal_from.Given as goal

-- what the digits that are left say after those that were read
abbrev pub invariant-loop-byte : goal.invariant-loop-byte
invariant-loop-byte l = record {
  fits : l.value < 2 ^ 64;
  said : fitting 64 (decimal_from l.value (drop l.byte-index l.digits)) ≡ fitting 64 (decimal_from 0 l.digits);
}
