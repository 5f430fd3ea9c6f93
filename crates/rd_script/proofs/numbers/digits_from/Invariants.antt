use Rattle.std.proofs.Common.{◌≡◌, ◌<◌, ◌^◌, drop}
use Rattle.rd_script.specs.Numbers.{digits_from, small}
use Rattle.rd_script.proofs.numbers.digits_from.Given as goal

-- what the digits that are left say after those that were read
abbrev pub invariant-loop-byte : goal.invariant-loop-byte
invariant-loop-byte l = record {
  fits : l.value < 2 ^ 64;
  said : small (digits_from l.base l.value (drop l.byte-index l.digits)) ≡ small (digits_from l.base 0 l.digits);
}
