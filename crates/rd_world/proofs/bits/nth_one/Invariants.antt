use Rattle.std.proofs.Common.{◌≡◌, ◌<◌, ◌^◌, drop}
use Rattle.rd_world.specs.Bits.{has, where_holds}
use Rattle.rd_world.proofs.bits.nth_one.Given as goal

-- the places so far are cleared
abbrev pub invariant-loop-passed : goal.invariant-loop-passed
invariant-loop-passed l = record { fits : l.rest < 2 ^ 64; cleared : where_holds (has l.rest) 64 ≡ drop l._passed (where_holds (has l.fn.word) 64) }
