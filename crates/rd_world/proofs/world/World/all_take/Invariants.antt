use Rattle.std.proofs.Common.{◌≡◌, ◌+◌, length}
use Rattle.std.specs.Prelude.{fold}
use Rattle.rd_world.specs.Bits.{has, where_holds}
use Rattle.rd_world.specs.Hearing.{all_take}
use Rattle.rd_world.proofs.OutcomesLemmas.{takes_at}
use Rattle.rd_world.proofs.world.World.all_take.Given as goal

-- those that are left take what all were to take
abbrev pub invariant-loop-taken : goal.invariant-loop-taken
invariant-loop-taken l = record {
  take : fold takes_at l.self (where_holds (has l.awaiting) 64) ≡ all_take l.fn.self;
  left : length (where_holds (has l.awaiting) 64) + l._taken ≡ length (where_holds (has l.initial.awaiting) 64);
}
