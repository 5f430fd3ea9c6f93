use Rattle.std.proofs.Common.{◌≡◌, ◌+◌, None}
use Rattle.std.specs.Prelude.{replicate}
use Rattle.rd_world.specs.Bits.{Marks}
use Rattle.rd_world.specs.Hands.{is_free_hand}
use Rattle.rd_world.proofs.hands.Hands.new.Given as goal

-- the hands so far hold nothing
abbrev pub invariant-loop-place : goal.invariant-loop-place
invariant-loop-place l = record { made : l.list.items ≡ replicate l.place None; free : Marks l.free (λ place. is_free_hand (replicate l.place None) (place + 1)) 64 }
