use Rattle.std.proofs.Common.{◌≡◌, map, take, drop, ◌++◌}
use Rattle.rd_pending.specs.Slots.{died}
use Rattle.rd_pending.proofs.slots.kill_all.Given as goal

abbrev pub invariant-loop-place : goal.invariant-loop-place
invariant-loop-place l = l.places ≡ map (died l.device) (take l.place-index l.initial.places) ++ drop l.place-index l.initial.places
