use Rattle.std.proofs.Common.{◌≡◌, false, take}
use Rattle.std.specs.List.{list_any}
use Rattle.rd_world.proofs.LeftLemmas.{has_left}
use Rattle.rd_world.proofs.world.World.is_left_waiting.Given as goal

-- none of the stations so far has such a request
abbrev pub invariant-loop-place : goal.invariant-loop-place
invariant-loop-place l = list_any (has_left (l.self).channels) (take l.place (l.self).stations) ≡ false
