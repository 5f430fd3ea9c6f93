use Rattle.std.proofs.Common.{◌≡◌, ◌++◌, map, take, drop}
use Rattle.rd_station.specs.Station.{marked_removed}
use Rattle.rd_station.proofs.held.mark_all.Given as goal

abbrev pub invariant-loop-place : goal.invariant-loop-place
invariant-loop-place l = l.taken ≡ map marked_removed (take l.place l.initial.taken) ++ drop l.place l.initial.taken
