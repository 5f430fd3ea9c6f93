use Rattle.std.proofs.Common.{◌≡◌, ◌≤◌, ℕ, length, get_or, take}
use Rattle.std.specs.List.{AllZip}
use Rattle.rd_station.specs.Station.{StationState}
use Rattle.rd_world.specs.Stations.{DropsOne}
use Rattle.rd_declared.specs.declared.device.SessionDevice.{SessionDevice}
use Rattle.rd_world.proofs.stations.drop_each.Given as goal

-- those before the place are dropped, and the others are as they were
abbrev pub invariant-loop-place : goal.invariant-loop-place
invariant-loop-place l = record {
  dropped : AllZip DropsOne (take l.place l.fn.list) (take l.place l.list);
  rest : (j : ℕ) (d : StationState SessionDevice) → l.place ≤ j → get_or l.list j d ≡ get_or l.fn.list j d;
  same : length l.list ≡ length l.fn.list;
}
