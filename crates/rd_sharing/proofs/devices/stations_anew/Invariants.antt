use Rattle.std.proofs.Common.{◌≡◌, ◌++◌, map}
use Rattle.std.specs.List.{AllByRecursion}
use Rattle.rd_sharing.specs.Devices.{IsQuietStation, anew}
use Rattle.rd_sharing.proofs.devices.stations_anew.Given as goal

-- the stations so far are made anew
abbrev pub invariant-loop-given : goal.invariant-loop-given
invariant-loop-given g l = record {
  so_far : l.stations.items ++ map anew l.given-iterator.rest.items ≡ map anew l.fn.list.items;
  quiet : AllByRecursion IsQuietStation l.given-iterator.rest.items;
}
