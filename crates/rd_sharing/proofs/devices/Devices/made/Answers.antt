use Rattle.std.proofs.Common.{sym, subst, ℕ}
use Rattle.std.specs.Prelude.{All}
use Rattle.std.specs.List.{AllByRecursion}
use Rattle.rd_client.specs.Events.{IsWritableDevice}
use Rattle.rd_station.specs.Station.{StationState}
use Rattle.rd_declared.specs.declared.device.SessionDevice.{SessionDevice}
use Rattle.rd_sharing.specs.Devices.{IsQuietStation}
use Rattle.rd_sharing.proofs.DevicesLemmas.{beside_quiet}
use Rattle.rd_sharing.proofs.devices.Devices.made.Goals as goal

pub stations_anew-requires : goal.stations_anew-requires
stations_anew-requires g c =
    beside_quiet c.finish-ids.result.0.items c.finish-ids.result.1.items c.finish-ids.ensures.same
    (subst (AllByRecursion (λ (e : ℕ × StationState SessionDevice). IsQuietStation e.1)) (sym c.finish-ids.ensures.stations) c.requires)

pub returns : goal.returns
returns g c = record {
  list = c.finish-ids.result.1.items;
  same = c.finish-ids.ensures.same;
  seen = c.finish-ids.ensures.stations;
  stations_are = c.in_ok-stations_anew.ensures;
  announced_are = c.in_ok-announced_anew.ensures.same;
  writable = subst (All IsWritableDevice) c.in_ok-announced_anew.ensures.same c.in_ok-announced_anew.ensures.writable;
}
