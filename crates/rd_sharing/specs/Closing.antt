-- What closing folders does to the count of their faults.
use Rattle.std.specs.Prelude.{◌≡◌, ℕ, fold, List, map}
use Rattle.std.specs.List.{AllByRecursion}
use Rattle.rd_link.specs.Links.{more_faults}
use Rattle.rd_station.specs.Station.{StationState}
use Rattle.rd_served_devices.specs.ServedDevices as served
use Rattle.rd_served_devices.specs.ServedDevices.{ServedDeviceState}

-- a count of faults with those of a device's folder, if it is a drive over one
abbrev pub trouble_with : ℕ → ServedDeviceState → ℕ
trouble_with count (served.made device) = count
trouble_with count (served.over drive) = more_faults count (drive.faults).count

-- the same of some devices
abbrev pub trouble_after : ℕ → List ServedDeviceState → ℕ
trouble_after count devices = fold trouble_with count devices

-- the devices of stations
abbrev pub station_devices : List (StationState ServedDeviceState) → List ServedDeviceState
station_devices stations = map (λ (s : StationState ServedDeviceState). s.device) stations

-- a device whose folder had no fault, if it is a drive over one
abbrev pub IsUntroubled : ServedDeviceState → Type 0
IsUntroubled (served.made device) = Unit {0}
IsUntroubled (served.over drive) = (drive.faults).count ≡ 0

abbrev pub AreUntroubled : List ServedDeviceState → Type 0
AreUntroubled devices = AllByRecursion IsUntroubled devices
