-- When a station's journal has no room for another request.
use Rattle.std.specs.Prelude.{◌-◌, ◌<◌}
use Rattle.rd_station.specs.Station.{StationCall, StationState, drops, ends, entry_count, max_entries}

-- no job may come, by the places of the journal that are spoken for
abbrev pub IsWorn : {S : Type 0} → StationState S → Type 0
IsWorn s = max_entries - 3 < entry_count s

-- a call by which no channel ends
abbrev pub EndsNoChannel : StationCall → Type 0
EndsNoChannel drops = ⊥
EndsNoChannel ends = ⊥
EndsNoChannel _ = Unit {0}
