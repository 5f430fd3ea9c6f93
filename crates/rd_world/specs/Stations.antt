-- The stations of a session's devices, each with its device's id, by rising ids.
use Rattle.std.specs.Prelude.{◌≡◌, ℕ, ◌≤◌, Bool, false, not, List, length, slice_get, Option, Some, None, All}
use Rattle.std.specs.List.{AllZip, zip}
use Rattle.std.specs.List.Sorted.{IsStrictlySortedBy}
use Rattle.std.specs.Map.{keys_of, lookup}
use Rattle.std.specs.Option.{option_map_or}
use Rattle.std.specs.Ordering.{nat_cmp}
use Rattle.std.specs.BTreeMap.{insert_entry, is_at}
use Rattle.rd_base.specs.declared.journal.Key.{Key}
use Rattle.rd_station.specs.Station.{StationCall, StationState, StationStep, drop_channel, drops}
use Rattle.rd_station.specs.Tied.{IsReached}
use Rattle.rd_world.specs.Bits.{Marks}
use Rattle.rd_declared.specs.Devices.{device_cut, device_cuts, device_parked, device_runs}
use Rattle.rd_world.specs.Events.{is_empty}
use Rattle.rd_world.specs.Keys.{AreUpTo, KeysApart}
use Rattle.rd_declared.specs.declared.device.SessionDevice.{SessionDevice}
use Rattle.rd_declared.specs.Declaring.{max_session_devices}

-- a station of a session came to be by its calls
abbrev pub IsReachedBy : StationState SessionDevice → Type 0
IsReachedBy s = IsReached device_runs device_parked device_cuts s

-- The ids rise, there are few stations, each came to be by its calls, and no key is named at two of them.
pub record AreStations (stations : List (ℕ × StationState SessionDevice)) : Type 0 where
  pub rise : IsStrictlySortedBy nat_cmp (keys_of stations)
  pub few : length stations ≤ max_session_devices
  pub reached : All (λ (e : ℕ × StationState SessionDevice). IsReachedBy e.1) stations
  pub apart : KeysApart stations

-- ---- which stations have something to do

-- whether a job waits for a hand
abbrev pub has_waiting : StationState SessionDevice → Bool
has_waiting s = not (is_empty s.waiting)

-- whether a completion can be collected
abbrev pub has_ready : StationState SessionDevice → Bool
has_ready s = not (is_empty s.ready)

-- whether a station stands at a place of which a test holds
abbrev pub holds_at : {X : Type 0} → (X → Bool) → List (ℕ × X) → ℕ → Bool
holds_at {X} test stations place = option_map_or (λ (e : ℕ × X). test e.1) (slice_get stations place) false

-- What a program keeps of stations: the ids and the stations side by side, which of them have something to do, in words of bits, and the key that came last.
pub record KeepsStations (ids : List ℕ) (list : List (StationState SessionDevice)) (waiting ready : ℕ) (last : Option Key) : Type 0 where
  pub same : length list ≡ length ids
  pub are : AreStations (zip ids list)
  pub waiting_marks : Marks waiting (holds_at has_waiting (zip ids list)) 64
  pub ready_marks : Marks ready (holds_at has_ready (zip ids list)) 64
  pub up_to : AreUpTo (zip ids list) last

-- ---- what calls do

-- The station at a place does a call, and no other changes.
pub record StepsAt (old : List (ℕ × StationState SessionDevice)) (place : ℕ) (call : StationCall) (new : List (ℕ × StationState SessionDevice)) : Type 0 where
  pub id : ℕ
  pub before : StationState SessionDevice
  pub after : StationState SessionDevice
  pub there : slice_get old place ≡ Some (id, before)
  pub found : lookup (is_at (nat_cmp id)) old ≡ Some before
  pub step : StationStep device_runs device_parked device_cuts before call after
  pub put_back : new ≡ insert_entry nat_cmp old id after

-- The channel of one of them ends.
pub record DropsOne (before after : StationState SessionDevice) : Type 0 where
  pub step : StationStep device_runs device_parked device_cuts before drops after
  pub reached : IsReachedBy after

-- The channel ends, and with it that of each station.
abbrev pub DropsEach : List (ℕ × StationState SessionDevice) → List (ℕ × StationState SessionDevice) → Type 0
DropsEach old new = AllZip (λ (e : ℕ × StationState SessionDevice) (f : ℕ × StationState SessionDevice). (f.0 ≡ e.0) × DropsOne e.1 f.1) old new

-- what is left of a station when its channel ends
abbrev pub dropped_station : ℕ × StationState SessionDevice → ℕ × StationState SessionDevice
dropped_station e = let s = e.1 in (e.0, drop_channel s (device_cut s.device).state)

-- Where the station of a device stands, if it has one.
abbrev pub IsPlaceOf : List (ℕ × StationState SessionDevice) → ℕ → Option ℕ → Type 0
IsPlaceOf stations device None = lookup (is_at (nat_cmp device)) stations ≡ None
IsPlaceOf stations device (Some place) =
    (s : StationState SessionDevice) × (slice_get stations place ≡ Some (device, s)) × (lookup (is_at (nat_cmp device)) stations ≡ Some s)
