-- How devices are left.
use Rattle.std.specs.Prelude.{◌≡◌, ℕ, List, Some, reverse}
use Rattle.std.specs.Map.{lookup}
use Rattle.std.specs.Ordering.{nat_cmp}
use Rattle.std.specs.BTreeMap.{is_at}
use Rattle.rd_drive.specs.Replies.{last_state_by}
use Rattle.rd_station.specs.Station.{StationState}
use Rattle.rd_declared.specs.Devices.{Declared, device_cut, device_step}
use Rattle.rd_declared.specs.declared.device.SessionDevice.{SessionDevice}
use Rattle.rd_world.specs.Recording.{request_of}
use Rattle.rd_deeds.specs.Talk.{Deed, journal}

-- Each station is that of a device, which is as its journal leaves it, by the requests that were written.
abbrev pub AreLeft : List (ℕ × Declared) → List (ℕ × StationState SessionDevice) → List Deed → Type 0
AreLeft devices stations deeds = (device : ℕ) (s : StationState SessionDevice) → lookup (is_at (nat_cmp device)) stations ≡ Some s
    → (d : Declared) × (lookup (is_at (nat_cmp device)) devices ≡ Some d)
    × (s.device ≡ last_state_by device_step device_cut (request_of deeds) d.state (reverse (journal device deeds)))
