-- With which data a client announces its devices.
use Rattle.std.specs.Prelude.{◌≡◌, ◌⊎◌, ℕ, true, List, [], ◌∷◌}
use Rattle.std.specs.List.{AllByRecursion}
use Rattle.rd_devices.specs.declared.list.Announce.{Announce}
use Rattle.rd_devices.specs.DeviceList.{list_bytes}
use Rattle.rd_devices.specs.Removal.{removal_bytes}
use Rattle.rd_printer.specs.Cache.{CacheState}
use Rattle.rd_world.specs.Acts.{is_telling}
use Rattle.rd_declared.specs.Devices.{Declared, announce_of}
use Rattle.rd_deeds.specs.Talk.{Deed, Has, client_writes}

-- The announcement of one of these devices has the type, the name and the data that were declared. A printer's data also has what is kept for its name, whatever that is here.
abbrev pub IsAnnounceOf : List (ℕ × Declared) → Announce → Type 0
IsAnnounceOf devices a = (d : ℕ × Declared) × (kept : CacheState) × Has d devices × (a ≡ announce_of kept d.1)

-- A message that tells of devices removes one, or it is a list of such announcements.
abbrev pub TellsOwn : List (ℕ × Declared) → List ℕ → Type 0
TellsOwn devices message =
    is_telling message ≡ true → ((device : ℕ) × (message ≡ removal_bytes (device ∷ []))) ⊎ ((list : List Announce) × (message ≡ list_bytes list) × AllByRecursion (IsAnnounceOf devices) list)

-- so is what is written by a deed
abbrev pub AnnouncesOwn : List (ℕ × Declared) → Deed → Type 0
AnnouncesOwn devices (client_writes channel message) = TellsOwn devices message
AnnouncesOwn devices _ = Unit {0}
