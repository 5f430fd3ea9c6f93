-- The types of devices that a host serves, and the code that it answers an announcement with (MS-RDPEFS 2.2.1.3, 2.2.2.1).
use Rattle.std.specs.Prelude.{ℕ, ◌==◌, ◌||◌, Bool, not, nat_le, if◌then◌else◌, List, length}
use Rattle.std.specs.List.{list_any}
use Rattle.rd_base.specs.declared.status.Status.{Status}
use Rattle.rd_base.specs.Statuses as status
use Rattle.rd_base.specs.Limits.{max_devices}
use Rattle.rd_pending.specs.Table.{max_lives}

-- RDPDR_DTYP_FILESYSTEM and RDPDR_DTYP_PRINT
abbrev pub file_system : ℕ
file_system = 8

abbrev pub print_type : ℕ
print_type = 4

-- whether a host serves devices of a type
abbrev pub is_served_type : ℕ → Bool
is_served_type kind = kind == file_system || kind == print_type

-- The code for a device of a type, where the devices with these ids have a life, and so many lives were given: one that is served begins a life, unless it
-- has one already, or there is no room.
abbrev pub code_for : List ℕ → ℕ → (kind device : ℕ) → Status
code_for alive given kind device =
    if not (is_served_type kind) then status.not_supported
    else (if list_any (λ id. id == device) alive then status.object_name_collision
    else (if nat_le max_devices (length alive) || nat_le max_lives given then status.insufficient_resources
    else status.success))
