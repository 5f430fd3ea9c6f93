-- What lines declare: the limits of a script, the devices that come of its lines, and that a session can open them.
use Rattle.std.specs.Prelude.{◌≡◌, ℕ, ◌≤◌, ◌^◌, List, [], length, map, Some, IfSome, fold}
use Rattle.std.specs.List.{AllByRecursion}
use Rattle.std.specs.List.Sorted.{IsStrictlySortedBy}
use Rattle.std.specs.Map.{keys_of}
use Rattle.std.specs.Ordering.{nat_cmp}
use Rattle.rd_host.specs.Served.{print_type}
use Rattle.rd_printer.specs.Printer.{new_printer}
use Rattle.rd_script.specs.declared.line.Line.{Line}
use Rattle.rd_script.specs.declared.line.Line.TheVariants as line
use Rattle.rd_script.specs.declared.line.NumberedLine.{NumberedLine}
use Rattle.rd_declared.specs.Devices.{Declared, device_parked, declaring, furnishing, max_config}
use Rattle.rd_declared.specs.Printers.{AreShortNames, max_printer_units}
use Rattle.rd_declared.specs.declared.device.SessionDevice.TheVariants as session

-- the most bytes of a device's name in a script
abbrev pub max_device_name : ℕ
max_device_name = 7

-- the most bytes that a read takes at once
abbrev pub max_piece : ℕ
max_piece = 65536

-- the most hands
abbrev pub max_hands : ℕ
max_hands = 16

-- the most devices of a session
abbrev pub max_session_devices : ℕ
max_session_devices = 32

-- What a line says of settings and devices is within the limits of a script.
unfoldable pub IsDeclarable : Line → Type 0
IsDeclarable (line.Piece most) = (1 ≤ most) × (most ≤ max_piece)
IsDeclarable (line.Workers count) = (1 ≤ count) × (count ≤ max_hands)
IsDeclarable (line.Drive device name) = length name ≤ max_device_name
IsDeclarable (line.DriveFold device name) = length name ≤ max_device_name
IsDeclarable (line.Printer device name driver printer) =
    (length name ≤ max_device_name) × (length driver ≤ max_printer_units) × (length printer ≤ max_printer_units)
IsDeclarable (line.File device path bytes) = length bytes ≤ 2 ^ 40
IsDeclarable _ = Unit {0}

-- the same of each of some lines
abbrev pub AreDeclarable : List NumberedLine → Type 0
AreDeclarable lines = AllByRecursion (λ (l : NumberedLine). IsDeclarable l.line) lines

-- the lines without their numbers
abbrev pub bare_lines : List NumberedLine → List Line
bare_lines lines = map (λ (l : NumberedLine). l.line) lines

-- What a line tells of a printer is within the limits of a script.
unfoldable pub IsNotable : Line → Type 0
IsNotable (line.CacheAdd port driver printer bytes) =
    (length port ≤ max_device_name) × (length driver ≤ max_printer_units) × (length printer ≤ max_printer_units) × (length bytes ≤ max_config)
IsNotable (line.CacheUpdate printer bytes) = (length printer ≤ max_printer_units) × (length bytes ≤ max_config)
IsNotable (line.CacheDelete printer) = length printer ≤ max_printer_units
IsNotable (line.CacheRename old new) = (length old ≤ max_printer_units) × (length new ≤ max_printer_units)
IsNotable _ = Unit {0}

-- the same of each of some lines
abbrev pub AreNotable : List NumberedLine → Type 0
AreNotable lines = AllByRecursion (λ (l : NumberedLine). IsNotable l.line) lines

-- ---- devices

-- the devices that lines declare, with what is on them, by their ids
abbrev pub declared_devices : List Line → List (ℕ × Declared)
declared_devices lines = fold furnishing (fold declaring [] lines) lines

-- Each line is within the limits, and they declare few devices.
pub record AreDeclared (lines : List NumberedLine) : Type 0 where
  pub each : AreDeclarable lines
  pub few : length (declared_devices (bare_lines lines)) ≤ max_session_devices

-- a printer as a line declares it
abbrev pub declared_printer : ℕ → List ℕ → List ℕ → List ℕ → Declared
declared_printer id name driver printer =
    record { id = id; state = session.Printer new_printer; kind = print_type; name = name; printer = Some (record { driver = driver; printer = printer }) }

-- a device with its id, on which no request waits, and whose names are within the limits
pub record IsOpenable (e : ℕ × Declared) : Type 0 where
  pub same : (e.1).id ≡ e.0
  pub name : length (e.1).name ≤ max_device_name
  pub quiet : device_parked (e.1).state ≡ []
  pub names : IfSome (e.1).printer AreShortNames

-- few devices, by rising ids
pub record AreOpenable (devices : List (ℕ × Declared)) : Type 0 where
  pub rise : IsStrictlySortedBy nat_cmp (keys_of devices)
  pub few : length devices ≤ max_session_devices
  pub each : AllByRecursion IsOpenable devices
