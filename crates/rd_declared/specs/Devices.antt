-- The devices of a session: memory drives and printers, as a script declares them.
use Rattle.std.specs.Prelude.{◌≡◌, ℕ, ◌-◌, ◌==◌, nat_le, if◌then◌else◌, List, [], ◌∷◌, ◌++◌, length, map, replicate, Option, Some, None}
use Rattle.std.specs.Option.{option_map_or}
use Rattle.std.specs.Ordering.{nat_cmp}
use Rattle.std.specs.BTreeMap.{insert_entry}
use Rattle.rd_base.specs.declared.journal.Key.{Key}
use Rattle.rd_base.specs.Fields.{text_bytes}
use Rattle.rd_devices.specs.declared.list.Announce.{Announce}
use Rattle.rd_devices.specs.PrinterInfo.{printer_bytes}
use Rattle.rd_dirinfo.specs.declared.naming.Naming.{Naming}
use Rattle.rd_dirinfo.specs.declared.naming.Naming.TheVariants as naming
use Rattle.rd_dirinfo.specs.Paths.{Names}
use Rattle.rd_drive.specs.Answered.{drive_parked}
use Rattle.rd_drive.specs.declared.step.End.{End}
use Rattle.rd_drive.specs.declared.step.Step.{Step}
use Rattle.rd_drive.specs.Device.{Parked, is_starved}
use Rattle.rd_drive.specs.Planned.{Planned}
use Rattle.rd_drive.specs.DriveState.{DriveState, empty_drive, holding}
use Rattle.rd_drive.specs.DriveStep.{drive_cut, drive_step}
use Rattle.rd_drive.specs.Stepped.{Settled, Stepped, ran_step}
use Rattle.rd_host.specs.Served.{file_system, print_type}
use Rattle.rd_irp.specs.declared.op.Op.{Op}
use Rattle.rd_printer.specs.Cache.{CacheState, kept_for}
use Rattle.rd_printer.specs.Printer.{PrinterState, new_printer, printer_cut, printer_step}
use Rattle.rd_script.specs.declared.line.Line.{Line}
use Rattle.rd_declared.specs.declared.device.SessionDevice.{SessionDevice}
use Rattle.rd_declared.specs.declared.device.SessionDevice.TheVariants as session
use Rattle.rd_script.specs.declared.line.Line.TheVariants as line

-- what a request does to a device, which is a drive or a printer
abbrev pub of_drive : Stepped DriveState → Stepped SessionDevice
of_drive came = record { state = session.Drive came.state; answer = came.answer; ends = came.ends }

abbrev pub of_printer : Stepped PrinterState → Stepped SessionDevice
of_printer came = record { state = session.Printer came.state; answer = came.answer; ends = came.ends }

abbrev pub device_step : SessionDevice → Key → ℕ → Op → ℕ → Stepped SessionDevice
device_step (session.Drive s) key file op moment = of_drive (drive_step s key file op moment)
device_step (session.Printer s) key file op moment = of_printer (printer_step s key file op moment)

-- what is left of it when it is cut off, and the requests that end by that
abbrev pub device_cut : SessionDevice → Settled SessionDevice
device_cut (session.Drive s) = let cut = drive_cut s in record { state = session.Drive cut.state; ends = cut.ends }
device_cut (session.Printer s) = let cut = printer_cut s in record { state = session.Printer cut.state; ends = cut.ends }

-- the requests that wait in it, in the order in which they began to wait; none waits in a printer
abbrev pub device_parked : SessionDevice → List Parked
device_parked (session.Drive s) = drive_parked s
device_parked (session.Printer s) = []

-- A device runs a job: its state after it, the answer, and the ends of requests that waited are what the job comes to, or nothing came of it where it
-- says that no memory was found.
abbrev pub device_runs : SessionDevice → Planned → ℕ → Step → List End → SessionDevice → Type 0
device_runs old planned moment answer ends new =
    let job = planned.job in
    ran_step device_step old job.key job.file job.op moment (is_starved answer) ≡ record { state = new; answer = answer; ends = ends }

-- a device is cut off
abbrev pub device_cuts : SessionDevice → SessionDevice → Type 0
device_cuts old new = (device_cut old).state ≡ new

-- ---- as a script declares them

-- a printer's driver and name
pub record PrinterNames : Type 0 where
  pub driver : List ℕ
  pub printer : List ℕ

-- a device of a script: as it begins, the number of its type (MS-RDPEFS 2.2.1.3), its name, and a printer's names
pub record Declared : Type 0 where
  pub id : ℕ
  pub state : SessionDevice
  pub kind : ℕ
  pub name : List ℕ
  pub printer : Option PrinterNames

abbrev pub declared_drive : ℕ → Naming → List ℕ → Declared
declared_drive id how name = record { id = id; state = session.Drive (empty_drive how name); kind = file_system; name = name; printer = None }

-- with the device that a line declares
unfoldable pub declaring : List (ℕ × Declared) → Line → List (ℕ × Declared)
declaring devices (line.Drive device name) = insert_entry nat_cmp devices device (declared_drive device naming.Exact name)
declaring devices (line.DriveFold device name) = insert_entry nat_cmp devices device (declared_drive device naming.Folded name)
declaring devices (line.Printer device name driver printer) =
    insert_entry nat_cmp devices device (record { id = device; state = session.Printer new_printer; kind = print_type; name = name; printer = Some (record { driver = driver; printer = printer }) })
declaring devices _ = devices

-- a folder, or a file with bytes, on a drive; a printer has none
abbrev pub with_first : Names × Option (List ℕ) → Declared → Declared
with_first first d = record d { state = by d.state }
  where
    by : SessionDevice → SessionDevice
    by (session.Drive s) = session.Drive (holding s first)
    by (session.Printer s) = session.Printer s

abbrev pub holding_at : List (ℕ × Declared) → ℕ → Names × Option (List ℕ) → List (ℕ × Declared)
holding_at devices device first = map (λ (e : ℕ × Declared). (e.0, if e.0 == device then with_first first e.1 else e.1)) devices

-- with the folder or the file that a line makes
unfoldable pub furnishing : List (ℕ × Declared) → Line → List (ℕ × Declared)
furnishing devices (line.Folder device path) = holding_at devices device (path, None)
furnishing devices (line.File device path bytes) = holding_at devices device (path, Some bytes)
furnishing devices (line.Fill device path len byte) = holding_at devices device (path, Some (replicate len byte))
furnishing devices _ = devices

-- ---- how they are announced

-- a name, filled with zeros to eight bytes
abbrev pub dos_name : List ℕ → List ℕ
dos_name name = name ++ replicate (8 - length name) 0

-- the bytes of a text with a zero unit after it
abbrev pub zero_text : List ℕ → List ℕ
zero_text units = text_bytes (units ++ 0 ∷ [])

-- the most bytes of a configuration that is announced
abbrev pub max_config : ℕ
max_config = 16384

-- the configuration that is kept for a printer, where it isn't too long
abbrev pub config_of : CacheState → List ℕ → List ℕ
config_of cache name = option_map_or (λ (bytes : List ℕ). if nat_le (length bytes) max_config then bytes else []) (kept_for cache (zero_text name)) []

-- the data of a printer's announcement
abbrev pub printer_data : CacheState → PrinterNames → List ℕ
printer_data cache names =
    printer_bytes (record { flags = 0; page = 0; pnp = []; driver = zero_text names.driver; name = zero_text names.printer; config = config_of cache names.printer })

-- the data of a device's announcement; a drive has none
abbrev pub device_data : CacheState → Declared → List ℕ
device_data cache d = option_map_or (printer_data cache) d.printer []

abbrev pub announce_of : CacheState → Declared → Announce
announce_of cache d = record { kind = d.kind; id = d.id; dos = dos_name d.name; body = device_data cache d }
