-- What a script declares, as code keeps it: the limits of its lines, its settings, and how short its announcements are.
use Rattle.std.specs.Prelude.{◌≡◌, ℕ, ◌≤◌, List, [], length, map, replicate, None}
use Rattle.std.specs.List.{AllByRecursion}
use Rattle.std.specs.Map.{keys_of}
use Rattle.rd_client.specs.Core.{AreDevices, ClientCall, refreshes}
use Rattle.rd_devices.specs.declared.list.Announce.{Announce}
use Rattle.rd_script.specs.declared.line.Line.{Line}
use Rattle.rd_script.specs.declared.line.Line.TheVariants as line
use Rattle.rd_script.specs.declared.line.NumberedLine.{NumberedLine}
use Rattle.rd_station.specs.Station.{StationState}
use Rattle.rd_declared.specs.Devices.{Declared, PrinterNames, announce_of}
use Rattle.rd_declared.specs.Declaring.{max_hands, max_session_devices, max_piece}
use Rattle.rd_declared.specs.Printers.{max_printer_data}
use Rattle.rd_world.specs.Run.{printers_of, station_of}
use Rattle.rd_world.specs.World.{WorldState}
use Rattle.rd_declared.specs.declared.device.SessionDevice.{SessionDevice}
use Rattle.rd_world.specs.declared.opening.Settings.{Settings}

-- ---- settings

abbrev pub first_settings : Settings
first_settings = record { moment = 0; draws = 0; piece = 4096; hands = 1 }

-- with the setting that a line gives
unfoldable pub with_setting : Settings → Line → Settings
with_setting s (line.Seed number) = record s { draws = number }
with_setting s (line.Clock moment) = record s { moment = moment }
with_setting s (line.Piece most) = record s { piece = most }
with_setting s (line.Workers count) = record s { hands = count }
with_setting s _ = s

abbrev pub with_line_setting : Settings → NumberedLine → Settings
with_line_setting s l = with_setting s l.line

-- A session begins by these settings, and each of its hands is empty.
pub record BeginsBy (w : WorldState) (s : Settings) : Type 0 where
  pub moment : w.moment ≡ s.moment
  pub draws : w.draws ≡ s.draws
  pub piece : w.piece ≡ s.piece
  pub hands : w.hands ≡ replicate s.hands None

-- a piece has a byte, and there is a hand; neither are there too many
pub record AreSettings (s : Settings) : Type 0 where
  pub some_piece : 1 ≤ s.piece
  pub most_piece : s.piece ≤ max_piece
  pub some_hands : 1 ≤ s.hands
  pub most_hands : s.hands ≤ max_hands

-- ---- announcements

-- an announcement whose name has eight bytes, and whose data is no longer than a printer's
pub record IsShort (a : Announce) : Type 0 where
  pub dos : length a.dos ≡ 8
  pub body : length a.body ≤ max_printer_data

-- few announcements, and each is short
pub record AreShort (devices : List Announce) : Type 0 where
  pub few : length devices ≤ max_session_devices
  pub each : AllByRecursion IsShort devices

abbrev pub ids_of : List Announce → List ℕ
ids_of devices = map (λ (a : Announce). a.id) devices

-- a call of a client that gives no device other data
abbrev pub KeepsData : ClientCall → Type 0
KeepsData (refreshes device body) = ⊥
KeepsData _ = Unit {0}

-- a call of a client where data that a device gets is no longer than a printer's
abbrev pub FitsData : ClientCall → Type 0
FitsData (refreshes device body) = length body ≤ max_printer_data
FitsData _ = Unit {0}

-- ---- what is opened

-- The stations, the announcements and the printers of devices, in the order of their ids.
pub record Opens (devices : List (ℕ × Declared)) (stations : List (ℕ × StationState SessionDevice)) (announced : List Announce)
    (printers : List (ℕ × PrinterNames)) : Type 0 where
  pub stations_are : stations ≡ map station_of devices
  pub announced_are : announced ≡ map (λ (e : ℕ × Declared). announce_of [] e.1) devices
  pub printers_are : printers ≡ printers_of devices
  pub same_ids : ids_of announced ≡ keys_of stations
  pub short : AreShort announced
  pub are_devices : AreDevices announced
