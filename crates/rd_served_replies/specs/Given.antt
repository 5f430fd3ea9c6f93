-- The replies that the devices of a client give: by what a device is known to do, or by what its desk handed out.
use Rattle.std.specs.Prelude.{◌≡◌, ℕ, ◌==◌, if◌then◌else◌, Bool, true, List, [], filter_map, slice_get, Option, Some, None, IfSome}
use Rattle.std.specs.List.{flat_map}
use Rattle.std.specs.Map.{lookup}
use Rattle.std.specs.Option.{option_map, option_map_or}
use Rattle.std.specs.Ordering.{nat_cmp}
use Rattle.std.specs.BTreeMap.{is_at}
use Rattle.rd_base.specs.declared.journal.Item.{Item}
use Rattle.rd_base.specs.declared.journal.Key.{Key}
use Rattle.rd_desk.specs.declared.calls.DeskCall.TheVariants as desk
use Rattle.rd_desk.specs.declared.calls.DeskReply.TheVariants as replied
use Rattle.rd_drive.specs.DriveState.{DriveState}
use Rattle.rd_drive.specs.Replies.{KeyedReply, replies_by}
use Rattle.rd_front.specs.State.{SessionStation}
use Rattle.rd_irp.specs.declared.request.Request.{Request}
use Rattle.rd_station.specs.Station.{StationState}
use Rattle.rd_station.specs.Tied.{IsTied}
use Rattle.rd_declared.specs.Devices.{device_cut, device_step}
use Rattle.rd_declared.specs.Replies.{request_read}
use Rattle.rd_deeds.specs.Talk.{Deed}
use Rattle.rd_deeds.specs.Told.{Replies}
use Rattle.rd_declared.specs.declared.device.SessionDevice.{SessionDevice}
use Rattle.rd_declared.specs.declared.device.SessionDevice.TheVariants as session
use Rattle.rd_served.specs.Parts.{FrontPart, calls}
use Rattle.rd_served.specs.ServedDevices.{ServedDeviceState, made, over}

-- ---- what a device is known to do

-- The device of a session that does what this one does, where one is known to: a device that a script makes up is one; and where it is said that no folder had a
-- fault, a drive over a folder that told its nodes does what the drive with these nodes does.
abbrev pub known_as : Bool → ServedDeviceState → Option SessionDevice
known_as calm (made device) = Some device
known_as calm (over drive) = if calm then option_map (λ (s : DriveState). session.Drive s) drive.drive else None

-- a station with another device in it
abbrev pub with_device : {S T : Type 0} → StationState S → T → StationState T
with_device s device = record { device = device; live = s.live; ended = s.ended; waiting = s.waiting; taken = s.taken; parked = s.parked; ready = s.ready; journal = s.journal }

-- A station is tied to its journal as one of the device that its own is known to be, from this beginning on.
pub record IsTiedAs (requests : Key → Request) (opening : SessionDevice) (s : SessionStation) : Type 0 where
  pub last : SessionDevice
  pub known : known_as true s.device ≡ Some last
  pub tied : IsTied device_step device_cut requests opening (with_device s last)

-- no fault is counted of the folder, where a device is a drive over one that tells its nodes
abbrev pub HadNoFault : ServedDeviceState → Type 0
HadNoFault (made device) = Unit {0}
HadNoFault (over drive) = IfSome drive.drive (λ (s : DriveState). (drive.faults).count ≡ 0)

abbrev pub HadNoFaults : List SessionStation → Type 0
HadNoFaults stations = (place : ℕ) (s : SessionStation) → slice_get stations place ≡ Some s → HadNoFault s.device

-- ---- what a desk handed out

-- the reply that the desk of a device hands out by a part, with its key
abbrev pub collected_of : ℕ → FrontPart → Option KeyedReply
collected_of device (calls place id desk.Collect (replied.Collected (Some c)) items) = if id == device then Some (c.key, c.reply) else None
collected_of device _ = None

abbrev pub all_handed : ℕ → List (List FrontPart) → List KeyedReply
all_handed device parts = flat_map (λ (ps : List FrontPart). filter_map (collected_of device) ps) parts

-- ---- the replies

-- by the device that is known to do so, or else these
abbrev pub replies_known : (Key → Request) → List KeyedReply → Option SessionDevice → List Item → List KeyedReply
replies_known requests handed (Some device) items = replies_by device_step device_cut requests device items
replies_known requests handed None items = handed

-- The replies that a device's journal gives by the requests that the client read, from the device's beginning on. Of a device of which it isn't known what it does these are the replies that its
-- desk handed out, whatever the journal says.
abbrev pub replies_served : Bool → List (ℕ × ServedDeviceState) → List (List FrontPart) → List Deed → Replies
replies_served calm devices parts deeds device items =
    option_map_or (λ (d : ServedDeviceState). replies_known (request_read deeds) (all_handed device parts) (known_as calm d) items) (lookup (is_at (nat_cmp device)) devices) []
