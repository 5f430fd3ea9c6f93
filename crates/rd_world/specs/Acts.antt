-- What the control lines of a script did, by what both sides did.
use Rattle.std.specs.Prelude.{◌≡◌, ℕ, ◌+◌, ◌≤◌, ◌==◌, ◌&&◌, ◌||◌, Bool, true, false, not, if◌then◌else◌, List, [], ◌∷◌, ◌++◌, length, map, reverse, take, filter, filter_map, Option, Some, None, is_some, All}
use Rattle.std.specs.List.{AllZip, flat_map, list_any, range_with_len}
use Rattle.std.specs.List.Sorted.{IsStrictlyIncreasing}
use Rattle.std.specs.Option.{option_and_then, option_map_or}
use Rattle.rd_base.specs.declared.journal.Cause.{Cause}
use Rattle.rd_base.specs.declared.journal.Cause.TheVariants.{Removed, Dropped}
use Rattle.rd_base.specs.declared.journal.Item.{Item}
use Rattle.rd_base.specs.declared.journal.Key.{Key}
use Rattle.rd_base.specs.declared.journal.Item.TheVariants.{Came, Cut}
use Rattle.rd_base.specs.declared.packet.Packet.TheVariants.{DeviceListAnnounce, DeviceListRemove}
use Rattle.rd_devices.specs.DeviceList.{list_bytes}
use Rattle.rd_devices.specs.Removal.{removal_bytes}
use Rattle.rd_drive.specs.Device.{Parked}
use Rattle.rd_drive.specs.Replies.{last_state_by}
use Rattle.rd_hello.specs.Moves.{is_of}
use Rattle.rd_client.specs.Order as client
use Rattle.rd_client.specs.Order.{is_client_ready}
use Rattle.rd_host.specs.Order as host
use Rattle.rd_host.specs.Order.{is_host_ready}
use Rattle.rd_printer.specs.Cache.{CacheState, heard_all}
use Rattle.rd_printer.specs.declared.notice.Notice.{Notice}
use Rattle.rd_printer.specs.Notice.{notice_bytes}
use Rattle.rd_script.specs.declared.line.Line.{Line}
use Rattle.rd_script.specs.declared.line.Line.TheVariants as line
use Rattle.rd_script.specs.declared.line.NumberedLine.{NumberedLine}
use Rattle.rd_world.specs.Control.{Act, Control, Telling, added, addition, begun, control_of, dropped_at, ended, first_control, is_among, lists, noticed, removal, removed}
use Rattle.rd_declared.specs.Devices.{Declared, announce_of, device_cut, device_parked, device_step}
use Rattle.rd_world.specs.Events.{is_empty}
use Rattle.rd_world.specs.Recording.{client_stand, host_stand, request_of}
use Rattle.rd_deeds.specs.Talk.{AtEachPoint, Deed, EachAfter, adds, client_reads, client_wrote, has_ended, host_begins, host_ends, host_read, host_wrote, is_open_at, is_removed, is_request, journal, notice_in, on, removes, stores, tells, until_begin}

-- ---- what a client keeps for printers

-- the notices that a client reads, on all channels, the oldest first
abbrev pub notice_read : Deed → Option Notice
notice_read (client_reads channel message) = notice_in message
notice_read _ = None

-- what is kept for printers after deeds
abbrev pub cache_after : List Deed → CacheState
cache_after deeds = heard_all [] (filter_map notice_read (reverse deeds))

-- ---- what is told

-- the list of some devices, with what was kept for printers
abbrev pub list_of : List (ℕ × Declared) → CacheState → List ℕ → List ℕ
list_of devices cache ids =
    list_bytes (map (λ (d : ℕ × Declared). announce_of cache d.1) (filter (λ (d : ℕ × Declared). is_among ids d.0) devices))

abbrev pub is_add : ℕ → Deed → Bool
is_add device (adds d) = d == device
is_add device _ = false

-- The message tells this. A list has what was kept for printers when the channel began; that of a device that is there again, what was kept when it was
-- added. Its count is how often the device was added before that.
abbrev pub Tells : List (ℕ × Declared) → List Deed → ℕ → Telling → List ℕ → Type 0
Tells devices deeds c (lists ids) message = message ≡ list_of devices (cache_after (until_begin c deeds)) ids
Tells devices deeds c (removal device) message = message ≡ removal_bytes (device ∷ [])
Tells devices deeds c (addition device count) message =
    (since before : List Deed) × (deeds ≡ since ++ adds device ∷ before) × (length (filter (is_add device) before) ≡ count)
    × (message ≡ list_of devices (cache_after before) (device ∷ []))

-- the client's lists and removals on a channel, and the host's notices, the oldest first
abbrev pub is_telling : List ℕ → Bool
is_telling message = is_of DeviceListAnnounce message || is_of DeviceListRemove message

abbrev pub tellings_on : ℕ → List Deed → List (List ℕ)
tellings_on c deeds = filter is_telling (reverse (client_wrote c deeds))

abbrev pub notices_on : ℕ → List Deed → List (List ℕ)
notices_on c deeds = filter (λ message. is_some (notice_in message)) (reverse (host_wrote c deeds))

-- The messages say these things, one each: all of them where the channel didn't end.
pub record AreSaid {A : Type 0} (Says : A → List ℕ → Type 0) (things : List A) (messages : List (List ℕ)) (ended : Bool) : Type 0 where
  pub each : AllZip Says (take (length messages) things) messages
  pub all : ended ≡ false → length messages ≡ length things

-- a channel's own
abbrev pub of_channel : {A : Type 0} → ℕ → List (ℕ × A) → List A
of_channel c things = filter_map (λ t. on c t.0 t.1) things

-- whether a host stands ready, and owes no message of the opening and no reply
abbrev pub is_settled_host : host.HostStanding → Bool
is_settled_host s = is_host_ready s.shake && (is_empty s.owed && is_empty (s.own).due)

-- whether a client stands ready, and owes no message of the opening and no list
abbrev pub is_settled_client : client.ClientStanding → Bool
is_settled_client s = is_client_ready s.shake && (is_empty s.owed && not (s.own).lists)

-- The channel opened: the client listed its devices, the host heard all of that and replied, and no request and no notice stands before.
pub record HasOpened (devices : List (ℕ × Declared)) (deeds : List Deed) (c : ℕ) : Type 0 where
  pub client : option_map_or is_settled_client (client_stand devices deeds c) false ≡ true
  pub heard : host_read c deeds ≡ client_wrote c deeds
  pub host : option_map_or is_settled_host (host_stand deeds c) false ≡ true
  pub no_request : filter is_request (host_wrote c deeds) ≡ []
  pub no_notice : notices_on c deeds ≡ []
  pub listed : length (tellings_on c deeds) ≡ 1

-- by then, or before
abbrev pub Opens : List (ℕ × Declared) → List Deed → ℕ → Type 0
Opens devices deeds c = (since before : List Deed) × (deeds ≡ since ++ before) × HasOpened devices before c

-- what a control line did by a deed
abbrev pub act_by : Deed → Option Act
act_by (host_begins channel) = Some (begun channel)
act_by (host_ends channel) = Some (ended channel)
act_by (removes device) = Some (removed device)
act_by (adds device) = Some (added device)
act_by (tells n) = Some (noticed n)
act_by _ = None

-- ---- what is told, and when

-- How many lists and removals are due on a channel by what was done: the first list once it began, and one more for each device that was removed or added
-- while it was open.
abbrev pub tellings_due : ℕ → List Deed → ℕ
tellings_due c [] = 0
tellings_due c (host_begins channel ∷ before) = if channel == c then 1 else tellings_due c before
tellings_due c (removes device ∷ before) = tellings_due c before + (if is_open_at c before then 1 else 0)
tellings_due c (adds device ∷ before) = tellings_due c before + (if is_open_at c before then 1 else 0)
tellings_due c (deed ∷ before) = tellings_due c before

-- no more is told on a channel than is due
abbrev pub IsToldInTime : List Deed → Type 0
IsToldInTime deeds = (c : ℕ) → length (tellings_on c deeds) ≤ tellings_due c deeds

-- ---- where devices are cut

-- what was done last is a removal of the device
abbrev pub RemovesLast : List Deed → ℕ → Type 0
RemovesLast [] device = ⊥
RemovesLast (removes d ∷ before) device = d ≡ device
RemovesLast (deed ∷ before) device = ⊥

-- the devices that were cut off last, one after the other, since a channel ends; the last of them first
abbrev pub cut_last : List Deed → List ℕ
cut_last (stores device (Cut Dropped) ∷ before) = device ∷ cut_last before
cut_last _ = []

-- the devices that are there
abbrev pub there_at : List (ℕ × Declared) → List Deed → List ℕ
there_at devices deeds = filter (λ device. not (is_removed device deeds)) (map (λ (d : ℕ × Declared). d.0) devices)

-- A device is cut off as soon as it is removed. Directly before a channel's end the devices that are there are cut off, each once, in the order of
-- their ids. No request comes to a device while it is removed.
abbrev pub IsCutThere : List (ℕ × Declared) → List Deed → Deed → Type 0
IsCutThere devices before (stores device (Cut Removed)) = RemovesLast before device
IsCutThere devices (removes d ∷ before) deed = deed ≡ stores d (Cut Removed)
IsCutThere devices before (host_ends channel) = reverse (cut_last before) ≡ there_at devices before
IsCutThere devices (stores device (Cut Dropped) ∷ before) (stores other (Cut Dropped)) = Unit {0}
IsCutThere devices (stores device (Cut Dropped) ∷ before) deed = ⊥
IsCutThere devices before (stores device (Came key)) = is_removed device before ≡ false
IsCutThere devices before deed = Unit {0}

-- nothing is left to be done after what was done last
abbrev pub IsDone : List Deed → Type 0
IsDone (removes d ∷ before) = ⊥
IsDone (stores device (Cut cause) ∷ before) = cause ≡ Removed
IsDone deeds = Unit {0}

abbrev pub cause_in : Item → Option Cause
cause_in (Cut cause) = Some cause
cause_in _ = None

-- a journal, the newest entry first, without the cut at a channel's end, where this is its last entry
abbrev pub before_end : List Item → List Item
before_end (Cut Dropped ∷ earlier) = earlier
before_end items = items

-- the requests that wait in a device, or did until the channel ended
abbrev pub waiting_in : List Deed → ℕ × Declared → List Parked
waiting_in deeds d =
    device_parked (last_state_by device_step device_cut (request_of deeds) (d.1).state (reverse (before_end (journal d.0 deeds))))

-- the keys of all that wait in some device
abbrev pub waiting_keys : List (ℕ × Declared) → List Deed → List Key
waiting_keys devices deeds = map (λ (p : Parked). p.key) (flat_map (waiting_in deeds) devices)

-- whether one of them came on a channel
abbrev pub some_wait : List (ℕ × Declared) → List Deed → ℕ → Bool
some_wait devices deeds channel = list_any (λ (key : Key). key.channel == channel) (waiting_keys devices deeds)

-- The channel that is still open after the last line, where a request waits on it: it ends after everything.
abbrev pub left_open : List (ℕ × Declared) → List Deed → Control → Option ℕ
left_open devices deeds control = option_and_then (λ channel. if some_wait devices deeds channel then Some channel else None) control.current

-- after that end
abbrev pub control_at_end : List (ℕ × Declared) → List Deed → Control → Control
control_at_end devices deeds control = option_map_or (dropped_at control) (left_open devices deeds control) control

-- whether a line is a `do` line
unfoldable pub is_errand : Line → Bool
is_errand (line.Do errand) = true
is_errand _ = false

-- and whether it is a `settle` line
unfoldable pub is_settle : Line → Bool
is_settle line.Settle = true
is_settle _ = false

abbrev pub is_errand_at : List NumberedLine → ℕ → Bool
is_errand_at lines number = list_any (λ (l : NumberedLine). l.number == number && is_errand l.line) lines

-- what the control lines do from the first channel's begin on, by the devices of a session
abbrev pub first_control_of : List (ℕ × Declared) → Control
first_control_of devices = first_control (map (λ (d : ℕ × Declared). d.0) devices)

-- what the control lines do, by the devices of a session
abbrev pub control_by : List (ℕ × Declared) → List NumberedLine → Control
control_by devices lines = control_of (map (λ (d : ℕ × Declared). d.0) devices) lines

-- The control lines did what they say: channels began and ended, and devices were removed and added, by them alone and in their order; each channel
-- opened, and where it didn't end the host owes nothing on it; what was told of devices and of printers is what they told, and not before; devices were cut
-- where they say; and those that did nothing are the idle ones beside `do` lines.
pub record AreActed (devices : List (ℕ × Declared)) (lines : List NumberedLine) (idle : List ℕ) (deeds : List Deed) : Type 0 where
  pub control : Control
  pub control_is : control ≡ control_at_end devices deeds (control_by devices lines)
  pub acts : filter_map act_by (reverse deeds) ≡ control.acts
  pub opened : All (Opens devices deeds) (range_with_len 1 control.channels)
  pub settled : All (λ c. has_ended c deeds ≡ false → option_map_or is_settled_host (host_stand deeds c) false ≡ true) (range_with_len 1 control.channels)
  pub tells : (c : ℕ) → AreSaid (Tells devices deeds c) (of_channel c control.told) (tellings_on c deeds) (has_ended c deeds)
  pub in_time : AtEachPoint IsToldInTime deeds
  pub notices : (c : ℕ) → AreSaid (λ n message. message ≡ notice_bytes n) (of_channel c control.notices) (notices_on c deeds) (has_ended c deeds)
  pub cuts : (device : ℕ) → filter_map cause_in (reverse (journal device deeds)) ≡ of_channel device control.cuts
  pub cut_there : EachAfter (IsCutThere devices) deeds
  pub cut_all : IsDone deeds
  pub idle_lines : filter (λ number. not (is_errand_at lines number)) idle ≡ control.idle
  pub idle_rise : IsStrictlyIncreasing idle
