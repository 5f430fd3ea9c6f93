-- A client's end: what it makes of the host's messages, and what it writes, apart from the completions of its devices (MS-RDPEFS 3.2.5).
use Rattle.std.specs.Prelude.{◌≡◌, ◌≢◌, ℕ, ◌+◌, ◌^◌, ◌<◌, ◌≤◌, nat_eq, ◌==◌, ◌&&◌, Bool, true, false, not, if◌then◌else◌, List, [], ◌∷◌, length, map, filter, Option, Some, None, IsTrue, IsFalse, Result, Ok, Err}
use Rattle.std.specs.declared.alloc.AllocError.{AllocError}
use Rattle.std.specs.List.{IsDistinct, list_any}
use Rattle.rd_base.specs.declared.bad.Bad.{Bad}
use Rattle.rd_base.specs.declared.journal.Key.{Key}
use Rattle.rd_base.specs.declared.packet.Packet.{Packet}
use Rattle.rd_base.specs.declared.packet.Packet.TheVariants as packet
use Rattle.rd_base.specs.declared.status.Status.{Status}
use Rattle.rd_base.specs.Layout.{met}
use Rattle.rd_base.specs.Position.{Position, at_start}
use Rattle.rd_base.specs.Limits.{max_devices}
use Rattle.rd_chunk.specs.Carrier.{IsMessage}
use Rattle.rd_core.specs.Core as core
use Rattle.rd_core.specs.Core.{CoreState, Did, IsCoreKept, new_core}
use Rattle.rd_core.specs.Hearing as hearing
use Rattle.rd_core.specs.Hearing.{Side, read_as}
use Rattle.rd_devices.specs.declared.list.Announce.{Announce}
use Rattle.rd_devices.specs.declared.reply.DeviceReply.{DeviceReply}
use Rattle.rd_devices.specs.DeviceList.{list_bytes}
use Rattle.rd_devices.specs.DeviceReply.{device_reply}
use Rattle.rd_devices.specs.Removal.{removal_bytes}
use Rattle.rd_drive.specs.declared.plan.Job.{Job}
use Rattle.rd_hello.specs.declared.client.ClientState.{ClientState}
use Rattle.rd_hello.specs.declared.client.ClientState.TheVariants.{Start, Named, Confirmed, Offered, Waiting, Ready}
use Rattle.rd_hello.specs.declared.end_fault.EndFault.{EndFault}
use Rattle.rd_hello.specs.ClientTable.{client_number, client_step}
use Rattle.rd_irp.specs.declared.completion.Body.TheVariants.{Fault}
use Rattle.rd_irp.specs.declared.op.Op.{Op}
use Rattle.rd_irp.specs.declared.op.Op.TheVariants.{Malformed}
use Rattle.rd_irp.specs.declared.request.Request.{Request}
use Rattle.rd_irp.specs.declared.request.RequestHead.{RequestHead}
use Rattle.rd_irp.specs.Fits.{kind_of}
use Rattle.rd_irp.specs.Request.{body_after, request_head}
use Rattle.rd_irp.specs.Written.{completion_bytes}
use Rattle.rd_printer.specs.declared.notice.Notice.{Notice}
use Rattle.rd_printer.specs.Notice.{notice}
use Rattle.rd_client.specs.declared.heard.Heard.{Heard}
use Rattle.rd_client.specs.declared.heard.Heard.TheVariants as heard

-- a message that is to be sent, and the key of the request that it answers, if it answers one
pub record Outgoing : Type 0 where
  pub message : List ℕ
  pub answers : Option Key

-- a device as it is announced, and whether it was removed and not added since
pub record ClientDevice : Type 0 where
  pub announce : Announce
  pub removed : Bool

-- A client's end on a channel, by its number.
pub record ClientCoreState : Type 0 where
  pub core : CoreState ClientState Outgoing
  pub channel : ℕ
  -- how many requests were heard on the channel
  pub asked : ℕ
  pub devices : List ClientDevice

-- a device that wasn't removed
abbrev pub present_device : Announce → ClientDevice
present_device a = record { announce = a; removed = false }

-- a client with these devices, on no channel
abbrev pub new_client : List Announce → ClientCoreState
new_client devices = record { core = new_core Start; channel = 0; asked = 0; devices = map present_device devices }

-- a channel begins: of what came before only the devices are kept, and which of them are removed
abbrev pub client_begin : ClientCoreState → ℕ → ClientCoreState
client_begin c channel = record { core = new_core Start; channel = channel; asked = 0; devices = c.devices }

-- ---- the devices

abbrev pub announce_in : ClientDevice → Announce
announce_in d = d.announce

abbrev pub is_present : ClientDevice → Bool
is_present d = not d.removed

-- whether a device has an id
abbrev pub is_device : ℕ → ClientDevice → Bool
is_device device d = (d.announce).id == device

-- all devices, as they are announced
abbrev pub announces : ClientCoreState → List Announce
announces c = map announce_in c.devices

-- the devices that the client announces when it is ready
abbrev pub listed : ClientCoreState → List Announce
listed c = map announce_in (filter is_present c.devices)

-- the device with this id, as the list of it alone announces it
abbrev pub listed_one : ClientCoreState → ℕ → List Announce
listed_one c device = map announce_in (filter (is_device device) c.devices)

-- whether the client has a device, and whether it was removed and not added since
abbrev pub has_device : ClientCoreState → ℕ → Bool
has_device c device = list_any (is_device device) c.devices

abbrev pub is_gone : ClientCoreState → ℕ → Bool
is_gone c device = list_any (λ d. is_device device d && d.removed) c.devices

-- a device's data is replaced
abbrev pub refreshed : ℕ → List ℕ → ClientDevice → ClientDevice
refreshed device body d = if is_device device d then record d { announce = record d.announce { body = body } } else d

abbrev pub refresh : ClientCoreState → ℕ → List ℕ → ClientCoreState
refresh c device body = record c { devices = map (refreshed device body) c.devices }

-- a device is removed, or is there again
abbrev pub device_marked : ℕ → Bool → ClientDevice → ClientDevice
device_marked device removed d = if is_device device d then record d { removed = removed } else d

abbrev pub with_mark : ClientCoreState → ℕ → Bool → ClientCoreState
with_mark c device removed = record c { devices = map (device_marked device removed) c.devices }

-- ---- what is written

-- a message that answers no request
abbrev pub plain : List ℕ → Outgoing
plain message = record { message = message; answers = None }

-- a message is to be sent
abbrev pub with_outgoing : ClientCoreState → Outgoing → ClientCoreState
with_outgoing c message = record c { core = core.with_message c.core message }

-- the message that is to be sent first is handed out
abbrev pub client_send : ClientCoreState → ClientCoreState × Option Outgoing
client_send c = let sent = core.send c.core in (record c { core = sent.0 }, sent.1)

-- the completion of a job that no device runs: it has the job's completion id and layout, and this status
abbrev pub direct_bytes : Job → ℕ → Status → List ℕ
direct_bytes job device status = completion_bytes (kind_of job.op) (record { device = device; completion = job.completion; status = status }) Fault

-- it is to be sent
abbrev pub direct : ClientCoreState → Job → ℕ → Status → ClientCoreState
direct c job device status = with_outgoing c (record { message = direct_bytes job device status; answers = Some job.key })

-- the host is told that a device is gone
abbrev pub tell_removed : ClientCoreState → ℕ → ClientCoreState
tell_removed c device = with_outgoing (with_mark c device true) (plain (removal_bytes (device ∷ [])))

-- the host is told that a device is there again
abbrev pub tell_added : ClientCoreState → ℕ → ClientCoreState
tell_added c device = with_outgoing (with_mark c device false) (plain (list_bytes (listed_one c device)))

-- ---- what is heard

-- what a message of the host says that isn't of the opening
pub data HostSays : Type 0 where
  requests : Request → HostSays
  replies : DeviceReply → HostSays
  notices : Notice → HostSays

-- a request as it was read; its operation is malformed where the body can't be read
abbrev pub request_with_head : RequestHead → Op → Request
request_with_head head op = record { device = head.device; file = head.file; completion = head.completion; op = op }

abbrev pub op_read : {R : Type 0} → RequestHead → Result (Op × R) Bad → Op
op_read head (Ok read) = read.0
op_read head (Err bad) = Malformed head.major head.minor bad

abbrev pub from_head : RequestHead × Position → HostSays
from_head read = requests (request_with_head read.0 (op_read read.0 (met (body_after read.0) read.1)))

-- what it says, or its first fault
abbrev pub host_says : Packet → List ℕ → Result HostSays Bad
host_says packet.IoRequest bytes = read_as from_head (met request_head (at_start bytes))
host_says packet.DeviceReply bytes = read_as (λ (read : DeviceReply × Position). replies read.0) (met device_reply (at_start bytes))
host_says _ bytes = read_as (λ (read : Notice × Position). notices read.0) (met notice (at_start bytes))

-- Where memory is asked for: for what is to be written after a message of fixed size, for sets and data after their count or kind, and for what a
-- request keeps after its head. A reply to a device, and what is said of XPS, are read without.
abbrev pub client_asks_at : Packet → Option ℕ
client_asks_at packet.ServerAnnounce = Some 12
client_asks_at packet.ClientIdConfirm = Some 12
client_asks_at packet.ServerCapability = Some 8
client_asks_at packet.UserLoggedOn = Some 4
client_asks_at packet.IoRequest = Some 24
client_asks_at packet.PrinterCacheData = Some 8
client_asks_at _ = None

-- what a client that may be asked reads beside the log-on
abbrev pub served : List Packet
served = packet.IoRequest ∷ packet.DeviceReply ∷ packet.PrinterCacheData ∷ packet.PrinterUsingXps ∷ []

-- the packets that a client reads in a state
abbrev pub client_reads_in : ClientState → List Packet
client_reads_in Start = packet.ServerAnnounce ∷ []
client_reads_in Named = packet.ClientIdConfirm ∷ packet.ServerCapability ∷ []
client_reads_in Confirmed = packet.ServerCapability ∷ []
client_reads_in (Offered tells) = packet.ClientIdConfirm ∷ []
client_reads_in Waiting = packet.UserLoggedOn ∷ served
client_reads_in Ready = packet.UserLoggedOn ∷ served

abbrev pub client_side : Side ClientState Outgoing HostSays
client_side =
    record { number = client_number; reads_in = client_reads_in; row = client_step; outgoing = plain; own = host_says; asks_at = client_asks_at }

-- whether the client becomes ready by a row of its table
abbrev pub becomes_ready : ClientState → ClientState → Bool
becomes_ready Ready next = false
becomes_ready state Ready = true
becomes_ready state next = false

-- Where the client becomes ready it announces the devices that aren't removed, after what the opening writes.
abbrev pub client_opened : ClientCoreState → CoreState ClientState Outgoing → ClientCoreState
client_opened c after =
    let next = record c { core = after } in
    if becomes_ready (c.core).shake after.shake then with_outgoing next (plain (list_bytes (listed c))) else next

-- the job of a request: its key is that of the channel and of its place there
abbrev pub job_of : Request → (channel index : ℕ) → Job
job_of r channel index = record { key = record { channel = channel; index = index }; file = r.file; completion = r.completion; op = r.op }

-- what comes of what was heard
abbrev pub hear_says : ClientCoreState → HostSays → ClientCoreState × Heard
hear_says c (requests r) = (record c { asked = c.asked + 1 }, heard.Ask r.device (job_of r c.channel c.asked))
hear_says c (replies r) = (c, heard.Nothing)
hear_says c (notices n) = (c, heard.Print n)

abbrev pub client_hear_made : ClientCoreState → CoreState ClientState Outgoing × Result (Option HostSays) EndFault
    → ClientCoreState × Result Heard EndFault
client_hear_made c (after, Err fault) = (record c { core = after }, Err fault)
client_hear_made c (after, Ok None) = (client_opened c after, Ok heard.Nothing)
client_hear_made c (after, Ok (Some says)) = let made = hear_says (record c { core = after }) says in (made.0, Ok made.1)

-- A message of the host is heard. After one that is wrong none is.
abbrev pub client_hear : ClientCoreState → List ℕ → ClientCoreState × Result Heard EndFault
client_hear c bytes = client_hear_made c (hearing.hear client_side c.core bytes)

-- ---- when the calls may be made

-- the most requests of a channel
abbrev pub max_asked : ℕ
max_asked = 2 ^ 40

-- A client's devices are few, no two have the same id, and the list of them fits a message.
pub record AreDevices (devices : List Announce) : Type 0 where
  pub few : length devices ≤ max_devices
  pub apart : IsDistinct nat_eq (map (λ (a : Announce). a.id) devices)
  pub fit : IsMessage (list_bytes devices)

-- a message may be heard
abbrev pub MayHear : ClientCoreState → Type 0
MayHear c = c.asked < max_asked

-- a device's data may be replaced by these bytes
abbrev pub MayRefresh : ClientCoreState → ℕ → List ℕ → Type 0
MayRefresh c device body = IsTrue (has_device c device) × AreDevices (announces (refresh c device body))

abbrev pub IsClientReady : ClientCoreState → Type 0
IsClientReady c = (c.core).shake ≡ Ready

-- a request may come, so it may have to be answered
abbrev pub may_be_asked : ClientState → Bool
may_be_asked Waiting = true
may_be_asked Ready = true
may_be_asked _ = false

abbrev pub MayAnswer : ClientCoreState → Status → Type 0
MayAnswer c status = IsTrue (may_be_asked (c.core).shake) × (status.0 ≢ 0)

abbrev pub MayTellRemoved : ClientCoreState → ℕ → Type 0
MayTellRemoved c device = IsClientReady c × IsTrue (has_device c device) × IsFalse (is_gone c device)

abbrev pub MayTellAdded : ClientCoreState → ℕ → Type 0
MayTellAdded c device = IsClientReady c × IsTrue (is_gone c device)

-- What always holds of a client.
pub record IsClientKept (c : ClientCoreState) : Type 0 where
  pub core : IsCoreKept (λ (o : Outgoing). o.message) c.core
  pub devices : AreDevices (announces c)

-- ---- the calls, with what they answer

-- a call of a client's end, and its answer
pub data ClientCall : Type 0 where
  begins : ℕ → ClientCall
  hears : List ℕ → Result Heard EndFault → ClientCall
  -- of a device, where none runs the job
  directs : Job → ℕ → Status → Result (Unit {0}) AllocError → ClientCall
  refreshes : ℕ → List ℕ → ClientCall
  tells_removed tells_added : ℕ → Result (Unit {0}) AllocError → ClientCall
  sends : Option Outgoing → ClientCall

-- a call that begins no channel
abbrev pub KeepsClientChannel : ClientCall → Type 0
KeepsClientChannel (begins channel) = ⊥
KeepsClientChannel _ = Unit {0}

-- The client before a call, and after it. Where memory runs out nothing changes.
abbrev pub ClientStep : ClientCoreState → ClientCall → ClientCoreState → Type 0
ClientStep old (begins channel) new = new ≡ client_begin old channel
ClientStep old (hears message answer) new = MayHear old × hearing.Hears client_side (λ c. c.core) client_hear old message answer new
ClientStep old (directs job device status answer) new = MayAnswer old status × Did answer (direct old job device status) old new
ClientStep old (refreshes device body) new = MayRefresh old device body × (new ≡ refresh old device body)
ClientStep old (tells_removed device answer) new = MayTellRemoved old device × Did answer (tell_removed old device) old new
ClientStep old (tells_added device answer) new = MayTellAdded old device × Did answer (tell_added old device) old new
ClientStep old (sends answer) new = client_send old ≡ (new, answer)
