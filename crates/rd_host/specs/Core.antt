-- A host's end: what it makes of the client's messages, and what it writes, apart from its requests (MS-RDPEFS 3.3.5).
use Rattle.std.specs.Prelude.{◌≡◌, ℕ, List, [], ◌∷◌, Option, Some, None, Result, Ok, Err}
use Rattle.std.specs.declared.alloc.AllocError.{AllocError}
use Rattle.rd_base.specs.declared.bad.Bad.{Bad}
use Rattle.rd_base.specs.declared.packet.Packet.{Packet}
use Rattle.rd_base.specs.declared.packet.Packet.TheVariants as packet
use Rattle.rd_base.specs.declared.status.Status.{Status}
use Rattle.rd_base.specs.Layout.{met}
use Rattle.rd_base.specs.Position.{Position, at_start}
use Rattle.rd_chunk.specs.Carrier.{IsMessage}
use Rattle.rd_core.specs.Core as core
use Rattle.rd_core.specs.Core.{CoreState, Did, IsCoreKept, new_core}
use Rattle.rd_core.specs.Hearing as hearing
use Rattle.rd_core.specs.Hearing.{Side, read_as}
use Rattle.rd_devices.specs.declared.list.Announce.{Announce}
use Rattle.rd_devices.specs.DeviceList.{device_list}
use Rattle.rd_devices.specs.DeviceReply.{reply_bytes}
use Rattle.rd_devices.specs.Removal.{removal}
use Rattle.rd_hello.specs.declared.end_fault.EndFault.{EndFault}
use Rattle.rd_hello.specs.declared.host.HostState.{HostState}
use Rattle.rd_hello.specs.declared.host.HostState.TheVariants.{Start, Confirmed, Offered, Ready}
use Rattle.rd_hello.specs.Hello.{hello_bytes}
use Rattle.rd_hello.specs.HostTable.{host_number, host_step}
use Rattle.rd_hello.specs.Own.{host_announce}
use Rattle.rd_irp.specs.declared.completion.Head.{Head}
use Rattle.rd_irp.specs.Completion.{completion_head}
use Rattle.rd_printer.specs.declared.notice.Notice.{Notice}
use Rattle.rd_printer.specs.Notice.{HasWholePort, IsWritableNotice, notice_bytes}
use Rattle.rd_host.specs.declared.act.Act.{Act}
use Rattle.rd_host.specs.declared.act.Act.TheVariants as act

-- a host's end of a channel, and the ClientId that it announces
pub record HostCoreState : Type 0 where
  pub client : ℕ
  pub core : CoreState HostState (List ℕ)

-- a host on no channel
abbrev pub new_host : ℕ → HostCoreState
new_host client = record { client = client; core = new_core Start }

-- ---- what is written

-- a message is to be sent
abbrev pub with_message : HostCoreState → List ℕ → HostCoreState
with_message h message = record h { core = core.with_message h.core message }

-- a channel begins: the host announces itself
abbrev pub host_begin : HostCoreState → HostCoreState
host_begin h = with_message (new_host h.client) (hello_bytes (host_announce h.client))

-- the message that is to be sent first is handed out
abbrev pub host_send : HostCoreState → HostCoreState × Option (List ℕ)
host_send h = let sent = core.send h.core in (record h { core = sent.0 }, sent.1)

-- the reply to a device that was announced
abbrev pub reply : HostCoreState → ℕ → Status → HostCoreState
reply h device code = with_message h (reply_bytes (record { id = device; code = code }))

-- the client is told of a printer
abbrev pub tell : HostCoreState → Notice → HostCoreState
tell h n = with_message h (notice_bytes n)

-- ---- what is heard

-- what a message of the client says that isn't of the opening, or its first fault
abbrev pub client_says : Packet → List ℕ → Result Act Bad
client_says packet.DeviceListAnnounce bytes = read_as (λ (read : List Announce × Position). act.Announced read.0) (met device_list (at_start bytes))
client_says packet.DeviceListRemove bytes = read_as (λ (read : List ℕ × Position). act.Removed read.0) (met removal (at_start bytes))
client_says _ bytes = read_as (λ (read : Head × Position). act.Complete read.0 (read.1).left) (met completion_head (at_start bytes))

-- Where memory is asked for: for what is to be written after a message of fixed size, for a name, sets, devices and ids after their count, and for the
-- bytes after the head of a completion.
abbrev pub host_asks_at : Packet → Option ℕ
host_asks_at packet.ClientIdConfirm = Some 12
host_asks_at packet.ClientName = Some 16
host_asks_at packet.ClientCapability = Some 8
host_asks_at packet.DeviceListAnnounce = Some 8
host_asks_at packet.DeviceListRemove = Some 8
host_asks_at packet.IoCompletion = Some 16
host_asks_at _ = None

-- the packets that a host reads in a state
abbrev pub host_reads_in : HostState → List Packet
host_reads_in Start = packet.ClientIdConfirm ∷ []
host_reads_in (Confirmed client) = packet.ClientName ∷ []
host_reads_in Offered = packet.ClientCapability ∷ []
host_reads_in Ready = packet.DeviceListAnnounce ∷ packet.DeviceListRemove ∷ packet.IoCompletion ∷ []

-- a message waits as it is
abbrev pub as_it_is : List ℕ → List ℕ
as_it_is message = message

abbrev pub host_side : Side HostState (List ℕ) Act
host_side =
    record { number = host_number; reads_in = host_reads_in; row = host_step; outgoing = as_it_is; own = client_says; asks_at = host_asks_at }

abbrev pub host_hear_made : HostCoreState → CoreState HostState (List ℕ) × Result (Option Act) EndFault
    → HostCoreState × Result Act EndFault
host_hear_made h (after, Err fault) = (record h { core = after }, Err fault)
host_hear_made h (after, Ok None) = (record h { core = after }, Ok act.Nothing)
host_hear_made h (after, Ok (Some says)) = (record h { core = after }, Ok says)

-- A message of the client is heard. After one that is wrong none is.
abbrev pub host_hear : HostCoreState → List ℕ → HostCoreState × Result Act EndFault
host_hear h bytes = host_hear_made h (hearing.hear host_side h.core bytes)

-- ---- when the calls may be made

abbrev pub IsHostReady : HostCoreState → Type 0
IsHostReady h = (h.core).shake ≡ Ready

-- The client may be told of a printer once the host is ready, by a notice that can be written and fits a message.
pub record MayTell (h : HostCoreState) (n : Notice) : Type 0 where
  pub ready : IsHostReady h
  pub writable : IsWritableNotice n
  pub port : HasWholePort n
  pub fit : IsMessage (notice_bytes n)

-- What always holds of a host.
abbrev pub IsHostKept : HostCoreState → Type 0
IsHostKept h = IsCoreKept as_it_is h.core

-- ---- the calls, with what they answer

-- a call of a host's end, and its answer
pub data HostCall : Type 0 where
  begins : Result (Unit {0}) AllocError → HostCall
  hears : List ℕ → Result Act EndFault → HostCall
  replies : ℕ → Status → Result (Unit {0}) AllocError → HostCall
  tells : Notice → Result (Unit {0}) AllocError → HostCall
  sends : Option (List ℕ) → HostCall

-- a call that begins no channel
abbrev pub KeepsHostChannel : HostCall → Type 0
KeepsHostChannel (begins answer) = ⊥
KeepsHostChannel _ = Unit {0}

-- The host before a call, and after it. Where memory runs out nothing changes.
abbrev pub HostStep : HostCoreState → HostCall → HostCoreState → Type 0
HostStep old (begins answer) new = Did answer (host_begin old) old new
HostStep old (hears message answer) new = hearing.Hears host_side (λ h. h.core) host_hear old message answer new
HostStep old (replies device code answer) new = IsHostReady old × Did answer (reply old device code) old new
HostStep old (tells n answer) new = MayTell old n × Did answer (tell old n) old new
HostStep old (sends answer) new = host_send old ≡ (new, answer)
