-- A host: its end of the channel and its table, with what it makes of messages.
use Rattle.std.specs.Prelude.{ℕ, if◌then◌else◌, List, [], ◌∷◌, fold, Option, Some, None, Result, Ok, Err}
use Rattle.rd_base.specs.declared.status.Status.{Status}
use Rattle.rd_devices.specs.declared.list.Announce.{Announce}
use Rattle.rd_base.specs.Statuses as status
use Rattle.rd_hello.specs.declared.end_fault.EndFault.{EndFault}
use Rattle.rd_host.specs.Core as host
use Rattle.rd_host.specs.Core.{HostCoreState, host_begin, host_hear, host_send}
use Rattle.rd_host.specs.Served.{is_served_type}
use Rattle.rd_host.specs.declared.act.Act.{Act}
use Rattle.rd_host.specs.declared.act.Act.TheVariants as act
use Rattle.rd_pending.specs.declared.calls.LiveNo.{LiveNo}
use Rattle.rd_pending.specs.declared.calls.LiveNo.TheVariants as live_no
use Rattle.rd_pending.specs.Table as table
use Rattle.rd_pending.specs.Table.{TableState}
use Rattle.rd_printer.specs.declared.notice.Notice.{Notice}

pub record HostSide : Type 0 where
  pub core : HostCoreState
  pub table : TableState

-- a host with this ClientId, before its first channel
abbrev pub new_side : ℕ → HostSide
new_side client = record { core = host.new_host client; table = table.new_table }

-- ---- a channel

-- a channel begins, and its end; nothing is sent on it after that
abbrev pub begins_on : HostSide → ℕ → HostSide
begins_on s channel = record { core = host_begin s.core; table = (table.begin s.table channel).0 }

abbrev pub ends_channel : HostSide → HostSide
ends_channel s = record { core = record s.core { core = record (s.core).core { outbox = [] } }; table = table.drop_channel s.table }

-- ---- what is sent

-- the client is told of a printer
abbrev pub tells_of : HostSide → Notice → HostSide
tells_of s n = record s { core = host.tell s.core n }

-- the first message of two outboxes, the second of which waits for the first
abbrev pub first_waiting : List (List ℕ) → List (List ℕ) → Option (List ℕ)
first_waiting (message ∷ others) requests = Some message
first_waiting [] (request ∷ others) = Some request
first_waiting [] [] = None

-- the message that is sent next, if one is to be sent: the end's own come before requests
abbrev pub next_message : HostSide → Option (List ℕ)
next_message s = first_waiting ((s.core).core).outbox (s.table).outbox

-- what is left of it when a message of its end is sent, or of its table where its end has none
abbrev pub sent_from : HostSide → List (List ℕ) → HostSide
sent_from s (message ∷ others) = record s { core = (host_send s.core).0 }
sent_from s [] = record s { table = (table.send s.table).0 }

-- what is left after that
abbrev pub side_sends : HostSide → HostSide
side_sends s = sent_from s ((s.core).core).outbox

-- ---- what is heard

abbrev pub live_status : LiveNo → Status
live_status live_no.Already = status.object_name_collision
live_status _ = status.insufficient_resources

-- the code with which the client is told whether a device began a life
abbrev pub live_code : Result ℕ LiveNo → Status
live_code (Ok life) = status.success
live_code (Err cause) = live_status cause

-- what is left of it by the announcement of a device with this id that its table takes or doesn't
abbrev pub lived : HostSide → ℕ → TableState × Result ℕ LiveNo → HostSide
lived s id (after, life) = record { table = after; core = host.reply s.core id (live_code life) }

-- A device was announced: it begins a life, and the client is told whether it did.
abbrev pub admits : HostSide → Announce → HostSide
admits s a = if is_served_type a.kind then lived s a.id (table.live s.table a.id) else record s { core = host.reply s.core a.id status.not_supported }

abbrev pub forgets : HostSide → ℕ → HostSide
forgets s device = record s { table = (table.remove s.table device).0 }

-- what is left of it by what it heard
abbrev pub host_heard : HostSide → Result Act EndFault → HostSide
host_heard s (Err fault) = s
host_heard s (Ok act.Nothing) = s
host_heard s (Ok (act.Announced devices)) = fold admits s devices
host_heard s (Ok (act.Removed ids)) = fold forgets s ids
host_heard s (Ok (act.Complete head bytes)) = record s { table = (table.complete s.table head bytes).0 }

-- what is left of it by a message that it hears
abbrev pub hears : HostSide → List ℕ → HostSide
hears s message = let made = host_hear s.core message in host_heard (record s { core = made.0 }) made.1
