-- What a host did, and what it may do: its end and its table, by its deeds.
use Rattle.std.specs.Prelude.{◌≡◌, ℕ, ◌^◌, ◌<◌, if◌then◌else◌, List, [], ◌∷◌, ◌++◌, Option, Some, None, IsOk, IsSome, Result, Ok, Err}
use Rattle.rd_devices.specs.declared.list.Announce.{Announce}
use Rattle.rd_hello.specs.declared.end_fault.EndFault.{EndFault}
use Rattle.rd_host.specs.Core as host
use Rattle.rd_host.specs.declared.act.Act.{Act}
use Rattle.rd_host.specs.declared.act.Act.TheVariants as act
use Rattle.rd_host.specs.Served.{is_served_type}
use Rattle.rd_host.specs.Core.{host_hear}
use Rattle.rd_irp.specs.declared.completion.Head.{Head}
use Rattle.rd_irp.specs.declared.op.Op.{Op}
use Rattle.rd_irp.specs.Written.{IsOpInRange}
use Rattle.rd_pending.specs.declared.calls.CompleteNo.{CompleteNo}
use Rattle.rd_pending.specs.declared.calls.Completed.{Completed}
use Rattle.rd_pending.specs.declared.calls.LiveNo.{LiveNo}
use Rattle.rd_pending.specs.declared.calls.Target.{Target}
use Rattle.rd_pending.specs.History as call
use Rattle.rd_pending.specs.History.{Call}
use Rattle.rd_pending.specs.Table as table
use Rattle.rd_pending.specs.Table.{MayBegin, MaySubmit, TableState, device_in, file_in, live_refusal, submit_refusal}
use Rattle.rd_deeds.specs.Host.{HostSide, begins_on, ends_channel, hears, new_side, next_message, side_sends, tells_of}
use Rattle.rd_deeds.specs.Talk.{Deed, host_begins, host_ends, host_reads, host_writes, submits, takes, tells}

-- what is left of it by a deed
abbrev pub side_after : HostSide → Deed → HostSide
side_after s (host_begins channel) = begins_on s channel
side_after s (submits application named o) = record s { table = (table.submit s.table application named o).0 }
side_after s (takes number) = record s { table = (table.take s.table number).0 }
side_after s (tells n) = tells_of s n
side_after s (host_writes channel message) = side_sends s
side_after s (host_reads channel message) = hears s message
side_after s (host_ends channel) = ends_channel s
side_after s _ = s

-- the host's side after a list of deeds, the newest first
abbrev pub side_of : ℕ → List Deed → HostSide
side_of client [] = new_side client
side_of client (deed ∷ before) = side_after (side_of client before) deed

-- numbers of a request that its message has room for
pub record IsInRange (named : Target) (o : Op) : Type 0 where
  pub device : device_in named < 2 ^ 32
  pub file : file_in named < 2 ^ 32
  pub op : IsOpInRange o

-- What a host does: it begins a channel above all that began, while none is open; it accepts what may be submitted and isn't refused; it hands out
-- outcomes that are known; and while a channel is open it tells of printers, once it is ready, sends what is to be sent next, and reads.
abbrev pub MayDo : HostSide → Deed → Type 0
MayDo s (host_begins channel) = ((s.table).channel ≡ None) × MayBegin s.table channel
MayDo s (submits application named o) = MaySubmit named o × IsInRange named o × (submit_refusal s.table named ≡ None)
MayDo s (takes number) = IsOk (table.take s.table number).1
MayDo s (tells n) = IsSome (s.table).channel × host.MayTell s.core n
MayDo s (host_writes channel message) = ((s.table).channel ≡ Some channel) × (next_message s ≡ Some message)
MayDo s (host_reads channel message) = (s.table).channel ≡ Some channel
MayDo s (host_ends channel) = (s.table).channel ≡ Some channel
MayDo s _ = Unit {0}

-- ---- the calls of its table, the newest first

-- a device that is announced begins a life, where it does
abbrev pub lives_by : Option LiveNo → ℕ → List Call
lives_by None device = call.lives device ∷ []
lives_by (Some cause) device = []

abbrev pub admitting_one : TableState → Announce → List Call
admitting_one t a = if is_served_type a.kind then lives_by (live_refusal t a.id) a.id else []

-- the table after an announcement
abbrev pub admitted_by : TableState → Announce → TableState
admitted_by t a = if is_served_type a.kind then (table.live t a.id).0 else t

abbrev pub admitting : TableState → List Announce → List Call
admitting t [] = []
admitting t (a ∷ devices) = admitting (admitted_by t a) devices ++ admitting_one t a

abbrev pub removal_calls : List ℕ → List Call
removal_calls [] = []
removal_calls (id ∷ ids) = removal_calls ids ++ call.removes id ∷ []

-- a completion that is taken
abbrev pub completing : Result Completed CompleteNo → Head → List ℕ → List Call
completing (Ok gave) head bytes = call.completes head bytes ∷ []
completing (Err cause) head bytes = []

-- what it calls by what it heard
abbrev pub calls_in : TableState → Result Act EndFault → List Call
calls_in t (Err fault) = []
calls_in t (Ok act.Nothing) = []
calls_in t (Ok (act.Announced devices)) = admitting t devices
calls_in t (Ok (act.Removed ids)) = removal_calls ids
calls_in t (Ok (act.Complete head bytes)) = completing (table.complete t head bytes).1 head bytes

-- a message of the table is sent, where the end has none of its own
abbrev pub sending : List (List ℕ) → List Call
sending [] = call.sends ∷ []
sending (message ∷ others) = []

abbrev pub calls_by : HostSide → Deed → List Call
calls_by s (host_begins channel) = call.begins channel ∷ []
calls_by s (host_ends channel) = call.drops ∷ []
calls_by s (submits application named o) = call.submits application named o ∷ []
calls_by s (takes number) = call.takes number ∷ []
calls_by s (host_writes channel message) = sending ((s.core).core).outbox
calls_by s (host_reads channel message) = calls_in s.table (host_hear s.core message).1
calls_by s _ = []

-- the calls of a list of deeds: the history of the table, which tells what was accepted, what was heard and what came of it
abbrev pub calls_of : ℕ → List Deed → List Call
calls_of client [] = []
calls_of client (deed ∷ before) = calls_by (side_of client before) deed ++ calls_of client before
