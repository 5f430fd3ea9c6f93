-- A session as the joining law takes it: two devices, two channels, a request that waits, a removal under work, and a drop.
use Rattle.std.specs.Prelude.{ℕ, if◌then◌else◌, true, false, List, [], ◌∷◌, ◌++◌, codes, map, reverse, Option, Some, None}
use Rattle.std.specs.List.{flat_map}
use Rattle.rd_base.specs.declared.journal.Cause.TheVariants.{Dropped, Removed}
use Rattle.rd_base.specs.declared.journal.Item.{Item}
use Rattle.rd_base.specs.declared.journal.Item.TheVariants.{Came, Cancelled, Cut, Ran, Sent}
use Rattle.rd_base.specs.declared.journal.Key.{Key}
use Rattle.rd_client.specs.Worked.{announced, confirmed, drive, logged_on, offered, own_confirm, own_name, own_sets}
use Rattle.rd_devices.specs.DeviceList.{list_bytes}
use Rattle.rd_devices.specs.DeviceReply.{reply_bytes}
use Rattle.rd_devices.specs.Removal.{removal_bytes}
use Rattle.rd_drive.specs.Outcome.{fault}
use Rattle.rd_drive.specs.Replies.{KeyedReply, cancellation}
use Rattle.rd_base.specs.Statuses as status
use Rattle.rd_base.specs.Statuses.{no_such_device}
use Rattle.rd_irp.specs.declared.completion.Body.TheVariants as body
use Rattle.rd_irp.specs.declared.completion.Reply.{Reply}
use Rattle.rd_irp.specs.declared.op.Op.{Op}
use Rattle.rd_irp.specs.declared.op.Op.TheVariants as op
use Rattle.rd_irp.specs.declared.request.Request.{Request}
use Rattle.rd_irp.specs.Fits.{kind_of}
use Rattle.rd_irp.specs.Written.{completion_bytes, request_bytes}
use Rattle.rd_pending.specs.declared.calls.Outcome.{Outcome}
use Rattle.rd_pending.specs.declared.calls.Target.TheVariants as target
use Rattle.rd_pending.specs.History.{Call, accepted_in, outcome_in}
use Rattle.rd_pending.specs.Outcomes.{Accepted}
use Rattle.rd_station.specs.Station.{is_key}
use Rattle.rd_deeds.specs.HostDeeds.{calls_of}
use Rattle.rd_deeds.specs.Talk.{Deed, client_reads, client_writes, completes, host_begins, host_ends, host_reads, host_writes, removes, stores, submits, takes}
use Rattle.rd_deeds.specs.Told.{Replies}

-- ---- what the deeds are made of, each with the oldest first

-- a message of the host, and one of the client, that is written and read
abbrev pub from_host : ℕ → List ℕ → List Deed
from_host c message = host_writes c message ∷ client_reads c message ∷ []

abbrev pub from_client : ℕ → List ℕ → List Deed
from_client c message = client_writes c message ∷ host_reads c message ∷ []

-- the reply to a device that begins a life
abbrev pub welcome : ℕ → List ℕ
welcome id = reply_bytes (record { id = id; code = status.success })

-- a channel opens, with drives of these ids
abbrev pub opening : ℕ → List ℕ → List Deed
opening c ids =
    host_begins c ∷ from_host c announced ++ from_client c own_confirm ++ from_client c own_name ++ from_host c offered ++ from_host c confirmed
    ++ from_client c own_sets ++ from_host c logged_on ++ from_client c (list_bytes (map drive ids)) ++ flat_map (λ id. from_host c (welcome id)) ids

-- A request: the application that submits it, the life of its device, its key, and what is sent.
pub record Submission : Type 0 where
  pub application : ℕ
  pub life : ℕ
  pub key : Key
  pub request : Request

-- it is accepted and written, and then it is read
abbrev pub goes_out : Submission → List Deed
goes_out s = let r = s.request in
    submits s.application (target.Handle (record { device = r.device; life = s.life; file = r.file })) r.op ∷ host_writes (s.key).channel (request_bytes r) ∷ []

abbrev pub arrives : Submission → List Deed
arrives s = client_reads (s.key).channel (request_bytes s.request) ∷ []

-- its device stores that it came, that it ran or was left waiting then, and that its completion was handed out
abbrev pub comes : Submission → List Deed
comes s = stores (s.request).device (Came s.key) ∷ []

abbrev pub runs : Submission → List Deed
runs s = stores (s.request).device (Ran s.key 0 false false) ∷ []

abbrev pub waits : Submission → List Deed
waits s = stores (s.request).device (Ran s.key 0 false true) ∷ []

abbrev pub is_handed_out : Submission → List Deed
is_handed_out s = stores (s.request).device (Sent s.key) ∷ []

-- it is completed with a reply
abbrev pub completion : Submission → Reply → List ℕ
completion s reply = let r = s.request in
    completion_bytes (kind_of r.op) (record { device = r.device; completion = r.completion; status = reply.status }) reply.body

abbrev pub is_completed : Submission → Reply → List Deed
is_completed s reply = completes s.key (completion s reply) ∷ host_reads (s.key).channel (completion s reply) ∷ []

-- ---- the requests

-- a request of an application for a file of a device in a life, under a completion id, with a channel and an index there
abbrev pub submission : (application device life file id channel index : ℕ) → Op → Submission
submission application device life file id channel index o = record {
  application = application;
  life = life;
  key = record { channel = channel; index = index };
  request = record { device = device; file = file; completion = id; op = o };
}

abbrev pub read : Submission
read = submission 1 1 1 1 0 1 0 (op.Read 0 1)

-- a notification of a folder, which waits until the folder's handle is closed
abbrev pub watch : Submission
watch = submission 2 2 2 1 0 1 1 (op.Notify false 1)

abbrev pub close : Submission
close = submission 3 2 2 1 1 1 2 op.Close

-- device 1 is removed before the one runs, and before the other is read
abbrev pub lost_read : Submission
lost_read = submission 1 1 1 1 0 1 3 (op.Read 1 1)

abbrev pub late_read : Submission
late_read = submission 2 1 1 1 1 1 4 (op.Read 2 1)

-- the channel ends before it is completed
abbrev pub dropped_read : Submission
dropped_read = submission 3 2 2 2 0 1 5 (op.Read 0 1)

abbrev pub last_read : Submission
last_read = submission 3 2 3 3 0 2 0 (op.Read 0 1)

-- ---- the replies

abbrev pub read_reply : Reply
read_reply = record { status = status.success; body = body.Buffer (codes "a") }

abbrev pub close_reply : Reply
close_reply = record { status = status.success; body = body.Closed }

abbrev pub watch_reply : Reply
watch_reply = fault status.notify_cleanup

-- what an entry gives: the run that closes the folder ends what waits there
abbrev pub gives : Item → List KeyedReply
gives (Ran key moment starved true) = []
gives (Ran key moment starved false) = if is_key key close.key then (key, close_reply) ∷ (watch.key, watch_reply) ∷ [] else (key, read_reply) ∷ []
gives _ = []

abbrev pub example_replies : Replies
example_replies device items = flat_map gives items

-- ---- the session

-- Device 1 is removed: its requests are cancelled in its station, or find no device.
abbrev pub removal_under_work : List Deed
removal_under_work =
    goes_out lost_read ++ arrives lost_read ++ comes lost_read ++ goes_out late_read
    ++ removes 1 ∷ stores 1 (Cut Removed) ∷ client_writes 1 (removal_bytes (1 ∷ [])) ∷ stores 1 (Cancelled lost_read.key)
    ∷ arrives late_read ++ host_reads 1 (removal_bytes (1 ∷ []))
    ∷ is_handed_out lost_read ++ is_completed lost_read cancellation ++ is_completed late_read (fault no_such_device)

abbrev pub oldest_first : List Deed
oldest_first =
    opening 1 (1 ∷ 2 ∷ [])
    ++ goes_out read ++ arrives read ++ comes read ++ runs read ++ is_handed_out read ++ is_completed read read_reply ++ takes 1
    ∷ goes_out watch ++ arrives watch ++ comes watch ++ waits watch
    ++ goes_out close ++ arrives close ++ comes close ++ runs close ++ is_handed_out close ++ is_completed close close_reply
    ++ is_handed_out watch ++ is_completed watch watch_reply
    ++ removal_under_work
    ++ goes_out dropped_read ++ arrives dropped_read ++ comes dropped_read ++ runs dropped_read ++ stores 2 (Cut Dropped) ∷ host_ends 1
    ∷ opening 2 (2 ∷ [])
    ++ goes_out last_read ++ arrives last_read ++ comes last_read ++ runs last_read ++ is_handed_out last_read ++ is_completed last_read read_reply

abbrev pub example_deeds : List Deed
example_deeds = reverse oldest_first

-- ---- what it comes to

-- The requests after others: of each its channel and device, and what came of it.
abbrev pub come_to : List Call → List Accepted → List Accepted → List (ℕ × ℕ × Option Outcome)
come_to h earlier [] = []
come_to h earlier (a ∷ later) = (a.channel, a.device, outcome_in h earlier a) ∷ come_to h (earlier ++ a ∷ []) later

abbrev pub outcomes_in : List Call → List (ℕ × ℕ × Option Outcome)
outcomes_in h = come_to h [] (accepted_in h)

-- of all, in the order of their numbers
abbrev pub example_outcomes : List (ℕ × ℕ × Option Outcome)
example_outcomes = outcomes_in (calls_of 1 example_deeds)

-- the request of an entry that it left waiting inside the device
abbrev pub left_waiting : Item → Option Key
left_waiting (Ran key moment starved true) = Some key
left_waiting _ = None
