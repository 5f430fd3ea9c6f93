-- What a client did in a history of its front, the newest first: it is read off the parts.
use Rattle.std.specs.Prelude.{◌≡◌, ℕ, List, [], ◌∷◌, ◌++◌, map, reverse, Option, Some, None, Ok, Err, filter, filter_map}
use Rattle.std.specs.List.{AllByRecursion}
use Rattle.rd_base.specs.Lawful.{IsBelow}
use Rattle.rd_base.specs.declared.journal.Item.{Item}
use Rattle.rd_base.specs.declared.journal.Item.TheVariants.{Came, Sent}
use Rattle.rd_base.specs.declared.journal.Key.{Key}
use Rattle.rd_client.specs.Core.{job_of}
use Rattle.rd_desk.specs.declared.calls.DeskCall.TheVariants as desk
use Rattle.rd_desk.specs.declared.calls.DeskReply.TheVariants as replied
use Rattle.rd_drive.specs.declared.plan.Job.{Job}
use Rattle.rd_front.specs.declared.calls.FrontCall.{FrontCall}
use Rattle.rd_front.specs.declared.calls.FrontReply.{FrontReply}
use Rattle.rd_front.specs.declared.calls.FrontReply.TheVariants as reply
use Rattle.rd_hello.specs.declared.end_fault.EndFault.TheVariants as fault
use Rattle.rd_irp.specs.declared.request.Request.{Request}
use Rattle.rd_station.specs.declared.refusals.PutNo.{PutNo}
use Rattle.rd_turn.specs.declared.object.Entry.{Entry}
use Rattle.rd_world.specs.Events.{completion_message}
use Rattle.rd_deeds.specs.Talk.{Deed, Has, adds, client_read, client_reads, client_writes, completes, journal, on, removes, request_at, stores}
use Rattle.rd_deeds.specs.Told.{came, sent}
use Rattle.rd_served.specs.Histories.{HistoryGoes}
use Rattle.rd_served.specs.Served.{Served}
use Rattle.rd_served.specs.Parts.{FrontPart, PartsGo, calls, ends, hears, sends, tells_gone, tells_there, writes}

-- ---- deeds

-- entries that a station stored, in their order
abbrev pub stored : ℕ → List Item → List Deed
stored device items = map (stores device) (reverse items)

abbrev pub stored_each : List (ℕ × List Item) → List Deed
stored_each [] = []
stored_each (t ∷ others) = stored_each others ++ stored t.0 t.1

-- a message of the core: the completion of a request, or one that completes none
abbrev pub sent_by : ℕ → List ℕ → Option Key → List Deed
sent_by channel message (Some key) = completes key message ∷ []
sent_by channel message None = client_writes channel message ∷ []

-- what the client did by a part
abbrev pub deeds_of : FrontPart → List Deed
deeds_of (hears channel message (Err fault.Memory)) = []
deeds_of (hears channel message answer) = client_reads channel message ∷ []
deeds_of (calls place id does back items) = stored id items
deeds_of (tells_gone device (Ok done)) = removes device ∷ []
deeds_of (tells_there device (Ok done)) = adds device ∷ []
deeds_of (sends channel (Some o)) = sent_by channel o.message o.answers
deeds_of (writes device c) = completes c.key (completion_message device c) ∷ []
deeds_of (ends over told) = stored_each told
deeds_of _ = []

-- what it had done after parts
abbrev pub deeds_after : List FrontPart → List Deed → List Deed
deeds_after [] before = before
deeds_after (p ∷ ps) before = deeds_after ps (deeds_of p ++ before)

-- ---- a completion id that is in use

-- A job has the completion id of an earlier request to its device, which came there and whose completion wasn't handed out.
pub record HasCause (device : ℕ) (job : Job) (key : Key) (deeds : List Deed) : Type 0 where
  -- the job is that of a request that was read, to this device
  pub request : Request
  pub read : request_at (client_read job.key.channel deeds) job.key.index ≡ Some request
  pub device_is : request.device ≡ device
  pub job_is : job ≡ job_of request job.key.channel job.key.index
  -- so is the other one, with the same completion id
  pub other : Request
  pub other_read : request_at (client_read key.channel deeds) key.index ≡ Some other
  pub other_device : other.device ≡ device
  pub same_id : other.completion ≡ request.completion
  pub earlier : IsBelow key job.key
  pub came : Has (Came key) (journal device deeds)
  pub unsent : ¬ (Has (Sent key) (journal device deeds))

-- A call that replies so has the cause among its parts: a job was refused by its desk.
pub record IsDuplicate (key : Key) (before : List Deed) (parts : List FrontPart) : Type 0 where
  pub first : List FrontPart
  pub last : List FrontPart
  pub place : ℕ
  pub device : ℕ
  pub job : Job
  pub refusal : PutNo
  pub items : List Item
  pub parts_are : parts ≡ first ++ calls place device (desk.Put job) (replied.Put (Err refusal)) items ∷ last
  pub cause : HasCause device job key (stored device items ++ deeds_after first before)

abbrev pub IsCaused : List Deed → FrontReply → List FrontPart → Type 0
IsCaused before (reply.Duplicate key) parts = IsDuplicate key before parts
IsCaused before _ parts = Unit {0}

-- Each call of a history that says that a completion id is in use has its cause.
abbrev pub AreCaused : List Deed → List (Entry FrontCall FrontReply) → List (List FrontPart) → Type 0
AreCaused before [] [] = Unit {0}
AreCaused before (e ∷ es) (ps ∷ pss) = IsCaused before e.reply ps × AreCaused (deeds_after ps before) es pss
AreCaused before _ _ = ⊥

-- ---- the whole history

-- what the client had done after all calls of a history
abbrev pub deeds_of_calls : List (List FrontPart) → List Deed → List Deed
deeds_of_calls [] before = before
deeds_of_calls (ps ∷ pss) before = deeds_of_calls pss (deeds_after ps before)

-- the messages that were read, and those that were written, whatever their channel
abbrev pub message_read : Deed → Option (List ℕ)
message_read (client_reads channel message) = Some message
message_read _ = None

abbrev pub message_written : Deed → Option (List ℕ)
message_written (client_writes channel message) = Some message
message_written (completes key message) = Some message
message_written _ = None

-- ---- in which order completions are written

-- the indices on a channel whose completions were written
abbrev pub completed_at : ℕ → Deed → Option ℕ
completed_at c (completes key message) = on c key.channel key.index
completed_at c _ = None

abbrev pub completed : ℕ → List Deed → List ℕ
completed c deeds = filter_map (completed_at c) deeds

-- Of each device on each channel the completions of the keys that came there are those that its journal sent, in its order.
abbrev pub AreInOrder : List Deed → Type 0
AreInOrder deeds = (c device : ℕ) → filter (came c (journal device deeds)) (completed c deeds) ≡ sent c (journal device deeds)

-- ---- channels

-- what was read or written was so on this channel
abbrev pub IsOnChannel : ℕ → Deed → Type 0
IsOnChannel c (client_reads channel message) = channel ≡ c
IsOnChannel c (client_writes channel message) = channel ≡ c
IsOnChannel c (completes key message) = key.channel ≡ c
IsOnChannel c _ = Unit {0}

abbrev pub AreOnChannel : ℕ → List Deed → Type 0
AreOnChannel c deeds = AllByRecursion (IsOnChannel c) deeds

-- By each part messages are read and written on the channel that began last before it, and so by each call of a history.
abbrev pub PartsOnChannel : (old : Served) (ps : List FrontPart) (new : Served) → PartsGo old ps new → Type 0
PartsOnChannel old [] new goes = Unit {0}
PartsOnChannel old (p ∷ ps) new goes = AreOnChannel (old.front).channel (deeds_of p) × PartsOnChannel goes.0 ps new goes.2

abbrev pub EachOnChannel : (old : Served) (entries : List (Entry FrontCall FrontReply)) (parts : List (List FrontPart)) (new : Served) → HistoryGoes old entries parts new → Type 0
EachOnChannel old [] [] new goes = Unit {0}
EachOnChannel old (e ∷ es) (ps ∷ pss) new goes = PartsOnChannel old ps goes.0 (goes.1).goes × EachOnChannel goes.0 es pss new goes.2
EachOnChannel old _ _ new goes = ⊥
