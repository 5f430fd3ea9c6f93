-- Which jobs the stations and the hands of a session have, and what the devices did by them.
use Rattle.std.specs.Prelude.{◌≡◌, ◌⊎◌, ℕ, ◌<◌, ◌^◌, false, List, ◌∷◌, ◌++◌, reverse, Contains, Option, Some}
use Rattle.rd_base.specs.Statuses.{insufficient_resources, no_such_device}
use Rattle.rd_base.specs.declared.journal.Item.{Item}
use Rattle.rd_base.specs.declared.journal.Item.TheVariants.{Cancelled, Sent}
use Rattle.rd_drive.specs.Outcome.{fault}
use Rattle.rd_drive.specs.Replies.{cancellation}
use Rattle.std.specs.List.{AllByRecursion}
use Rattle.std.specs.Map.{lookup}
use Rattle.std.specs.Ordering.{nat_cmp}
use Rattle.std.specs.BTreeMap.{is_at}
use Rattle.rd_base.specs.declared.journal.Key.{Key}
use Rattle.rd_client.specs.Core.{Outgoing, job_of}
use Rattle.rd_drive.specs.Ranged.{SetsFew}
use Rattle.rd_drive.specs.declared.plan.Job.{Job}
use Rattle.rd_irp.specs.Fits.{kind_of}
use Rattle.rd_irp.specs.declared.completion.Kind.{Kind}
use Rattle.rd_irp.specs.declared.completion.Reply.{Reply}
use Rattle.rd_irp.specs.declared.request.Request.{Request}
use Rattle.rd_station.specs.Station.{StationCall, StationState, StationSteps, applies, new_station}
use Rattle.rd_station.specs.declared.answers.Completion.{Completion}
use Rattle.rd_station.specs.declared.held.InHand.{InHand}
use Rattle.rd_station.specs.declared.held.ParkedJob.{ParkedJob}
use Rattle.rd_station.specs.Tied.{IsTied}
use Rattle.rd_declared.specs.Devices.{Declared, device_cut, device_cuts, device_parked, device_runs, device_step}
use Rattle.rd_world.specs.Events.{completion_message}
use Rattle.rd_declared.specs.Replies.{replies_read, request_read}
use Rattle.rd_deeds.specs.Talk.{Deed, EachAfter, Has, client_read, completes, journal, request_at}
use Rattle.rd_deeds.specs.Told.{CompletesWith, came}
use Rattle.rd_world.specs.World.{WorldState}
use Rattle.rd_declared.specs.declared.device.SessionDevice.{SessionDevice}
use Rattle.rd_journals.specs.Orderly.{HasStation}

-- the job is that of its key's request, which was read and names the device; and this holds of that
pub record IsJobOf (Fine : Request → Type 0) (deeds : List Deed) (d : ℕ) (job : Job) : Type 0 where
  pub request : Request
  pub read : request_at (client_read job.key.channel deeds) job.key.index ≡ Some request
  pub device : request.device ≡ d
  pub job_is : job ≡ job_of request job.key.channel job.key.index
  pub fine : Fine request

-- the key is that of a request that was read, names the device, and has this completion id; and what it asks for is completed by this layout
pub record IsIdOf (Fine : Request → Type 0) (deeds : List Deed) (d : ℕ) (key : Key) (completion : ℕ) : Type 0 where
  pub request : Request
  pub read : request_at (client_read key.channel deeds) key.index ≡ Some request
  pub device : request.device ≡ d
  pub id : completion ≡ request.completion
  pub fine : Fine request

pub record IsKindOf (Fine : Request → Type 0) (deeds : List Deed) (d : ℕ) (key : Key) (completion : ℕ) (kind : Kind) : Type 0 where
  pub of : IsIdOf Fine deeds d key completion
  pub layout : kind ≡ kind_of of.request.op

-- what is in hands has its request's completion id; what waits inside the device and what is ready its layout too; and what is ready a good reply
pub record OwnsAll (T : Key → ℕ → Type 0) (K : Key → ℕ → Kind → Type 0) (Good : Reply → Type 0) (ts : List InHand) (ps : List ParkedJob) (rs : List Completion) : Type 0 where
  pub taken : (t : InHand) → Has t ts → T t.key t.completion
  pub parked : (p : ParkedJob) → Has p ps → K p.key p.completion p.kind
  pub ready : (x : Completion) → Has x rs → K x.key x.completion x.kind × Good x.reply

-- a job that was run is that of its key's request, which was read
abbrev pub RunsRead : List Deed → StationCall → Type 0
RunsRead deeds (applies planned moment answer) =
    let job = planned.job in
    (r : Request) × (request_at (client_read job.key.channel deeds) job.key.index ≡ Some r) × (job.file ≡ r.file) × (job.op ≡ r.op)
RunsRead deeds _ = Unit {0}

-- The station came to be by calls over a device in this state, by which only jobs of requests that were read were run.
pub record IsLed (deeds : List Deed) (opening : SessionDevice) (s : StationState SessionDevice) : Type 0 where
  pub calls : List StationCall
  pub steps : StationSteps device_runs device_parked device_cuts (new_station opening) calls s
  pub own : AllByRecursion (RunsRead deeds) calls

-- Each station is that of a declared device, and what waits at it or is in a hand are jobs of requests that were read.
pub record AreWorking (Fine : Request → Type 0) (Good : Reply → Type 0) (devices : List (ℕ × Declared)) (stations : List (ℕ × StationState SessionDevice)) (hands : List (Option (ℕ × Job))) (deeds : List Deed) : Type 0 where
  pub led : (d : ℕ) (s : StationState SessionDevice) → HasStation stations d s → (x : Declared) × (lookup (is_at (nat_cmp d)) devices ≡ Some x) × IsLed deeds x.state s
  pub waiting : (d : ℕ) (s : StationState SessionDevice) → HasStation stations d s → (job : Job) → Has job s.waiting → IsJobOf Fine deeds d job
  pub owned : (d : ℕ) (s : StationState SessionDevice) → HasStation stations d s → OwnsAll (IsIdOf Fine deeds d) (IsKindOf Fine deeds d) Good s.taken s.parked s.ready
  pub held : (d : ℕ) (job : Job) → Has (Some (d, job)) hands → IsJobOf Fine deeds d job

-- it holds of each request that was read
abbrev pub AreFine : (Request → Type 0) → List Deed → Type 0
AreFine Fine deeds = (c : ℕ) (k : ℕ) (r : Request) → request_at (client_read c deeds) k ≡ Some r → Fine r

-- A device's station is tied to its journal: what is ready are its keys' replies by it, and the device is in the state in which it leaves it.
abbrev pub IsTiedTo : List Deed → Declared → StationState SessionDevice → Type 0
IsTiedTo deeds x s = IsTied device_step device_cut (request_read deeds) x.state s

-- the numbers of a request, and of what it sets, have room in the fields of its completion
abbrev pub FitsCompletion : Request → Type 0
FitsCompletion r = (r.device < 2 ^ 32) × (r.completion < 2 ^ 32) × SetsFew r.op

-- What is ready at a device's station completes the request of its key, which was read and names the device, with its reply.
pub record IsCompletionOf (deeds : List Deed) (d : ℕ) (x : Completion) : Type 0 where
  pub request : Request
  pub read : request_at (client_read x.key.channel deeds) x.key.index ≡ Some request
  pub device : request.device ≡ d
  pub completes : CompletesWith request x.reply (completion_message d x)

-- The message completes the request of the key, which was read, with a reply of which this holds.
pub record IsAnswerOf (Given : Request → Reply → Type 0) (deeds : List Deed) (key : Key) (message : List ℕ) : Type 0 where
  pub request : Request
  pub reply : Reply
  pub read : request_at (client_read key.channel deeds) key.index ≡ Some request
  pub completes : CompletesWith request reply message
  pub given : Given request reply

-- a client's own answer: there is no such device, or no room
abbrev pub IsRefusalOf : Request → Reply → Type 0
IsRefusalOf r reply = (reply ≡ fault no_such_device) ⊎ (reply ≡ fault insufficient_resources)

-- The reply is given by what the device's journal says before the key was sent.
pub record IsSent (devices : List (ℕ × Declared)) (device : ℕ) (key : Key) (reply : Reply) (before : List Deed) : Type 0 where
  pub earlier : List Item
  pub later : List Item
  pub stands : reverse (journal device before) ≡ earlier ++ Sent key ∷ later
  pub given : Contains (replies_read devices before device earlier) (key, reply)

-- It is given so, or the request was cancelled, or it never came and was refused.
abbrev pub IsSource : List (ℕ × Declared) → List Deed → Key → Request → Reply → Type 0
IsSource devices before key r reply =
    IsSent devices r.device key reply before
    ⊎ ((Has (Cancelled key) (journal r.device before) × (reply ≡ cancellation)) ⊎ ((came key.channel (journal r.device before) key.index ≡ false) × IsRefusalOf r reply))

-- a completion is written after the read of the request that it completes, with a reply that is given so
abbrev pub AnswersRead : List (ℕ × Declared) → List Deed → Deed → Type 0
AnswersRead devices before (completes key message) = IsAnswerOf (IsSource devices before key) before key message
AnswersRead devices before _ = Unit {0}

-- What was written answers what was read, and what is to be written will.
pub record AreSpelled (devices : List (ℕ × Declared)) (outbox : List Outgoing) (deeds : List Deed) : Type 0 where
  pub out : (o : Outgoing) → Has o outbox → (key : Key) → o.answers ≡ Some key → IsAnswerOf IsRefusalOf deeds key o.message
  pub each : EachAfter (AnswersRead devices) deeds

abbrev pub IsSpelledOut : List (ℕ × Declared) → WorldState → Type 0
IsSpelledOut devices w = AreSpelled devices ((w.client).core).outbox w.deeds
