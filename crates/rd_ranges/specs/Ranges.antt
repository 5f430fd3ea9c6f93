-- When a session's device is fit, and what its replies have then.
use Rattle.std.specs.Prelude.{◌≡◌, ◌≤◌, ◌<◌, ◌^◌, ℕ, Bool, true, List, [], length}
use Rattle.std.specs.List.{AllByRecursion}
use Rattle.rd_base.specs.declared.journal.Item.{Item}
use Rattle.rd_base.specs.declared.journal.Item.TheVariants.{Ran}
use Rattle.rd_base.specs.declared.journal.Key.{Key}
use Rattle.rd_dirinfo.specs.Paths.{is_within_limits}
use Rattle.rd_drive.specs.Bounded.{IsBounded}
use Rattle.rd_drive.specs.Device.{Parked}
use Rattle.rd_drive.specs.Promise.{Applies}
use Rattle.rd_drive.specs.Ranged.{IsReplyInRange, SetsFew}
use Rattle.rd_drive.specs.Replies.{KeyedReply}
use Rattle.rd_drive.specs.Stepped.{Stepped, ran_step}
use Rattle.rd_drive.specs.declared.plan.Job.{Job}
use Rattle.rd_irp.specs.Fits.{IsReplyTo, kind_of}
use Rattle.rd_irp.specs.Written.{completion_bytes}
use Rattle.rd_irp.specs.declared.completion.Reply.{Reply}
use Rattle.rd_irp.specs.declared.op.Op.{Op}
use Rattle.rd_irp.specs.declared.request.Request.{Request}
use Rattle.rd_script.specs.declared.line.Line.{Line}
use Rattle.rd_script.specs.declared.line.Line.TheVariants as line
use Rattle.rd_declared.specs.Devices.{Declared, device_parked, device_runs, device_step}
use Rattle.rd_declared.specs.declared.device.SessionDevice.{SessionDevice}
use Rattle.rd_declared.specs.declared.device.SessionDevice.TheVariants as session

-- a drive is fit within its bounds, and a printer always
abbrev pub IsFitDevice : SessionDevice → Type 0
IsFitDevice (session.Drive s) = IsBounded s
IsFitDevice (session.Printer s) = Unit {0}

-- a device is fit, and nothing waits in it
pub record IsFreshDevice (d : Declared) : Type 0 where
  pub fit : IsFitDevice d.state
  pub quiet : device_parked d.state ≡ []

abbrev pub AreFreshDevices : List (ℕ × Declared) → Type 0
AreFreshDevices devices = AllByRecursion (λ (d : ℕ × Declared). IsFreshDevice d.1) devices

-- What a line names has room on a drive: the name of a drive as its label, and the path of a folder or a file.
unfoldable pub NamesShort : Line → Type 0
NamesShort (line.Drive device name) = length name ≤ 32
NamesShort (line.DriveFold device name) = length name ≤ 32
NamesShort (line.Folder device path) = is_within_limits path ≡ true
NamesShort (line.File device path bytes) = is_within_limits path ≡ true
NamesShort (line.Fill device path len byte) = is_within_limits path ≡ true
NamesShort _ = Unit {0}

-- A request can be completed with this reply: it has the operation's layout, isn't too long, and its numbers have room in their fields.
pub record IsFullReply (o : Op) (reply : Reply) : Type 0 where
  pub replies : IsReplyTo o reply
  pub range : IsReplyInRange reply

-- each of some keys is answered by such a reply to its request
abbrev pub AreFullReplies : (Key → Request) → List KeyedReply → Type 0
AreFullReplies requests replies = AllByRecursion (λ (given : KeyedReply). IsFullReply (requests given.0).op given.1) replies

-- the completion of a request by a reply
abbrev pub completion_with : Request → Reply → List ℕ
completion_with r reply =
    completion_bytes (kind_of r.op) (record { device = r.device; completion = r.completion; status = reply.status }) reply.body

-- a run is of a request that sets few bytes
abbrev pub RunsFew : (Key → Request) → Item → Type 0
RunsFew requests (Ran key moment starved parked) = SetsFew (requests key).op
RunsFew requests _ = Unit {0}

-- each request that waits has the layout of its key's request
abbrev pub AreParkedAs : (Key → Request) → List Parked → Type 0
AreParkedAs requests waiting = AllByRecursion (λ (p : Parked). p.kind ≡ kind_of (requests p.key).op) waiting

-- what comes of a job at a device at a moment, or nothing where no memory is found for it
abbrev pub came_by : SessionDevice → Job → ℕ → Bool → Stepped SessionDevice
came_by s job moment starved = ran_step device_step s job.key job.file job.op moment starved

-- It is what every device promises of a run, and leaves the device fit.
pub record RunsAs (s : SessionDevice) (job : Job) (moment : ℕ) (starved : Bool) : Type 0 where
  pub applies : let came = came_by s job moment starved in
      Applies device_runs device_parked s (record { job = job; starved = starved }) moment came.answer came.ends came.state
  pub fit : IsFitDevice (came_by s job moment starved).state

-- the numbers of a request have room in their fields, and the bytes that it sets can be counted
pub record FitsReply (r : Request) : Type 0 where
  pub device : r.device < 2 ^ 32
  pub file : r.file < 2 ^ 32
  pub completion : r.completion < 2 ^ 32
  pub few : SetsFew r.op
