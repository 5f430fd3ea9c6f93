-- What a front's history does, part by part. A part has in it all that is said of it afterwards, so what was done can be read off the parts alone.
use Rattle.std.specs.Prelude.{◌≡◌, ◌⊎◌, ◌<◌, ◌&&◌, ℕ, Bool, true, false, cond, List, [], ◌∷◌, slice_get, slice_set, Option, Some, None, Result, Ok, Err}
use Rattle.std.specs.declared.alloc.AllocError.{AllocError}
use Rattle.std.specs.List.{list_any}
use Rattle.rd_base.specs.declared.journal.Item.{Item}
use Rattle.rd_base.specs.declared.journal.Key.{Key}
use Rattle.rd_base.specs.declared.status.Status.{Status}
use Rattle.rd_base.specs.Statuses.{insufficient_resources, no_such_device}
use Rattle.rd_client.specs.Core as client
use Rattle.rd_client.specs.Core.{ClientDevice, Outgoing, is_device, is_gone, is_present, may_be_asked, plain}
use Rattle.rd_client.specs.declared.heard.Heard.{Heard}
use Rattle.rd_client.specs.declared.heard.Heard.TheVariants.{Ask}
use Rattle.rd_desk.specs.declared.calls.DeskCall.{DeskCall}
use Rattle.rd_desk.specs.declared.calls.DeskCall.TheVariants as desk
use Rattle.rd_desk.specs.declared.calls.DeskReply.{DeskReply}
use Rattle.rd_desk.specs.declared.calls.DeskReply.TheVariants as replied
use Rattle.rd_devices.specs.Removal.{removal_bytes}
use Rattle.rd_drive.specs.declared.plan.Job.{Job}
use Rattle.rd_front.specs.Front.{ClientDoes, Sends, SpellsCompletion, begun, channel_ended, desk_place, end_call, gone_status, is_announced, is_front_ready, is_told_there, may_hear, most_written, one_if_done, with_new_data}
use Rattle.rd_front.specs.State.{DeviceDeskState, FrontState, SessionStation}
use Rattle.rd_hello.specs.declared.end_fault.EndFault.{EndFault}
use Rattle.rd_hello.specs.declared.end_fault.EndFault.TheVariants as fault
use Rattle.rd_printer.specs.Cache.{HearsNotice}
use Rattle.rd_printer.specs.declared.notice.Notice.{Notice}
use Rattle.rd_station.specs.declared.answers.Completion.{Completion}
use Rattle.rd_station.specs.declared.refusals.PutWhy.{PutWhy}
use Rattle.rd_station.specs.declared.refusals.PutWhy.TheVariants as why
use Rattle.rd_world.specs.Control.{Act, added, removed}
use Rattle.rd_world.specs.Events.{completion_message}
use Rattle.rd_deeds.specs.Talk.{Has}
use Rattle.rd_world.specs.World.{Kept}
use Rattle.rd_served.specs.Served.{Asking, CallsDesk, Served, asks, hands, idle, refused}

pub data FrontPart : Type 0 where
  -- the core heard a message on a channel
  hears : ℕ → List ℕ → Result Heard EndFault → FrontPart
  -- the job that is kept back is to come to its desk; one is kept back; one is given up; one is asked while the client may not be asked
  tries keeps forgets misplaces : FrontPart
  -- a job is answered without its device
  directs : Status → Result (Unit {0}) AllocError → FrontPart
  -- the desk at a place is called, of the device with this id; its station stored these entries since the call before
  calls : ℕ → ℕ → DeskCall → DeskReply → List Item → FrontPart
  -- the host is told that a device is gone, or there again, while a channel is on
  tells_gone tells_there : ℕ → Result (Unit {0}) AllocError → FrontPart
  -- the core's first message on a channel is handed out
  sends : ℕ → Option Outgoing → FrontPart
  -- the completion that was collected of a device is handed out, by a message that spells it, or no memory is found for it
  writes unwritten : ℕ → Completion → FrontPart
  learns : Notice → Result (Unit {0}) AllocError → FrontPart
  refreshes begins : ℕ → FrontPart
  -- the channel ends, or the session; the station of each device stored these entries
  ends : Bool → List (ℕ × List Item) → FrontPart

-- ---- what each part does

-- the job that a message asks for
abbrev pub asking_by : Result Heard EndFault → Asking
asking_by (Ok (Ask device job)) = asks (record { device = device; job = job })
asking_by _ = idle

-- a job that was refused so is given up
abbrev pub MayForget : PutWhy → Type 0
MayForget (why.Duplicate key) = Unit {0}
MayForget why.Memory = Unit {0}
MayForget _ = ⊥

-- A job is answered with this status without its device.
abbrev pub MayBeDirect : Served → Kept → Status → Type 0
MayBeDirect s k st =
    ((s.asking ≡ asks k) × (desk_place (s.front).desks k.device ≡ None) × (st ≡ no_such_device))
    ⊎ (((s.asking ≡ refused k why.Gone) × (st ≡ gone_status s.front k.device))
    ⊎ ((count : ℕ) × (s.asking ≡ refused k (why.Worn count)) × (st ≡ insufficient_resources)))

-- a job that is under way comes to this place
pub record Comes (s : Served) (place : ℕ) (job : Job) : Type 0 where
  pub kept : Kept
  pub asked : s.asking ≡ asks kept
  pub job_is : job ≡ kept.job
  pub at : desk_place (s.front).desks kept.device ≡ Some place
  pub may : may_be_asked (((s.front).client).core).shake ≡ true

-- what is under way after a job came, or didn't
abbrev pub AsksAfter : (s : Served) (place : ℕ) (job : Job) → Comes s place job → DeskReply → Asking → Type 0
AsksAfter s place job c (replied.Put (Ok done)) then = then ≡ idle
AsksAfter s place job c (replied.Put (Err refusal)) then = (then ≡ refused c.kept refusal.why)
AsksAfter s place job c (replied.Unfit back) then = then ≡ idle
AsksAfter s place job c _ then = ⊥

-- what is under way after a call of a desk
abbrev pub AsksBy : Served → ℕ → ℕ → DeskCall → DeskReply → Asking → Type 0
AsksBy s place id (desk.Put job) back then = (c : Comes s place job) × AsksAfter s place job c back then
AsksBy s place id desk.Collect (replied.Collected (Some c)) then = (s.asking ≡ idle) × (then ≡ hands id c)
AsksBy s place id does back then = then ≡ s.asking

-- a call that a front makes of a desk while its channel goes on
abbrev pub IsOpenCall : DeskCall → Type 0
IsOpenCall (desk.Work runs) = ⊥
IsOpenCall desk.DropChannel = ⊥
IsOpenCall desk.End = ⊥
IsOpenCall _ = Unit {0}

-- a device that is there has this id
abbrev pub is_present_as : ℕ → ClientDevice → Bool
is_present_as device d = is_device device d && is_present d

-- A completion is collected where the core has nothing to write. A device is announced to its desk once the host is told of it on the channel that is on, and cut off there once the core has to write that it is gone, while nothing is under way.
abbrev pub FitsCall : Served → ℕ → DeskCall → Type 0
FitsCall s id desk.Collect = (((s.front).client).core).outbox ≡ []
FitsCall s id desk.Remove = (s.asking ≡ idle) × Has (plain (removal_bytes (id ∷ []))) (((s.front).client).core).outbox × (is_told_there s.front id ≡ false) × (is_gone (s.front).client id ≡ true)
FitsCall s id desk.Announce = (s.asking ≡ idle) × ((s.front).on ≡ true) × (is_front_ready s.front ≡ true) × (list_any (is_present_as id) ((s.front).client).devices ≡ true)
FitsCall s id _ = Unit {0}

-- The desk at a place is called.
pub record CallsAt (old : Served) (place id : ℕ) (does : DeskCall) (back : DeskReply) (items : List Item) (new : Served) : Type 0 where
  pub before : DeviceDeskState
  pub after : DeviceDeskState
  pub first : SessionStation
  pub last : SessionStation
  pub there : slice_get (old.front).desks place ≡ Some before
  pub has : slice_get old.stations place ≡ Some first
  pub id_is : before.id ≡ id
  pub own : IsOpenCall does
  pub fits : FitsCall old id does
  pub called : CallsDesk before after first does back items last
  pub front_is : new.front ≡ record old.front { desks = slice_set (old.front).desks place after }
  pub stations_are : new.stations ≡ slice_set old.stations place last
  pub asking_is : AsksBy old place id does back new.asking

-- Each desk is told that the channel ended, or the session.
abbrev pub EndsEach : Bool → List DeviceDeskState → List SessionStation → List (ℕ × List Item) → List DeviceDeskState → List SessionStation → Type 0
EndsEach over [] [] [] [] [] = Unit {0}
EndsEach over (d ∷ ds) (s ∷ ss) (t ∷ ts) (e ∷ es) (u ∷ us) = (back : DeskReply) × (t.0 ≡ d.id) × CallsDesk d e s (end_call over) back t.1 u × EndsEach over ds ss ts es us
EndsEach over _ _ _ _ _ = ⊥

-- the front after that
abbrev pub ended_front : Bool → FrontState → List DeviceDeskState → FrontState
ended_front true s desks = record (channel_ended s desks) { over = true }
ended_front false s desks = channel_ended s desks

-- The front and its stations before a part, and after it.
abbrev pub PartGoes : Served → FrontPart → Served → Type 0
PartGoes old (hears channel message answer) new =
    (channel ≡ (old.front).channel) × (old.asking ≡ idle) × (may_hear old.front ≡ true)
    × ClientDoes old.front (client.hears message answer) (most_written (is_front_ready old.front)) new.front × (new.asking ≡ asking_by answer) × (new.stations ≡ old.stations)
PartGoes old tries new =
    (k : Kept) × ((old.front).kept ≡ Some k) × (old.asking ≡ idle) × ((old.front).on ≡ true)
    × (new ≡ record old { front = record old.front { kept = None }; asking = asks k })
PartGoes old keeps new =
    (k : Kept) × (count : ℕ) × (old.asking ≡ refused k (why.Full count)) × (new ≡ record old { front = record old.front { kept = Some k }; asking = idle })
PartGoes old forgets new = (k : Kept) × (cause : PutWhy) × (old.asking ≡ refused k cause) × MayForget cause × (new ≡ record old { asking = idle })
PartGoes old misplaces new = (k : Kept) × (old.asking ≡ asks k) × (may_be_asked (((old.front).client).core).shake ≡ false) × (new ≡ record old { asking = idle })
PartGoes old (directs st answer) new =
    (k : Kept) × MayBeDirect old k st × ClientDoes old.front (client.directs k.job k.device st answer) (one_if_done answer) new.front × (new.asking ≡ idle) × (new.stations ≡ old.stations)
PartGoes old (calls place id does back items) new = CallsAt old place id does back items new
PartGoes old (tells_gone device answer) new =
    ClientDoes old.front (client.tells_removed device answer) (one_if_done answer) new.front × (new.asking ≡ old.asking) × (new.stations ≡ old.stations) × ((old.front).on ≡ true) × (old.asking ≡ idle)
PartGoes old (tells_there device answer) new =
    ClientDoes old.front (client.tells_added device answer) (one_if_done answer) new.front × (new.asking ≡ old.asking) × (new.stations ≡ old.stations) × ((old.front).on ≡ true) × (old.asking ≡ idle)
PartGoes old (sends channel sent) new =
    (channel ≡ (old.front).channel) × Sends old.front sent new.front × (new.asking ≡ old.asking) × (new.stations ≡ old.stations)
PartGoes old (writes device c) new = (old.asking ≡ hands device c) × (new ≡ record old { asking = idle }) × SpellsCompletion device c (completion_message device c)
PartGoes old (unwritten device c) new = (old.asking ≡ hands device c) × (new ≡ record old { asking = idle })
PartGoes old (learns n answer) new =
    HearsNotice (old.front).cache n answer (new.front).cache × (new ≡ record old { front = record old.front { cache = (new.front).cache } })
PartGoes old (refreshes device) new = new ≡ record old { front = with_new_data old.front device }
PartGoes old (begins channel) new = (old.asking ≡ idle) × ((old.front).on ≡ false) × (((old.front).channel) < channel) × (new ≡ record old { front = begun old.front channel })
PartGoes old (ends over told) new =
    (old.asking ≡ idle) × EndsEach over (old.front).desks old.stations told (new.front).desks new.stations
    × (new.front ≡ ended_front over old.front (new.front).desks) × (new.asking ≡ idle)

-- parts, one after the other
abbrev pub PartsGo : Served → List FrontPart → Served → Type 0
PartsGo old [] new = new ≡ old
PartsGo old (p ∷ ps) new = (next : Served) × PartGoes old p next × PartsGo next ps new

-- ---- what a call's parts tell

-- the message that was heard, and the one that was handed out
abbrev pub heard_in : FrontPart → Option (List ℕ)
heard_in (hears channel message (Err fault.Memory)) = None
heard_in (hears channel message answer) = Some message
heard_in _ = None

abbrev pub handed_by : FrontPart → Option (List ℕ)
handed_by (sends channel (Some o)) = Some o.message
handed_by (writes device c) = Some (completion_message device c)
handed_by _ = None

-- a job that may not come was put, or was asked for too early
abbrev pub is_unfit : FrontPart → Bool
is_unfit (calls place id does (replied.Unfit back) items) = true
is_unfit misplaces = true
is_unfit _ = false

-- the key of the job that has the completion id of one that was put
abbrev pub duplicate_by : PutWhy → Option Key
duplicate_by (why.Duplicate key) = Some key
duplicate_by _ = None

abbrev pub duplicate_of : FrontPart → Option Key
duplicate_of (calls place id does (replied.Put (Err refusal)) items) = duplicate_by refusal.why
duplicate_of _ = None

-- a completion that was collected wasn't written, since no memory was found for it
abbrev pub is_lost : FrontPart → Bool
is_lost (unwritten device c) = true
is_lost _ = false

-- Nothing is to be heard any more on the channel: what was heard is wrong, or a request is given up, or no memory was found for its answer.
abbrev pub stops : FrontPart → Bool
stops (hears channel message (Err fault.Memory)) = false
stops (hears channel message (Err wrong)) = true
stops forgets = true
stops misplaces = true
stops (directs st (Err error)) = true
stops (calls place id does (replied.Unfit job) items) = true
stops _ = false

-- the channel that begins
abbrev pub begun_by : FrontPart → Option ℕ
begun_by (begins channel) = Some channel
begun_by _ = None

-- ---- in which order a call's parts stand

-- a part by which a call begins: a message is heard, or a job tried again
abbrev pub is_start : FrontPart → Bool
is_start (hears channel message answer) = true
is_start tries = true
is_start _ = false

-- the host is told of a device
abbrev pub tells_device : FrontPart → Bool
tells_device (tells_gone device (Ok done)) = true
tells_device (tells_there device (Ok done)) = true
tells_device _ = false

-- what it is told
abbrev pub act_told : FrontPart → Option Act
act_told (tells_gone device (Ok done)) = Some (removed device)
act_told (tells_there device (Ok done)) = Some (added device)
act_told _ = None

-- the device that is announced to its desk, where memory was found for that; and the one that is cut off there
abbrev pub announced_by : FrontPart → Option ℕ
announced_by (calls place id desk.Announce back items) = cond (is_announced back) (Some id) None
announced_by _ = None

abbrev pub cut_by : FrontPart → Option ℕ
cut_by (calls place id desk.Remove back items) = Some id
cut_by _ = None
