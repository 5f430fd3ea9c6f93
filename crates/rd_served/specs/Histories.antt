-- A front's history, call by call: the parts of each call, and what they tell of it.
use Rattle.std.specs.Prelude.{◌≡◌, ◌⊎◌, ◌||◌, ℕ, Bool, true, false, List, [], ◌∷◌, filter_map, slice_get, Option, None, Some, Ok, Err}
use Rattle.std.specs.List.{AllByRecursion, AllZip}
use Rattle.rd_base.specs.declared.journal.Key.{Key}
use Rattle.rd_client.specs.declared.heard.Heard.TheVariants.{Nothing}
use Rattle.rd_front.specs.Calls.{RanOut, hinders}
use Rattle.rd_front.specs.Front.{desk_place, is_front_ready, is_told_there}
use Rattle.rd_front.specs.declared.calls.FrontCall.{FrontCall}
use Rattle.rd_front.specs.declared.calls.FrontCall.TheVariants as call
use Rattle.rd_front.specs.declared.calls.FrontReply.{FrontReply}
use Rattle.rd_front.specs.declared.calls.FrontReply.TheVariants as reply
use Rattle.rd_front.specs.State.{DeviceDeskState, FrontState, SessionStation}
use Rattle.rd_hello.specs.declared.end_fault.EndFault.TheVariants as fault
use Rattle.rd_station.specs.Station.{new_station}
use Rattle.rd_turn.specs.declared.object.Entry.{Entry}
use Rattle.rd_world.specs.Control.{Act, added, removed}
use Rattle.rd_served.specs.Parts.{FrontPart, PartsGo, act_told, announced_by, begins, begun_by, cut_by, duplicate_of, handed_by, heard_in, hears, is_lost, is_start, is_unfit, stops, tells_gone, tells_there}
use Rattle.rd_served.specs.Served.{IsStationed, Served, idle}
use Rattle.rd_served_devices.specs.ServedDevices.{ServedDeviceState, served_parked}

-- the messages that a reply hands out
abbrev pub handed_out : FrontReply → List (List ℕ)
handed_out (reply.Messages filled left) = filled.messages
handed_out _ = []

-- The message of a call was heard, unless the call didn't fit; where no memory was found, it may have been.
abbrev pub IsHeardBy : List ℕ → FrontReply → List (List ℕ) → Type 0
IsHeardBy message reply.Refused heard = heard ≡ []
IsHeardBy message reply.Full heard = heard ≡ []
IsHeardBy message reply.Memory heard = (heard ≡ []) ⊎ (heard ≡ message ∷ [])
IsHeardBy message _ heard = heard ≡ message ∷ []

abbrev pub HearsAs : FrontCall → FrontReply → List (List ℕ) → Type 0
HearsAs (call.Hear message) back heard = IsHeardBy message back heard
HearsAs _ back heard = heard ≡ []

-- one of these parts is so
abbrev pub Among : (FrontPart → Type 0) → List FrontPart → Type 0
Among P [] = ⊥
Among P (p ∷ ps) = P p ⊎ Among P ps

-- whether a part stopped the channel since it began
abbrev pub stopped_by : Bool → FrontPart → Bool
stopped_by was (begins channel) = false
stopped_by was part = stops part || was

-- a message is heard only before that
abbrev pub HearsBefore : Bool → FrontPart → Type 0
HearsBefore was (hears channel message (Err fault.Memory)) = Unit {0}
HearsBefore was (hears channel message answer) = was ≡ false
HearsBefore was _ = Unit {0}

abbrev pub HearBefore : Bool → List FrontPart → Type 0
HearBefore was [] = Unit {0}
HearBefore was (p ∷ ps) = HearsBefore was p × HearBefore (stopped_by was p) ps

-- whether a call may hear a message or try a job again: none does that doesn't fit, or comes while too much is to be written
abbrev pub may_start : FrontCall → FrontReply → Bool
may_start (call.Hear message) reply.Refused = false
may_start (call.Hear message) reply.Full = false
may_start (call.Hear message) back = true
may_start call.Retry reply.Refused = false
may_start call.Retry reply.Full = false
may_start call.Retry back = true
may_start does back = false

-- It does so by its first part at the most.
abbrev pub StartsBy : Bool → List FrontPart → Type 0
StartsBy true [] = Unit {0}
StartsBy true (p ∷ ps) = AllByRecursion (λ x. is_start x ≡ false) ps
StartsBy false ps = AllByRecursion (λ x. is_start x ≡ false) ps

-- The desk of a device is called so by a later part, where it has one.
abbrev pub FollowsAt : List DeviceDeskState → ℕ → (FrontPart → Option ℕ) → List FrontPart → Type 0
FollowsAt desks device by later = (desk_place desks device ≡ None) ⊎ Among (λ x. by x ≡ Some device) later

-- What the host is told of a device is followed by a call of its desk.
abbrev pub IsFollowed : List DeviceDeskState → FrontPart → List FrontPart → Type 0
IsFollowed desks (tells_gone device (Ok done)) later = FollowsAt desks device cut_by later
IsFollowed desks (tells_there device (Ok done)) later = FollowsAt desks device announced_by later
IsFollowed desks _ later = Unit {0}

abbrev pub AreFollowed : List DeviceDeskState → List FrontPart → Type 0
AreFollowed desks [] = Unit {0}
AreFollowed desks (p ∷ ps) = IsFollowed desks p ps × AreFollowed desks ps

-- Where the opening is over by the message of a call, each device that the host is told of by that is announced to its desk.
abbrev pub OpensEach : (old : Served) (ps : List FrontPart) (new : Served) → PartsGo old ps new → Type 0
OpensEach old (hears channel message answer ∷ ps) new goes =
    answer ≡ Ok Nothing → is_front_ready old.front ≡ false → is_front_ready (goes.0).front ≡ true → (device : ℕ) → is_told_there (goes.0).front device ≡ true → FollowsAt (old.front).desks device announced_by ps
OpensEach old _ new goes = Unit {0}

-- By a call that is done the host is told of the call's device, once; by others of none. Where no memory was found for the desk of a device that is there again, the host may have been told of it.
abbrev pub TellsOnce : FrontCall → FrontReply → List Act → Type 0
TellsOnce (call.Remove device) (reply.Done at full) acts = acts ≡ removed device ∷ []
TellsOnce (call.Add device) (reply.Done at full) acts = acts ≡ added device ∷ []
TellsOnce (call.Add device) reply.Memory acts = (acts ≡ []) ⊎ (acts ≡ added device ∷ [])
TellsOnce does back acts = acts ≡ []

-- What a call and its reply say of the parts. A part stops the channel only where the reply hinders, and the call's message is heard before it.
pub record TellsParts (does : FrontCall) (back : FrontReply) (parts : List FrontPart) : Type 0 where
  pub unfit : back ≡ reply.Unfit → Among (λ p. is_unfit p ≡ true) parts
  pub duplicate : (key : Key) → back ≡ reply.Duplicate key → Among (λ p. duplicate_of p ≡ Some key) parts
  pub lost : Among (λ p. is_lost p ≡ true) parts → RanOut back
  pub stopped : Among (λ p. stops p ≡ true) parts → hinders back ≡ true
  pub before : HearBefore false parts
  pub first : StartsBy (may_start does back) parts
  pub begun : (channel : ℕ) (at : Option ℕ) (full : Bool) → does ≡ call.Begin channel → back ≡ reply.Done at full → Among (λ p. begun_by p ≡ Some channel) parts
  pub acts : TellsOnce does back (filter_map act_told parts)

-- A call's parts: they lead from the front before it to the front after it, between which nothing is under way.
pub record CallGoes (old : Served) (does : FrontCall) (back : FrontReply) (parts : List FrontPart) (new : Served) : Type 0 where
  pub before : old.asking ≡ idle
  pub goes : PartsGo old parts new
  pub after : new.asking ≡ idle
  pub handed : filter_map handed_by parts ≡ handed_out back
  pub heard : HearsAs does back (filter_map heard_in parts)
  pub tells : TellsParts does back parts
  -- where memory was found for all of it
  pub follows : hinders back ≡ false → AreFollowed (old.front).desks parts
  pub opens : hinders back ≡ false → OpensEach old parts new goes

-- The calls of a history, each with its parts.
abbrev pub HistoryGoes : Served → List (Entry FrontCall FrontReply) → List (List FrontPart) → Served → Type 0
HistoryGoes old [] [] new = new ≡ old
HistoryGoes old (e ∷ es) (ps ∷ pss) new = (next : Served) × CallGoes old e.call e.reply ps next × HistoryGoes next es pss new
HistoryGoes old _ _ new = ⊥

-- ---- where it begins

-- The desk of a device in which nothing waits: its station is new, and the front's pass has seen nothing there.
pub record IsNewDesk (d : DeviceDeskState) : Type 0 where
  pub device : ServedDeviceState
  pub nothing : served_parked device ≡ []
  pub opening : (d.turn).opening ≡ new_station device
  pub unseen : (d.pass).seen ≡ []

-- A front before its first channel, over new desks, with nothing to write.
pub record IsNewFront (s : FrontState) : Type 0 where
  pub desks : AllByRecursion IsNewDesk s.desks
  pub kept : s.kept ≡ None
  pub off : s.on ≡ false
  pub nothing : ((s.client).core).outbox ≡ []

-- Each desk has a station to which all leads that the front's pass has seen there, where each call of another pass is a hand's.
abbrev pub AreStationed : List DeviceDeskState → List SessionStation → Type 0
AreStationed desks stations = AllZip IsStationed desks stations

-- no two desks are of the same device
abbrev pub AreApart : List DeviceDeskState → Type 0
AreApart desks = (i j : ℕ) (d e : DeviceDeskState) → slice_get desks i ≡ Some d → slice_get desks j ≡ Some e → d.id ≡ e.id → i ≡ j

-- Where a history begins: a new front over desks of different devices, each with its station, and nothing under way.
pub record BeginsNew (s : Served) : Type 0 where
  pub new : IsNewFront s.front
  pub apart : AreApart (s.front).desks
  pub stationed : AreStationed (s.front).desks s.stations
  pub idle_is : s.asking ≡ idle
