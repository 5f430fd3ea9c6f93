-- What a client tells of its devices on a channel: their first list, and what its front was told to tell.
use Rattle.std.specs.Prelude.{◌≡◌, ℕ, ◌==◌, Bool, true, false, if◌then◌else◌, List, [], ◌∷◌, ◌++◌, length, Ok}
use Rattle.rd_acted.specs.Acted.{SayFirst}
use Rattle.rd_acted.specs.Waiting.{tellings_waiting}
use Rattle.rd_client.specs.Order.{are_all, first_listed, is_own_device}
use Rattle.rd_devices.specs.declared.list.Announce.{Announce}
use Rattle.rd_devices.specs.DeviceList.{list_bytes}
use Rattle.rd_devices.specs.Removal.{removal_bytes}
use Rattle.rd_front.specs.declared.calls.FrontCall.{FrontCall}
use Rattle.rd_front.specs.declared.calls.FrontReply.{FrontReply}
use Rattle.rd_turn.specs.declared.object.Entry.{Entry}
use Rattle.rd_world.specs.Acts.{tellings_on}
use Rattle.rd_world.specs.Control.{Act, added, begun, removed}
use Rattle.rd_deeds.specs.Talk.{Deed}
use Rattle.rd_served.specs.Histories.{HistoryGoes}
use Rattle.rd_served.specs.Parts.{FrontPart, PartsGo, tells_gone, tells_there}
use Rattle.rd_served.specs.Served.{Served}

-- ---- what is to be told on a channel

-- A device is told of on the channel that is on, where memory was found for it.
abbrev pub part_acts : ℕ → Served → FrontPart → List Act
part_acts c old (tells_gone device (Ok done)) = if (old.front).channel == c then removed device ∷ [] else []
part_acts c old (tells_there device (Ok done)) = if (old.front).channel == c then added device ∷ [] else []
part_acts c old _ = []

abbrev pub parts_acts : (c : ℕ) (old : Served) (ps : List FrontPart) (new : Served) → PartsGo old ps new → List Act
parts_acts c old [] new goes = []
parts_acts c old (p ∷ ps) new goes = part_acts c old p ++ parts_acts c goes.0 ps new goes.2

-- by the calls of a history, the oldest first
abbrev pub acts_on : (c : ℕ) (old : Served) (entries : List (Entry FrontCall FrontReply)) (parts : List (List FrontPart)) (new : Served) → HistoryGoes old entries parts new → List Act
acts_on c old [] [] new goes = []
acts_on c old (e ∷ es) (ps ∷ pss) new goes = parts_acts c old ps goes.0 (goes.1).goes ++ acts_on c goes.0 es pss new goes.2
acts_on c old _ _ new goes = []

-- ---- which messages tell it

-- A channel's begin is told by the list of the devices that weren't gone then, a device that is gone by its removal, and one that is there again by the list of it alone, whatever its data.
abbrev pub SaysAct : List Announce → (ℕ → Bool) → Act → List ℕ → Type 0
SaysAct devices gone (begun channel) message = (list : List Announce) × (are_all (first_listed devices gone) list ≡ true) × (message ≡ list_bytes list)
SaysAct devices gone (removed device) message = message ≡ removal_bytes (device ∷ [])
SaysAct devices gone (added device) message = (a : Announce) × (a.id ≡ device) × (is_own_device devices a ≡ true) × (message ≡ list_bytes (a ∷ []))
SaysAct devices gone _ message = ⊥

-- What was told of devices on the channel that began last, and what waits to be told.
abbrev pub told_or_waiting : Served → List Deed → List (List ℕ)
told_or_waiting s deeds = tellings_on (s.front).channel deeds ++ tellings_waiting (((s.front).client).core).outbox

-- Once a client is ready, messages tell of the begin of a channel and of these acts, all of them; before, there are none, and no act.
abbrev pub TellsReady : Bool → List Announce → (ℕ → Bool) → ℕ → List (List ℕ) → List Act → Type 0
TellsReady true devices gone channel messages acts = SayFirst (SaysAct devices gone) messages (begun channel ∷ acts) × (length messages ≡ length (begun channel ∷ acts))
TellsReady false devices gone channel messages acts = (messages ≡ []) × (acts ≡ [])
