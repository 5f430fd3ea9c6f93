-- What is known of a client's session over a socket, from what its workers served: there are deeds of the client that its bytes and its journals come from.
use Rattle.std.specs.Prelude.{◌∷◌, ◌≡◌, ◌⊎◌, ℕ, ◌<◌, Bool, true, false, List, [], ◌++◌, filter_map, length, map, reverse, IfSome}
use Rattle.std.specs.List.{AllByRecursion, flat_map}
use Rattle.rd_base.specs.declared.journal.Item.{Item}
use Rattle.rd_base.specs.History.{History}
use Rattle.rd_base.specs.Lawful.{IsLawful}
use Rattle.rd_carry.specs.declared.ended.Ended.{Ended}
use Rattle.rd_carry.specs.Outgoing.{HasWritten}
use Rattle.rd_devices.specs.declared.list.Announce.{Announce}
use Rattle.rd_drive.specs.Replies.{AreToldBy}
use Rattle.rd_front.specs.Calls.{FrontEntry}
use Rattle.rd_front.specs.declared.calls.FrontCall.TheVariants as call
use Rattle.rd_served_causes.specs.RunsPremises.{AreBounded}
use Rattle.rd_sharing.specs.ServedOpening.{ServedDeclared, shown_of}
use Rattle.rd_script.specs.declared.line.NumberedLine.{NumberedLine}
use Rattle.rd_world.specs.Acts.{act_by, tellings_on}
use Rattle.rd_world.specs.Control.{is_among}
use Rattle.rd_declared.specs.Devices.{device_cut, device_step}
use Rattle.rd_declared.specs.declared.device.SessionDevice.{SessionDevice}
use Rattle.rd_deeds.specs.Joining.{Stands}
use Rattle.rd_declared.specs.Declaring.{AreDeclared}
use Rattle.rd_world.specs.Recording.{announced_of}
use Rattle.rd_declared.specs.Replies.{request_read}
use Rattle.rd_world.specs.Session.{journals_of}
use Rattle.rd_deeds.specs.Talk.{Deed, EachAfter, client_moves, client_read, client_wrote, journal}
use Rattle.rd_deeds.specs.Told.{AreAnswered, IsHeeded}
use Rattle.rd_workers.specs.Channels.{AllGoByLines, ChannelRun, EndsByCalls, HaveNumbers, IsChannelRun, LinkerTold, Standing, calls_by_all}
use Rattle.rd_workers.specs.Lines.{at_lines}
use Rattle.rd_workers.specs.Logs.{Wrote, messages_for, reader_calls}
use Rattle.rd_served_causes.specs.ServedDeeds.{deeds_of_calls}
use Rattle.rd_served_causes.specs.ServedDevices.{ServedDeviceState}
use Rattle.rd_served_causes.specs.RepliedRemovals.{TellsGone}
use Rattle.rd_served_causes.specs.ServedRepliesGiven.{known_as, replies_served}
use Rattle.rd_served_causes.specs.ServedRepliesPremises.{AreOpened}
use Rattle.rd_served_causes.specs.ServedHistories.{HistoryGoes}
use Rattle.rd_served_causes.specs.ServedParts.{FrontPart}
use Rattle.rd_served_causes.specs.ServedServed.{Served}
use Rattle.rd_served_causes.specs.ServedOrderOrders.{AreMovesInOrder, BeginsWith}
use Rattle.rd_served_causes.specs.ServedOrderTellings.{TellsReady}
use Rattle.rd_served_causes.specs.Cuts.{CutsRemoved}
use Rattle.rd_served_causes.specs.Left.{rest_of}
use Rattle.rd_served_sessions.specs.Acts.{RunsDo, acts_done, none_gone}
use Rattle.rd_served_sessions.specs.Parted.{AreInPlace, ArePartedAt}
use Rattle.rd_served_sessions.specs.Placed.{ArePlaced, ComesLast}
use Rattle.rd_served_sessions.specs.Steps.{AreSteps}
use Rattle.rd_served_sessions.specs.Announcing.{AnnouncesOwn}
use Rattle.rd_served_sessions.specs.Causes.{HaveCauses}
use Rattle.rd_served_sessions.specs.Comings.{ComesThere}
use Rattle.rd_served_sessions.specs.Drops.{EndsFirst, uncut_keys}

-- Lines within the limits of a script, which declare devices that are within their bounds, and stand in the order of their places. Those of each script that was read are so.
pub record AreServable (lines : List NumberedLine) : Type 0 where
  pub declared : AreDeclared lines
  pub bounded : AreBounded lines
  pub placed : AreInPlace lines

-- devices as they begin
abbrev pub device_states : List (ℕ × ServedDeclared) → List (ℕ × ServedDeviceState)
device_states devices = map {B = ℕ × ServedDeviceState} (λ (d : ℕ × ServedDeclared). (d.0, (d.1).state)) devices

-- The marks of a device's journal are its own, where it is known what it does.
abbrev pub IsMarkedAs : Bool → List Deed → ℕ × ServedDeclared → Type 0
IsMarkedAs calm deeds d = IfSome (known_as calm (d.1).state) (λ (s : SessionDevice). AreToldBy device_step device_cut (request_read deeds) s (reverse (journal d.0 deeds)))

-- What the client read on a channel are all messages that came on it; and what it wrote there was put to the channel's other half, which has nothing waiting. That nothing more could be
-- written was said only where a write had failed.
pub record IsServedRun (deeds : List Deed) (r : ChannelRun) : Type 0 where
  pub is : IsChannelRun r
  pub read : client_read (r.reading).channel deeds ≡ reverse ((r.reading).incoming).messages
  pub written : HasWritten ((r.wrote).began).held (reverse (client_wrote (r.reading).channel deeds)) (r.wrote).ended
  pub flushed : ((r.wrote).ended).pending ≡ []
  pub stopped : (r.wrote).stopped ≡ true → 0 < ((r.wrote).ended).faults

-- What was told of devices on a channel, and what was still to be told as it ended, says that the channel began, by the list of the devices that weren't gone then, and after that what its calls did, all of it, in order; before the client was ready nothing was told or done.
pub record TellsRun (devices : List Announce) (gone : ℕ → ℕ → Bool) (deeds : List Deed) (rest : ℕ → List Deed) (r : ChannelRun) : Type 0 where
  pub ready : Bool
  pub tells : let c = (r.reading).channel in TellsReady ready devices (gone c) c (tellings_on c (rest c ++ deeds)) (acts_done (r.reading).calls)

-- The client's half of a session of these devices, by which channels of these lines were served up to this end, by these calls of the front. Where no folder had a fault, drives over folders that told their nodes are known to do what drives do.
pub record IsToldSession (calm : Bool) (devices : List (ℕ × ServedDeclared)) (lines : List NumberedLine) (channels : ℕ) (by : Ended) (entries : List FrontEntry) (books : List (ℕ × History)) (old new : LinkerTold) : Type 0 where
  -- what the client did, the newest first; which devices were gone when a channel began; and what was still to be written on it as it ended, the newest first
  pub deeds : List Deed
  pub gone : ℕ → ℕ → Bool
  pub rest : ℕ → List Deed
  -- what was done on each channel, and how the session ended
  pub runs : List ChannelRun
  pub calls : List FrontEntry
  pub done : List Wrote
  pub ends : EndsByCalls (at_lines lines) channels by calls done old new
  pub calls_are : calls ≡ calls_by_all runs
  pub called : (last : FrontEntry) × (reader_calls entries ≡ calls ++ last ∷ []) × (last.call ≡ call.EndSession)
  pub handed : (c : ℕ) → reverse (client_wrote c deeds) ≡ messages_for c entries
  pub done_are : done ≡ map (λ (r : ChannelRun). r.wrote) runs
  pub numbered : HaveNumbers 0 runs
  -- the calls of each channel go by the script's lines
  pub lines_go : (here : Standing) × AllGoByLines runs (at_lines lines) here.lines
  pub each : AllByRecursion (IsServedRun deeds) runs
  -- on no other channel was anything read or written
  pub unread : (c : ℕ) → (c ≡ 0) ⊎ (length runs < c) → client_read c deeds ≡ []
  pub unwritten : (c : ℕ) → (c ≡ 0) ⊎ (length runs < c) → client_wrote c deeds ≡ []
  -- these are the deeds of the front's history by parts, from a new front over a client with these devices on, each call of which is a step of the front; and what was still to be written on a channel is what stood in the core's outbox as it ended
  pub opening : Served
  pub final : Served
  pub parts : List (List FrontPart)
  pub goes : HistoryGoes opening entries parts final
  pub steps : AreSteps opening entries parts final goes
  pub opens : BeginsWith (announced_of (map shown_of devices)) opening
  -- its desks are over these devices
  pub opened : AreOpened (device_states devices) (opening.front).desks
  pub done_so : deeds ≡ deeds_of_calls parts []
  pub left : (c : ℕ) → rest c ≡ rest_of opening entries parts final goes c
  -- what the client tells are its answers, by the replies that its devices give, which stand after their requests, and with the rest of a channel pass none of these over but the last there; and it tells them in order
  pub told : AreAnswered (replies_served calm (device_states devices) parts deeds) deeds
  pub heeded : (c : ℕ) → IsHeeded (replies_served calm (device_states devices) parts deeds) c deeds (rest c)
  pub stands : EachAfter Stands deeds
  -- of whichever device, what a removal cancelled is told behind the removal
  pub removals : EachAfter TellsGone deeds
  pub order : (c : ℕ) → AreMovesInOrder (announced_of (map shown_of devices)) (gone c) (client_moves c deeds)
  -- of its devices it tells what the calls of each channel did, and these did all that was done; and only what was removed is cut off as gone
  pub tells : AllByRecursion (TellsRun (announced_of (map shown_of devices)) gone deeds rest) runs
  pub acts : filter_map act_by (reverse deeds) ≡ flat_map (λ (r : ChannelRun). acts_done (r.reading).calls) runs
  pub cuts : EachAfter CutsRemoved deeds
  -- each line that acts does what there is to do then, and else nothing; which devices were gone as a channel began is by what was done before
  pub does : RunsDo (map (λ (a : Announce). a.id) (announced_of (map shown_of devices))) gone none_gone runs
  -- what each call did stands by itself, behind what was done before it; and a request comes only while it is the last that was read
  pub placed : ArePlaced entries deeds
  pub last : EachAfter ComesLast deeds
  -- a line that removes a device parts the requests of its channel: those that came to the device before it was cut off, and those that come after
  pub parted : ArePartedAt lines deeds
  -- the books have one journal of each device, which is lawful, and whose marks are those of the device where it is known what it does, by the requests that were read
  pub journals : journals_of books ≡ map {B = ℕ × List Item} (λ (d : ℕ × ServedDeclared). (d.0, reverse (journal d.0 deeds))) devices
  pub lawful : AllByRecursion (λ (d : ℕ × ServedDeclared). IsLawful (reverse (journal d.0 deeds))) devices
  pub marked : AllByRecursion (IsMarkedAs calm deeds) devices
  -- where the front found that a message is wrong, or that a completion id is in use, it's so
  pub caused : AllByRecursion (HaveCauses deeds) runs
  -- a request comes only where its device is there for the host, and only to the session's own devices anything is stored
  pub comes : EachAfter ComesThere deeds
  pub own : (device : ℕ) → is_among (map (λ (d : ℕ × ServedDeclared). d.0) devices) device ≡ false → journal device deeds ≡ []
  -- a channel that ends leaves nothing under way: its requests were cut off before anything is done on a later one, or at the session's end, and nothing is stored of them after that
  pub drops : EachAfter EndsFirst deeds
  pub cut_off : (device : ℕ) → uncut_keys (journal device deeds) ≡ []
  -- what announces devices has the type, the name and the data that were declared
  pub announces : AllByRecursion (AnnouncesOwn (map shown_of devices)) deeds
