-- What each call of a front does. No public standard has one: these are this project's own rules.
use Rattle.std.specs.Prelude.{◌≡◌, ℕ, zero, suc, ◌+◌, ◌-◌, ◌==◌, ◌&&◌, Bool, true, false, not, nat_le, nat_lt, is_none, if◌then◌else◌, List, [], ◌∷◌, drop, length, position, slice_get, slice_set, Option, Some, None, IfSome, Result, Ok, Err}
use Rattle.std.specs.declared.alloc.AllocError.{AllocError}
use Rattle.std.specs.List.{AllZip}
use Rattle.std.specs.Map.{lookup}
use Rattle.std.specs.Option.{option_map_or}
use Rattle.std.specs.Ordering.{nat_cmp}
use Rattle.std.specs.BTreeMap.{is_at}
use Rattle.rd_base.specs.declared.status.Status.{Status}
use Rattle.rd_base.specs.Statuses.{insufficient_resources, no_such_device}
use Rattle.rd_client.specs.Core as client
use Rattle.rd_client.specs.Core.{ClientCall, ClientDevice, ClientStep, Outgoing, directs, has_device, hears, is_gone, max_asked, may_be_asked, sends, tells_added, tells_removed}
use Rattle.rd_client.specs.declared.heard.Heard.{Heard}
use Rattle.rd_client.specs.declared.heard.Heard.TheVariants.{Nothing, Ask, Print}
use Rattle.rd_client.specs.Order.{is_client_ready}
use Rattle.rd_desk.specs.declared.calls.DeskCall.{DeskCall}
use Rattle.rd_desk.specs.declared.calls.DeskCall.TheVariants as desk
use Rattle.rd_desk.specs.declared.calls.DeskReply.{DeskReply}
use Rattle.rd_desk.specs.declared.calls.DeskReply.TheVariants as replied
use Rattle.rd_drive.specs.declared.plan.Job.{Job}
use Rattle.rd_drive.specs.Device.{CompletesKind}
use Rattle.rd_hello.specs.declared.end_fault.EndFault.{EndFault}
use Rattle.rd_hello.specs.declared.end_fault.EndFault.TheVariants as fault
use Rattle.rd_irp.specs.Completion.{SpellsBody, SpellsHead}
use Rattle.rd_printer.specs.declared.notice.Notice.{Notice}
use Rattle.rd_printer.specs.Cache.{HearsNotice}
use Rattle.rd_station.specs.declared.answers.Completion.{Completion}
use Rattle.rd_station.specs.declared.refusals.AnnounceNo.TheVariants as announce_no
use Rattle.rd_station.specs.declared.refusals.PutWhy.{PutWhy}
use Rattle.rd_station.specs.declared.refusals.PutWhy.TheVariants as why
use Rattle.rd_declared.specs.Devices.{PrinterNames, printer_data}
use Rattle.rd_world.specs.Events.{completion_message}
use Rattle.rd_world.specs.World.{Kept}
use Rattle.rd_front.specs.declared.calls.FrontCall.{FrontCall}
use Rattle.rd_front.specs.declared.calls.FrontCall.TheVariants as call
use Rattle.rd_front.specs.declared.calls.FrontReply.{FrontReply}
use Rattle.rd_front.specs.declared.calls.FrontReply.TheVariants as reply
use Rattle.rd_front.specs.declared.calls.Rest.{Rest}
use Rattle.rd_front.specs.declared.calls.Rest.TheVariants as rest
use Rattle.rd_front.specs.declared.next.Got.{Got}
use Rattle.rd_front.specs.declared.next.Got.TheVariants as got
use Rattle.rd_room.specs.Room.{MessageRoom}
use Rattle.rd_front.specs.State.{DeviceDeskState, FrontState, IsCalled}

-- so many messages in the core's outbox, and nothing more is heard, nor told of a device
abbrev pub max_unsent : ℕ
max_unsent = 1024

-- ---- what a call sees

abbrev pub is_front_full : FrontState → Bool
is_front_full s = nat_le max_unsent s.unsent

-- whether the client's opening is over
abbrev pub is_front_ready : FrontState → Bool
is_front_ready s = is_client_ready ((s.client).core).shake

-- the place of a device's desk, if it has one
abbrev pub desk_place : List DeviceDeskState → ℕ → Option ℕ
desk_place desks device = position (λ (d : DeviceDeskState). d.id == device) desks

-- whether the host was last told that a device is there
abbrev pub is_told_there : FrontState → ℕ → Bool
is_told_there s device = is_front_ready s && (has_device s.client device && not (is_gone s.client device))

-- a channel may begin where none is on and the session isn't over; its number is above those before
abbrev pub may_begin : FrontState → ℕ → Bool
may_begin s channel = not s.on && (not s.over && nat_lt s.channel channel)

-- a message may be heard on a channel where no job is kept back
abbrev pub may_hear : FrontState → Bool
may_hear s = s.on && (is_none s.kept && nat_lt (s.client).asked max_asked)

-- a device may be removed, or added again, where the opening is over
abbrev pub may_remove : FrontState → ℕ → Bool
may_remove s device = s.on && is_told_there s device

abbrev pub may_add : FrontState → ℕ → Bool
may_add s device = s.on && (is_front_ready s && is_gone s.client device)

-- ---- replies

abbrev pub done_at : Option ℕ → FrontState → FrontReply
done_at place s = reply.Done place (is_front_full s)

-- how far the channel is
abbrev pub standing_of : FrontState → FrontReply
standing_of s = reply.Stands (s.on && is_front_ready s) (s.client).asked

-- what is done is done; or no memory was found for it
abbrev pub done_where : Bool → FrontState → FrontReply
done_where true s = done_at None s
done_where false s = reply.Memory

abbrev pub done_if : {E : Type 0} → Result (Unit {0}) E → FrontState → FrontReply
done_if (Ok done) s = done_at None s
done_if (Err error) s = reply.Memory

-- Where a call fits it does this; else this is the reply, and nothing changes.
abbrev pub Where : Bool → FrontReply → FrontReply → FrontState → FrontState → Type 0 → Type 0
Where true other back old new does = does
Where false other back old new does = (back ≡ other) × (new ≡ old)

-- What comes next where what came before found its memory; else it comes to nothing more.
abbrev pub Then : Bool → Bool → FrontState → FrontState → Type 0 → Type 0
Then true found old new does = does
Then false found old new does = (found ≡ false) × (new ≡ old)

-- Each of these is gone through in order, up to one for which no memory is found.
abbrev pub Each : {A : Type 0} → (A → FrontState → Bool → FrontState → Type 0) → List A → FrontState → Bool → FrontState → Type 0
Each does [] old found new = (found ≡ true) × (new ≡ old)
Each does (x ∷ others) old found new =
    (went : Bool) × (next : FrontState) × does x old went next × Then went found next new (Each does others next found new)

-- ---- what each part does

-- The client's core makes a call, and so many messages more may stand in its outbox.
abbrev pub ClientDoes : FrontState → ClientCall → ℕ → FrontState → Type 0
ClientDoes old does more new =
    ClientStep old.client does new.client × (new ≡ record old { client = new.client; unsent = old.unsent + more })

abbrev pub one_if_done : {E : Type 0} → Result (Unit {0}) E → ℕ
one_if_done (Ok done) = 1
one_if_done (Err error) = 0

-- The desk at a place is called, and nothing else changes.
pub record DeskDoes (old : FrontState) (place : ℕ) (does : DeskCall) (back : DeskReply) (new : FrontState) : Type 0 where
  pub before : DeviceDeskState
  pub after : DeviceDeskState
  pub there : slice_get old.desks place ≡ Some before
  pub called : IsCalled before does back after
  pub put_back : new ≡ record old { desks = slice_set old.desks place after }

-- ---- a job

-- A request is answered without its device.
abbrev pub AnswersDirectly : FrontState → ℕ → Job → Status → FrontReply → FrontState → Type 0
AnswersDirectly old device job st back new =
    (answer : Result (Unit {0}) AllocError) × ClientDoes old (directs job device st answer) (one_if_done answer) new × (back ≡ done_if answer new)

-- a desk is called as the channel or the session ends
abbrev pub EndsBy : DeskCall → DeviceDeskState → DeviceDeskState → Type 0
EndsBy does before after = (back : DeskReply) × IsCalled before does back after

-- the channel ended: no job is kept back, and nothing is to be sent
abbrev pub channel_ended : FrontState → List DeviceDeskState → FrontState
channel_ended s desks = record s {
  client = record s.client { core = record (s.client).core { outbox = [] } };
  desks = desks;
  kept = None;
  on = false;
  unsent = 0;
}

-- what a desk is told
abbrev pub end_call : Bool → DeskCall
end_call true = desk.End
end_call false = desk.DropChannel

-- each desk is told that the channel ended
abbrev pub ChannelEnds : FrontState → FrontState → Type 0
ChannelEnds old new = AllZip (EndsBy (end_call false)) old.desks new.desks × (new ≡ channel_ended old new.desks)

-- each desk is told that the session is over
abbrev pub SessionEnds : FrontState → FrontState → Type 0
SessionEnds old new = AllZip (EndsBy (end_call true)) old.desks new.desks × (new ≡ record (channel_ended old new.desks) { over = true })

-- what a request to a device is answered with whose station isn't live: a device that the host was told of has one only where its journal is worn
abbrev pub gone_status : FrontState → ℕ → Status
gone_status s device = if is_told_there s device then insufficient_resources else no_such_device

-- A job doesn't come to its desk, and is answered without its device where that is gone or its journal is worn. Where the station is full the job is kept
-- back; and where its completion id is in use, the channel ends.
abbrev pub RefusedPut : FrontState → ℕ → Job → PutWhy → FrontReply → FrontState → Type 0
RefusedPut old device job why.Gone back new = AnswersDirectly old device job (gone_status old device) back new
RefusedPut old device job (why.Duplicate key) back new = (back ≡ reply.Duplicate key) × ChannelEnds old new
RefusedPut old device job (why.Full held) back new =
    (back ≡ reply.Kept) × (new ≡ record old { kept = Some (record { device = device; job = job }) })
RefusedPut old device job (why.Worn count) back new = AnswersDirectly old device job insufficient_resources back new
RefusedPut old device job why.Memory back new = (back ≡ reply.Memory) × (new ≡ old)

-- what follows from a desk's reply to a job
abbrev pub PutBy : FrontState → ℕ → ℕ → DeskReply → FrontReply → FrontState → Type 0
PutBy old device place (replied.Put (Ok done)) back new = (back ≡ done_at (Some place) old) × (new ≡ old)
PutBy old device place (replied.Put (Err refused)) back new = RefusedPut old device refused.job refused.why back new
PutBy old device place (replied.Unfit job) back new = (back ≡ reply.Unfit) × (new ≡ old)
PutBy old device place _ back new = ⊥

-- a job goes to the desk at a place
abbrev pub PutsAt : FrontState → ℕ → Job → ℕ → FrontReply → FrontState → Type 0
PutsAt old device job place back new =
    (answer : DeskReply) × (next : FrontState) × DeskDoes old place (desk.Put job) answer next × PutBy next device place answer back new

abbrev pub PutsIf : FrontState → ℕ → Job → Option ℕ → FrontReply → FrontState → Type 0
PutsIf old device job None back new = AnswersDirectly old device job no_such_device back new
PutsIf old device job (Some place) back new = PutsAt old device job place back new

-- A job goes to its desk, or is answered without its device where there is none.
abbrev pub Puts : FrontState → ℕ → Job → FrontReply → FrontState → Type 0
Puts old device job back new =
    Where (may_be_asked ((old.client).core).shake) reply.Unfit back old new (PutsIf old device job (desk_place old.desks device) back new)

-- The job that is kept back is tried once more.
abbrev pub FrontRetries : FrontState → Option Kept → FrontReply → FrontState → Type 0
FrontRetries old None back new = (back ≡ done_at None old) × (new ≡ old)
FrontRetries old (Some k) back new = Puts (record old { kept = None }) k.device k.job back new

-- a desk's reply to a job is one of these
abbrev pub IsPutReply : DeskReply → Type 0
IsPutReply (replied.Put answer) = Unit {0}
IsPutReply (replied.Unfit job) = Unit {0}
IsPutReply _ = ⊥

-- ---- announcements

-- whether memory was found for what a desk replied
abbrev pub is_announced : DeskReply → Bool
is_announced (replied.Announced (Err announce_no.Memory)) = false
is_announced _ = true

-- The host is told of a device from now on, so its station is live.
abbrev pub Announces : FrontState → Option ℕ → Bool → FrontState → Type 0
Announces old None found new = (found ≡ true) × (new ≡ old)
Announces old (Some place) found new =
    (answer : DeskReply) × DeskDoes old place desk.Announce answer new × (found ≡ is_announced answer)

-- a device is announced, unless it is removed
abbrev pub AnnouncesUnless : Bool → FrontState → ℕ → Bool → FrontState → Type 0
AnnouncesUnless true old device found new = (found ≡ true) × (new ≡ old)
AnnouncesUnless false old device found new = Announces old (desk_place old.desks device) found new

abbrev pub AnnouncesOne : ClientDevice → FrontState → Bool → FrontState → Type 0
AnnouncesOne d old found new = AnnouncesUnless d.removed old (d.announce).id found new

-- ---- a message

-- The opening is over by a message: the devices that aren't removed are announced to their desks.
abbrev pub OpeningEnds : Bool → FrontState → FrontReply → FrontState → Type 0
OpeningEnds true old back new = (found : Bool) × Each AnnouncesOne (old.client).devices old found new × (back ≡ done_where found new)
OpeningEnds false old back new = (back ≡ done_at None old) × (new ≡ old)

-- The host tells of a printer.
abbrev pub LearnsNotice : FrontState → Notice → FrontReply → FrontState → Type 0
LearnsNotice old n back new =
    (answer : Result (Unit {0}) AllocError) × HearsNotice old.cache n answer new.cache × (new ≡ record old { cache = new.cache }) × (back ≡ done_if answer new)

-- what follows from a message, by whether the opening was over before
abbrev pub HeardBy : Bool → FrontState → Heard → FrontReply → FrontState → Type 0
HeardBy ready old Nothing back new = OpeningEnds (not ready && is_front_ready old) old back new
HeardBy ready old (Ask device job) back new = Puts old device job back new
HeardBy ready old (Print n) back new = LearnsNotice old n back new

-- what follows from the core's answer
abbrev pub FollowsFrom : Bool → FrontState → Result Heard EndFault → FrontReply → FrontState → Type 0
FollowsFrom ready old (Err fault.Memory) back new = (back ≡ reply.Memory) × (new ≡ old)
FollowsFrom ready old (Err wrong) back new = (back ≡ reply.Wrong wrong) × (new ≡ old)
FollowsFrom ready old (Ok heard) back new = HeardBy ready old heard back new

-- a message of the opening is followed by three at the most
abbrev pub most_written : Bool → ℕ
most_written ready = if ready then 0 else 3

-- A message is heard.
abbrev pub FrontHears : FrontState → List ℕ → FrontReply → FrontState → Type 0
FrontHears old message back new =
    (answer : Result Heard EndFault) × (next : FrontState) × ClientDoes old (hears message answer) (most_written (is_front_ready old)) next
    × FollowsFrom (is_front_ready old) next answer back new

-- ---- printers

-- the data of a printer's announcement is that of what is kept for it now; any other device stays as it is
abbrev pub with_new_data : FrontState → ℕ → FrontState
with_new_data s device =
    option_map_or (λ (names : PrinterNames). record s { client = client.refresh s.client device (printer_data s.cache names) }) (lookup (is_at (nat_cmp device)) s.printers) s

abbrev pub Refreshes : FrontState → ℕ → Bool → FrontState → Type 0
Refreshes old device true new = new ≡ with_new_data old device
Refreshes old device false new = new ≡ old

abbrev pub RefreshesOne : ℕ × PrinterNames → FrontState → Bool → FrontState → Type 0
RefreshesOne p old found new = Refreshes old p.0 found new

-- a channel begins
abbrev pub begun : FrontState → ℕ → FrontState
begun s channel = record s { client = client.client_begin s.client channel; channel = channel; on = true; unsent = 0 }

abbrev pub BeginsIf : Bool → FrontState → ℕ → FrontReply → FrontState → Type 0
BeginsIf true old channel back new = (back ≡ done_at None new) × (new ≡ begun old channel)
BeginsIf false old channel back new = (back ≡ reply.Memory) × (new ≡ old)

abbrev pub FrontBegins : FrontState → ℕ → FrontReply → FrontState → Type 0
FrontBegins old channel back new =
    (found : Bool) × (next : FrontState) × Each RefreshesOne old.printers old found next × BeginsIf found next channel back new

-- ---- a device is gone, or there again

abbrev pub CutsAt : FrontState → Option ℕ → FrontState → Type 0
CutsAt old None new = new ≡ old
CutsAt old (Some place) new = (answer : DeskReply) × DeskDoes old place desk.Remove answer new

abbrev pub RemovesBy : FrontState → ℕ → Result (Unit {0}) AllocError → FrontReply → FrontState → Type 0
RemovesBy old device (Ok done) back new = (back ≡ done_at (desk_place old.desks device) new) × CutsAt old (desk_place old.desks device) new
RemovesBy old device (Err error) back new = (back ≡ reply.Memory) × (new ≡ old)

-- The host is told that a device is gone, which is cut off at its desk.
abbrev pub FrontRemoves : FrontState → ℕ → FrontReply → FrontState → Type 0
FrontRemoves old device back new =
    (answer : Result (Unit {0}) AllocError) × (next : FrontState) × ClientDoes old (tells_removed device answer) (one_if_done answer) next
    × RemovesBy next device answer back new

abbrev pub AddsBy : FrontState → ℕ → Result (Unit {0}) AllocError → FrontReply → FrontState → Type 0
AddsBy old device (Ok done) back new = (found : Bool) × Announces old (desk_place old.desks device) found new × (back ≡ done_where found new)
AddsBy old device (Err error) back new = (back ≡ reply.Memory) × (new ≡ old)

abbrev pub AddsIf : Bool → FrontState → ℕ → FrontReply → FrontState → Type 0
AddsIf true old device back new =
    (answer : Result (Unit {0}) AllocError) × (next : FrontState) × ClientDoes old (tells_added device answer) (one_if_done answer) next
    × AddsBy next device answer back new
AddsIf false old device back new = (back ≡ reply.Memory) × (new ≡ old)

-- The host is told that a device is there again, with the data of a printer as it is kept now; and its station is live.
abbrev pub FrontAdds : FrontState → ℕ → FrontReply → FrontState → Type 0
FrontAdds old device back new = (found : Bool) × (next : FrontState) × Refreshes old device found next × AddsIf found next device back new

-- ---- the writer

-- a desk's reply to the call for a completion, which fits its layout
abbrev pub IsCollectReply : DeskReply → Type 0
IsCollectReply (replied.Collected answer) = IfSome answer (λ (c : Completion). CompletesKind c.kind c.reply)
IsCollectReply _ = ⊥

-- a message spells a completion of a device: its numbers have room
abbrev pub SpellsCompletion : ℕ → Completion → List ℕ → Type 0
SpellsCompletion device c message =
    SpellsHead (record { device = device; completion = c.completion; status = (c.reply).status }) (length (drop 16 message)) message
    × ((tail : ℕ) × SpellsBody c.kind (c.reply).status (c.reply).body tail (drop 16 message))

-- a completion as a message, where memory is found for it
abbrev pub GivesWritten : ℕ → Completion → Got → Type 0
GivesWritten device c (got.Message message) = (message ≡ completion_message device c) × SpellsCompletion device c message
GivesWritten device c got.Memory = Unit {0}
GivesWritten device c got.Nothing = ⊥

-- the completion that a desk handed out, where one was ready, becomes a message, or no memory is found for that
abbrev pub GivesCollected : ℕ → DeskReply → Got → Type 0
GivesCollected device (replied.Collected None) came = came ≡ got.Nothing
GivesCollected device (replied.Collected (Some c)) came = GivesWritten device c came
GivesCollected device _ came = ⊥

abbrev pub CollectsAt : FrontState → ℕ → Got → FrontState → Type 0
CollectsAt old place came new =
    (answer : DeskReply) × (d : DeviceDeskState) × (slice_get old.desks place ≡ Some d) × DeskDoes old place desk.Collect answer new × GivesCollected d.id answer came

abbrev pub Collects : Bool → FrontState → ℕ → Got → FrontState → Type 0
Collects true old place came new = CollectsAt old place came new
Collects false old place came new = (came ≡ got.Nothing) × (new ≡ old)

abbrev pub GivesBy : FrontState → ℕ → Option Outgoing → Got → FrontState → Type 0
GivesBy old place (Some o) came new = (came ≡ got.Message o.message) × (new ≡ old)
GivesBy old place None came new = Collects (nat_lt place (length old.desks)) old place came new

-- the most messages that stand in the outbox after one was asked for
abbrev pub unsent_after : Option Outgoing → ℕ → ℕ
unsent_after (Some o) unsent = unsent - 1
unsent_after None unsent = 0

-- the core's first message is handed out
abbrev pub Sends : FrontState → Option Outgoing → FrontState → Type 0
Sends old sent new =
    ClientStep old.client (sends sent) new.client × (new ≡ record old { client = new.client; unsent = unsent_after sent old.unsent })

-- One message for the writer: the core's first one, or, where it has none, the completion that was ready first at a place.
abbrev pub GivesNext : FrontState → ℕ → Got → FrontState → Type 0
GivesNext old place came new =
    (sent : Option Outgoing) × (next : FrontState) × Sends old sent next × GivesBy next place sent came new

-- what follows a message, or that none came
abbrev pub FillsBy : Got → FrontState → List (List ℕ) → Rest → FrontState → (List (List ℕ) → Type 0) → Type 0
FillsBy (got.Message message) old messages left new others = (later : List (List ℕ)) × (messages ≡ message ∷ later) × others later
FillsBy got.Nothing old messages left new others = (messages ≡ []) × (left ≡ rest.Nothing) × (new ≡ old)
FillsBy got.Memory old messages left new others = (messages ≡ []) × (left ≡ rest.Memory) × (new ≡ old)

-- So many messages at the most, one after the other.
abbrev pub Fills : ℕ → FrontState → ℕ → List (List ℕ) → Rest → FrontState → Type 0
Fills zero old place messages left new = (messages ≡ []) × (left ≡ rest.More) × (new ≡ old)
Fills (suc most) old place messages left new =
    (came : Got) × (next : FrontState) × GivesNext old place came next × FillsBy came next messages left new (λ later. Fills most next place later left new)

-- ---- the calls

-- the reply to a call for messages
abbrev pub Hands : FrontState → ℕ → MessageRoom → FrontReply → FrontState → Type 0
Hands old place room (reply.Messages filled left) new =
    (filled.places ≡ room.places) × Fills room.places old place filled.messages left new
Hands old place room _ new = ⊥

-- the reply where another channel began last: no messages
abbrev pub none_for : MessageRoom → FrontReply
none_for room = reply.Messages (record room { messages = [] }) rest.Nothing

-- The front before a call, and after it.
abbrev pub FrontStep : FrontState → FrontCall → FrontReply → FrontState → Type 0
FrontStep old (call.Begin channel) back new = Where (may_begin old channel) reply.Refused back old new (FrontBegins old channel back new)
FrontStep old (call.Hear message) back new =
    Where (may_hear old) reply.Refused back old new (Where (not (is_front_full old)) reply.Full back old new (FrontHears old message back new))
FrontStep old call.Retry back new =
    Where old.on reply.Refused back old new (Where (not (is_front_full old)) reply.Full back old new (FrontRetries old old.kept back new))
FrontStep old (call.Next channel place room) back new = Where (channel == old.channel) (none_for room) back old new (Hands old place room back new)
FrontStep old (call.Remove device) back new =
    Where (may_remove old device) reply.Refused back old new (Where (not (is_front_full old)) reply.Full back old new (FrontRemoves old device back new))
FrontStep old (call.Add device) back new =
    Where (may_add old device) reply.Refused back old new (Where (not (is_front_full old)) reply.Full back old new (FrontAdds old device back new))
FrontStep old call.Look back new = (back ≡ standing_of old) × (new ≡ old)
FrontStep old call.EndChannel back new = Where old.on reply.Refused back old new ((back ≡ done_at None new) × ChannelEnds old new)
FrontStep old call.EndSession back new = Where (not old.over) reply.Refused back old new ((back ≡ done_at None new) × SessionEnds old new)
