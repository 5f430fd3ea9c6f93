-- What each call of a host's front does: which calls of the host's core and of the table it makes, in order, and what follows from their answers. No public
-- standard has one: these are this project's own rules, over what a host hears and writes (MS-RDPEFS 3.3.5).
use Rattle.std.specs.Prelude.{◌≡◌, ℕ, zero, suc, ◌+◌, ◌-◌, ◌==◌, ◌&&◌, Bool, true, false, not, nat_le, nat_lt, if◌then◌else◌, MatchBool, List, [], ◌∷◌, length, ◌≤◌, Option, Some, None, Result, Ok, Err}
use Rattle.std.specs.declared.alloc.AllocError.{AllocError}
use Rattle.rd_base.specs.declared.status.Status.{Status}
use Rattle.rd_base.specs.Limits.{max_devices}
use Rattle.rd_base.specs.Statuses as status
use Rattle.rd_devices.specs.declared.list.Announce.{Announce}
use Rattle.rd_hello.specs.declared.end_fault.EndFault.{EndFault}
use Rattle.rd_hello.specs.declared.end_fault.EndFault.TheVariants as fault
use Rattle.rd_host.specs.declared.act.Act.{Act}
use Rattle.rd_host.specs.declared.act.Act.TheVariants as act
use Rattle.rd_host.specs.Core.{HostCall, HostCoreState, HostStep, IsHostReady, begins, hears, replies, sends}
use Rattle.rd_host.specs.Order.{is_host_ready}
use Rattle.rd_host.specs.Served.{is_served_type}
use Rattle.rd_irp.specs.declared.completion.Head.{Head}
use Rattle.rd_pending.specs.declared.calls.CompleteNo.{CompleteNo}
use Rattle.rd_pending.specs.declared.calls.CompleteNo.TheVariants as complete_no
use Rattle.rd_pending.specs.declared.calls.Completed.{Completed}
use Rattle.rd_pending.specs.declared.calls.Completed.TheVariants.{Gave, Late}
use Rattle.rd_pending.specs.declared.calls.LiveNo.{LiveNo}
use Rattle.rd_pending.specs.declared.calls.LiveNo.TheVariants as live_no
use Rattle.rd_room.specs.Room.{MessageRoom}
use Rattle.rd_table.specs.declared.calls.PendingCall.{PendingCall}
use Rattle.rd_table.specs.declared.calls.PendingCall.TheVariants as table
use Rattle.rd_table.specs.declared.calls.PendingReply.{PendingReply}
use Rattle.rd_table.specs.declared.calls.PendingReply.TheVariants as replied
use Rattle.rd_turn.specs.Pass.{max_made}
use Rattle.rd_host_front.specs.declared.calls.HostFrontCall.{HostFrontCall}
use Rattle.rd_host_front.specs.declared.calls.HostFrontCall.TheVariants as call
use Rattle.rd_host_front.specs.declared.calls.HostFrontReply.{HostFrontReply}
use Rattle.rd_host_front.specs.declared.calls.HostFrontReply.TheVariants as reply
use Rattle.rd_host_front.specs.declared.calls.Came.{Came}
use Rattle.rd_host_front.specs.declared.calls.Came.TheVariants as came
use Rattle.rd_host_front.specs.declared.calls.Stop.{Stop}
use Rattle.rd_host_front.specs.declared.calls.Stop.TheVariants as stop
use Rattle.rd_host_front.specs.declared.calls.Wakes.{Wakes}
use Rattle.rd_host_front.specs.declared.calls.Wakes.TheVariants as wakes
use Rattle.rd_host_front.specs.State.{FrontPassCalls, HostFrontState, PassOfTable, Renews, RenewsBy}

-- so many messages in the core's outbox, and nothing more is heard
abbrev pub max_core_unsent : ℕ
max_core_unsent = 1024

-- ---- what a call sees

abbrev pub has_many_unsent : HostFrontState → Bool
has_many_unsent s = nat_le max_core_unsent s.unsent

-- whether the opening of the channel is over
abbrev pub is_opened : HostFrontState → Bool
is_opened s = is_host_ready ((s.core).core).shake

-- whether the channel of this number began last, and hasn't ended
abbrev pub is_channel_on : HostFrontState → ℕ → Bool
is_channel_on s channel = s.on && (s.channel == channel)

-- two passes more may be split from pass 0
abbrev pub may_renew : PassOfTable → Bool
may_renew first = nat_le first.made (max_made - 2)

-- A channel may begin where none is on, whose number is above those before.
abbrev pub may_begin_on : HostFrontState → ℕ → PassOfTable → Bool
may_begin_on s channel first = not s.on && (nat_lt s.channel channel && may_renew first)

-- ---- what each part does

-- The host's core makes a call, and so many messages more may stand in its outbox.
abbrev pub CoreDoes : HostFrontState → HostCall → ℕ → HostFrontState → Type 0
CoreDoes old does more new = HostStep old.core does new.core × (new ≡ record old { core = new.core; unsent = old.unsent + more })

-- The front's pass calls the table, and nothing else changes.
abbrev pub TableDoes : HostFrontState → PendingCall → PendingReply → HostFrontState → Type 0
TableDoes old does back new = FrontPassCalls old.table does back new.table × (new ≡ record old { table = new.table })

-- whether memory was found for it
abbrev pub is_found : Result (Unit {0}) AllocError → Bool
is_found (Ok done) = true
is_found (Err error) = false

abbrev pub one_if_found : Bool → ℕ
one_if_found true = 1
one_if_found false = 0

-- What comes next where what came before found its memory; else it comes to nothing more.
abbrev pub OnFound : Bool → Bool → HostFrontState → HostFrontState → Type 0 → Type 0
OnFound true found old new does = does
OnFound false found old new does = (found ≡ false) × (new ≡ old)

-- ---- a message

-- A device is replied to with this code.
abbrev pub RepliesToDevice : HostFrontState → ℕ → Status → Bool → HostFrontState → Type 0
RepliesToDevice old device code found new =
    (answer : Result (Unit {0}) AllocError) × CoreDoes old (replies device code answer) (one_if_found (is_found answer)) new × (found ≡ is_found answer)

-- the code that tells whether a device began a life
abbrev pub life_code : Result ℕ LiveNo → Status
life_code (Ok life) = status.success
life_code (Err live_no.Already) = status.object_name_collision
life_code (Err cause) = status.insufficient_resources

-- what follows from the table's answer to a device that was announced
abbrev pub AdmitsBy : HostFrontState → ℕ → Result ℕ LiveNo → Bool → HostFrontState → Type 0
AdmitsBy old device (Err live_no.Memory) found new = (found ≡ false) × (new ≡ old)
AdmitsBy old device life found new = RepliesToDevice old device (life_code life) found new

-- a device begins a life, if it can
abbrev pub BeginsLife : HostFrontState → ℕ → Bool → HostFrontState → Type 0
BeginsLife old device found new =
    (life : Result ℕ LiveNo) × (next : HostFrontState) × TableDoes old (table.Live device) (replied.Lives life) next × AdmitsBy next device life found new

-- A device was announced: where its type is served it begins a life, if it can, and it is replied to.
abbrev pub Admits : HostFrontState → Announce → Bool → HostFrontState → Type 0
Admits old a found new = MatchBool (is_served_type a.kind) (BeginsLife old a.id found new) (RepliesToDevice old a.id status.not_supported found new)

-- Devices were announced, in order; they are gone through up to one for which no memory is found.
abbrev pub AdmitsAll : List Announce → HostFrontState → Bool → HostFrontState → Type 0
AdmitsAll [] old found new = (found ≡ true) × (new ≡ old)
AdmitsAll (a ∷ devices) old found new =
    (went : Bool) × (next : HostFrontState) × Admits old a went next × OnFound went found next new (AdmitsAll devices next found new)

-- A device is gone.
abbrev pub Forgets : HostFrontState → ℕ → HostFrontState → Type 0
Forgets old device new = (was : Bool) × TableDoes old (table.Remove device) (replied.Removed was) new

-- Devices are gone, in order.
abbrev pub ForgetsAll : List ℕ → HostFrontState → HostFrontState → Type 0
ForgetsAll [] old new = new ≡ old
ForgetsAll (id ∷ ids) old new = (next : HostFrontState) × Forgets old id next × ForgetsAll ids next new

-- Devices are announced to a host whose opening is over, as many as a list has at the most.
abbrev pub IsReadyFor : Act → HostCoreState → Type 0
IsReadyFor (act.Announced devices) core = IsHostReady core × (length devices ≤ max_devices)
IsReadyFor _ core = Unit {0}

-- a message of the opening is followed by two at the most
abbrev pub most_following : Bool → ℕ
most_following opened = if opened then 0 else 2

-- ---- messages for the writer

-- the most messages that stand in the outbox after one was asked for
abbrev pub unsent_since : Option (List ℕ) → ℕ → ℕ
unsent_since (Some message) unsent = unsent - 1
unsent_since None unsent = 0

-- the core's first message is handed out
abbrev pub SendsOwn : HostFrontState → Option (List ℕ) → HostFrontState → Type 0
SendsOwn old sent new = HostStep old.core (sends sent) new.core × (new ≡ record old { core = new.core; unsent = unsent_since sent old.unsent })

abbrev pub GivesAfter : HostFrontState → Option (List ℕ) → Option (List ℕ) → HostFrontState → Type 0
GivesAfter old (Some message) given new = (given ≡ Some message) × (new ≡ old)
GivesAfter old None given new = TableDoes old table.Outbox (replied.Sent given) new

-- One message: the core's first one, or, where it has none, the table's.
abbrev pub HandsOne : HostFrontState → Option (List ℕ) → HostFrontState → Type 0
HandsOne old given new = (sent : Option (List ℕ)) × (next : HostFrontState) × SendsOwn old sent next × GivesAfter next sent given new

-- what follows a message, or that there was none
abbrev pub FillsAfter : Option (List ℕ) → HostFrontState → List (List ℕ) → Stop → HostFrontState → (List (List ℕ) → Type 0) → Type 0
FillsAfter (Some message) old messages why new others = (later : List (List ℕ)) × (messages ≡ message ∷ later) × others later
FillsAfter None old messages why new others = (messages ≡ []) × (why ≡ stop.Empty) × (new ≡ old)

-- So many messages at the most, one after the other.
abbrev pub FillsRoom : ℕ → HostFrontState → List (List ℕ) → Stop → HostFrontState → Type 0
FillsRoom zero old messages why new = (messages ≡ []) × (why ≡ stop.Full) × (new ≡ old)
FillsRoom (suc most) old messages why new =
    (given : Option (List ℕ)) × (next : HostFrontState) × HandsOne old given next × FillsAfter given next messages why new (λ later. FillsRoom most next later why new)

-- ---- the ends of a channel

-- the channel has ended: nothing is to be sent
abbrev pub over_on : HostFrontState → HostFrontState
over_on s = record s { core = record s.core { core = record (s.core).core { outbox = [] } }; on = false; unsent = 0 }

-- At the first try the front's pass is renewed, so that its calls stand behind those that pass 0 has seen.
abbrev pub RenewsIf : Bool → PassOfTable → HostFrontState → PassOfTable → HostFrontState → Type 0
RenewsIf true first old last new = Renews first old.table last new.table × (new ≡ record old { table = new.table })
RenewsIf false first old last new = (last ≡ first) × (new ≡ old)

-- ---- a channel begins

-- whether the table began the channel
abbrev pub has_begun : PendingReply → Bool
has_begun (replied.Begun began) = began
has_begun _ = false

-- what came of it; a table says neither no nor that the channel is unfit, where it is called by this front and none else begins or ends channels
abbrev pub began_as : Bool → Came
began_as true = came.Done
began_as false = came.Unfit

abbrev pub begun_if : Bool → HostFrontState → ℕ → HostFrontState
begun_if true s channel = record s { channel = channel; on = true }
begun_if false s channel = s

-- nothing of the last channel is to be sent, and the host announces itself
abbrev pub unsent_at_begin : Bool → ℕ → ℕ
unsent_at_begin true unsent = 1
unsent_at_begin false unsent = unsent

-- ---- replies

module _ {W : Type 0} where
  abbrev pub done_waking : Wakes → HostFrontState → HostFrontReply W
  done_waking woken s = reply.Done woken (has_many_unsent s)

  -- what is done is done; or no memory was found for it
  abbrev pub done_if_found : Bool → HostFrontState → HostFrontReply W
  done_if_found true s = done_waking wakes.Everybody s
  done_if_found false s = reply.Memory

  -- what the table says to a completion
  abbrev pub completed_as : Result Completed CompleteNo → HostFrontState → HostFrontReply W
  completed_as (Ok (Gave number)) s = done_waking (wakes.Number number) s
  completed_as (Ok (Late number)) s = done_waking wakes.Nobody s
  completed_as (Err (complete_no.Stray device id)) s = reply.Stray device id
  completed_as (Err (complete_no.BodyBad bad)) s = reply.BodyBad bad
  completed_as (Err complete_no.Memory) s = reply.Memory

  -- nothing is done, and this is the reply
  abbrev pub Declines : HostFrontReply W → HostFrontReply W → HostFrontState → HostFrontState → Type 0
  Declines other back old new = (back ≡ other) × (new ≡ old)

  -- ---- a message

  -- A completion goes to the table.
  abbrev pub Completes : HostFrontState → Head → List ℕ → HostFrontReply W → HostFrontState → Type 0
  Completes old head body back new =
      (answer : Result Completed CompleteNo) × TableDoes old (table.Complete head body) (replied.Completed answer) new × (back ≡ completed_as answer new)

  -- what a message asks for
  abbrev pub Follows : HostFrontState → Act → HostFrontReply W → HostFrontState → Type 0
  Follows old act.Nothing back new = Declines (done_waking wakes.Nobody old) back old new
  Follows old (act.Complete head body) back new = Completes old head body back new
  Follows old (act.Announced devices) back new = (found : Bool) × AdmitsAll devices old found new × (back ≡ done_if_found found new)
  Follows old (act.Removed ids) back new = ForgetsAll ids old new × (back ≡ done_waking wakes.Everybody new)

  -- what follows from the core's answer
  abbrev pub FollowsAnswer : HostFrontState → Result Act EndFault → HostFrontReply W → HostFrontState → Type 0
  FollowsAnswer old (Ok asks) back new = Follows old asks back new
  FollowsAnswer old (Err fault.Memory) back new = Declines reply.Memory back old new
  FollowsAnswer old (Err wrong) back new = Declines (reply.Wrong wrong) back old new

  -- A message is heard.
  abbrev pub HearsMessage : HostFrontState → List ℕ → HostFrontReply W → HostFrontState → Type 0
  HearsMessage old message back new =
      (answer : Result Act EndFault) × (next : HostFrontState) × CoreDoes old (hears message answer) (most_following (is_opened old)) next
      × FollowsAnswer next answer back new

  -- ---- messages for the writer

  -- the reply to a call for messages
  abbrev pub HandsOver : HostFrontState → MessageRoom → HostFrontReply W → HostFrontState → Type 0
  HandsOver old room (reply.Messages filled why) new = (filled.places ≡ room.places) × FillsRoom room.places old filled.messages why new
  HandsOver old room _ new = ⊥

  -- the reply where the channel is over: no messages
  abbrev pub none_over : MessageRoom → HostFrontReply W
  none_over room = reply.Messages (record room { messages = [] }) stop.Over

  -- ---- the ends of a channel

  -- The channel ends by its peer, or by a fault.
  abbrev pub EndsChannel : HostFrontState → HostFrontReply W → HostFrontState → Type 0
  EndsChannel old back new =
      (next : HostFrontState) × TableDoes old table.DropChannel replied.Dropped next × (new ≡ over_on next) × (back ≡ done_waking wakes.Everybody new)

  -- Pass 0 is handed back with this, and the front stays as it is.
  abbrev pub HandsBack : PassOfTable → Came → HostFrontReply W → HostFrontState → HostFrontState → Type 0
  HandsBack first what back old new = Declines (reply.First first what) back old new

  -- what follows from the table's answer, whether the channel ended
  abbrev pub DropsBy : Bool → PassOfTable → HostFrontState → HostFrontReply W → HostFrontState → Type 0
  DropsBy true first old back new =
      (last : PassOfTable) × Renews first old.table last new.table × (new ≡ record old { table = new.table; on = false; unsent = 0 }) × (back ≡ reply.First last came.Done)
  DropsBy false first old back new = HandsBack first came.NotYet back old new

  -- The table is asked to drop the channel, if it has nothing to send.
  abbrev pub DropsTable : PassOfTable → HostFrontState → HostFrontReply W → HostFrontState → Type 0
  DropsTable first old back new =
      (dropped : Bool) × (next : HostFrontState) × TableDoes old table.DropSent (replied.DroppedSent dropped) next × DropsBy dropped first next back new

  -- The channel ends where nothing is to be sent: neither of the core, nor of the table.
  abbrev pub DropsUnsent : List (List ℕ) → PassOfTable → HostFrontState → HostFrontReply W → HostFrontState → Type 0
  DropsUnsent (message ∷ others) first old back new = HandsBack first came.NotYet back old new
  DropsUnsent [] first old back new = DropsTable first old back new

  -- The channel is to end by the script.
  abbrev pub EndsSent : PassOfTable → Bool → HostFrontState → HostFrontReply W → HostFrontState → Type 0
  EndsSent first anew old back new =
      (last : PassOfTable) × (next : HostFrontState) × RenewsIf anew first old last next × DropsUnsent ((next.core).core).outbox last next back new

  -- ---- a channel begins

  -- The channel begins at the table too: by pass 0, to which the front's pass is joined before, and from which it is split after.
  abbrev pub BeginsTable : HostFrontState → ℕ → PassOfTable → HostFrontReply W → HostFrontState → Type 0
  BeginsTable old channel first back new =
      (answer : PendingReply) × (last : PassOfTable) × RenewsBy (table.Begin channel) answer first old.table last new.table
      × (new ≡ record (begun_if (has_begun answer) old channel) { table = new.table }) × (back ≡ reply.First last (began_as (has_begun answer)))

  abbrev pub BeginsIfFound : Bool → HostFrontState → ℕ → PassOfTable → HostFrontReply W → HostFrontState → Type 0
  BeginsIfFound true old channel first back new = BeginsTable old channel first back new
  BeginsIfFound false old channel first back new = HandsBack first came.Memory back old new

  -- A channel begins.
  abbrev pub BeginsChannel : HostFrontState → ℕ → PassOfTable → HostFrontReply W → HostFrontState → Type 0
  BeginsChannel old channel first back new =
      (answer : Result (Unit {0}) AllocError) × (next : HostFrontState) × HostStep old.core (begins answer) next.core
      × (next ≡ record old { core = next.core; unsent = unsent_at_begin (is_found answer) old.unsent }) × BeginsIfFound (is_found answer) next channel first back new

  -- ---- the calls

  -- The front before a call, and after it.
  abbrev pub HostFrontStep : HostFrontState → HostFrontCall W → HostFrontReply W → HostFrontState → Type 0
  HostFrontStep old (call.Begin channel first) back new =
      MatchBool (may_begin_on old channel first) (BeginsChannel old channel first back new) (HandsBack first came.Refused back old new)
  HostFrontStep old (call.Hear channel message) back new =
      MatchBool (is_channel_on old channel) (MatchBool (has_many_unsent old) (Declines (reply.Full message) back old new) (HearsMessage old message back new))
      (Declines reply.Over back old new)
  HostFrontStep old (call.Next channel room) back new =
      MatchBool (is_channel_on old channel) (HandsOver old room back new) (Declines (none_over room) back old new)
  HostFrontStep old (call.DropChannel channel) back new = MatchBool (is_channel_on old channel) (EndsChannel old back new) (Declines reply.Over back old new)
  HostFrontStep old (call.DropSent first anew) back new =
      MatchBool (may_renew first) (EndsSent first anew old back new) (HandsBack first came.Refused back old new)
