-- The law that joins both sides: whatever two ends do whose messages are carried, whose host keeps its table and whose client tells what its journals
-- say, completions reach their own requests.
use Rattle.std.specs.List.{list_any}
use Rattle.std.specs.Prelude.{◌≡◌, ℕ, ◌<◌, Bool, false, List, [], ◌∷◌, ◌++◌, length, reverse, filter, Some, Result, Ok, Err, Contains}
use Rattle.rd_base.specs.declared.journal.Cause.{Cause}
use Rattle.rd_base.specs.declared.journal.Item.{Item}
use Rattle.rd_base.specs.declared.journal.Item.TheVariants.{Came, Cut, Ran, Sent}
use Rattle.rd_base.specs.declared.journal.Key.{Key}
use Rattle.rd_base.specs.Lawful.{IsLawful}
use Rattle.rd_drive.specs.Replies.{KeyedReply}
use Rattle.rd_base.specs.declared.packet.Packet.TheVariants.{IoCompletion}
use Rattle.rd_hello.specs.declared.end_fault.EndFault.{EndFault}
use Rattle.rd_hello.specs.Moves.{is_of}
use Rattle.rd_host.specs.declared.act.Act.{Act}
use Rattle.rd_host.specs.declared.act.Act.TheVariants as act
use Rattle.rd_host.specs.Core.{host_hear}
use Rattle.rd_irp.specs.declared.completion.Reply.{Reply}
use Rattle.rd_irp.specs.declared.request.Request.{Request}
use Rattle.rd_pending.specs.declared.calls.Outcome.{Outcome}
use Rattle.rd_pending.specs.declared.calls.Outcome.TheVariants.{Done}
use Rattle.rd_pending.specs.declared.calls.CompleteNo.{CompleteNo}
use Rattle.rd_pending.specs.declared.calls.Completed.{Completed}
use Rattle.rd_pending.specs.History as history
use Rattle.rd_pending.specs.History.{AreOutcomes, Call, HandsOut, accepted_in}
use Rattle.rd_pending.specs.Outcomes.{Accepted}
use Rattle.rd_pending.specs.Table as table
use Rattle.rd_pending.specs.Table.{TableState}
use Rattle.rd_deeds.specs.Host.{HostSide}
use Rattle.rd_deeds.specs.HostDeeds.{MayDo, calls_of, side_of}
use Rattle.rd_deeds.specs.Talk.{AtEachPoint, EachAfter, EndsWith, Deed, Has, answered, asked, client_read, client_reads, client_writes, client_wrote, completes, host_read, host_reads, host_writes, host_wrote, is_completion_of, is_request, journal, request_at, request_in, stores}
use Rattle.rd_deeds.specs.Told.{AreAnswered, Replies, worn_entries}

-- What an end has read on a channel are the first of the messages that the other one wrote there.
pub record IsCarried (deeds : List Deed) : Type 0 where
  pub to_client : (c : ℕ) → EndsWith (host_wrote c deeds) (client_read c deeds)
  pub to_host : (c : ℕ) → EndsWith (client_wrote c deeds) (host_read c deeds)

-- A key comes after the read of its request, which names the journal's device, and before its completion. A completion is written after the `Sent` of
-- its key, where the key came. Nothing else that a client writes is a completion.
abbrev pub Stands : List Deed → Deed → Type 0
Stands before (stores device (Came key)) =
    (r : Request) × (request_at (client_read key.channel before) key.index ≡ Some r) × (r.device ≡ device) × (list_any (is_completion_of key) before ≡ false)
Stands before (completes key message) = (device : ℕ) → Has (Came key) (journal device before) → Has (Sent key) (journal device before)
Stands before (client_writes channel message) = is_of IoCompletion message ≡ false
Stands before _ = Unit {0}

-- ---- what the law takes

-- a key has this reply among some, and no other
pub record HasReply (replies : List KeyedReply) (key : Key) (reply : Reply) : Type 0 where
  pub has : Contains replies (key, reply)
  pub alone : (other : Reply) → Contains replies (key, other) → other ≡ reply

-- A host with this ClientId and a client whose devices' journals give these replies. The client's messages need be in no order for it.
pub record AreJoined (client : ℕ) (replies : Replies) (deeds : List Deed) : Type 0 where
  pub carried : AtEachPoint IsCarried deeds
  pub host : EachAfter (λ before deed. MayDo (side_of client before) deed) deeds
  pub told : AreAnswered replies deeds
  -- what the beginning of a device's journal gives stays, whatever is stored after it
  pub grows : (device : ℕ) (earlier more later : List Item) → reverse (journal device deeds) ≡ (earlier ++ more) ++ later
      → (reply : KeyedReply) → Contains (replies device earlier) reply → Contains (replies device (earlier ++ more)) reply
  -- a journal gives a key one reply at most
  pub once : (device : ℕ) (key : Key) (reply other : Reply) → Contains (replies device (reverse (journal device deeds))) (key, reply)
      → Contains (replies device (reverse (journal device deeds))) (key, other) → other ≡ reply
  pub stands : EachAfter Stands deeds
  pub lawful : (device : ℕ) → IsLawful (reverse (journal device deeds))
  pub unworn : (device : ℕ) → length (journal device deeds) < worn_entries

-- ---- what it gives

-- On each channel, of each pair of a device and a completion id, the m-th completion answers the m-th request.
abbrev pub AnswersAreAsked : List Deed → Type 0
AnswersAreAsked deeds = (c device id : ℕ) → EndsWith (asked c device id deeds) (answered c device id deeds)

-- how many requests stand on a channel
abbrev pub requests_written : ℕ → List Deed → ℕ
requests_written c deeds = length (filter is_request (host_wrote c deeds))

-- Where the completion of one key was written before the request of another of the same device, and both ran, the first one ran first.
abbrev pub RunsInOrder : List Deed → Type 0
RunsInOrder deeds = (k l : Key) (answer asking : List ℕ) (r s : Request) (after between before : List Deed)
    → deeds ≡ after ++ host_writes l.channel asking ∷ (between ++ completes k answer ∷ before)
    → requests_written l.channel (between ++ completes k answer ∷ before) ≡ l.index
    → request_in asking ≡ Some s → request_at (client_read k.channel before) k.index ≡ Some r → r.device ≡ s.device
    → (moment later_moment : ℕ) (starved parked later_starved later_parked : Bool) (after_k before_k after_l before_l : List Item)
    → journal r.device deeds ≡ after_k ++ Ran k moment starved parked ∷ before_k
    → journal r.device deeds ≡ after_l ++ Ran l later_moment later_starved later_parked ∷ before_l
    → length before_k < length before_l

-- the requests that a host accepted, in the order of their numbers
abbrev pub accepted : ℕ → List Deed → List Accepted
accepted client deeds = accepted_in (calls_of client deeds)

-- what came of a request, by what was heard on its channel, whether it was handed out or not
abbrev pub ClientCameTo : ℕ → List Deed → Accepted → Outcome → Type 0
ClientCameTo client deeds a outcome = history.CameTo (calls_of client deeds) a outcome

-- the key of a request that was accepted
abbrev pub key_of : Accepted → Key
key_of a = record { channel = a.channel; index = a.index }

-- the request as its message spells it: of the device and of the file that were named, with the operation
abbrev pub request_of_accepted : Accepted → Request
request_of_accepted a = record { device = a.device; file = a.file; completion = a.id; op = a.op }

-- A request that is done was read under its key, with the device, the file and the operation that were asked for; and it has the reply that the device's journal
-- gives to that key, which is the only one.
pub record IsOwnReply (replies : Replies) (deeds : List Deed) (a : Accepted) (reply : Reply) : Type 0 where
  pub read : request_at (client_read a.channel deeds) a.index ≡ Some (request_of_accepted a)
  pub given : HasReply (replies a.device (reverse (journal a.device deeds))) (key_of a) reply

abbrev pub Replied : ℕ → Replies → List Deed → Type 0
Replied client replies deeds = (a : Accepted) (reply : Reply) → ClientCameTo client deeds a (Done reply) → IsOwnReply replies deeds a reply

-- No cut alone gives that reply: what a cut answers to a request that waits reaches no application.
abbrev pub Uncut : ℕ → Replies → List Deed → Type 0
Uncut client replies deeds = (a : Accepted) (reply : Reply) → ClientCameTo client deeds a (Done reply) → (first last : List Item) (cause : Cause)
    → reverse (journal a.device deeds) ≡ first ++ Cut cause ∷ last → ¬ (Contains (replies a.device first) (key_of a, reply)) → ¬ (Contains (replies a.device (first ++ Cut cause ∷ [])) (key_of a, reply))

-- a completion is taken
abbrev pub IsCompleted : Result Completed CompleteNo → Type 0
IsCompleted (Ok completed) = Unit {0}
IsCompleted (Err cause) = ⊥

abbrev pub TakesHeard : TableState → Result Act EndFault → Type 0
TakesHeard t (Ok (act.Complete head bytes)) = IsCompleted (table.complete t head bytes).1
TakesHeard t _ = Unit {0}

-- The host finds the slot of each completion that comes to its table; where that one's request isn't lost, the body reads.
abbrev pub IsTaken : HostSide → Deed → Type 0
IsTaken s (host_reads channel message) = TakesHeard s.table (host_hear s.core message).1
IsTaken s _ = Unit {0}

-- A request is read only where each earlier one on its channel with its pair, whose key comes at all, was sent before. So its device holds no job with
-- its completion id.
abbrev pub IsAlone : List Deed → List Deed → Deed → Type 0
IsAlone deeds before (client_reads c message) = (r : Request) (index : ℕ) → request_in message ≡ Some r
    → Has index (asked c r.device r.completion before) → let key : Key = record { channel = c; index = index } in
    Has (Came key) (journal r.device deeds) → Has (Sent key) (journal r.device before)
IsAlone deeds before _ = Unit {0}

-- What joined sides come to.
pub record Joins (client : ℕ) (replies : Replies) (deeds : List Deed) : Type 0 where
  pub counted : AnswersAreAsked deeds
  pub in_order : RunsInOrder deeds
  pub outcomes : AreOutcomes (calls_of client deeds)
  pub handed_out : (later before : List Call) (call : Call) → calls_of client deeds ≡ later ++ call ∷ before → HandsOut (calls_of client deeds) before call
  pub replied : Replied client replies deeds
  pub uncut : Uncut client replies deeds
  pub taken : EachAfter (λ before deed. IsTaken (side_of client before) deed) deeds
  pub alone : EachAfter (IsAlone deeds) deeds
