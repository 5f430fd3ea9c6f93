-- What a host did, as deeds by which it keeps its table, and how these tell the histories of its table and of its front.
use Rattle.std.specs.Prelude.{◌≡◌, ◌≢◌, ℕ, suc, List, [], ◌∷◌, ◌++◌, length, map, reverse, Contains, Option, None, Ok}
use Rattle.std.specs.List.{AllByRecursion}
use Rattle.std.specs.declared.marker.Brand.{Brand}
use Rattle.rd_carry.specs.declared.ended.Ended.{Ended}
use Rattle.rd_host_channel.specs.Calls.{HostEntry, heard_by, messages_by, messages_for, messages_heard}
use Rattle.rd_host_front.specs.declared.calls.HostFrontCall.{HostFrontCall}
use Rattle.rd_host_front.specs.declared.calls.HostFrontCall.TheVariants.{DropChannel}
use Rattle.rd_host_front.specs.declared.calls.HostFrontReply.{HostFrontReply}
use Rattle.rd_host_front.specs.declared.calls.HostFrontReply.TheVariants.{Done}
use Rattle.rd_hello.specs.Moves.{Move, reads, writes}
use Rattle.rd_host_session.specs.Channels.{LinkedTold}
use Rattle.rd_host_session.specs.Hosted.{Hosts}
use Rattle.rd_host_turns.specs.Turns.{TableEntry}
use Rattle.rd_pending.specs.declared.calls.Taken.{Taken}
use Rattle.rd_pending.specs.History as call
use Rattle.rd_pending.specs.History.{Call, accepted_in}
use Rattle.rd_pending.specs.Outcomes.{Accepted}
use Rattle.rd_pending.specs.Table as table
use Rattle.rd_script.specs.declared.line.NumberedLine.{NumberedLine}
use Rattle.rd_script.specs.declared.outcome.Outcome.{Outcome}
use Rattle.rd_table.specs.Histories.{handed_in, table_history}
use Rattle.rd_deeds.specs.Host.{next_message}
use Rattle.rd_deeds.specs.HostDeeds.{IsInRange, MayDo, calls_of, side_of}
use Rattle.rd_deeds.specs.Joining.{ClientCameTo}
use Rattle.rd_world.specs.Recording.{client_id}
use Rattle.rd_deeds.specs.Talk.{Deed, EachAfter, host_begins, host_ends, host_moves, host_read, host_reads, host_writes, host_wrote, submits, takes}
use Rattle.rd_hosted.specs.Asks.{table_at}

-- what is asked has numbers for which its message has room
abbrev pub AsksInRange : Call → Type 0
AsksInRange (call.submits application named o) = IsInRange named o
AsksInRange _ = Unit {0}

-- whether a host over a socket did it, which tells of no printer
abbrev pub IsOfHost : Deed → Type 0
IsOfHost (host_begins channel) = Unit {0}
IsOfHost (host_ends channel) = Unit {0}
IsOfHost (submits application named o) = Unit {0}
IsOfHost (takes number) = Unit {0}
IsOfHost (host_writes channel message) = Unit {0}
IsOfHost (host_reads channel message) = Unit {0}
IsOfHost _ = ⊥

-- what a call of the front moves on a channel, in order: a message that is heard was read, and those that are handed out are written
abbrev pub moves_by : {W : Type 0} → ℕ → HostFrontCall W → HostFrontReply W → List Move
moves_by c does back = map (λ message. reads message) (heard_by c does back) ++ map (λ message. writes message) (messages_by c does back)

-- what all calls of it move there
abbrev pub moves_on : {W : Type 0} → ℕ → List (HostEntry W) → List Move
moves_on c [] = []
moves_on c (e ∷ entries) = moves_by c e.call e.reply ++ moves_on c entries

-- By this call of the front no thread ended this channel for its peer's sake or by a fault. A call by which it is to end by the script is none of those.
abbrev pub IsNoDropOf : {W : Type 0} → ℕ → HostFrontCall W → HostFrontReply W → Type 0
IsNoDropOf c (DropChannel channel) (Done wakes full) = channel ≢ c
IsNoDropOf c _ _ = Unit {0}

-- If a deed is that this channel ended, the host had nothing left to send then.
abbrev pub LeavesNothing : ℕ → List Deed → Deed → Type 0
LeavesNothing c before (host_ends channel) = channel ≡ c → next_message (side_of client_id before) ≡ None
LeavesNothing c before _ = Unit {0}

-- One of these deeds is that a number was taken, and this is what the host's table gave for it.
pub record IsTakenIn (deeds : List Deed) (number : ℕ) (taken : Taken) : Type 0 where
  pub later : List Deed
  pub before : List Deed
  pub place : deeds ≡ later ++ takes number ∷ before
  pub gives : (table.take (side_of client_id before).table number).1 ≡ Ok taken

-- What the host did, the newest first: by that it keeps its table, which is then the one after this history. The requests are those that were accepted in the history, in its order, and each outcome that was handed
-- out in it one of the deeds handed out. On each channel the messages were read and written that by these calls of the front were heard and handed out, in the order of these calls. Where no thread
-- ended a channel for its peer's sake or by a fault, nothing was left to send as it ended.
pub record KeepsTable {W : Type 0} (seen : List TableEntry) (entries : List (HostEntry W)) : Type 0 where
  pub deeds : List Deed
  pub own : AllByRecursion IsOfHost deeds
  pub may : EachAfter (λ before deed. MayDo (side_of client_id before) deed) deeds
  pub leads : (side_of client_id deeds).table ≡ table_at seen
  pub accepted_are : accepted_in (calls_of client_id deeds) ≡ accepted_in (table_history seen)
  pub gives : (number : ℕ) (taken : Taken) → Contains (handed_in seen) (number, taken) → IsTakenIn deeds number taken
  pub read : (c : ℕ) → host_read c deeds ≡ reverse (messages_heard c entries)
  pub written : (c : ℕ) → host_wrote c deeds ≡ reverse (messages_for c entries)
  pub moves : (c : ℕ) → host_moves c deeds ≡ reverse (moves_on c entries)
  pub sent : (c : ℕ) → AllByRecursion (λ (e : HostEntry W). IsNoDropOf c e.call e.reply) entries → EachAfter (λ before deed. LeavesNothing c before deed) deeds

-- An outcome is that of the request with this number, by what was heard on its channel, with its device and life.
pub record CameOf (deeds : List Deed) (number : ℕ) (taken : Taken) : Type 0 where
  pub request : Accepted
  pub came : ClientCameTo client_id deeds request taken.outcome
  pub numbered : number ≡ suc (length came.earlier)
  pub device : taken.device ≡ request.device
  pub life : taken.life ≡ request.life

-- ---- of a session

-- the one history of its table, with all calls of all passes
abbrev pub calls_of_table : (lines : List NumberedLine) (other : Option Ended) (told : List ((ℕ × ℕ) × Outcome)) (old new : LinkedTold) → Hosts lines other told old new → List TableEntry
calls_of_table lines other told old new hosts = (hosts.last).seen

-- the one of its front
abbrev pub calls_of_front : (lines : List NumberedLine) (other : Option Ended) (told : List ((ℕ × ℕ) × Outcome)) (old new : LinkedTold) → Hosts lines other told old new → List (HostEntry Brand)
calls_of_front lines other told old new hosts = ((((hosts.plays).ends).play).front).seen
