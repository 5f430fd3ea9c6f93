-- Why a client finds that a message is wrong, or that a completion id is in use: what it had read on the channel, and what it had done by then.
use Rattle.std.specs.Prelude.{◌≡◌, ℕ, true, List, ◌∷◌, ◌++◌, Some}
use Rattle.std.specs.List.{AllByRecursion}
use Rattle.rd_served_causes.specs.ActedActed.{state_read}
use Rattle.rd_base.specs.declared.journal.Item.TheVariants.{Came, Sent}
use Rattle.rd_base.specs.declared.journal.Key.{Key}
use Rattle.rd_client.specs.Core.{client_side}
use Rattle.rd_core.specs.Hearing.{said, wrong}
use Rattle.rd_front.specs.Calls.{FrontEntry}
use Rattle.rd_front.specs.declared.calls.FrontReply.{FrontReply}
use Rattle.rd_front.specs.declared.calls.FrontReply.TheVariants as reply
use Rattle.rd_hello.specs.declared.client.ClientState.{ClientState}
use Rattle.rd_hello.specs.declared.end_fault.EndFault.{EndFault}
use Rattle.rd_irp.specs.declared.request.Request.{Request}
use Rattle.rd_workers.specs.Channels.{ChannelRun}
use Rattle.rd_deeds.specs.Talk.{Deed, Has, client_read, is_request, journal, request_at, request_in}

-- Of the messages that were read, the newest first, none is wrong but the last. The others lead the client's opening to a state, and in that the last has this fault.
pub record LastIsWrong (fault : EndFault) (read : List (List ℕ)) : Type 0 where
  pub message : List ℕ
  pub older : List (List ℕ)
  pub read_are : read ≡ message ∷ older
  pub state : ClientState
  pub leads : state_read older ≡ Some state
  pub has : said client_side state message ≡ wrong fault

-- The last message that was read on a channel is a request whose completion id is in use: an earlier request there to the same device has it, whose key came to the device and wasn't sent.
pub record LastIsInUse (channel : ℕ) (deeds : List Deed) : Type 0 where
  pub message : List ℕ
  pub older : List (List ℕ)
  pub read_are : client_read channel deeds ≡ message ∷ older
  pub asks : is_request message ≡ true
  pub request : Request
  pub spells : request_in message ≡ Some request
  -- the other one
  pub key : Key
  pub on_it : key.channel ≡ channel
  pub other : Request
  pub earlier : request_at older key.index ≡ Some other
  pub same_device : other.device ≡ request.device
  pub same_id : other.completion ≡ request.completion
  pub came : Has (Came key) (journal request.device deeds)
  pub unsent : ¬ (Has (Sent key) (journal request.device deeds))

-- So it was as that request was refused, by what was done before. After that nothing is read on the channel, and the other one's key isn't sent either.
pub record WasInUse (channel : ℕ) (deeds : List Deed) : Type 0 where
  pub since : List Deed
  pub before : List Deed
  pub deeds_are : deeds ≡ since ++ before
  pub used : LastIsInUse channel before
  pub unread : client_read channel deeds ≡ client_read channel before
  pub never : ¬ (Has (Sent used.key) (journal (used.request).device deeds))

-- Where the front says to a call that a message is wrong, or that a completion id is in use, it's so of the last message that was read on the channel.
abbrev pub IsCausedReply : List Deed → ℕ → FrontReply → Type 0
IsCausedReply deeds channel (reply.Wrong fault) = LastIsWrong fault (client_read channel deeds)
IsCausedReply deeds channel (reply.Duplicate key) = WasInUse channel deeds
IsCausedReply deeds channel _ = Unit {0}

-- the same of each call that was made while a channel was read
abbrev pub HaveCauses : List Deed → ChannelRun → Type 0
HaveCauses deeds r = AllByRecursion (λ (e : FrontEntry). IsCausedReply deeds (r.reading).channel e.reply) (r.reading).calls
