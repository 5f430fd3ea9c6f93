-- What became of each channel of a host: what was read and heard on it, what was handed out and written, why it was read no further, and what the linker was told.
use Rattle.std.specs.Prelude.{◌≡◌, ◌≢◌, ◌⊎◌, ℕ, suc, false, List, [], ◌∷◌, ◌++◌, Option, Some, None}
use Rattle.std.specs.Io.KnownBytes.{Consumes}
use Rattle.std.specs.List.{AllByRecursion}
use Rattle.rd_carry.specs.Incoming.{HasHeard, IncomingState}
use Rattle.rd_carry.specs.Outgoing.{HasWritten, OutgoingState}
use Rattle.rd_carry.specs.declared.ended.Ended.{Ended}
use Rattle.rd_host_channel.specs.Calls.{AllAskFor, HearBytes, HostEntry, messages_for, messages_heard}
use Rattle.rd_host_channel.specs.Reading.{AreGiven, IsEndingOf, IsUnheard, faults_after}
use Rattle.rd_host_channel.specs.Sending.{EndsOver}
use Rattle.rd_host_channel.specs.declared.ending.Ending.{Ending}
use Rattle.rd_host_channel.specs.declared.ending.Ending.TheVariants as ending
use Rattle.rd_host_front.specs.declared.calls.HostFrontCall.TheVariants as call
use Rattle.rd_host_front.specs.declared.calls.HostFrontReply.{HostFrontReply}
use Rattle.rd_host_player.specs.declared.player.Stop.{Stop}
use Rattle.rd_host_player.specs.declared.player.Stop.TheVariants as stop
use Rattle.rd_host_session.specs.Channels.{GivesAndSettles, GivesNone, LinkedTold, end_by_channel}
use Rattle.rd_turn.specs.History.{calls_of, entry}
use Rattle.rd_host_threads.specs.Calls.{reader_of, writer_of}

-- A channel that was served: its number, where the script stopped on it (`why`), and how its reading ended (`by`); the bytes that its halves were given with, and the halves as they were left;
-- the calls by which its messages were given to be heard, the reply to the one that dropped it, and the messages that came and weren't heard; and the calls for messages.
pub record HostChannel (W : Type 0) : Type 0 where
  pub channel : ℕ
  pub why : Stop
  pub by : Ending
  pub given : Option (List ℕ)
  pub held : Option (List ℕ)
  pub incoming : IncomingState
  pub outgoing : OutgoingState
  pub reads : List (HostEntry W)
  pub dropped : HostFrontReply W
  pub rest : List (List ℕ)
  pub asks : List (HostEntry W)

module _ {W : Type 0} where
  -- all calls of its reader
  abbrev pub reader_calls : HostChannel W → List (HostEntry W)
  reader_calls c = c.reads ++ entry (reader_of c.channel) (call.DropChannel c.channel) c.dropped ∷ []

  -- What was read is what its source consumed, and its messages were given to be heard, in order, up to an end that has its cause. What the calls for messages were handed was put to the other half, all of it, until
  -- the channel was over, and nothing waits there.
  pub record WasServed (c : HostChannel W) : Type 0 where
    pub found : c.by ≢ ending.Memory
    pub stream : HasHeard c.incoming
    pub consumed : Consumes c.given (c.incoming).left (c.incoming).read
    pub counted : (c.incoming).faults ≡ faults_after (Some c.by) 0
    pub bytes : HearBytes c.reads
    pub are_given : AreGiven c.channel c.reads (c.incoming).messages c.rest
    pub unheard : IsUnheard (Some c.by) c.rest
    pub end_is : IsEndingOf (Some c.by) c.reads c.incoming
    pub ask : AllAskFor c.channel c.asks
    pub over : EndsOver c.asks
    pub wrote : HasWritten c.held (messages_for c.channel c.asks) c.outgoing
    pub flushed : (c.outgoing).pending ≡ []

  -- So it was by these calls of the front: those of its reader and of its writer are among them, and what was heard on it and handed out for it by any of them is what was by those.
  pub record IsServedBy (entries : List (HostEntry W)) (c : HostChannel W) : Type 0 where
    pub served : WasServed c
    pub reader : calls_of (reader_of c.channel) entries ≡ reader_calls c
    pub writer : calls_of (writer_of c.channel) entries ≡ c.asks
    pub heard : messages_heard c.channel entries ≡ messages_heard c.channel c.reads
    pub handed : messages_for c.channel entries ≡ messages_for c.channel c.asks
    pub messages : (c.incoming).messages ≡ messages_heard c.channel entries ++ c.rest
    pub written : HasWritten c.held (messages_for c.channel entries) c.outgoing

  -- ---- channels, one after the other

  -- they have the numbers after this one, in order
  abbrev pub HaveNumbers : ℕ → List (HostChannel W) → Type 0
  HaveNumbers n [] = Unit {0}
  HaveNumbers n (c ∷ channels) = (c.channel ≡ suc n) × HaveNumbers (suc n) channels

  -- The linker gave the channel, and settled it.
  abbrev pub SettlesChannel : HostChannel W → (old new : LinkedTold) → Type 0
  SettlesChannel c old new = GivesAndSettles old new c.given c.held (c.incoming).left (c.outgoing).held (c.incoming).faults (c.outgoing).faults

  abbrev pub SettlesChannels : List (HostChannel W) → (old new : LinkedTold) → Type 0
  SettlesChannels [] old new = new ≡ old
  SettlesChannels (c ∷ channels) old new = (next : LinkedTold) × SettlesChannel c old next × SettlesChannels channels next new

  -- what ends the session, where the channel's end does
  abbrev pub ended_by : HostChannel W → Option Ended
  ended_by c = end_by_channel c.channel c.by false

  -- After each a line begins the next.
  abbrev pub AllGoOn : List (HostChannel W) → Type 0
  AllGoOn channels = AllByRecursion (λ (c : HostChannel W). (c.why ≡ stop.Connect) × (ended_by c ≡ None)) channels

  -- the last one, and those before it
  pub record HasLast (channels : List (HostChannel W)) : Type 0 where
    pub before : List (HostChannel W)
    pub last : HostChannel W
    pub are : channels ≡ before ++ last ∷ []
    pub goes_on : AllGoOn before

  -- How the session ended, but for the script's end and the linker: no further channel could be had; or the script was at its end on the last one; or the end of the last one ended it.
  abbrev pub EndsAfter : Option Ended → List (HostChannel W) → (old new : LinkedTold) → Type 0
  EndsAfter None channels old new =
      (AllGoOn channels × (here : LinkedTold) × SettlesChannels channels old here × GivesNone here new)
      ⊎ ((ends : HasLast channels) × ((ends.last).why ≡ stop.End) × (ended_by ends.last ≡ None) × SettlesChannels channels old new)
  EndsAfter (Some e) channels old new = (ends : HasLast channels) × (ended_by ends.last ≡ Some e) × SettlesChannels channels old new
