-- What a host does on its channels, one after the other: what the thread that reads each hears, what the one that writes it hands on, and how the script is played meanwhile; and what the linker is told.
use Rattle.std.specs.Prelude.{◌≡◌, ◌≢◌, ◌⊎◌, ℕ, zero, suc, Bool, true, false, List, [], Option, Some, None}
use Rattle.rd_base.specs.Faults.{one_more}
use Rattle.rd_carry.specs.Incoming.{IncomingState, new_incoming}
use Rattle.rd_carry.specs.Outgoing.{OutgoingState, new_outgoing}
use Rattle.rd_carry.specs.declared.ended.Ended.{Ended}
use Rattle.rd_carry.specs.declared.ended.Ended.TheVariants as ended
use Rattle.rd_host_channel.specs.Calls.{HostPass}
use Rattle.rd_host_channel.specs.Reading.{Listens}
use Rattle.rd_host_channel.specs.Sending.{Sends}
use Rattle.rd_host_channel.specs.declared.ending.Ending.{Ending}
use Rattle.rd_host_channel.specs.declared.ending.Ending.TheVariants as ending
use Rattle.rd_host_front.specs.declared.calls.Came.TheVariants as came
use Rattle.rd_host_front.specs.State.{TurnOfTable}
use Rattle.rd_link.specs.Links.{Lends, Links, TakesBack}
use Rattle.rd_turn.specs.History.{calls_of}
use Rattle.rd_turn.specs.Pass.{after_split, new_pass}
use Rattle.rd_host_player.specs.Play.{Begins, JoinsFront, PlayState, Plays, PlaysOut}
use Rattle.rd_host_session.specs.declared.channels.Next.{Next}
use Rattle.rd_host_session.specs.declared.channels.Next.TheVariants as next
use Rattle.rd_host_player.specs.declared.player.Stop.{Stop}
use Rattle.rd_host_player.specs.declared.player.Stop.TheVariants as stop

-- ---- what the linker is told

-- What a linker tells: its channels, where it does, and how many of its calls of `connect` failed.
pub record LinkedTold : Type 0 where
  pub links : Option Links
  pub failures : ℕ

abbrev pub linked_told : Option Links → ℕ → LinkedTold
linked_told links failures = record { links = links; failures = failures }

-- A channel was given, and settled.
abbrev pub GivesAndSettles : (old new : LinkedTold) (given held left back : Option (List ℕ)) (read_faults write_faults : ℕ) → Type 0
GivesAndSettles old new given held left back read_faults write_faults =
    (between : Option Links) × Lends old.links between given held × TakesBack between new.links left back read_faults write_faults × (new.failures ≡ old.failures)

-- None could be had: a call of `connect` failed.
abbrev pub GivesNone : (old new : LinkedTold) → Type 0
GivesNone old new = (new.links ≡ old.links) × (new.failures ≡ one_more old.failures)

-- ---- a channel

-- what ends the session, where a channel's end does
abbrev pub end_by_channel : ℕ → Ending → Bool → Option Ended
end_by_channel channel by true = Some ended.Memory
end_by_channel channel (ending.Fault at message why) false = Some (ended.Channel channel at message why)
end_by_channel channel ending.Long false = Some ended.Long
end_by_channel channel ending.Memory false = Some ended.Memory
end_by_channel channel by false = None

-- and what becomes of the session, where the script stops there
abbrev pub next_of : Option Ended → Stop → Next
next_of (Some e) why = next.Ends e
next_of None stop.Connect = next.Goes
next_of None stop.End = next.Last

-- Where the calling thread stands, and what the linker tells.
pub record SessionState (F W : Type 0) : Type 0 where
  pub play : PlayState F W
  pub linker : LinkedTold

abbrev pub stands : {F W : Type 0} → PlayState F W → LinkedTold → SessionState F W
stands play linker = record { play = play; linker = linker }

module _ {F W : Type 0} (turn : TurnOfTable) (devices : ℕ) where
  -- A channel that began was served: one thread read it and one wrote it, each with a pass of the front of its own, and the calling thread played the script meanwhile. Then their passes came home.
  pub record ServesBegun (channel : ℕ) (why : Stop) (by : Ending) (starved : Bool) (from : IncomingState) (to : OutgoingState) (begun : PlayState F W) (incoming : IncomingState) (outgoing : OutgoingState) (new : PlayState F W) : Type 0 where
    -- in what these two had seen when they were split no call was their own
    pub reader_new : calls_of (suc (begun.front).made) (begun.front).seen ≡ []
    pub writer_new : calls_of (suc (suc (begun.front).made)) (begun.front).seen ≡ []
    pub over : PlayState F W
    pub plays : Plays turn devices why (record begun { front = after_split (after_split begun.front) }) over
    pub reader : HostPass F W
    pub listens : Listens channel by (new_pass begun.front) reader from incoming
    pub writer : HostPass F W
    pub sends : Sends channel starved (new_pass (after_split begun.front)) writer to outgoing
    pub between : HostPass F W
    pub reader_home : JoinsFront over.front reader between
    pub writer_home : JoinsFront between writer new.front
    pub is : new ≡ record over { front = new.front }

  -- A channel was given and began, was served, and was settled.
  pub record ServesChannel (channel : ℕ) (why : Stop) (by : Ending) (starved : Bool) (old new : SessionState F W) : Type 0 where
    pub given : Option (List ℕ)
    pub held : Option (List ℕ)
    pub begun : PlayState F W
    pub begins : Begins channel came.Done old.play begun
    pub room : ℕ
    pub capacity : ℕ
    pub incoming : IncomingState
    pub outgoing : OutgoingState
    pub serves : ServesBegun channel why by starved (new_incoming given 0 room) (new_outgoing held capacity) begun incoming outgoing new.play
    pub settles : GivesAndSettles old.linker new.linker given held incoming.left outgoing.held incoming.faults outgoing.faults

  -- What becomes of the next channel: none could be had; or it was served, and the session goes on, or is at its end, or that of the channel ends it.
  abbrev pub ServesNext : ℕ → Next → SessionState F W → SessionState F W → Type 0
  ServesNext channel next.None old new = (new.play ≡ old.play) × GivesNone old.linker new.linker
  ServesNext channel next.Goes old new = (by : Ending) × (starved : Bool) × ServesChannel channel stop.Connect by starved old new × (end_by_channel channel by starved ≡ None)
  ServesNext channel next.Last old new = (by : Ending) × (starved : Bool) × ServesChannel channel stop.End by starved old new × (end_by_channel channel by starved ≡ None)
  ServesNext channel (next.Ends e) old new = (why : Stop) × (by : Ending) × (starved : Bool) × ServesChannel channel why by starved old new × (end_by_channel channel by starved ≡ Some e)

  -- ---- channels

  -- So many were served, from the first one on, after each of which a line begins the next.
  abbrev pub Served : ℕ → SessionState F W → SessionState F W → Type 0
  Served zero old new = new ≡ old
  Served (suc n) old new =
      (here : SessionState F W) × (by : Ending) × (starved : Bool) × Served n old here × ServesChannel (suc n) stop.Connect by starved here new × (end_by_channel (suc n) by starved ≡ None)

  -- What follows on those: the next one can't be had; or it is the last one, since the script is at its end, or its own end ends the session. What is left of the script is issued.
  abbrev pub EndsAt : ℕ → Option Ended → SessionState F W → SessionState F W → Type 0
  EndsAt channel None old new =
      ((linker : LinkedTold) × GivesNone old.linker linker × (new.linker ≡ linker) × PlaysOut old.play new.play)
      ⊎ ((by : Ending) × (starved : Bool) × ServesChannel channel stop.End by starved old new × (end_by_channel channel by starved ≡ None))
  EndsAt channel (Some e) old new =
      (why : Stop) × (by : Ending) × (starved : Bool) × (here : SessionState F W) × ServesChannel channel why by starved old here × (end_by_channel channel by starved ≡ Some e)
      × (new.linker ≡ here.linker) × PlaysOut here.play new.play

  -- The channels of a session, and what ended it but for the script's end and the linker.
  abbrev pub ServesAll : Option Ended → SessionState F W → SessionState F W → Type 0
  ServesAll other old new = (count : ℕ) × (here : SessionState F W) × Served count old here × EndsAt (suc count) other here new

-- ---- counts

-- What a session's end tells of its linker's two counts, which never fall: where it came to its end with no fault they stay, and where a fault ended it, or came on a channel, one of them is another.
abbrev pub TellsCounts : Ended → (failures_before failures trouble_before trouble : ℕ) → Type 0
TellsCounts ended.Over failures_before failures trouble_before trouble = (failures ≡ failures_before) × (trouble ≡ trouble_before)
TellsCounts ended.Link failures_before failures trouble_before trouble = (failures ≢ failures_before) ⊎ (trouble ≢ trouble_before)
TellsCounts _ failures_before failures trouble_before trouble = Unit {0}
