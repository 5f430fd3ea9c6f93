-- Calls of a host's front by the threads of a channel: that a pass made them, and which messages they gave to be heard and were handed.
use Rattle.std.specs.Prelude.{◌≡◌, ℕ, ◌==◌, if◌then◌else◌, List, [], ◌∷◌, ◌++◌}
use Rattle.std.specs.List.{AllByRecursion}
use Rattle.rd_base.specs.Layout.{AreBytes}
use Rattle.rd_host_front.specs.declared.calls.HostFrontCall.{HostFrontCall}
use Rattle.rd_host_front.specs.declared.calls.HostFrontCall.TheVariants as call
use Rattle.rd_host_front.specs.declared.calls.HostFrontReply.{HostFrontReply}
use Rattle.rd_host_front.specs.declared.calls.HostFrontReply.TheVariants as reply
use Rattle.rd_turn.specs.declared.object.Entry.{Entry}
use Rattle.rd_turn.specs.History.{calls_of}
use Rattle.rd_turn.specs.Pass.{Belongs, IsSamePass, PassState, TurnId}

-- a call of a host's front, with its reply
abbrev pub HostEntry : Type 0 → Type 0
HostEntry W = Entry (HostFrontCall W) (HostFrontReply W)

-- a pass of a host's front
abbrev pub HostPass : Type 0 → Type 0 → Type 0
HostPass F W = PassState F (HostFrontCall W) (HostFrontReply W)

-- A pass of a turn comes back from whoever called by it.
pub record ComesBack {O C R : Type 0} (turn : TurnId O) (old new : PassState O C R) : Type 0 where
  pub own : Belongs turn new
  pub number : new.number ≡ old.number
  pub made : new.made ≡ old.made
  pub out : new.out ≡ old.out

-- A pass made these calls, and nothing else became of it.
pub record MakesCalls {F W : Type 0} (calls : List (HostEntry W)) (old new : HostPass F W) : Type 0 where
  pub same : IsSamePass old new
  pub own : calls_of old.number new.seen ≡ calls_of old.number old.seen ++ calls

module _ {W : Type 0} where
  -- ---- messages that are heard

  -- a message that is to be heard consists of bytes
  abbrev pub HearsBytes : HostFrontCall W → Type 0
  HearsBytes (call.Hear channel message) = AreBytes message
  HearsBytes _ = Unit {0}

  -- So does each.
  abbrev pub HearBytes : List (HostEntry W) → Type 0
  HearBytes calls = AllByRecursion (λ (e : HostEntry W). HearsBytes e.call) calls

  -- a message that isn't heard for want of room comes back as it was
  abbrev pub GivesBack : HostFrontCall W → HostFrontReply W → Type 0
  GivesBack (call.Hear channel message) (reply.Full back) = back ≡ message
  GivesBack _ _ = Unit {0}

  -- So does each.
  abbrev pub AllGiveBack : List (HostEntry W) → Type 0
  AllGiveBack calls = AllByRecursion (λ (e : HostEntry W). GivesBack e.call e.reply) calls

  -- the message that a call gives to be heard on a channel, unless there is no room for it or the channel is over
  abbrev pub heard_by : ℕ → HostFrontCall W → HostFrontReply W → List (List ℕ)
  heard_by c (call.Hear channel message) (reply.Full back) = []
  heard_by c (call.Hear channel message) reply.Over = []
  heard_by c (call.Hear channel message) back = if channel == c then message ∷ [] else []
  heard_by c _ back = []

  -- all that were given so on a channel, in order
  abbrev pub messages_heard : ℕ → List (HostEntry W) → List (List ℕ)
  messages_heard c [] = []
  messages_heard c (e ∷ calls) = heard_by c e.call e.reply ++ messages_heard c calls

  -- ---- messages that are handed out

  -- a call asks for messages of this channel
  abbrev pub AsksFor : ℕ → HostFrontCall W → Type 0
  AsksFor c (call.Next channel room) = channel ≡ c
  AsksFor c _ = ⊥

  -- each of these calls does
  abbrev pub AllAskFor : ℕ → List (HostEntry W) → Type 0
  AllAskFor c calls = AllByRecursion (λ (e : HostEntry W). AsksFor c e.call) calls

  -- the messages that a reply hands out for a channel
  abbrev pub messages_by : ℕ → HostFrontCall W → HostFrontReply W → List (List ℕ)
  messages_by c (call.Next channel room) (reply.Messages filled why) = if channel == c then filled.messages else []
  messages_by c _ back = []

  -- all that were handed out for a channel, in order
  abbrev pub messages_for : ℕ → List (HostEntry W) → List (List ℕ)
  messages_for c [] = []
  messages_for c (e ∷ calls) = messages_by c e.call e.reply ++ messages_for c calls
