-- What the thread that reads a channel does: each message that comes is given to be heard, in order, and that it reads no further has its cause.
use Rattle.std.specs.Prelude.{◌≡◌, ◌⊎◌, ℕ, ◌+◌, ◌-◌, List, [], ◌∷◌, ◌++◌, length, Option, Some, None}
use Rattle.std.specs.Io.KnownBytes.{Consumes, IsAtEnd}
use Rattle.std.specs.List.{AllByRecursion}
use Rattle.rd_base.specs.Faults.{one_more}
use Rattle.rd_base.specs.Layout.{AreBytes}
use Rattle.rd_carry.specs.Incoming.{HasHeard, IncomingState, max_incoming}
use Rattle.rd_carry.specs.declared.ended.EndWhy.TheVariants as why
use Rattle.rd_carry.specs.declared.feeding.CarryNo.{CarryNo}
use Rattle.rd_carry.specs.declared.feeding.CarryNo.TheVariants as no
use Rattle.rd_hello.specs.declared.end_fault.EndFault.{EndFault}
use Rattle.rd_hello.specs.declared.end_fault.EndFault.TheVariants as fault
use Rattle.rd_host_front.specs.declared.calls.HostFrontCall.TheVariants as call
use Rattle.rd_host_front.specs.declared.calls.HostFrontReply.{HostFrontReply}
use Rattle.rd_host_front.specs.declared.calls.HostFrontReply.TheVariants as reply
use Rattle.rd_turn.specs.History.{entry}
use Rattle.rd_host_channel.specs.Calls.{HearBytes, HostEntry, HostPass, MakesCalls}
use Rattle.rd_host_channel.specs.declared.ending.Ending.{Ending}
use Rattle.rd_host_channel.specs.declared.ending.Ending.TheVariants as ending
use Rattle.rd_host_channel.specs.declared.listening.Heard.{Heard}
use Rattle.rd_host_channel.specs.declared.listening.Heard.TheVariants as heard

-- the places of a completion's id and of its body in its message
abbrev pub id_place : ℕ
id_place = 8

abbrev pub body_place : ℕ
body_place = 16

-- where a message has its fault
abbrev pub wrong_at : EndFault → ℕ
wrong_at (fault.Grammar bad) = bad.at
wrong_at _ = 0

-- ---- why a channel is read no further

-- by what can't be read of it
abbrev pub ending_by : CarryNo → Ending
ending_by no.Failed = ending.Unread
ending_by (no.Bad bad) = ending.Fault bad.at 0 (why.Chunk bad.why)
ending_by no.Long = ending.Long
ending_by no.Memory = ending.Memory

-- the count of a half that is read, where reading came to this, if to any end
abbrev pub faults_after : Option Ending → ℕ → ℕ
faults_after (Some ending.Unread) count = one_more count
faults_after _ count = count

-- By what was read: the input came to its end, a read failed, a frame is wrong, too much was read, or no memory was found for a message.
abbrev pub IsReadEnd : Ending → IncomingState → Type 0
IsReadEnd ending.Input to = (to.unhandled ≡ []) × IsAtEnd to.left
IsReadEnd ending.Unread to = Unit {0}
IsReadEnd (ending.Fault at message (why.Chunk wrong)) to = (message ≡ 0) × (to.fault ≡ Some (record { at = at; why = wrong }))
IsReadEnd (ending.Fault at message _) to = ⊥
IsReadEnd ending.Long to = length to.read ≡ max_incoming
IsReadEnd ending.Memory to = Unit {0}
IsReadEnd ending.Over to = ⊥

-- messages that came and that the front didn't take: none, but where the channel was over, which one of them told
abbrev pub IsUnheard : Option Ending → List (List ℕ) → Type 0
IsUnheard (Some ending.Over) rest = (message : List ℕ) × (rest ≡ message ∷ [])
IsUnheard _ rest = rest ≡ []

module _ {W : Type 0} where
  -- what becomes of a message by the front's reply, where it is the last of so many
  abbrev pub after_reply : HostFrontReply W → ℕ → Heard
  after_reply (reply.Done wakes full) count = heard.Taken
  after_reply (reply.Full message) count = heard.Again message
  after_reply (reply.Wrong wrong) count = heard.Last (ending.Fault (wrong_at wrong) (count - 1) (why.Message wrong))
  after_reply (reply.Stray device id) count = heard.Last (ending.Fault id_place (count - 1) why.Stray)
  after_reply (reply.BodyBad bad) count = heard.Last (ending.Fault (body_place + bad.at) (count - 1) (why.BodyBad bad.why))
  after_reply reply.Over count = heard.Last ending.Over
  after_reply _ count = heard.Last ending.Memory

  -- after this reply more may be heard on the channel
  abbrev pub IsPlain : HostFrontReply W → Type 0
  IsPlain (reply.Done wakes full) = Unit {0}
  IsPlain (reply.Full message) = Unit {0}
  IsPlain _ = ⊥

  -- So it is after each.
  abbrev pub AllPlain : List (HostEntry W) → Type 0
  AllPlain calls = AllByRecursion (λ (e : HostEntry W). IsPlain e.reply) calls

  -- So it is after each but the last, after which the channel is read no further for this cause, at the last of so many messages.
  pub record EndsHindered (by : Ending) (count : ℕ) (calls : List (HostEntry W)) : Type 0 where
    pub before : List (HostEntry W)
    pub last : HostEntry W
    pub calls_are : calls ≡ before ++ last ∷ []
    pub plain : AllPlain before
    pub is_so : after_reply last.reply count ≡ heard.Last by

  -- by the replies to what was given to be heard, up to the last of so many messages
  abbrev pub IsHeardEnd : Option Ending → ℕ → List (HostEntry W) → Type 0
  IsHeardEnd None count calls = AllPlain calls
  IsHeardEnd (Some by) count calls = EndsHindered by count calls

  -- by what was read, or by the replies
  abbrev pub IsEndingOf : Option Ending → List (HostEntry W) → IncomingState → Type 0
  IsEndingOf None calls to = AllPlain calls
  IsEndingOf (Some by) calls to = (AllPlain calls × IsReadEnd by to) ⊎ EndsHindered by (length to.messages) calls

  -- ---- which messages are given

  -- The messages that wait to be given once the first of them was, by its reply: it was taken; or it came back; or the channel is over, so it is left.
  abbrev pub waiting_after : HostFrontReply W → List ℕ → List (List ℕ) → List (List ℕ)
  waiting_after (reply.Full back) message later = back ∷ later
  waiting_after reply.Over message later = message ∷ later
  waiting_after _ message later = later

  -- Each of these calls gives the first of the messages that wait to be heard on a channel, and after all of them the rest waits.
  abbrev pub AreGiven : ℕ → List (HostEntry W) → List (List ℕ) → List (List ℕ) → Type 0
  AreGiven channel [] waiting rest = rest ≡ waiting
  AreGiven channel (e ∷ calls) [] rest = ⊥
  AreGiven channel (e ∷ calls) (message ∷ later) rest = (e.call ≡ call.Hear channel message) × AreGiven channel calls (waiting_after e.reply message later) rest

  -- By these calls messages were given to be heard, the last of them the last of so many, up to this end, if to any.
  pub record Gives (channel : ℕ) (messages : List (List ℕ)) (count : ℕ) (by : Option Ending) (calls : List (HostEntry W)) : Type 0 where
    pub bytes : HearBytes calls
    pub rest : List (List ℕ)
    pub given : AreGiven channel calls messages rest
    pub all : IsUnheard by rest
    pub end_is : IsHeardEnd by count calls

  -- By these calls a channel was read on: what was read is what its source consumed, and the messages that came were given to be heard, in order, before any reply hindered.
  pub record Reads (channel : ℕ) (by : Option Ending) (calls : List (HostEntry W)) (from to : IncomingState) : Type 0 where
    pub bytes : HearBytes calls
    pub counted : to.faults ≡ faults_after by from.faults
    pub stream : HasHeard from → HasHeard to
    pub consumed : (began : Option (List ℕ)) → Consumes began from.left from.read → Consumes began to.left to.read
    pub room : to.room ≡ from.room
    pub came : List (List ℕ)
    pub messages : to.messages ≡ from.messages ++ came
    pub rest : List (List ℕ)
    pub given : AreGiven channel calls came rest
    pub all : IsUnheard by rest
    pub end_is : IsEndingOf by calls to

-- A half was read, and no message came.
pub record ReadsOn (by : Option Ending) (from to : IncomingState) : Type 0 where
  pub counted : to.faults ≡ faults_after by from.faults
  pub stream : HasHeard from → HasHeard to
  pub consumed : (began : Option (List ℕ)) → Consumes began from.left from.read → Consumes began to.left to.read
  pub room : to.room ≡ from.room
  pub messages : to.messages ≡ from.messages
  pub end_is : (e : Ending) → by ≡ Some e → IsReadEnd e to
  pub over : IsUnheard by []

module _ {F W : Type 0} where
  -- A pass gave a message to be heard, the last of so many, and this became of it.
  pub record CallsToHear (channel : ℕ) (message : List ℕ) (count : ℕ) (became : Heard) (old new : HostPass F W) : Type 0 where
    pub back : HostFrontReply W
    pub made : MakesCalls (entry old.number (call.Hear channel message) back ∷ []) old new
    pub bytes : AreBytes message
    pub became_is : became ≡ after_reply back count

  -- It made calls by which messages were given.
  pub record GivesMore (channel : ℕ) (messages : List (List ℕ)) (count : ℕ) (by : Option Ending) (old new : HostPass F W) : Type 0 where
    pub calls : List (HostEntry W)
    pub made : MakesCalls calls old new
    pub gives : Gives channel messages count by calls

  -- It made calls by which a channel was read on.
  pub record ReadsMore (channel : ℕ) (by : Option Ending) (old new : HostPass F W) (from to : IncomingState) : Type 0 where
    pub calls : List (HostEntry W)
    pub made : MakesCalls calls old new
    pub reads : Reads channel by calls from to

  -- It made calls by which a channel was read to this end, and then the one that drops the channel.
  pub record Listens (channel : ℕ) (by : Ending) (old new : HostPass F W) (from to : IncomingState) : Type 0 where
    pub calls : List (HostEntry W)
    pub dropped : HostFrontReply W
    pub made : MakesCalls (calls ++ entry old.number (call.DropChannel channel) dropped ∷ []) old new
    pub reads : Reads channel (Some by) calls from to
