-- What a reader does on a channel: each message that comes is given to be heard, in order, and that it reads no further has its cause.
use Rattle.std.specs.Prelude.{◌≡◌, ◌⊎◌, ℕ, ◌-◌, Bool, false, List, [], ◌∷◌, ◌++◌, length, Option, Some, None}
use Rattle.std.specs.Io.KnownBytes.{Consumes, IsAtEnd}
use Rattle.std.specs.List.{AllByRecursion}
use Rattle.rd_carry.specs.Incoming.{HasHeard, IncomingState, max_incoming}
use Rattle.rd_carry.specs.Outgoing.{OutgoingState}
use Rattle.rd_carry.specs.declared.ended.EndWhy.TheVariants as why
use Rattle.rd_front.specs.Calls.{FrontEntry, HearBytes, hinders}
use Rattle.rd_front.specs.declared.calls.FrontCall.{FrontCall}
use Rattle.rd_front.specs.declared.calls.FrontCall.TheVariants as call
use Rattle.rd_front.specs.declared.calls.FrontReply.{FrontReply}
use Rattle.rd_front.specs.declared.calls.FrontReply.TheVariants as reply
use Rattle.rd_hello.specs.declared.end_fault.EndFault.{EndFault}
use Rattle.rd_hello.specs.declared.end_fault.EndFault.TheVariants as fault
use Rattle.rd_workers.specs.Faults.{faults_by}
use Rattle.rd_workers.specs.Logs.{WriterLog, begun_on, finished_on, messages_heard, stopped_on, wrote_on}
use Rattle.rd_workers.specs.Passes.{ReaderState}
use Rattle.rd_workers.specs.declared.reader.Ending.{Ending}
use Rattle.rd_workers.specs.declared.reader.Ending.TheVariants as ending

-- the place of a request's completion id in its message
abbrev pub completion_id : ℕ
completion_id = 12

-- where a message has its fault
abbrev pub wrong_at : EndFault → ℕ
wrong_at (fault.Grammar bad) = bad.at
wrong_at _ = 0

-- ---- why a channel is read no further

-- no reply to these calls hindered further hearing
abbrev pub AllPlain : List FrontEntry → Type 0
AllPlain calls = AllByRecursion (λ (e : FrontEntry). hinders e.reply ≡ false) calls

-- None but the last of them did, and of that this is so.
pub record EndsHindered (IsSo : FrontCall → FrontReply → Type 0) (calls : List FrontEntry) : Type 0 where
  pub before : List FrontEntry
  pub last : FrontEntry
  pub calls_are : calls ≡ before ++ last ∷ []
  pub plain : AllPlain before
  pub is_so : IsSo last.call last.reply

-- a message is wrong
abbrev pub SaysWrong : EndFault → FrontCall → FrontReply → Type 0
SaysWrong wrong does back = back ≡ reply.Wrong wrong

-- a completion id is in use
abbrev pub SaysDuplicate : FrontCall → FrontReply → Type 0
SaysDuplicate does (reply.Duplicate key) = Unit {0}
SaysDuplicate does _ = ⊥

-- no memory was found, or a job can't come to its desk
abbrev pub IsWanting : FrontReply → Type 0
IsWanting reply.Memory = Unit {0}
IsWanting reply.Unfit = Unit {0}
IsWanting _ = ⊥

-- It is so of a message, or of a job that is tried again; of any other call nothing is said.
abbrev pub SaysWanting : FrontCall → FrontReply → Type 0
SaysWanting (call.Hear message) back = IsWanting back
SaysWanting call.Retry back = IsWanting back
SaysWanting does back = Unit {0}

-- By the replies of the front: a reply hindered, to the last of so many messages or to a line's call, and the end says so; or none did.
abbrev pub IsHeardEnd : Option Ending → ℕ → List FrontEntry → Type 0
IsHeardEnd (Some (ending.Fault at message (why.Message wrong))) count calls =
    EndsHindered (SaysWrong wrong) calls × (at ≡ wrong_at wrong) × (message ≡ count - 1)
IsHeardEnd (Some (ending.Fault at message why.Duplicate)) count calls = EndsHindered SaysDuplicate calls × (at ≡ completion_id) × (message ≡ count - 1)
IsHeardEnd (Some (ending.Fault at message wrong)) count calls = ⊥
IsHeardEnd (Some ending.Memory) count calls = AllPlain calls ⊎ EndsHindered SaysWanting calls
IsHeardEnd (Some ending.Input) count calls = ⊥
IsHeardEnd (Some ending.Unread) count calls = ⊥
IsHeardEnd (Some ending.Long) count calls = ⊥
IsHeardEnd by count calls = AllPlain calls

-- By what was read, where no reply hindered: the input came to its end, a read failed, a frame is wrong, or too much was read; or by the replies.
abbrev pub IsEndingOf : Option Ending → List FrontEntry → IncomingState → Type 0
IsEndingOf (Some ending.Input) calls to = AllPlain calls × (to.unhandled ≡ []) × IsAtEnd to.left
IsEndingOf (Some ending.Unread) calls to = AllPlain calls
IsEndingOf (Some ending.Long) calls to = AllPlain calls × (length to.read ≡ max_incoming)
IsEndingOf (Some (ending.Fault at message (why.Chunk wrong))) calls to = AllPlain calls × (message ≡ 0) × (to.fault ≡ Some (record { at = at; why = wrong }))
IsEndingOf by calls to = IsHeardEnd by (length to.messages) calls

-- where nothing more can be written the writer said so
abbrev pub stopped_where : Option Ending → WriterLog → WriterLog
stopped_where (Some ending.Unwritten) written = stopped_on written
stopped_where _ written = written

-- ---- what the reader's calls leave

-- messages that came and that the front didn't take: none, but where memory was wanting
abbrev pub IsRest : Option Ending → List (List ℕ) → Type 0
IsRest (Some ending.Memory) rest = Unit {0}
IsRest by rest = rest ≡ []

-- the half came back, if one did
abbrev pub written_back : Option OutgoingState → Bool → WriterLog → WriterLog
written_back None starved written = written
written_back (Some output) starved written = finished_on written output starved

-- a call by which the host is told of a device
abbrev pub TellsOf : FrontCall → Type 0
TellsOf (call.Remove device) = Unit {0}
TellsOf (call.Add device) = Unit {0}
TellsOf _ = ⊥

-- a call by which a channel is to begin, and where it does
abbrev pub AsksToBegin : ℕ → FrontEntry → Type 0
AsksToBegin channel e = e.call ≡ call.Begin channel

abbrev pub Begins : ℕ → FrontEntry → Type 0
Begins channel e = (e.call ≡ call.Begin channel) × ((at : Option ℕ) × (full : Bool) × (e.reply ≡ reply.Done at full))

module _ {F : Type 0} where
  -- what it calls by, and the desks
  pub record IsSame (old new : ReaderState F) : Type 0 where
    pub front : new.front ≡ old.front
    pub writer : new.writer ≡ old.writer
    pub desks : new.desks ≡ old.desks
    pub moment : new.moment ≡ old.moment

  -- what can be written was written; or the writer said that nothing more can be
  abbrev pub having_written : Bool → ReaderState F → ReaderState F
  having_written going old = record old { written = wrote_on old.written going }

  -- the same, where else a channel is read no further
  abbrev pub IsRelieved : Option Ending → ReaderState F → ReaderState F → Type 0
  IsRelieved None old new = new ≡ old
  IsRelieved (Some ending.Unwritten) old new = new ≡ having_written false old
  IsRelieved (Some _) old new = ⊥

  -- what follows from the front's reply to the last of so many messages
  abbrev pub Follows : FrontReply → ℕ → Option Ending → ReaderState F → ReaderState F → Type 0
  Follows (reply.Done at full) count by old new = IsRelieved by old new
  Follows reply.Kept count by old new = (by ≡ None) × (new ≡ old)
  Follows (reply.Wrong wrong) count by old new = (by ≡ Some (ending.Fault (wrong_at wrong) (count - 1) (why.Message wrong))) × (new ≡ old)
  Follows (reply.Duplicate key) count by old new = (by ≡ Some (ending.Fault completion_id (count - 1) why.Duplicate)) × (new ≡ old)
  Follows _ count by old new = (by ≡ Some ending.Memory) × (new ≡ old)

  -- Calls of the front were made, up to this end, if to any; and where it is that nothing more can be written, the writer said so.
  pub record CallsOn (by : Option Ending) (calls : List FrontEntry) (old new : ReaderState F) : Type 0 where
    pub same : IsSame old new
    pub own : new.own ≡ old.own ++ calls
    pub bytes : HearBytes calls
    pub written : new.written ≡ stopped_where by old.written

  -- By such calls, which fit this, none of so many messages was heard.
  pub record GoesOn (Fits : List FrontEntry → Type 0) (by : Option Ending) (count : ℕ) (old new : ReaderState F) : Type 0 where
    pub calls : List FrontEntry
    pub made : CallsOn by calls old new
    pub fits : Fits calls
    pub none : messages_heard calls ≡ []
    pub end_is : IsHeardEnd by count calls

  -- By such calls a channel was read on: what was read is what its source consumed, and each message that came was given to be heard, in order, before any reply hindered.
  pub record HearsOn (Fits : List FrontEntry → Type 0) (by : Option Ending) (old new : ReaderState F) (from to : IncomingState) : Type 0 where
    pub calls : List FrontEntry
    pub made : CallsOn by calls old new
    pub fits : Fits calls
    pub counted : to.faults ≡ faults_by by from.faults
    pub stream : HasHeard from → HasHeard to
    pub consumed : (began : Option (List ℕ)) → Consumes began from.left from.read → Consumes began to.left to.read
    pub room : to.room ≡ from.room
    pub rest : List (List ℕ)
    pub messages : to.messages ≡ from.messages ++ (messages_heard calls ++ rest)
    pub all : IsRest by rest
    pub end_is : IsEndingOf by calls to

  -- One call of the front was made.
  pub record CallsOnce (IsSo : FrontEntry → Type 0) (old new : ReaderState F) : Type 0 where
    pub same : IsSame old new
    pub call : FrontEntry
    pub is_so : IsSo call
    pub own : new.own ≡ old.own ++ call ∷ []

  -- A channel began: for the front, and with its half for the writer.
  pub record BeginsChannel (channel : ℕ) (output : OutgoingState) (old new : ReaderState F) : Type 0 where
    pub called : CallsOnce (Begins channel) old new
    pub written : new.written ≡ begun_on old.written channel output

  -- It couldn't.
  pub record BeginsNone (channel : ℕ) (old new : ReaderState F) : Type 0 where
    pub called : CallsOnce (AsksToBegin channel) old new
    pub written : new.written ≡ old.written

  -- A channel ended.
  pub record EndsChannel (output : Option OutgoingState) (starved : Bool) (old new : ReaderState F) : Type 0 where
    pub called : CallsOnce (λ e. e.call ≡ call.EndChannel) old new
    pub written : new.written ≡ written_back output starved old.written

  -- The session ended.
  pub record EndsCalls (old new : ReaderState F) : Type 0 where
    pub called : CallsOnce (λ e. e.call ≡ call.EndSession) old new
    pub written : new.written ≡ old.written
