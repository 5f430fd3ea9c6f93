-- What the calls of a client's reader and writer tell: the messages that were given to be heard and those that were handed out, and what became of the halves that were written to.
use Rattle.std.specs.Prelude.{◌≡◌, ℕ, ◌==◌, if◌then◌else◌, Bool, true, false, List, [], ◌∷◌, ◌++◌, Option, Some, None}
use Rattle.std.specs.List.{AllByRecursion}
use Rattle.rd_carry.specs.Outgoing.{OutgoingState}
use Rattle.rd_front.specs.Calls.{FrontEntry, RanOut}
use Rattle.rd_front.specs.declared.calls.FrontCall.{FrontCall}
use Rattle.rd_front.specs.declared.calls.FrontCall.TheVariants as call
use Rattle.rd_front.specs.declared.calls.FrontReply.{FrontReply}
use Rattle.rd_front.specs.declared.calls.FrontReply.TheVariants as reply
use Rattle.rd_turn.specs.declared.object.Entry.{Entry}
use Rattle.rd_workers.specs.declared.writer.WriterCall.{WriterCall}
use Rattle.rd_workers.specs.declared.writer.WriterCall.TheVariants as write
use Rattle.rd_workers.specs.declared.writer.WriterReply.{WriterReply}
use Rattle.rd_workers.specs.declared.writer.WriterReply.TheVariants as wrote

-- ---- calls of the front

-- whether a call asks for messages
abbrev pub asks_any : FrontCall → Bool
asks_any (call.Next channel place room) = true
asks_any _ = false

-- none of these calls does
abbrev pub NoneAsks : List FrontEntry → Type 0
NoneAsks entries = AllByRecursion (λ (e : FrontEntry). asks_any e.call ≡ false) entries

-- a call asks for messages of this channel
abbrev pub AsksOn : ℕ → FrontCall → Type 0
AsksOn c (call.Next channel place room) = channel ≡ c
AsksOn c _ = ⊥

-- each of these calls does
abbrev pub AllAskFor : ℕ → List FrontEntry → Type 0
AllAskFor c entries = AllByRecursion (λ (e : FrontEntry). AsksOn c e.call) entries

-- the messages that a reply hands out for a channel
abbrev pub messages_by : ℕ → FrontCall → FrontReply → List (List ℕ)
messages_by c (call.Next channel place room) (reply.Messages filled left) = if channel == c then filled.messages else []
messages_by c _ back = []

-- all that were handed out for a channel, in order
abbrev pub messages_for : ℕ → List FrontEntry → List (List ℕ)
messages_for c [] = []
messages_for c (e ∷ entries) = messages_by c e.call e.reply ++ messages_for c entries

-- what of these calls is not the writer's
abbrev pub reader_calls : List FrontEntry → List FrontEntry
reader_calls [] = []
reader_calls (e ∷ entries) = if asks_any e.call then reader_calls entries else e ∷ reader_calls entries

-- the message that a call gives to be heard, unless it doesn't fit or too much is to be written
abbrev pub given_by : FrontCall → FrontReply → List (List ℕ)
given_by (call.Hear message) reply.Refused = []
given_by (call.Hear message) reply.Full = []
given_by (call.Hear message) back = message ∷ []
given_by _ back = []

-- all that were given so, in order
abbrev pub messages_heard : List FrontEntry → List (List ℕ)
messages_heard [] = []
messages_heard (e ∷ entries) = given_by e.call e.reply ++ messages_heard entries

-- no memory was found for a completion of this channel
abbrev pub RunsOutFor : ℕ → FrontCall → FrontReply → Type 0
RunsOutFor c (call.Next channel place room) back = (channel ≡ c) × RanOut back
RunsOutFor c _ back = ⊥

-- it was for each
abbrev pub AllFound : ℕ → List FrontEntry → Type 0
AllFound c entries = AllByRecursion (λ (e : FrontEntry). ¬ (RunsOutFor c e.call e.reply)) entries

-- ---- calls of the writer

-- A half that is written to: of which channel, as it was when the channel began, and whether the writer said since that nothing more can be written.
pub record Writing : Type 0 where
  pub channel : ℕ
  pub began : OutgoingState
  pub stopped : Bool

-- A half that was written to, as it came back, and whether no memory was found for a message.
pub record Wrote : Type 0 where
  pub channel : ℕ
  pub began : OutgoingState
  pub ended : OutgoingState
  pub starved : Bool
  pub stopped : Bool

-- What calls of the writer tell: the half of the channel that is on, and the halves that came back, in order.
pub record WriterLog : Type 0 where
  pub on : Option Writing
  pub done : List Wrote

-- before any call
abbrev pub no_halves : WriterLog
no_halves = record { on = None; done = [] }

-- a channel begins
abbrev pub begun_on : WriterLog → ℕ → OutgoingState → WriterLog
begun_on log channel output = record log { on = Some (record { channel = channel; began = output; stopped = false }) }

-- nothing more can be written on it
abbrev pub stop : Option Writing → Option Writing
stop (Some w) = Some (record w { stopped = true })
stop None = None

abbrev pub stopped_on : WriterLog → WriterLog
stopped_on log = record log { on = stop log.on }

abbrev pub wrote_on : WriterLog → Bool → WriterLog
wrote_on log true = log
wrote_on log false = stopped_on log

-- the half comes back
abbrev pub back_from : Option Writing → WriterLog → OutgoingState → Bool → WriterLog
back_from None log output starved = log
back_from (Some w) log output starved =
    record { on = None; done = log.done ++ record { channel = w.channel; began = w.began; ended = output; starved = starved; stopped = w.stopped } ∷ [] }

abbrev pub finished_on : WriterLog → OutgoingState → Bool → WriterLog
finished_on log output starved = back_from log.on log output starved

module _ {K : Type 0} where
  -- any call
  abbrev pub writes_by : WriterLog → WriterCall K → WriterReply K → WriterLog
  writes_by log (write.Begin channel output) (wrote.Done going) = begun_on log channel output
  writes_by log (write.Write place last) (wrote.Done going) = wrote_on log going
  writes_by log write.Finish (wrote.Finished (Some output) starved) = finished_on log output starved
  writes_by log _ _ = log

  -- calls, one after the other
  abbrev pub writes_on : WriterLog → List (Entry (WriterCall K) (WriterReply K)) → WriterLog
  writes_on log [] = log
  writes_on log (e ∷ entries) = writes_on (writes_by log e.call e.reply) entries

  abbrev pub writer_log : List (Entry (WriterCall K) (WriterReply K)) → WriterLog
  writer_log entries = writes_on no_halves entries

  -- a call writes what is ready
  abbrev pub IsWriteCall : WriterCall K → Type 0
  IsWriteCall (write.Write place last) = Unit {0}
  IsWriteCall _ = ⊥

  -- each of these calls does
  abbrev pub AllWrite : List (Entry (WriterCall K) (WriterReply K)) → Type 0
  AllWrite entries = AllByRecursion (λ (e : Entry (WriterCall K) (WriterReply K)). IsWriteCall e.call) entries
