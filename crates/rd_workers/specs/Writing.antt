-- What a call of the writer does: which messages it takes of the front by its own calls, and what stands of them in the half that it writes to.
use Rattle.std.specs.Prelude.{◌≡◌, ℕ, ◌<◌, ◌⊎◌, Bool, true, false, List, [], ◌++◌, Option, Some, None}
use Rattle.rd_carry.specs.Outgoing.{HasWritten, OutgoingState}
use Rattle.rd_front.specs.Calls.{FrontEntry}
use Rattle.rd_workers.specs.declared.writer.WriterCall.{WriterCall}
use Rattle.rd_workers.specs.declared.writer.WriterCall.TheVariants as write
use Rattle.rd_workers.specs.declared.writer.WriterReply.{WriterReply}
use Rattle.rd_workers.specs.declared.writer.WriterReply.TheVariants as wrote
use Rattle.rd_workers.specs.Logs.{AllAskFor, AllFound, messages_for}
use Rattle.rd_workers.specs.Passes.{WriterState}

-- Of messages that were handed out the first ones were put to a half, in order: all of them, but where no memory was found for one. A half to which a write failed stays so.
pub record PutsTo (starved : Bool) (messages : List (List ℕ)) (old new : OutgoingState) : Type 0 where
  pub put : List (List ℕ)
  pub lost : List (List ℕ)
  pub messages_are : messages ≡ put ++ lost
  pub all : starved ≡ false → lost ≡ []
  pub since : (began : Option (List ℕ)) (before : List (List ℕ)) → HasWritten began before old → HasWritten began (before ++ put) new
  pub failed : 0 < old.faults → 0 < new.faults

-- Calls of the front for messages of the channel that is on, whose messages are put to its half. Once no memory was found for one, by the front or here, there are no more calls.
pub record TakesMore {F : Type 0} (old : WriterState F) (from to : OutgoingState) (new : WriterState F) : Type 0 where
  pub calls : List FrontEntry
  pub own : new.own ≡ old.own ++ calls
  pub ask : AllAskFor old.channel calls
  pub puts : PutsTo new.starved (messages_for old.channel calls) from to
  pub found : new.starved ≡ false → AllFound old.channel calls
  pub over : old.starved ≡ true → (calls ≡ []) × (new.starved ≡ true)
  pub same : new ≡ record old { own = new.own; half = new.half; starved = new.starved }

-- What is ready is written, where a channel is on. That nothing more can be is said only where a write failed or no memory was found.
abbrev pub WritesReady : {F : Type 0} → Option OutgoingState → Bool → WriterState F → WriterState F → Type 0
WritesReady None going old new = (going ≡ false) × (new ≡ old)
WritesReady (Some from) going old new =
    (to : OutgoingState) × (new.half ≡ Some to) × TakesMore old from to new × (going ≡ false → (0 < to.faults) ⊎ (new.starved ≡ true))

-- The half of the channel that was on comes back, and nothing waits in it.
abbrev pub HandsBack : {F : Type 0} → Option OutgoingState → Option OutgoingState → Bool → WriterState F → WriterState F → Type 0
HandsBack None output starved old new = (output ≡ None) × (new ≡ old)
HandsBack (Some from) output starved old new =
    (to : OutgoingState) × (output ≡ Some to) × (starved ≡ old.starved) × PutsTo false [] from to × (to.pending ≡ []) × (new ≡ record old { half = None })

-- A channel begins, whose number is above those before, where none is on.
abbrev pub BeginsOn : {F : Type 0} → ℕ → OutgoingState → WriterState F → WriterState F → Type 0
BeginsOn channel output old new = (old.half ≡ None) × (old.channel < channel) × (new ≡ record old { channel = channel; half = Some output; starved = false })

-- The writer before a call, and after it.
abbrev pub WriterStep : {F K : Type 0} → WriterState F → WriterCall K → WriterReply K → WriterState F → Type 0
WriterStep old (write.Begin channel output) (wrote.Done going) new = BeginsOn channel output old new
WriterStep old (write.Begin channel output) (wrote.Refused back) new = (back ≡ output) × (new ≡ old)
WriterStep old (write.Begin channel output) (wrote.Finished back starved) new = ⊥
WriterStep old (write.Write place last) (wrote.Done going) new = WritesReady old.half going old new
WriterStep old (write.Write place last) _ new = ⊥
WriterStep old write.Finish (wrote.Finished output starved) new = HandsBack old.half output starved old new
WriterStep old write.Finish _ new = ⊥
