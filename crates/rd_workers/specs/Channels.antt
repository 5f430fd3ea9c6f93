-- What a session did on its channels, one after the other: what was read and heard on each, what became of its half that was written to, and what its linker was told of it.
use Rattle.std.specs.Prelude.{◌≡◌, ℕ, suc, ◌<◌, ◌⊎◌, Bool, true, false, List, [], ◌∷◌, ◌++◌, length, map, fold, Option, None, Some}
use Rattle.std.specs.Io.KnownBytes.{Consumes}
use Rattle.std.specs.List.{AllByRecursion}
use Rattle.rd_carry.specs.Incoming.{HasHeard, IncomingState}
use Rattle.rd_carry.specs.Outgoing.{HasWritten}
use Rattle.rd_carry.specs.declared.ended.Ended.{Ended}
use Rattle.rd_carry.specs.declared.ended.Ended.TheVariants as ended
use Rattle.rd_front.specs.Calls.{FrontEntry, HearBytes}
use Rattle.rd_front.specs.declared.calls.FrontCall.TheVariants as call
use Rattle.rd_link.specs.Links.{Lends, Links, TakesBack}
use Rattle.rd_script.specs.declared.line.Line.{Line}
use Rattle.rd_script.specs.declared.line.Line.TheVariants as line
use Rattle.rd_script.specs.declared.line.NumberedLine.{NumberedLine}
use Rattle.rd_workers.specs.Faults.{HasRisen, faults_by}
use Rattle.rd_workers.specs.declared.due.AtLine.{AtLine}
use Rattle.rd_workers.specs.Lines.{GoesByLines}
use Rattle.rd_workers.specs.Logs.{Wrote, messages_heard}
use Rattle.rd_workers.specs.Passes.{ReaderState}
use Rattle.rd_workers.specs.Reading.{AsksToBegin, Begins, IsEndingOf, IsRest}
use Rattle.rd_workers.specs.declared.reader.Ending.{Ending}
use Rattle.rd_workers.specs.declared.reader.Ending.TheVariants as ending

-- ---- a channel

-- A channel that was read: its number, the bytes that its half was given with, that half as it was left, and why it was read no further; the calls of the front from its begin to its end,
-- and what came and wasn't given to be heard.
pub record ChannelReading : Type 0 where
  pub channel : ℕ
  pub given : Option (List ℕ)
  pub incoming : IncomingState
  pub by : Ending
  pub calls : List FrontEntry
  pub rest : List (List ℕ)

-- What was read is what its source consumed, and the messages of it were given to be heard, in order, up to an end that has its cause.
pub record IsReading (r : ChannelReading) : Type 0 where
  pub stream : HasHeard r.incoming
  pub consumed : Consumes r.given (r.incoming).left (r.incoming).read
  pub counted : (r.incoming).faults ≡ faults_by (Some r.by) 0
  pub messages : (r.incoming).messages ≡ messages_heard r.calls ++ r.rest
  pub all : IsRest (Some r.by) r.rest
  pub bytes : HearBytes r.calls
  pub end_is : IsEndingOf (Some r.by) r.calls r.incoming

-- A channel's calls with that by which it began, and that by which it ended.
pub record IsWholeRun (channel : ℕ) (calls whole : List FrontEntry) : Type 0 where
  pub begin : FrontEntry
  pub end : FrontEntry
  pub whole_are : whole ≡ begin ∷ (calls ++ end ∷ [])
  pub begins : Begins channel begin
  pub ends : end.call ≡ call.EndChannel

-- A channel that was read and written: its reading, all calls of the front by which it was served but for those that ask for messages, what its other half held as it was given, and what
-- became of that.
pub record ChannelRun : Type 0 where
  pub reading : ChannelReading
  pub calls : List FrontEntry
  pub held : Option (List ℕ)
  pub wrote : Wrote

pub record IsChannelRun (r : ChannelRun) : Type 0 where
  pub reading : IsReading r.reading
  pub whole : IsWholeRun (r.reading).channel (r.reading).calls r.calls
  pub channel : (r.wrote).channel ≡ (r.reading).channel
  pub began : HasWritten r.held [] (r.wrote).began
  pub stopped : (r.reading).by ≡ ending.Unwritten → (r.wrote).stopped ≡ true

-- ---- what the linker was told

-- What a linker tells: its channels, where it does, and how many of its calls of `connect` failed.
pub record LinkerTold : Type 0 where
  pub links : Option Links
  pub failures : ℕ

abbrev pub told_as : Option Links → ℕ → LinkerTold
told_as links failures = record { links = links; failures = failures }

-- A channel was given, and settled.
abbrev pub SettlesOne : (old new : LinkerTold) (given held left back : Option (List ℕ)) (read_faults write_faults : ℕ) → Type 0
SettlesOne old new given held left back read_faults write_faults =
    (between : Option Links) × Lends old.links between given held × TakesBack between new.links left back read_faults write_faults × (new.failures ≡ old.failures)

abbrev pub SettlesRun : ChannelRun → (old new : LinkerTold) → Type 0
SettlesRun r old new = SettlesOne old new (r.reading).given r.held ((r.reading).incoming).left ((r.wrote).ended).held ((r.reading).incoming).faults ((r.wrote).ended).faults

-- channels were, one after the other
abbrev pub SettlesRuns : List ChannelRun → (old new : LinkerTold) → Type 0
SettlesRuns [] old new = new ≡ old
SettlesRuns (r ∷ runs) old new = (next : LinkerTold) × SettlesRun r old next × SettlesRuns runs next new

-- One was on which nothing was read or written.
abbrev pub SettlesUnused : (old new : LinkerTold) → Type 0
SettlesUnused old new = (given : Option (List ℕ)) × (held : Option (List ℕ)) × SettlesOne old new given held given held 0 0

-- One was given, and not settled.
abbrev pub LendsOne : (old new : LinkerTold) (given held : Option (List ℕ)) → Type 0
LendsOne old new given held = Lends old.links new.links given held × (new.failures ≡ old.failures)

-- None could be had: a call of `connect` failed.
abbrev pub HadNone : (old new : LinkerTold) → Type 0
HadNone old new = (new.links ≡ old.links) × HasRisen old.failures new.failures

-- ---- channels

-- the calls by which channels were served
abbrev pub calls_by_all : List ChannelRun → List FrontEntry
calls_by_all [] = []
calls_by_all (r ∷ runs) = r.calls ++ calls_by_all runs

-- channels have the numbers after this one, in order
abbrev pub HaveNumbers : ℕ → List ChannelRun → Type 0
HaveNumbers n [] = Unit {0}
HaveNumbers n (r ∷ runs) = ((r.reading).channel ≡ suc n) × HaveNumbers (suc n) runs

-- A channel went by these lines of the script, and left those.
abbrev pub GoesByThem : ChannelReading → (lines left : List AtLine) → Type 0
GoesByThem r lines left = GoesByLines r.channel (Some r.by) lines left r.calls

-- Each did, one after the other.
abbrev pub AllGoByLines : List ChannelRun → (lines left : List AtLine) → Type 0
AllGoByLines [] lines left = left ≡ lines
AllGoByLines (r ∷ runs) lines left = (next : List AtLine) × GoesByThem r.reading lines next × AllGoByLines runs next left

-- Channels were served, one after the other, by these calls of the front, and these halves came back from them.
pub record HasServed (runs : List ChannelRun) (calls : List FrontEntry) (done : List Wrote) (lines left : List AtLine) (old new : LinkerTold) : Type 0 where
  pub each : AllByRecursion IsChannelRun runs
  pub numbered : HaveNumbers 0 runs
  pub calls_are : calls ≡ calls_by_all runs
  pub done_are : done ≡ map (λ (r : ChannelRun). r.wrote) runs
  pub lines_go : AllGoByLines runs lines left
  pub settled : SettlesRuns runs old new

-- ---- the end

-- what ends the session, where a channel's end does
abbrev pub ended_as : ℕ → Ending → Bool → Option Ended
ended_as channel by true = Some ended.Memory
ended_as channel (ending.Fault at message why) false = Some (ended.Channel channel at message why)
ended_as channel ending.Long false = Some ended.Long
ended_as channel ending.Memory false = Some ended.Memory
ended_as channel by false = None

abbrev pub ended_session : ChannelRun → Option Ended
ended_session r = ended_as (r.reading).channel (r.reading).by (r.wrote).starved

-- What changes while channels are served: the calls of the front, the halves that came back, the lines of the script that are left, and what the linker tells.
pub record Standing : Type 0 where
  pub calls : List FrontEntry
  pub done : List Wrote
  pub lines : List AtLine
  pub linker : LinkerTold

-- The next channel was served, after which the session ends so, if it does.
pub record ServesNext (by : Option Ended) (r : ChannelRun) (old new : Standing) : Type 0 where
  pub is : IsChannelRun r
  pub ends : ended_session r ≡ by
  pub calls_are : new.calls ≡ old.calls ++ r.calls
  pub done_are : new.done ≡ old.done ++ r.wrote ∷ []
  pub lines_go : GoesByThem r.reading old.lines new.lines
  pub settles : SettlesRun r old.linker new.linker

abbrev pub ServesOne : (channel : ℕ) (by : Option Ended) (old new : Standing) → Type 0
ServesOne channel by old new = (r : ChannelRun) × ((r.reading).channel ≡ channel) × ServesNext by r old new

-- No memory was found to begin a channel: it was settled unused.
pub record LeavesUnused (channel : ℕ) (old new : Standing) : Type 0 where
  pub call : FrontEntry
  pub asks : AsksToBegin channel call
  pub calls_are : new.calls ≡ old.calls ++ call ∷ []
  pub done_are : new.done ≡ old.done
  pub settled : SettlesUnused old.linker new.linker

-- A channel was read whose other half didn't come back, so it isn't settled.
pub record LeavesLent (channel : ℕ) (old new : Standing) : Type 0 where
  pub reading : ChannelReading
  pub is : IsReading reading
  pub channel_is : reading.channel ≡ channel
  pub calls : List FrontEntry
  pub whole : IsWholeRun channel reading.calls calls
  pub held : Option (List ℕ)
  pub calls_are : new.calls ≡ old.calls ++ calls
  pub done_are : new.done ≡ old.done
  pub lines_go : GoesByThem reading old.lines new.lines
  pub lent : LendsOne old.linker new.linker reading.given held

-- A call of `connect` failed.
pub record ConnectsNone (old new : Standing) : Type 0 where
  pub calls_are : new.calls ≡ old.calls
  pub done_are : new.done ≡ old.done
  pub had : HadNone old.linker new.linker

-- What ends a session that no channel's end does: no channel could be had, or no memory was found for one.
abbrev pub EndsShort : (channel : ℕ) → Ended → (old new : Standing) → Type 0
EndsShort channel ended.Link old new = ConnectsNone old new
EndsShort channel ended.Memory old new = LeavesUnused channel old new ⊎ LeavesLent channel old new
EndsShort channel _ old new = ⊥

-- What ends a session on its next channel.
abbrev pub EndsOn : (channel : ℕ) (by : Ended) (old new : Standing) → Type 0
EndsOn channel by old new = ServesOne channel (Some by) old new ⊎ EndsShort channel by old new

-- the session goes on after each of these channels
abbrev pub AllGoOn : List ChannelRun → Type 0
AllGoOn runs = AllByRecursion (λ (r : ChannelRun). ended_session r ≡ None) runs

-- All channels of a session were served.
abbrev pub EndsAfter : (channels count : ℕ) (by : Ended) (old new : Standing) → Type 0
EndsAfter channels count by old new = (count ≡ channels) × ((by ≡ ended.Over) ⊎ (by ≡ ended.Link)) × (new ≡ old)

-- before any channel
abbrev pub none_served : List AtLine → LinkerTold → Standing
none_served lines linker = record { calls = []; done = []; lines = lines; linker = linker }

-- So many channels of a session, which has these lines, were served, each by its run, and the session goes on.
pub record ServesSome (runs : List ChannelRun) (lines : List AtLine) (old : LinkerTold) (s : Standing) : Type 0 where
  pub served : HasServed runs s.calls s.done lines s.lines old s.linker
  pub on : AllGoOn runs

-- A session's channels were all served; or one of them ended it, or none more could be had or begun.
pub record EndsSo (lines : List AtLine) (channels : ℕ) (by : Ended) (old : LinkerTold) (s : Standing) : Type 0 where
  pub runs : List ChannelRun
  pub here : Standing
  pub some : ServesSome runs lines old here
  pub ends : EndsAfter channels (length runs) by here s ⊎ ((length runs < channels) × EndsOn (suc (length runs)) by here s)

-- The same, by these calls and with these halves back, whatever lines are left.
abbrev pub EndsByCalls : (lines : List AtLine) (channels : ℕ) (by : Ended) (calls : List FrontEntry) (done : List Wrote) (old new : LinkerTold) → Type 0
EndsByCalls lines channels by calls done old new = (left : List AtLine) × EndsSo lines channels by old (record { calls = calls; done = done; lines = left; linker = new })

-- where a reader stands, with the lines that are left
abbrev pub stands_at : {F : Type 0} → ReaderState F → List AtLine → LinkerTold → Standing
stands_at s lines linker = record { calls = s.own; done = (s.written).done; lines = lines; linker = linker }

-- ---- how many channels

-- as many as a line says, if it says it
abbrev pub channels_by : ℕ → Line → ℕ
channels_by n (line.Channels count) = count
channels_by n _ = n

abbrev pub with_channels : ℕ → NumberedLine → ℕ
with_channels n l = channels_by n l.line

-- as many as the last line says that says it; one, where none does
abbrev pub channels_of : List NumberedLine → ℕ
channels_of lines = fold with_channels 1 lines
