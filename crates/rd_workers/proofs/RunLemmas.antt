-- The runs of a session's channels, where memory wasn't wanting, and what they tell of the reader's own calls.
use Rattle.std.proofs.Common.{◌≡◌, ◌≢◌, ◌∙◌, refl, sym, ap, subst, inl, inr, ℕ, suc, ◌+◌, Bool, true, false, List, [], ◌∷◌, ◌++◌, map, length, Some, append_assoc, append-nil, arith}
use Rattle.std.specs.List.{AllByRecursion}
use Rattle.std.proofs.lemmas.List.{map-append}
use Rattle.rd_carry.specs.declared.ended.Ended.{Ended}
use Rattle.rd_carry.specs.declared.ended.Ended.TheVariants as ended
use Rattle.rd_carry.specs.declared.ended.EndWhy.TheVariants as why
use Rattle.rd_carry.specs.Incoming.{IncomingState}
use Rattle.rd_drive.proofs.AllLemmas.{all_append}
use Rattle.rd_front.specs.Calls.{FrontEntry, HearBytes, HearsBytes, hinders}
use Rattle.rd_front.specs.declared.calls.FrontCall.{FrontCall}
use Rattle.rd_front.specs.declared.calls.FrontCall.TheVariants as call
use Rattle.rd_front.specs.declared.calls.FrontReply.{FrontReply}
use Rattle.rd_front.specs.declared.calls.FrontReply.TheVariants as reply
use Rattle.rd_hello.specs.declared.end_fault.EndFault.{EndFault}
use Rattle.rd_workers.specs.Channels.{AllGoByLines, AllGoOn, ChannelRun, EndsByCalls, EndsShort, GoesByThem, HaveNumbers, IsChannelRun, LinkerTold, ServesNext, ServesSome, Standing, calls_by_all, ended_as, ended_session}
use Rattle.rd_workers.specs.Lines.{LinesGo, LinesStand, LinesStep}
use Rattle.rd_workers.specs.Logs.{Wrote}
use Rattle.rd_workers.specs.Reading.{AllPlain, EndsHindered, IsEndingOf, IsRest, SaysDuplicate, SaysWrong}
use Rattle.rd_workers.specs.declared.due.AtLine.{AtLine}
use Rattle.rd_workers.specs.declared.reader.Ending.{Ending}
use Rattle.rd_workers.specs.declared.reader.Ending.TheVariants as ending

-- ---- a channel's calls

-- memory wasn't wanting on a channel
pub record IsSure (r : ChannelRun) : Type 0 where
  pub fed : (r.wrote).starved ≡ false
  pub found : (r.reading).by ≢ ending.Memory

-- calls that are made while a channel is read
abbrev pub IsMiddle : FrontCall → Type 0
IsMiddle (call.Begin channel) = ⊥
IsMiddle (call.Next channel place room) = ⊥
IsMiddle call.EndChannel = ⊥
IsMiddle call.EndSession = ⊥
IsMiddle _ = Unit {0}

abbrev pub AreMiddle : List FrontEntry → Type 0
AreMiddle calls = AllByRecursion (λ (e : FrontEntry). IsMiddle e.call) calls

middle_step : (channel : ℕ) (old new : LinesStand) (does : FrontCall) (back : FrontReply) → LinesStep channel old does back new → IsMiddle does
middle_step channel old new (call.Begin other) back step = step
middle_step channel old new (call.Next other place room) back step = step
middle_step channel old new call.EndChannel back step = step
middle_step channel old new call.EndSession back step = step
middle_step channel old new (call.Hear message) back step = tt
middle_step channel old new call.Retry back step = tt
middle_step channel old new (call.Remove device) back step = tt
middle_step channel old new (call.Add device) back step = tt
middle_step channel old new call.Look back step = tt

middle_go : (channel : ℕ) (old : LinesStand) (calls : List FrontEntry) (new : LinesStand) → LinesGo channel old calls new → AreMiddle calls
middle_go channel old [] new goes = tt
middle_go channel old (e ∷ calls) new goes = (middle_step channel old goes.0 e.call e.reply goes.1, middle_go channel goes.0 calls new goes.2)

abbrev IsInMiddle : ChannelRun → Type 0
IsInMiddle r = AreMiddle (r.reading).calls

all_middle : (runs : List ChannelRun) (lines left : List AtLine) → AllGoByLines runs lines left → AllByRecursion IsInMiddle runs
all_middle [] lines left go = tt
all_middle (r ∷ runs) lines left go = (middle_go (r.reading).channel _ (r.reading).calls _ (go.1).goes, all_middle runs go.0 left go.2)

-- ---- the runs

-- A session's channels, each by its run, where memory wasn't wanting on any.
pub record AreRuns (runs : List ChannelRun) (calls : List FrontEntry) (done : List Wrote) (lines : List AtLine) : Type 0 where
  pub each : AllByRecursion IsChannelRun runs
  pub numbered : HaveNumbers 0 runs
  pub calls_are : calls ≡ calls_by_all runs
  pub done_are : done ≡ map (λ (r : ChannelRun). r.wrote) runs
  pub left : List AtLine
  pub lines_go : AllGoByLines runs lines left
  pub sure : AllByRecursion IsSure runs

sure_as : (channel : ℕ) (by : Ending) (starved : Bool) → ended_as channel by starved ≢ Some ended.Memory → (starved ≡ false) × (by ≢ ending.Memory)
sure_as channel by true never = absurd (never refl)
sure_as channel by false never = (refl, λ is. never (ap (λ (x : Ending). ended_as channel x false) is))

sure_one : (r : ChannelRun) → ended_session r ≢ Some ended.Memory → IsSure r
sure_one r never = let is = sure_as (r.reading).channel (r.reading).by (r.wrote).starved never in record { fed = is.0; found = is.1 }

sure_on : (runs : List ChannelRun) → AllGoOn runs → AllByRecursion IsSure runs
sure_on [] on = tt
sure_on (r ∷ runs) on = (sure_one r (λ is. let none = on.0 in cc (is, none)), sure_on runs on.1)

numbers_more : (n : ℕ) (runs : List ChannelRun) (r : ChannelRun) → HaveNumbers n runs → (r.reading).channel ≡ suc (n + length runs) → HaveNumbers n (runs ++ r ∷ [])
numbers_more n [] r have is = (omega (arith, is), tt)
numbers_more n (x ∷ runs) r have is = (have.0, numbers_more (suc n) runs r have.1 (omega (arith, is)))

calls_more : (runs : List ChannelRun) (r : ChannelRun) → calls_by_all (runs ++ r ∷ []) ≡ calls_by_all runs ++ r.calls
calls_more [] r = append-nil r.calls
calls_more (x ∷ runs) r = ap (λ (es : List FrontEntry). x.calls ++ es) (calls_more runs r) ∙ sym (append_assoc x.calls (calls_by_all runs) r.calls)

lines_more : (runs : List ChannelRun) (r : ChannelRun) (lines mid left : List AtLine) → AllGoByLines runs lines mid → GoesByThem r.reading mid left → AllGoByLines (runs ++ r ∷ []) lines left
lines_more [] r lines mid left go goes = (left, subst (λ (ls : List AtLine). GoesByThem r.reading ls left) go goes, refl)
lines_more (x ∷ runs) r lines mid left go goes = (go.0, go.1, lines_more runs r go.0 mid left go.2 goes)

-- the session's last channel ended it
last_run : (runs : List ChannelRun) (lines : List AtLine) (by : Ended) (old : LinkerTold) (here s : Standing) (r : ChannelRun) → by ≢ ended.Memory → ServesSome runs lines old here → (r.reading).channel ≡ suc (length runs) → ServesNext (Some by) r here s
    → AreRuns (runs ++ r ∷ []) s.calls s.done lines
last_run runs lines by old here s r not some number next =
    let wrote_by : ChannelRun → Wrote = λ x. x.wrote in
    record {
      each = all_append IsChannelRun runs (r ∷ []) (some.served).each (next.is, tt);
      numbered = numbers_more 0 runs r (some.served).numbered (omega (arith, number));
      calls_are = next.calls_are ∙ ap (λ (es : List FrontEntry). es ++ r.calls) (some.served).calls_are ∙ sym (calls_more runs r);
      done_are = next.done_are ∙ ap (λ (ws : List Wrote). ws ++ r.wrote ∷ []) (some.served).done_are ∙ sym (map-append wrote_by runs (r ∷ []));
      left = s.lines;
      lines_go = lines_more runs r lines here.lines s.lines (some.served).lines_go next.lines_go;
      sure = all_append IsSure runs (r ∷ []) (sure_on runs some.on) (sure_one r (λ is. let so = next.ends in not (let both : Some by ≡ Some ended.Memory = sym so ∙ is in cc (both))), tt);
    }

-- the reader's calls are those of the runs so far
same_runs : (runs : List ChannelRun) (lines : List AtLine) (old : LinkerTold) (here s : Standing) → ServesSome runs lines old here → s.calls ≡ here.calls → s.done ≡ here.done → AreRuns runs s.calls s.done lines
same_runs runs lines old here s some calls done = record {
  each = (some.served).each;
  numbered = (some.served).numbered;
  calls_are = calls ∙ (some.served).calls_are;
  done_are = done ∙ (some.served).done_are;
  left = here.lines;
  lines_go = (some.served).lines_go;
  sure = sure_on runs some.on;
}

abbrev SomeRuns : List FrontEntry → List Wrote → List AtLine → Type 0
SomeRuns calls done lines = (runs : List ChannelRun) × AreRuns runs calls done lines

short_runs : (runs : List ChannelRun) (lines : List AtLine) (channel : ℕ) (by : Ended) (old : LinkerTold) (here s : Standing) → by ≢ ended.Memory → ServesSome runs lines old here → EndsShort channel by here s → SomeRuns s.calls s.done lines
short_runs runs lines channel ended.Link old here s not some short = (runs, same_runs runs lines old here s some short.calls_are short.done_are)
short_runs runs lines channel ended.Memory old here s not some short = absurd (not refl)
short_runs runs lines channel ended.Over old here s not some short = absurd short
short_runs runs lines channel (ended.Channel c at message cause) old here s not some short = absurd short
short_runs runs lines channel ended.Long old here s not some short = absurd short

pub runs_of : (lines : List AtLine) (channels : ℕ) (by : Ended) (calls : List FrontEntry) (done : List Wrote) (old new : LinkerTold) → by ≢ ended.Memory → EndsByCalls lines channels by calls done old new → SomeRuns calls done lines
runs_of lines channels by calls done old new not (left, so) = elim so.ends [
  | inl after ↦ (so.runs, same_runs so.runs lines old so.here s so.some (ap (λ (x : Standing). x.calls) after.2) (ap (λ (x : Standing). x.done) after.2))
  | inr (less, on) ↦ elim on [
    | inl (r, number, next) ↦ (so.runs ++ r ∷ [], last_run so.runs lines by old so.here s r not so.some number next)
    | inr short ↦ short_runs so.runs lines (suc (length so.runs)) by old so.here s not so.some short
  ]
]
  where
    s : Standing
    s = record { calls = calls; done = done; lines = left; linker = new }

-- ---- how a channel's calls end

-- No reply hindered; or that to the last call did, and it doesn't say that memory was wanting.
pub data HearsTo (calls : List FrontEntry) : Type 0 where
  plainly : AllPlain calls → HearsTo calls
  hindered : (before : List FrontEntry) (last : FrontEntry) → calls ≡ before ++ last ∷ [] → AllPlain before → last.reply ≢ reply.Memory → HearsTo calls

wrong_said : (cause : EndFault) (calls : List FrontEntry) → EndsHindered (SaysWrong cause) calls → HearsTo calls
wrong_said cause calls ends = hindered ends.before ends.last ends.calls_are ends.plain (λ is. let said = ends.is_so in cc (is, said))

duplicate_said : (calls : List FrontEntry) → EndsHindered SaysDuplicate calls → HearsTo calls
duplicate_said calls ends = hindered ends.before ends.last ends.calls_are ends.plain (λ is. subst (SaysDuplicate (ends.last).call) is ends.is_so)

pub hears_to : (by : Ending) (calls : List FrontEntry) (to : IncomingState) → by ≢ ending.Memory → IsEndingOf (Some by) calls to → HearsTo calls
hears_to ending.Input calls to not is = plainly is.0
hears_to ending.Dropped calls to not is = plainly is
hears_to ending.Unread calls to not is = plainly is
hears_to ending.Unwritten calls to not is = plainly is
hears_to (ending.Fault at message (why.Chunk wrong)) calls to not is = plainly is.0
hears_to (ending.Fault at message (why.Message wrong)) calls to not is = wrong_said wrong calls is.0
hears_to (ending.Fault at message why.Stray) calls to not is = absurd is
hears_to (ending.Fault at message (why.BodyBad wrong)) calls to not is = absurd is
hears_to (ending.Fault at message why.Duplicate) calls to not is = duplicate_said calls is.0
hears_to ending.Long calls to not is = plainly is.0
hears_to ending.Memory calls to not is = absurd (not refl)

-- ---- what is done surely

-- A message that a call has heard was heard, and the host was told of a device that it removes or adds: memory was found for that.
abbrev pub DoesSurely : FrontCall → FrontReply → Type 0
DoesSurely (call.Hear message) reply.Memory = ⊥
DoesSurely (call.Remove device) reply.Memory = ⊥
DoesSurely (call.Add device) reply.Memory = ⊥
DoesSurely _ _ = Unit {0}

surely : (does : FrontCall) (back : FrontReply) → back ≢ reply.Memory → DoesSurely does back
surely (call.Hear message) reply.Memory not = not refl
surely (call.Hear message) (reply.Done at full) not = tt
surely (call.Hear message) (reply.Stands ready asked) not = tt
surely (call.Hear message) reply.Kept not = tt
surely (call.Hear message) (reply.Wrong cause) not = tt
surely (call.Hear message) (reply.Duplicate key) not = tt
surely (call.Hear message) reply.Unfit not = tt
surely (call.Hear message) reply.Full not = tt
surely (call.Hear message) reply.Refused not = tt
surely (call.Hear message) (reply.Messages filled left) not = tt
surely (call.Begin channel) back not = tt
surely call.Retry back not = tt
surely (call.Next channel place room) back not = tt
surely (call.Remove device) reply.Memory not = not refl
surely (call.Remove device) (reply.Done at full) not = tt
surely (call.Remove device) (reply.Stands ready asked) not = tt
surely (call.Remove device) reply.Kept not = tt
surely (call.Remove device) (reply.Wrong cause) not = tt
surely (call.Remove device) (reply.Duplicate key) not = tt
surely (call.Remove device) reply.Unfit not = tt
surely (call.Remove device) reply.Full not = tt
surely (call.Remove device) reply.Refused not = tt
surely (call.Remove device) (reply.Messages filled left) not = tt
surely (call.Add device) reply.Memory not = not refl
surely (call.Add device) (reply.Done at full) not = tt
surely (call.Add device) (reply.Stands ready asked) not = tt
surely (call.Add device) reply.Kept not = tt
surely (call.Add device) (reply.Wrong cause) not = tt
surely (call.Add device) (reply.Duplicate key) not = tt
surely (call.Add device) reply.Unfit not = tt
surely (call.Add device) reply.Full not = tt
surely (call.Add device) reply.Refused not = tt
surely (call.Add device) (reply.Messages filled left) not = tt
surely call.Look back not = tt
surely call.EndChannel back not = tt
surely call.EndSession back not = tt

abbrev IsSurely : FrontEntry → Type 0
IsSurely e = DoesSurely e.call e.reply

plain_surely : (calls : List FrontEntry) → AllPlain calls → AllByRecursion IsSurely calls
plain_surely [] plain = tt
plain_surely (e ∷ calls) plain = (surely e.call e.reply (λ is. let quiet = plain.0 in let loud = ap hinders is in cc (quiet, loud)), plain_surely calls plain.1)

pub all_surely : (calls : List FrontEntry) → HearsTo calls → AllByRecursion IsSurely calls
all_surely calls (plainly plain) = plain_surely calls plain
all_surely calls (hindered before last are plain not) = subst (AllByRecursion IsSurely) (sym are) (all_append IsSurely before (last ∷ []) (plain_surely before plain) (surely last.call last.reply not, tt))

-- ---- what holds of all calls of the runs

-- what holds of a channel's begin and end and of its calls between holds of all its calls
module _ (P : FrontCall → FrontReply → Type 0) (begins : (channel : ℕ) (back : FrontReply) → P (call.Begin channel) back) (ends : (back : FrontReply) → P call.EndChannel back) where
  abbrev At : FrontEntry → Type 0
  At e = P e.call e.reply

  one_run : (r : ChannelRun) → IsChannelRun r → AllByRecursion At (r.reading).calls → AllByRecursion At r.calls
  one_run r is all =
      let w = is.whole in
      subst (AllByRecursion At) (sym w.whole_are) (
        subst (λ (does : FrontCall). P does (w.begin).reply) (sym (w.begins).0) (begins (r.reading).channel (w.begin).reply),
        all_append At (r.reading).calls (w.end ∷ []) all (subst (λ (does : FrontCall). P does (w.end).reply) (sym w.ends) (ends (w.end).reply), tt),
      )

  pub all_runs : (runs : List ChannelRun) → AllByRecursion IsChannelRun runs → AllByRecursion (λ (r : ChannelRun). AllByRecursion At (r.reading).calls) runs → AllByRecursion At (calls_by_all runs)
  all_runs [] each all = tt
  all_runs (r ∷ runs) each all = all_append At r.calls (calls_by_all runs) (one_run r each.0 all.0) (all_runs runs each.1 all.1)

runs_surely : (runs : List ChannelRun) → AllByRecursion IsChannelRun runs → AllByRecursion IsSure runs → AllByRecursion (λ (r : ChannelRun). AllByRecursion IsSurely (r.reading).calls) runs
runs_surely [] each sure = tt
runs_surely (r ∷ runs) each sure =
    (all_surely (r.reading).calls (hears_to (r.reading).by (r.reading).calls (r.reading).incoming (sure.0).found ((each.0).reading).end_is), runs_surely runs each.1 sure.1)

-- each message that was given to be heard was heard, unless the call didn't fit; and so with each device that is removed or added
pub calls_surely : (runs : List ChannelRun) → AllByRecursion IsChannelRun runs → AllByRecursion IsSure runs → AllByRecursion (λ (e : FrontEntry). DoesSurely e.call e.reply) (calls_by_all runs)
calls_surely runs each sure = all_runs DoesSurely (λ channel back. tt) (λ back. tt) runs each (runs_surely runs each sure)

runs_bytes : (runs : List ChannelRun) → AllByRecursion IsChannelRun runs → AllByRecursion (λ (r : ChannelRun). HearBytes (r.reading).calls) runs
runs_bytes [] each = tt
runs_bytes (r ∷ runs) each = (((each.0).reading).bytes, runs_bytes runs each.1)

-- and consists of bytes
pub calls_bytes : (runs : List ChannelRun) → AllByRecursion IsChannelRun runs → HearBytes (calls_by_all runs)
calls_bytes runs each = all_runs (λ does back. HearsBytes does) (λ channel back. tt) (λ back. tt) runs each (runs_bytes runs each)

pub runs_middle : {calls : List FrontEntry} {done : List Wrote} {lines : List AtLine} (runs : List ChannelRun) → AreRuns runs calls done lines → AllByRecursion (λ (r : ChannelRun). AreMiddle (r.reading).calls) runs
runs_middle {calls} {done} {lines} runs are = all_middle runs lines are.left are.lines_go

-- what the front didn't take is nothing
pub no_rest : (by : Ending) (rest : List (List ℕ)) → by ≢ ending.Memory → IsRest (Some by) rest → rest ≡ []
no_rest ending.Input rest not is = is
no_rest ending.Dropped rest not is = is
no_rest ending.Unread rest not is = is
no_rest ending.Unwritten rest not is = is
no_rest (ending.Fault at message cause) rest not is = is
no_rest ending.Long rest not is = is
no_rest ending.Memory rest not is = absurd (not refl)
