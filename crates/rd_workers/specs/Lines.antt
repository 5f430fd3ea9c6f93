-- When the lines of a script act that stand at a place of a channel: by which calls of the front, and before which others.
use Rattle.std.specs.Prelude.{◌≡◌, ℕ, suc, ◌==◌, ◌&&◌, nat_le, nat_lt, Bool, true, false, if◌then◌else◌, List, [], ◌∷◌, filter_map, Option, Some, None}
use Rattle.std.specs.Option.{option_and_then, option_map_or}
use Rattle.rd_front.specs.Calls.{FrontEntry}
use Rattle.rd_front.specs.declared.calls.FrontCall.{FrontCall}
use Rattle.rd_front.specs.declared.calls.FrontCall.TheVariants as call
use Rattle.rd_front.specs.declared.calls.FrontReply.{FrontReply}
use Rattle.rd_front.specs.declared.calls.FrontReply.TheVariants as reply
use Rattle.rd_script.specs.declared.line.Line.{Line}
use Rattle.rd_script.specs.declared.line.Line.TheVariants as line
use Rattle.rd_script.specs.declared.line.NumberedLine.{NumberedLine}
use Rattle.rd_workers.specs.declared.due.Act.{Act}
use Rattle.rd_workers.specs.declared.due.Act.TheVariants as act
use Rattle.rd_workers.specs.declared.due.AtLine.{AtLine}
use Rattle.rd_workers.specs.declared.reader.Ending.{Ending}
use Rattle.rd_workers.specs.declared.reader.Ending.TheVariants as ending

-- ---- the lines

-- where a line acts, if it is one of these
abbrev pub at_line : Line → Option AtLine
at_line (line.AtRemove channel requests device) = Some (record { channel = channel; requests = requests; act = act.Remove device })
at_line (line.AtAdd channel requests device) = Some (record { channel = channel; requests = requests; act = act.Add device })
at_line (line.AtDrop channel requests) = Some (record { channel = channel; requests = requests; act = act.Drop })
at_line _ = None

abbrev pub at_lines : List NumberedLine → List AtLine
at_lines lines = filter_map (λ (l : NumberedLine). at_line l.line) lines

-- from the first one on that acts on no channel before this one
abbrev pub lines_from_on : ℕ → List AtLine → List AtLine
lines_from_on channel [] = []
lines_from_on channel (l ∷ lines) = if nat_lt l.channel channel then lines_from_on channel lines else l ∷ lines

-- whether the first one acts on a channel
abbrev pub waits_first : ℕ → List AtLine → Bool
waits_first channel [] = false
waits_first channel (l ∷ lines) = l.channel == channel

-- whether a line acts on a channel where so many requests were heard
abbrev pub is_due_at : ℕ → ℕ → AtLine → Bool
is_due_at channel requests l = l.channel == channel && nat_le l.requests requests

-- what the first one does there, if it acts
abbrev pub first_due : ℕ → ℕ → List AtLine → Option Act
first_due channel requests [] = None
first_due channel requests (l ∷ lines) = if is_due_at channel requests l then Some l.act else None

-- the lines once it acted
abbrev pub once_acted : ℕ → ℕ → List AtLine → List AtLine
once_acted channel requests [] = []
once_acted channel requests (l ∷ lines) = if is_due_at channel requests l then lines else l ∷ lines

-- ---- where they stand

-- Where lines stand on a channel.
pub record LinesStand : Type 0 where
  -- those that haven't acted
  pub left : List AtLine
  -- whether it was looked up how far the channel is, since a message was given to be heard or a job tried again
  pub looked : Bool
  -- how many requests were heard then, where the opening was over
  pub asked : Option ℕ

-- nothing was done yet
abbrev pub lines_stand : List AtLine → LinesStand
lines_stand lines = record { left = lines; looked = false; asked = None }

-- those from the channel on
abbrev pub left_from : ℕ → LinesStand → List AtLine
left_from channel s = lines_from_on channel s.left

-- what is to be done next, by what was looked up
abbrev pub due_now : ℕ → LinesStand → Option Act
due_now channel s = option_and_then (λ requests. first_due channel requests (left_from channel s)) s.asked

abbrev pub having_acted : ℕ → LinesStand → LinesStand
having_acted channel s = record s { left = option_map_or (λ requests. once_acted channel requests (left_from channel s)) s.asked s.left }

-- Nothing is to be done: it was looked up where a line waits, and none is due.
pub record NoneIsDue (channel : ℕ) (s : LinesStand) : Type 0 where
  pub looked : waits_first channel (left_from channel s) ≡ true → s.looked ≡ true
  pub none : due_now channel s ≡ None

-- the call by which a line does what it says
abbrev pub call_for : Act → Option FrontCall
call_for (act.Remove device) = Some (call.Remove device)
call_for (act.Add device) = Some (call.Add device)
call_for act.Drop = None

-- A call that is made where this is to be done.
abbrev pub IsCallFor : Option Act → FrontCall → Type 0
IsCallFor None does = ⊥
IsCallFor (Some a) does = call_for a ≡ Some does

-- a message is given to be heard, or a job tried again
abbrev pub IsStart : FrontCall → Type 0
IsStart (call.Hear message) = Unit {0}
IsStart call.Retry = Unit {0}
IsStart _ = ⊥

-- whether nothing was done, since too much is to be written
abbrev pub was_full : FrontReply → Bool
was_full reply.Full = true
was_full _ = false

-- A line acts by a call, unless nothing was done.
abbrev pub ActsBy : ℕ → LinesStand → FrontCall → FrontReply → LinesStand → Type 0
ActsBy channel old does back new = IsCallFor (due_now channel old) does × (new ≡ (if was_full back then old else having_acted channel old))

-- A message is given to be heard, or a job tried again, only where nothing is to be done.
abbrev pub StartsWhere : ℕ → LinesStand → LinesStand → Type 0
StartsWhere channel old new = NoneIsDue channel old × (new ≡ record old { looked = false; asked = None })

-- Where lines stand before a call of the front on a channel, and after it.
abbrev pub LinesStep : ℕ → LinesStand → FrontCall → FrontReply → LinesStand → Type 0
LinesStep channel old call.Look (reply.Stands ready asked) new = new ≡ record old { looked = true; asked = if ready then Some asked else None }
LinesStep channel old call.Look _ new = new ≡ old
LinesStep channel old (call.Remove device) back new = ActsBy channel old (call.Remove device) back new
LinesStep channel old (call.Add device) back new = ActsBy channel old (call.Add device) back new
LinesStep channel old (call.Hear message) back new = StartsWhere channel old new
LinesStep channel old call.Retry back new = StartsWhere channel old new
LinesStep channel old _ back new = ⊥

-- calls, one after the other
abbrev pub LinesGo : ℕ → LinesStand → List FrontEntry → LinesStand → Type 0
LinesGo channel old [] new = new ≡ old
LinesGo channel old (e ∷ entries) new = (next : LinesStand) × LinesStep channel old e.call e.reply next × LinesGo channel next entries new

-- ---- where a channel is read no further

-- These are left: for the channel while it is read, and then for those after it.
abbrev pub AreLeftFor : ℕ → Option Ending → LinesStand → List AtLine → Type 0
AreLeftFor channel None s lines = left_from channel s ≡ lines_from_on channel lines
AreLeftFor channel (Some by) s lines = left_from (suc channel) s ≡ lines_from_on (suc channel) lines

-- A line that drops the channel is due where it is read no further for that; and none is due where its input came to its end.
abbrev pub IsDueEnd : ℕ → Option Ending → LinesStand → Type 0
IsDueEnd channel (Some ending.Dropped) s = due_now channel s ≡ Some act.Drop
IsDueEnd channel (Some ending.Input) s = NoneIsDue channel s
IsDueEnd channel by s = Unit {0}

-- From here calls on a channel go by the lines, up to this end, if to any, and leave these.
pub record LinesTo (channel : ℕ) (by : Option Ending) (left : List AtLine) (s : LinesStand) (calls : List FrontEntry) : Type 0 where
  pub stand : LinesStand
  pub goes : LinesGo channel s calls stand
  pub left_are : AreLeftFor channel by stand left
  pub due : IsDueEnd channel by stand

-- from where nothing was done yet
abbrev pub GoesByLines : (channel : ℕ) (by : Option Ending) (lines left : List AtLine) (calls : List FrontEntry) → Type 0
GoesByLines channel by lines left calls = LinesTo channel by left (lines_stand lines) calls

-- from wherever these lines stand
abbrev pub KeepsToLines : (channel : ℕ) (by : Option Ending) (lines left : List AtLine) (calls : List FrontEntry) → Type 0
KeepsToLines channel by lines left calls = (s : LinesStand) → left_from channel s ≡ lines_from_on channel lines → LinesTo channel by left s calls

-- and then nothing is to be done, where the channel is read on
abbrev pub ActsAll : (channel : ℕ) (by : Option Ending) (lines left : List AtLine) (calls : List FrontEntry) → Type 0
ActsAll channel by lines left calls =
    (s : LinesStand) → left_from channel s ≡ lines_from_on channel lines → (t : LinesTo channel by left s calls) × (by ≡ None → NoneIsDue channel t.stand)

-- At most one call, by which a message is given to be heard or a job is tried again; none where the input came to its end. No line drops the channel.
abbrev pub StartsOnce : Option Ending → List FrontEntry → Type 0
StartsOnce (Some ending.Dropped) calls = ⊥
StartsOnce (Some ending.Input) calls = calls ≡ []
StartsOnce by [] = Unit {0}
StartsOnce by (e ∷ []) = IsStart e.call
StartsOnce by _ = ⊥

-- an end that comes of no line, nor of the input's end
abbrev pub IsPlainEnd : Option Ending → Type 0
IsPlainEnd (Some ending.Dropped) = ⊥
IsPlainEnd (Some ending.Input) = ⊥
IsPlainEnd _ = Unit {0}

-- This one call was made, and something was done by it where the channel is read on.
pub record ByOne (does : FrontCall) (by : Option Ending) (calls : List FrontEntry) : Type 0 where
  pub plain : IsPlainEnd by
  pub call : FrontEntry
  pub does_is : call.call ≡ does
  pub calls_are : calls ≡ call ∷ []
  pub done : by ≡ None → was_full call.reply ≡ false

-- It was, or there is none and the channel is dropped.
abbrev pub ByCall : Option FrontCall → Option Ending → List FrontEntry → Type 0
ByCall None by calls = (by ≡ Some ending.Dropped) × (calls ≡ [])
ByCall (Some does) by calls = ByOne does by calls

-- A line acts: by its call, or the channel is dropped.
abbrev pub DoesAct : Act → Option Ending → List FrontEntry → Type 0
DoesAct a by calls = ByCall (call_for a) by calls
