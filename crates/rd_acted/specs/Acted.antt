-- What control lines do, by what was done: it follows from the acts alone.
use Rattle.std.specs.Prelude.{◌≡◌, ◌≢◌, ◌<◌, ℕ, ◌==◌, not, if◌then◌else◌, List, [], ◌∷◌, ◌++◌, filter, filter_map, fold, length, reverse, Option, Some, None, IsSome}
use Rattle.std.specs.Option.{option_and_then, option_map_or}
use Rattle.rd_base.specs.declared.journal.Cause.TheVariants.{Removed}
use Rattle.rd_client.specs.Core.{HostSays, client_side}
use Rattle.rd_core.specs.Hearing.{Meaning, nothing, opens, said, says, wrong}
use Rattle.rd_hello.specs.declared.client.ClientState.{ClientState}
use Rattle.rd_hello.specs.declared.client.ClientState.TheVariants.{Start}
use Rattle.rd_printer.specs.declared.notice.Notice.{Notice}
use Rattle.rd_world.specs.Acts.{AreSaid, IsCutThere, IsDone, IsToldInTime, Tells, act_by, cause_in, control_at_end, control_by, is_add, is_errand_at, notices_on, of_channel, tellings_on}
use Rattle.rd_declared.specs.Devices.{Declared}
use Rattle.rd_script.specs.declared.line.NumberedLine.{NumberedLine}
use Rattle.rd_printer.specs.Notice.{notice_bytes}
use Rattle.std.specs.List.Sorted.{IsStrictlyIncreasing}
use Rattle.rd_world.specs.Control.{Act, Control, Telling, added, addition, additions, begun, dropped_at, ended, lists, noticed, present, removal, removed}
use Rattle.rd_deeds.specs.Talk.{AtEachPoint, Deed, EachAfter, adds, client_read, has_ended, host_begins, host_ends, is_open_at, is_removed, journal, removes, tells}
use Rattle.rd_deeds.specs.Told.{worn_entries}

-- before the first channel
abbrev pub no_control : List ℕ → Control
no_control devices = record { devices = devices; current = None; channels = 0; absent = []; acts = []; told = []; notices = []; cuts = []; idle = [] }

-- this is told on the channel that is open, if one is
abbrev pub where_current : {A : Type 0} → Control → A → List (ℕ × A)
where_current c x = option_map_or (λ channel. (channel, x) ∷ []) c.current []

-- after an act
abbrev pub with_act : Control → Act → Control
with_act c (begun channel) = record c {
  current = Some channel;
  channels = channel;
  acts = c.acts ++ begun channel ∷ [];
  told = c.told ++ (channel, lists (present c)) ∷ [];
}
with_act c (ended channel) = dropped_at c channel
with_act c (removed device) = record c {
  absent = c.absent ++ device ∷ [];
  acts = c.acts ++ removed device ∷ [];
  told = c.told ++ where_current c (removal device);
  cuts = c.cuts ++ (device, Removed) ∷ [];
}
with_act c (added device) = record c {
  absent = filter (λ id. not (id == device)) c.absent;
  acts = c.acts ++ added device ∷ [];
  told = c.told ++ where_current c (addition device (additions c device));
}
with_act c (noticed n) = record c { acts = c.acts ++ noticed n ∷ []; notices = c.notices ++ where_current c n }

-- where control lines stand that did these acts, and what they did, by the ids of a session's devices
abbrev pub control_after : List ℕ → List Act → Control
control_after devices acts = fold with_act (no_control devices) acts

-- but for the numbers of the lines that did nothing
abbrev pub without_idle : Control → Control
without_idle c = record c { idle = [] }

-- the same by deeds, the newest first
abbrev pub control_by_deeds : List ℕ → List Deed → Control
control_by_deeds devices [] = no_control devices
control_by_deeds devices (deed ∷ before) = option_map_or (with_act (control_by_deeds devices before)) (act_by deed) (control_by_deeds devices before)

-- ---- what is told

-- the devices that are there, by their ids
abbrev pub there_of : List ℕ → List Deed → List ℕ
there_of ids deeds = filter (λ id. not (is_removed id deeds)) ids

-- What is due to be told on a channel by what was done, the oldest first: all devices that are there once it began, and each that is removed or added while it is open.
abbrev pub due_on : List ℕ → ℕ → List Deed → List Telling
due_on ids c [] = []
due_on ids c (host_begins channel ∷ before) = due_on ids c before ++ (if channel == c then lists (there_of ids before) ∷ [] else [])
due_on ids c (removes device ∷ before) = due_on ids c before ++ (if is_open_at c before then removal device ∷ [] else [])
due_on ids c (adds device ∷ before) = due_on ids c before ++ (if is_open_at c before then addition device (length (filter (is_add device) before)) ∷ [] else [])
due_on ids c (deed ∷ before) = due_on ids c before

-- messages say what things begin with, one each
abbrev pub SayFirst : {A : Type 0} → (A → List ℕ → Type 0) → List (List ℕ) → List A → Type 0
SayFirst Says [] things = Unit {0}
SayFirst Says (message ∷ messages) [] = ⊥
SayFirst Says (message ∷ messages) (thing ∷ things) = Says thing message × SayFirst Says messages things

-- ---- what is read in order

-- the state of a client after a message in a state, if it isn't wrong there
abbrev pub state_heard : ClientState → Meaning ClientState HostSays → Option ClientState
state_heard state (wrong fault) = None
state_heard state nothing = Some state
state_heard state (opens row) = Some row.next
state_heard state (says a) = Some state

-- after messages, the newest first
abbrev pub state_read : List (List ℕ) → Option ClientState
state_read [] = Some Start
state_read (message ∷ older) = option_and_then (λ state. state_heard state (said client_side state message)) (state_read older)

-- nothing that a client read was wrong
abbrev pub AreReadWell : List Deed → Type 0
AreReadWell deeds = (c : ℕ) → IsSome (state_read (client_read c deeds))

-- ---- what is told of printers

-- what the host is due to tell of printers on a channel, the oldest first
abbrev pub notices_due : ℕ → List Deed → List Notice
notices_due c [] = []
notices_due c (tells n ∷ before) = notices_due c before ++ (if is_open_at c before then n ∷ [] else [])
notices_due c (deed ∷ before) = notices_due c before

-- ---- where channels end

-- a channel ends only where something was told of devices on it
abbrev pub EndsTold : List Deed → Deed → Type 0
EndsTold before (host_ends channel) = tellings_on channel before ≢ []
EndsTold before deed = Unit {0}

-- ---- what statements take of deeds

-- Nothing that a client read was wrong, channels end only where something was told of devices, and no journal is worn.
pub record GoWell (deeds : List Deed) : Type 0 where
  pub well : AreReadWell deeds
  pub ends : EachAfter EndsTold deeds
  pub short : (device : ℕ) → length (journal device deeds) < worn_entries

-- ---- a whole run

-- The control lines did what they say, but for what a channel's opening comes to: what of `AreActed` doesn't speak of where both ends stand.
pub record HaveActed (devices : List (ℕ × Declared)) (lines : List NumberedLine) (idle : List ℕ) (deeds : List Deed) : Type 0 where
  pub control : Control
  pub control_is : control ≡ control_at_end devices deeds (control_by devices lines)
  pub acts : filter_map act_by (reverse deeds) ≡ control.acts
  pub tells : (c : ℕ) → AreSaid (Tells devices deeds c) (of_channel c control.told) (tellings_on c deeds) (has_ended c deeds)
  pub in_time : AtEachPoint IsToldInTime deeds
  pub notices : (c : ℕ) → AreSaid (λ n message. message ≡ notice_bytes n) (of_channel c control.notices) (notices_on c deeds) (has_ended c deeds)
  pub cuts : (device : ℕ) → filter_map cause_in (reverse (journal device deeds)) ≡ of_channel device control.cuts
  pub cut_there : EachAfter (IsCutThere devices) deeds
  pub cut_all : IsDone deeds
  pub idle_lines : filter (λ number. not (is_errand_at lines number)) idle ≡ control.idle
  pub idle_rise : IsStrictlyIncreasing idle
