-- What control lines do in a run, and what that takes of its lines and of the opening of a channel.
use Rattle.std.specs.Prelude.{◌≡◌, ℕ, Bool, true, not, List, filter, filter_map, map, reverse, Option, [], None, ◌&&◌, if◌then◌else◌, is_some}
use Rattle.std.specs.List.{AllByRecursion}
use Rattle.std.specs.List.Sorted.{IsStrictlyIncreasing}
use Rattle.std.specs.Option.{option_map_or}
use Rattle.rd_base.specs.declared.journal.Key.{Key}
use Rattle.rd_client.specs.Order.{is_client_ready}
use Rattle.rd_host.specs.Order.{is_host_ready}
use Rattle.rd_runs.specs.Moves.{Reached}
use Rattle.rd_script.specs.declared.line.Line.{Line}
use Rattle.rd_script.specs.declared.line.Line.TheVariants as line
use Rattle.rd_script.specs.declared.line.NumberedLine.{NumberedLine}
use Rattle.rd_world.specs.Acts.{act_by, is_errand_at}
use Rattle.rd_world.specs.Control.{Control, control_of, dropped_at, first_control, is_among}
use Rattle.rd_world.specs.Events.{is_channel_open}
use Rattle.rd_world.specs.Run.{choices, some_left}
use Rattle.rd_world.specs.Session.{at_settles}
use Rattle.rd_deeds.specs.Talk.{Deed, EndsWith}
use Rattle.rd_world.specs.World.{WorldState}

-- the devices that a line removes and adds are among these
unfoldable pub NamesKnown : List ℕ → Line → Type 0
NamesKnown ids (line.Remove device) = is_among ids device ≡ true
NamesKnown ids (line.Add device) = is_among ids device ≡ true
NamesKnown ids _ = Unit {0}

-- The numbers of lines rise, and they remove and add known devices.
pub record AreOrderedLines (ids : List ℕ) (lines : List NumberedLine) : Type 0 where
  pub rise : IsStrictlyIncreasing (map (λ (l : NumberedLine). l.number) lines)
  pub known : AllByRecursion (λ (l : NumberedLine). NamesKnown ids l.line) lines

-- What follows from the lines, and from the channel that was left open after them, if one was.
abbrev pub control_with : Option ℕ → Control → Control
control_with left control = option_map_or (dropped_at control) left control

-- both ends are ready
pub record AreReady (w : WorldState) : Type 0 where
  pub client : is_client_ready ((w.client).core).shake ≡ true
  pub host : is_host_ready (((w.side).core).core).shake ≡ true

-- After the last line nothing could happen by itself at a point of the run, which its deeds go on from. The channel that was open then is left where a request
-- of it waits.
pub record EndsAs (lines : List NumberedLine) (starves : Key → Bool) (said : Control) (left : Option ℕ) (w : WorldState) : Type 0 where
  pub last : WorldState
  pub reached : Reached lines starves last
  pub rests : choices last ≡ []
  pub grown : EndsWith w.deeds last.deeds
  pub channel : ((last.side).table).channel ≡ said.current
  pub ready : is_some said.current ≡ true → AreReady last
  pub left_is : left ≡ (if is_channel_open last && some_left last then said.current else None)

-- The control lines did what follows from the lines alone, but for the channel that ended after everything.
pub record DoAsSaid (ids : List ℕ) (lines : List NumberedLine) (starves : Key → Bool) (w : WorldState) : Type 0 where
  pub left : Option ℕ
  pub ends : EndsAs lines starves (control_of ids lines) left w
  pub acts : filter_map act_by (reverse w.deeds) ≡ (control_with left (control_of ids lines)).acts
  pub idle_lines : filter (λ number. not (is_errand_at lines number)) w.idle ≡ (control_with left (control_of ids lines)).idle
  pub idle_rise : IsStrictlyIncreasing w.idle

-- There was a point of the run, which these deeds go on from, where nothing could happen by itself, and the control lines had done this.
pub record RestsAt (lines : List NumberedLine) (starves : Key → Bool) (deeds : List Deed) (control : Control) : Type 0 where
  pub world : WorldState
  pub reached : Reached lines starves world
  pub rests : choices world ≡ []
  pub grown : EndsWith deeds world.deeds
  pub acts : filter_map act_by (reverse world.deeds) ≡ control.acts
  pub channel : ((world.side).table).channel ≡ control.current
  pub ready : is_some control.current ≡ true → AreReady world

-- So it was where each `settle` line ended.
abbrev pub RestWhereSettled : List ℕ → List NumberedLine → (Key → Bool) → List Deed → Type 0
RestWhereSettled ids lines starves deeds = AllByRecursion (RestsAt lines starves deeds) (at_settles (first_control ids) lines)
