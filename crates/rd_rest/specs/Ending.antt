-- What is left after the last channel's end.
use Rattle.std.specs.Prelude.{◌≡◌, ◌⊎◌, ℕ, ◌&&◌, Bool, true, false, List, [], ◌∷◌, ◌++◌, Some, None, filter, filter_map, is_some, length, reverse}
use Rattle.std.specs.Option.{option_map_or}
use Rattle.rd_drive.specs.declared.plan.Job.{Job}
use Rattle.rd_base.specs.declared.journal.Key.{Key}
use Rattle.rd_controls.specs.Controls.{AreReady}
use Rattle.rd_answered.specs.RunsMoves.{Reached}
use Rattle.rd_script.specs.declared.line.NumberedLine.{NumberedLine}
use Rattle.rd_world.specs.Acts.{act_by, is_settled_host, notices_on, of_channel, tellings_on}
use Rattle.rd_world.specs.Control.{Control}
use Rattle.rd_world.specs.Events.{cutting, is_channel_open}
use Rattle.rd_world.specs.Lines.{submitted}
use Rattle.rd_world.specs.Recording.{host_stand}
use Rattle.rd_world.specs.Run.{choices, some_left}
use Rattle.rd_deeds.specs.Talk.{Deed, Has, host_wrote, is_request, takes}
use Rattle.rd_world.specs.World.{WorldState}

-- the outcome of a number was handed out
abbrev pub IsTake : Deed → Type 0
IsTake (takes n) = Unit {0}
IsTake deed = ⊥

abbrev pub AreTakes : List Deed → Type 0
AreTakes [] = Unit {0}
AreTakes (deed ∷ deeds) = IsTake deed × AreTakes deeds

-- After a channel ended in a world nothing was done but that outcomes were handed out.
pub record IsClosed (last w : WorldState) : Type 0 where
  pub shut : ((w.side).table).channel ≡ None
  pub hands : (x : ℕ × Job) → Has (Some x) w.hands → ⊥
  pub stations : w.stations ≡ (cutting last).stations
  pub more : List Deed
  pub all : AreTakes more
  pub deeds : w.deeds ≡ more ++ (cutting last).deeds

-- After the last line nothing could happen by itself at a world. A run ends there, unless a request is left waiting on an open channel: then that ends.
pub record EndsAtRest (lines : List NumberedLine) (starves : Key → Bool) (said : Control) (w : WorldState) : Type 0 where
  pub last : WorldState
  pub reached : Reached lines starves last
  pub rests : choices last ≡ []
  pub acts : filter_map act_by (reverse last.deeds) ≡ said.acts
  pub channel : ((last.side).table).channel ≡ said.current
  pub ready : is_some said.current ≡ true → AreReady last
  pub comes : ((w ≡ last) × ((is_channel_open last && some_left last) ≡ false)) ⊎ ((is_channel_open last ≡ true) × (some_left last ≡ true) × Reached lines starves w × IsClosed last w)

-- On a channel all that was accepted was sent, the host owes nothing, and what the control lines told so far was told.
pub record IsToldAll (control : Control) (deeds : List Deed) (c : ℕ) : Type 0 where
  pub sent : filter is_request (host_wrote c deeds) ≡ submitted c deeds
  pub owed : option_map_or is_settled_host (host_stand deeds c) false ≡ true
  pub tells : length (tellings_on c deeds) ≡ length (of_channel c control.told)
  pub notices : length (notices_on c deeds) ≡ length (of_channel c control.notices)
