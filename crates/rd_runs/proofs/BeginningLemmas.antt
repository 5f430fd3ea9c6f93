-- The world that lines begin.
use Rattle.std.proofs.Common.{◌≡◌, ◌∙◌, refl, subst, sym, ℕ, Bool, true, false, cond, List, [], ◌∷◌, map, fold, Some, Option}
use Rattle.std.specs.Map.{lookup}
use Rattle.std.specs.Ordering.{nat_cmp}
use Rattle.std.specs.BTreeMap.{is_at}
use Rattle.rd_client.specs.Core.{ClientCoreState}
use Rattle.rd_script.specs.declared.line.Line.{Line}
use Rattle.rd_script.specs.declared.line.Line.TheVariants as line
use Rattle.rd_script.specs.declared.line.NumberedLine.{NumberedLine}
use Rattle.rd_station.specs.Station.{StationState}
use Rattle.rd_declared.specs.declared.device.SessionDevice.{SessionDevice}
use Rattle.rd_declared.specs.Devices.{Declared, PrinterNames}
use Rattle.rd_deeds.specs.Host.{HostSide}
use Rattle.rd_declared.specs.Declaring.{declared_devices}
use Rattle.rd_world.specs.Run.{applications_of, new_world, setting, station_of, world_of}
use Rattle.rd_deeds.specs.Talk.{Deed}
use Rattle.rd_world.specs.World.{ApplicationState, Kept, WayState, WorldState}
use Rattle.rd_runs.proofs.IdleLemmas.{AreIdle, IsIdle}

-- what no setting of a script changes
pub record Unset : Type 0 where
  pub client : ClientCoreState
  pub side : HostSide
  pub stations : List (ℕ × StationState SessionDevice)
  pub printers : List (ℕ × PrinterNames)
  pub applications : List (ℕ × ApplicationState)
  pub to_client : WayState
  pub to_host : WayState
  pub kept : Option Kept
  pub channels : ℕ
  pub deeds : List Deed

abbrev pub unset : WorldState → Unset
unset w = record {
  client = w.client;
  side = w.side;
  stations = w.stations;
  printers = w.printers;
  applications = w.applications;
  to_client = w.to_client;
  to_host = w.to_host;
  kept = w.kept;
  channels = w.channels;
  deeds = w.deeds;
}

one_set : (w : WorldState) (l : Line) → unset (setting w l) ≡ unset w
unfolding setting
one_set w (line.Seed number) = refl
one_set w (line.Clock moment) = refl
one_set w (line.Piece most) = refl
one_set w (line.Workers count) = refl
one_set w l = refl

all_set : (ls : List Line) (w : WorldState) → unset (fold setting w ls) ≡ unset w
all_set [] w = refl
all_set (l ∷ ls) w = all_set ls (setting w l) ∙ one_set w l

-- what is said of this holds of the world that lines begin, where it holds of it before their settings
pub begins_as : (lines : List NumberedLine) (P : Unset → Type 0)
    → P (unset (new_world (declared_devices (map (λ (l : NumberedLine). l.line) lines)) (applications_of (map (λ (l : NumberedLine). l.line) lines)))) → P (unset (world_of lines))
begins_as lines P first =
    let ls : List Line = map (λ (l : NumberedLine). l.line) lines in
    subst P (sym (all_set ls (new_world (declared_devices ls) (applications_of ls)))) first

pub first_idle : (devices : List (ℕ × Declared)) → AreIdle (map station_of devices)
first_idle [] d x there = absurd (cc there)
first_idle (e ∷ devices) d x there = by (is_at (nat_cmp d) e.0) there (first_idle devices d x)
  where
    by : (b : Bool) → cond b (Some (station_of e).1) (lookup (is_at (nat_cmp d)) (map station_of devices)) ≡ Some x → (lookup (is_at (nat_cmp d)) (map station_of devices) ≡ Some x → IsIdle x) → IsIdle x
    by true found later =
        let is : (station_of e).1 ≡ x = cc found in
        subst IsIdle is (record { waiting = refl; taken = refl; parked = refl; ready = refl })
    by false found later = later found
