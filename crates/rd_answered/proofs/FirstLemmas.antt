-- The world that lines begin has said nothing, and its devices have stations and numbers that can be written.
use Rattle.std.proofs.Common.{◌≡◌, ◌∙◌, refl, sym, ℕ, ◌<◌, ◌^◌, ◌==◌, ◌||◌, Bool, true, false, cond, replicate, List, [], ◌∷◌, map, Some, None, Option, eqb-true, lit<}
use Rattle.std.specs.Prelude.{fold, if◌then◌else◌}
use Rattle.std.specs.List.{AllByRecursion, list_any}
use Rattle.std.specs.BTreeMap.{insert_entry, is_at}
use Rattle.std.specs.Map.{lookup}
use Rattle.std.specs.Ordering.{match_ordering, nat_cmp}
use Rattle.std.specs.declared.cmp.Ordering.{Ordering}
use Rattle.std.specs.declared.cmp.Ordering.TheVariants.{Equal, Greater, Less}
use Rattle.rd_client.specs.Core.{announce_in, is_device, present_device}
use Rattle.rd_dirinfo.specs.Paths.{Names}
use Rattle.rd_refused.proofs.RunsBeginningLemmas.{Unset, begins_as}
use Rattle.rd_refused.specs.RunsPremises.{RunPremises}
use Rattle.rd_script.specs.declared.line.Line.{Line}
use Rattle.rd_script.specs.declared.line.Line.TheVariants as line
use Rattle.rd_script.specs.declared.line.NumberedLine.{NumberedLine}
use Rattle.rd_station.specs.Station.{StationState, new_station}
use Rattle.rd_world.proofs.ApplicationsLemmas.{equal_is}
use Rattle.rd_declared.proofs.DeclaringLemmas.{declared_openable}
use Rattle.rd_declared.specs.Devices.{Declared, announce_of, declaring, furnishing, holding_at, with_first}
use Rattle.rd_declared.specs.Declaring.{IsOpenable, bare_lines, declared_devices}
use Rattle.rd_world.specs.Run.{station_of, world_of}
use Rattle.rd_declared.specs.declared.device.SessionDevice.{SessionDevice}
use Rattle.rd_answered.proofs.PartLemmas.{IsGood}
use Rattle.rd_answered.specs.Refusing.{AreLive, AreSaying, DeclareInRoom, DeclaresInRoom, HasRoomToAnnounce}

-- ---- the numbers of what is declared

AreWritable : List (ℕ × Declared) → Type 0
AreWritable es = AllByRecursion (λ (e : ℕ × Declared). ((e.1).kind < 2 ^ 32) × ((e.1).id < 2 ^ 32)) es

inserted_writable : (k : ℕ) (d : Declared) (es : List (ℕ × Declared)) → (d.kind < 2 ^ 32) × (d.id < 2 ^ 32) → AreWritable es → AreWritable (insert_entry nat_cmp es k d)
unfolding AreWritable
inserted_writable k d [] own all = (own, tt)
inserted_writable k d (e ∷ es) own all = by (inserted_writable k d es own all.1) (nat_cmp k e.0)
  where
    by : AllByRecursion (λ (e : ℕ × Declared). ((e.1).kind < 2 ^ 32) × ((e.1).id < 2 ^ 32)) (insert_entry nat_cmp es k d) → (r : Ordering)
        → AllByRecursion (λ (e : ℕ × Declared). ((e.1).kind < 2 ^ 32) × ((e.1).id < 2 ^ 32)) (match_ordering r ((k, d) ∷ e ∷ es) ((e.0, d) ∷ es) (e ∷ insert_entry nat_cmp es k d))
    by rest Less = (own, all)
    by rest Equal = (own, all.1)
    by rest Greater = (all.0, rest)

held_writable : (device : ℕ) (first : Names × Option (List ℕ)) (es : List (ℕ × Declared)) → AreWritable es → AreWritable (holding_at es device first)
unfolding AreWritable
held_writable device first [] all = tt
held_writable device first (e ∷ es) all = (one (e.0 == device), held_writable device first es all.1)
  where
    one : (b : Bool) → ((if b then with_first first e.1 else e.1).kind < 2 ^ 32) × ((if b then with_first first e.1 else e.1).id < 2 ^ 32)
    one true = all.0
    one false = all.0

declaring_writable : (es : List (ℕ × Declared)) (l : Line) → DeclaresInRoom l → AreWritable es → AreWritable (declaring es l)
unfolding declaring DeclaresInRoom
declaring_writable es (line.Drive device name) few all = inserted_writable device _ es (lit< tt, few) all
declaring_writable es (line.DriveFold device name) few all = inserted_writable device _ es (lit< tt, few) all
declaring_writable es (line.Printer device name driver printer) few all = inserted_writable device _ es (lit< tt, few) all
declaring_writable es _ few all = all

furnishing_writable : (es : List (ℕ × Declared)) (l : Line) → AreWritable es → AreWritable (furnishing es l)
unfolding furnishing
furnishing_writable es (line.Folder device path) all = held_writable device (path, None) es all
furnishing_writable es (line.File device path bytes) all = held_writable device (path, Some bytes) es all
furnishing_writable es (line.Fill device path len byte) all = held_writable device (path, Some (replicate len byte)) es all
furnishing_writable es _ all = all

all_declared : (ls : List NumberedLine) (es : List (ℕ × Declared)) → DeclareInRoom ls → AreWritable es → AreWritable (fold declaring es (bare_lines ls))
all_declared [] es few all = all
all_declared (l ∷ ls) es few all = all_declared ls (declaring es l.line) few.1 (declaring_writable es l.line few.0 all)

all_furnished : (ls : List Line) (es : List (ℕ × Declared)) → AreWritable es → AreWritable (fold furnishing es ls)
all_furnished [] es all = all
all_furnished (l ∷ ls) es all = all_furnished ls (furnishing es l) (furnishing_writable es l all)

first_room : (es : List (ℕ × Declared)) → AreWritable es → AllByRecursion HasRoomToAnnounce (map announce_in (map present_device (map (λ (e : ℕ × Declared). announce_of [] e.1) es)))
unfolding AreWritable
first_room [] all = tt
first_room (e ∷ es) all = (all.0, first_room es all.1)

none_writable : AreWritable []
unfolding AreWritable
none_writable = tt

-- ---- their stations

first_stationed : (es : List (ℕ × Declared)) → AllByRecursion IsOpenable es → (d : ℕ) → list_any (is_device d) (map present_device (map (λ (e : ℕ × Declared). announce_of [] e.1) es)) ≡ true
    → (s : StationState SessionDevice) × (lookup (is_at (nat_cmp d)) (map station_of es) ≡ Some s)
first_stationed [] all d has = absurd (cc has)
first_stationed (e ∷ es) all d has = by ((e.1).id == d) refl has (is_at (nat_cmp d) e.0) refl (first_stationed es all.1 d)
  where
    by : (a : Bool) → ((e.1).id == d) ≡ a → (a || list_any (is_device d) (map present_device (map (λ (e : ℕ × Declared). announce_of [] e.1) es))) ≡ true → (b : Bool) → is_at (nat_cmp d) e.0 ≡ b
        → (list_any (is_device d) (map present_device (map (λ (e : ℕ × Declared). announce_of [] e.1) es)) ≡ true → (s : StationState SessionDevice) × (lookup (is_at (nat_cmp d)) (map station_of es) ≡ Some s))
        → (s : StationState SessionDevice) × (cond b (Some (new_station (e.1).state)) (lookup (is_at (nat_cmp d)) (map station_of es)) ≡ Some s)
    by a is has true at later = (new_station (e.1).state, refl)
    by true is has false at later =
        let same : e.0 ≡ d = sym all.0.same ∙ eqb-true (e.1).id d is in
        absurd (let yes : is_at (nat_cmp d) e.0 ≡ true = rw (equal_is d e.0 (sym same)) refl in cc (yes, at))
    by false is has false at later = later has

pub begins_good : (lines : List NumberedLine) → RunPremises lines → DeclareInRoom lines → IsGood (world_of lines)
begins_good lines premises few =
    let ls : List Line = bare_lines lines in
    begins_as lines (λ (u : Unset). AreSaying u.client u.stations u.channels ((u.side).table).channel u.deeds × AreLive u.client u.stations ((u.side).table).channel) (
      record {
        room = first_room (declared_devices ls) (all_furnished ls (fold declaring [] ls) (all_declared lines [] few none_writable));
        stationed = first_stationed (declared_devices ls) (declared_openable lines premises.declared).each;
        marks = λ c at. absurd (cc at);
        out = tt;
        each = tt;
      },
      λ c at. absurd (cc at),
    )
