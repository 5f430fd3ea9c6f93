-- What lines declare waits for nothing, and is fit where it is within its bounds.
use Rattle.std.proofs.Common.{◌≡◌, refl, ℕ, Bool, true, false, List, [], ◌∷◌, Option, Some, None}
use Rattle.std.specs.Prelude.{◌==◌, fold, if◌then◌else◌, replicate}
use Rattle.std.specs.BTreeMap.{insert_entry}
use Rattle.std.specs.List.{AllByRecursion}
use Rattle.std.specs.Ordering.{match_ordering, nat_cmp}
use Rattle.std.specs.declared.cmp.Ordering.{Ordering}
use Rattle.std.specs.declared.cmp.Ordering.TheVariants.{Less, Equal, Greater}
use Rattle.rd_dirinfo.specs.Paths.{Names}
use Rattle.rd_runs.specs.Premises.{AreBounded, DeviceFits}
use Rattle.rd_script.specs.declared.line.Line.{Line}
use Rattle.rd_script.specs.declared.line.Line.TheVariants as line
use Rattle.rd_script.specs.declared.line.NumberedLine.{NumberedLine}
use Rattle.rd_declared.specs.declared.device.SessionDevice.{SessionDevice}
use Rattle.rd_declared.specs.declared.device.SessionDevice.TheVariants as session
use Rattle.rd_declared.specs.Devices.{Declared, declaring, device_parked, furnishing, holding_at, with_first}
use Rattle.rd_declared.specs.Declaring.{bare_lines, declared_devices}
use Rattle.rd_journals.specs.Stations.{AreFit, IsFit}

abbrev IsStill : Declared → Type 0
IsStill d = device_parked d.state ≡ []

abbrev AreStill : List (ℕ × Declared) → Type 0
AreStill devices = AllByRecursion (λ (e : ℕ × Declared). IsStill e.1) devices

furnished : (first : Names × Option (List ℕ)) (d : Declared) → IsStill d → IsStill (with_first first d)
furnished first d still = by d.state still
  where
    by : (s : SessionDevice) → device_parked s ≡ [] → IsStill (with_first first (record d { state = s }))
    by (session.Drive s) still = still
    by (session.Printer s) still = still

all_furnished : (devices : List (ℕ × Declared)) (device : ℕ) (first : Names × Option (List ℕ)) → AreStill devices → AreStill (holding_at devices device first)
all_furnished [] device first still = tt
all_furnished (e ∷ es) device first still = (by (e.0 == device), all_furnished es device first still.1)
  where
    by : (b : Bool) → IsStill (if b then with_first first e.1 else e.1)
    by true = furnished first e.1 still.0
    by false = still.0

inserted : (d : Declared) (k : ℕ) (es : List (ℕ × Declared)) → IsStill d → AreStill es → AreStill (insert_entry nat_cmp es k d)
inserted d k [] own still = (own, tt)
inserted d k (e ∷ es) own still = by (nat_cmp k e.0) (inserted d k es own still.1)
  where
    by : (r : Ordering) → AreStill (insert_entry nat_cmp es k d) → AreStill (match_ordering r ((k, d) ∷ e ∷ es) ((e.0, d) ∷ es) (e ∷ insert_entry nat_cmp es k d))
    by Less later = (own, still)
    by Equal later = (own, still.1)
    by Greater later = (still.0, later)

declared : (devices : List (ℕ × Declared)) (l : Line) → AreStill devices → AreStill (declaring devices l)
unfolding declaring
declared devices (line.Drive device name) still = inserted _ device devices refl still
declared devices (line.DriveFold device name) still = inserted _ device devices refl still
declared devices (line.Printer device name driver printer) still = inserted _ device devices refl still
declared devices _ still = still

line_furnished : (devices : List (ℕ × Declared)) (l : Line) → AreStill devices → AreStill (furnishing devices l)
unfolding furnishing
line_furnished devices (line.Folder device path) still = all_furnished devices device (path, None) still
line_furnished devices (line.File device path bytes) still = all_furnished devices device (path, Some bytes) still
line_furnished devices (line.Fill device path len byte) still = all_furnished devices device (path, Some (replicate len byte)) still
line_furnished devices _ still = still

all_declared : (lines : List Line) (devices : List (ℕ × Declared)) → AreStill devices → AreStill (fold declaring devices lines)
all_declared [] devices still = still
all_declared (l ∷ lines) devices still = all_declared lines (declaring devices l) (declared devices l still)

lines_furnished : (lines : List Line) (devices : List (ℕ × Declared)) → AreStill devices → AreStill (fold furnishing devices lines)
lines_furnished [] devices still = still
lines_furnished (l ∷ lines) devices still = lines_furnished lines (furnishing devices l) (line_furnished devices l still)

both : (devices : List (ℕ × Declared)) → AllByRecursion (λ (e : ℕ × Declared). DeviceFits (e.1).state) devices → AreStill devices → AreFit devices
both [] bounded still = tt
both (e ∷ es) bounded still = ((by (e.1).state bounded.0, still.0), both es bounded.1 still.1)
  where
    by : (s : SessionDevice) → DeviceFits s → IsFit s
    by (session.Drive s) fits = fits
    by (session.Printer s) fits = fits

pub bounded_fit : (lines : List NumberedLine) → AreBounded lines → AreFit (declared_devices (bare_lines lines))
bounded_fit lines bounded = both (declared_devices (bare_lines lines)) bounded (lines_furnished (bare_lines lines) (fold declaring [] (bare_lines lines)) (all_declared (bare_lines lines) [] tt))
