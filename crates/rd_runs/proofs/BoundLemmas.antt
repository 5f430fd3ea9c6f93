-- The drives that a script's lines declare are within their bounds, with what is on them.
use Rattle.std.proofs.Common.{◌≡◌, ◌∙◌, refl, ap, ℕ, ◌≤◌, arith, Bool, true, false, List, [], ◌∷◌, ◌++◌, length, replicate, fold, Some, None, Option, Ok}
use Rattle.std.specs.Prelude.{◌==◌, if◌then◌else◌}
use Rattle.std.specs.List.{AllByRecursion}
use Rattle.std.specs.Ordering.{nat_cmp}
use Rattle.std.specs.Option.{option_map_or}
use Rattle.rd_dirinfo.specs.declared.naming.Naming.{Naming}
use Rattle.rd_dirinfo.specs.declared.naming.Naming.TheVariants as naming
use Rattle.rd_dirinfo.specs.Paths.{IsSamePath, Names, is_within_limits, last_name, parent}
use Rattle.rd_drive.proofs.AboveLemmas.{path_joined}
use Rattle.rd_drive.proofs.AnswerLemmas.{found_passes}
use Rattle.rd_drive.proofs.FittingLemmas.{all_add}
use Rattle.rd_drive.proofs.TargetLemmas.{carried_limits}
use Rattle.rd_drive.specs.Bounded.{IsBounded}
use Rattle.rd_drive.specs.DriveState.{DriveState, Node, empty_drive, holding, is_at_path, made_path, node_of_path, node_path}
use Rattle.rd_script.specs.declared.keyword.Mode.{Mode}
use Rattle.rd_script.specs.declared.line.Line.{Line}
use Rattle.rd_script.specs.declared.line.Line.TheVariants as line
use Rattle.rd_script.specs.declared.line.NumberedLine.{NumberedLine}
use Rattle.rd_script.specs.declared.script.Script.{Script}
use Rattle.rd_script.specs.Script.{script_of}
use Rattle.rd_tree.proofs.WayLemmas.{true_same}
use Rattle.rd_runs.specs.Premises.{AreBounded, DeviceFits}
use Rattle.rd_runs.proofs.FittingLines.{LineFits, MakesWithin, read_lines}
use Rattle.rd_runs.proofs.RoomLemmas.{all_inserted}
use Rattle.rd_declared.proofs.DeclaredLemmas.{scripts_are_declared}
use Rattle.rd_declared.specs.declared.device.SessionDevice.{SessionDevice}
use Rattle.rd_declared.specs.declared.device.SessionDevice.TheVariants as session
use Rattle.rd_declared.specs.Devices.{Declared, declaring, furnishing, holding_at, with_first}
use Rattle.rd_declared.specs.Declaring.{AreDeclarable, IsDeclarable, bare_lines}

-- ---- a node more

found_alike : (s : DriveState) (p : Names) → IsSamePath s.naming (node_path s p) p
found_alike s p = by (node_of_path s p) refl
  where
    by : (o : Option Node) → node_of_path s p ≡ o → IsSamePath s.naming (option_map_or (λ (node : Node). node.path) o p) p
    by None e = refl
    by (Some node) e = true_same s.naming node.path p (found_passes (is_at_path s.naming p) s.nodes node e)

joined : (p : Names) → is_within_limits p ≡ true → is_within_limits (parent p ++ last_name p ∷ []) ≡ true
joined [] fits = refl
joined (y ∷ ys) fits = ap is_within_limits (path_joined y ys) ∙ fits

made_within : (s : DriveState) (p : Names) → is_within_limits p ≡ true → is_within_limits (made_path s p) ≡ true
made_within s p fits = carried_limits s.naming (parent p) (node_path s (parent p)) (last_name p ∷ []) (found_alike s (parent p)) ∙ joined p fits

held_bounded : (s : DriveState) (first : Names × Option (List ℕ)) → is_within_limits first.0 ≡ true → IsBounded s → IsBounded (holding s first)
held_bounded s first fits b = record {
  fitting = record {
    limited = b.fitting.limited;
    label = b.fitting.label;
    paths = all_add s.naming (λ (node : Node). is_within_limits node.path ≡ true) _ s.nodes (made_within s first.0 fits) b.fitting.paths;
  };
  few = b.few;
}

empty_bounded : (how : Naming) (name : List ℕ) → length name ≤ 7 → IsBounded (empty_drive how name)
empty_bounded how name few = record { fitting = record { limited = refl; label = omega (arith, few); paths = (refl, tt) }; few = omega arith }

-- ---- devices

abbrev DeclaredFits : Declared → Type 0
DeclaredFits d = DeviceFits d.state

abbrev AllFit : List (ℕ × Declared) → Type 0
AllFit devices = AllByRecursion (λ (e : ℕ × Declared). DeclaredFits e.1) devices

one_declared : (devices : List (ℕ × Declared)) (l : Line) → IsDeclarable l → AllFit devices → AllFit (declaring devices l)
unfolding declaring IsDeclarable
one_declared devices (line.Drive device name) few all = all_inserted DeclaredFits nat_cmp devices device _ (empty_bounded naming.Exact name few) all
one_declared devices (line.DriveFold device name) few all = all_inserted DeclaredFits nat_cmp devices device _ (empty_bounded naming.Folded name few) all
one_declared devices (line.Printer device name driver printer) few all = all_inserted DeclaredFits nat_cmp devices device _ tt all
one_declared devices l few all = all

all_declared : (lines : List NumberedLine) (devices : List (ℕ × Declared)) → AreDeclarable lines → AllFit devices → AllFit (fold declaring devices (bare_lines lines))
all_declared [] devices few all = all
all_declared (l ∷ lines) devices few all = all_declared lines (declaring devices l.line) few.1 (one_declared devices l.line few.0 all)

first_held : (first : Names × Option (List ℕ)) (d : Declared) → is_within_limits first.0 ≡ true → DeclaredFits d → DeclaredFits (with_first first d)
first_held first d fits own = by d.state own
  where
    by : (x : SessionDevice) → DeviceFits x → DeviceFits (with_first first (record d { state = x })).state
    by (session.Drive s) own = held_bounded s first fits own
    by (session.Printer s) own = tt

all_held : (devices : List (ℕ × Declared)) (device : ℕ) (first : Names × Option (List ℕ)) → is_within_limits first.0 ≡ true → AllFit devices → AllFit (holding_at devices device first)
all_held [] device first fits all = tt
all_held (e ∷ devices) device first fits all = (by (e.0 == device), all_held devices device first fits all.1)
  where
    by : (b : Bool) → DeclaredFits (if b then with_first first e.1 else e.1)
    by true = first_held first e.1 fits all.0
    by false = all.0

one_furnished : (devices : List (ℕ × Declared)) (l : Line) → MakesWithin l → AllFit devices → AllFit (furnishing devices l)
unfolding furnishing
one_furnished devices (line.Folder device path) fits all = all_held devices device (path, None) fits all
one_furnished devices (line.File device path bytes) fits all = all_held devices device (path, Some bytes) fits all
one_furnished devices (line.Fill device path len byte) fits all = all_held devices device (path, Some (replicate len byte)) fits all
one_furnished devices l fits all = all

all_furnished : (lines : List NumberedLine) (devices : List (ℕ × Declared)) → AllByRecursion (λ (l : NumberedLine). LineFits l.line) lines → AllFit devices → AllFit (fold furnishing devices (bare_lines lines))
all_furnished [] devices fits all = all
all_furnished (l ∷ lines) devices fits all = all_furnished lines (furnishing devices l.line) fits.1 (one_furnished devices l.line (fits.0).1 all)

-- the devices that a script declares are within their bounds
pub scripts_are_bounded : (m : Mode) (text : List ℕ) (script : Script) → script_of m text ≡ Ok script → AreBounded script.lines
scripts_are_bounded m text script is =
    all_furnished script.lines (fold declaring [] (bare_lines script.lines)) (read_lines m text script is)
    (all_declared script.lines [] (scripts_are_declared m text script is).each tt)
