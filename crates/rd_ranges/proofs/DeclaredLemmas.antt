-- The devices that lines declare are fit, where what the lines name has room.
use Rattle.std.proofs.Common.{◌≡◌, ◌∙◌, refl, ap, ℕ, ◌≤◌, Bool, true, false, List, [], ◌∷◌, ◌++◌, length, replicate, Some, None, Option, arith}
use Rattle.std.specs.Prelude.{◌==◌, fold, if◌then◌else◌}
use Rattle.std.specs.BTreeMap.{insert_entry}
use Rattle.std.specs.List.{AllByRecursion}
use Rattle.std.specs.Option.{option_map_or}
use Rattle.std.specs.Ordering.{match_ordering, nat_cmp}
use Rattle.std.specs.declared.cmp.Ordering.{Ordering}
use Rattle.std.specs.declared.cmp.Ordering.TheVariants.{Less, Equal, Greater}
use Rattle.rd_dirinfo.specs.Paths.{IsSamePath, Names, is_within_limits, last_name, parent}
use Rattle.rd_dirinfo.specs.declared.naming.Naming.{Naming}
use Rattle.rd_drive.proofs.AboveLemmas.{path_joined}
use Rattle.rd_drive.proofs.AnswerLemmas.{found_passes}
use Rattle.rd_drive.proofs.FittingLemmas.{all_add}
use Rattle.rd_drive.proofs.TargetLemmas.{carried_limits}
use Rattle.rd_drive.specs.Bounded.{IsBounded}
use Rattle.rd_drive.specs.DriveState.{DriveState, Node, empty_drive, holding, is_at_path, made_path, new_node, node_of_path, node_path, opening_attributes}
use Rattle.rd_ranges.specs.Ranges.{AreFreshDevices, IsFitDevice, IsFreshDevice, NamesShort}
use Rattle.rd_script.specs.declared.line.Line.{Line}
use Rattle.rd_script.specs.declared.line.Line.TheVariants as line
use Rattle.rd_tree.proofs.WayLemmas.{true_same}
use Rattle.rd_declared.specs.Devices.{Declared, declaring, device_parked, furnishing, holding_at, with_first}
use Rattle.rd_declared.specs.Declaring.{declared_devices}
use Rattle.rd_declared.specs.declared.device.SessionDevice.{SessionDevice}
use Rattle.rd_declared.specs.declared.device.SessionDevice.TheVariants as session

-- ---- a drive

kept_same : (s : DriveState) (p : Names) → IsSamePath s.naming (node_path s p) p
kept_same s p = by (node_of_path s p) refl
  where
    by : (o : Option Node) → node_of_path s p ≡ o → IsSamePath s.naming (option_map_or (λ (node : Node). node.path) o p) p
    by None e = refl
    by (Some node) e = true_same s.naming node.path p (found_passes (is_at_path s.naming p) s.nodes node e)

last_short : (p : Names) → is_within_limits p ≡ true → is_within_limits (parent p ++ last_name p ∷ []) ≡ true
last_short [] short = refl
last_short (y ∷ ys) short = ap is_within_limits (path_joined y ys) ∙ short

made_short : (s : DriveState) (p : Names) → is_within_limits p ≡ true → is_within_limits (made_path s p) ≡ true
made_short s p short = carried_limits s.naming (parent p) (node_path s (parent p)) (last_name p ∷ []) (kept_same s (parent p)) ∙ last_short p short

bounded_empty : (how : Naming) (label : List ℕ) → length label ≤ 32 → IsBounded (empty_drive how label)
bounded_empty how label short = record { fitting = record { limited = refl; label = short; paths = (refl, tt) }; few = omega arith }

bounded_with : (s : DriveState) (path : Names) (bytes : Option (List ℕ)) → is_within_limits path ≡ true → IsBounded s → IsBounded (holding s (path, bytes))
bounded_with s path bytes short bounded = record {
  fitting = record {
    limited = bounded.fitting.limited;
    label = bounded.fitting.label;
    paths = all_add s.naming (λ (node : Node). is_within_limits node.path ≡ true) (new_node (made_path s path) bytes (opening_attributes bytes) 0) s.nodes (made_short s path short) bounded.fitting.paths;
  };
  few = bounded.few;
}

-- ---- the devices

inserted_fit : (k : ℕ) (d : Declared) (es : List (ℕ × Declared)) → IsFreshDevice d → AreFreshDevices es → AreFreshDevices (insert_entry nat_cmp es k d)
inserted_fit k d [] own all = (own, tt)
inserted_fit k d (e ∷ es) own all = by (inserted_fit k d es own all.1) (nat_cmp k e.0)
  where
    by : AreFreshDevices (insert_entry nat_cmp es k d) → (r : Ordering) → AreFreshDevices (match_ordering r ((k, d) ∷ e ∷ es) ((e.0, d) ∷ es) (e ∷ insert_entry nat_cmp es k d))
    by rest Less = (own, all)
    by rest Equal = (own, all.1)
    by rest Greater = (all.0, rest)

first_fit : (path : Names) (bytes : Option (List ℕ)) → is_within_limits path ≡ true → (d : Declared) (s : SessionDevice) → IsFitDevice s → device_parked s ≡ []
    → IsFreshDevice (with_first (path, bytes) (record d { state = s }))
first_fit path bytes short d (session.Drive s) fit quiet = record { fit = bounded_with s path bytes short fit; quiet = quiet }
first_fit path bytes short d (session.Printer s) fit quiet = record { fit = tt; quiet = refl }

held_fit : (device : ℕ) (path : Names) (bytes : Option (List ℕ)) → is_within_limits path ≡ true → (es : List (ℕ × Declared)) → AreFreshDevices es → AreFreshDevices (holding_at es device (path, bytes))
held_fit device path bytes short [] all = tt
held_fit device path bytes short (e ∷ es) all = (one (e.0 == device), held_fit device path bytes short es all.1)
  where
    one : (b : Bool) → IsFreshDevice (if b then with_first (path, bytes) e.1 else e.1)
    one true = first_fit path bytes short e.1 (e.1).state (all.0).fit (all.0).quiet
    one false = all.0

declaring_fit : (es : List (ℕ × Declared)) (l : Line) → NamesShort l → AreFreshDevices es → AreFreshDevices (declaring es l)
unfolding declaring NamesShort
declaring_fit es (line.Drive device name) short all = inserted_fit device _ es (record { fit = bounded_empty _ name short; quiet = refl }) all
declaring_fit es (line.DriveFold device name) short all = inserted_fit device _ es (record { fit = bounded_empty _ name short; quiet = refl }) all
declaring_fit es (line.Printer device name driver printer) short all = inserted_fit device _ es (record { fit = tt; quiet = refl }) all
declaring_fit es _ short all = all

furnishing_fit : (es : List (ℕ × Declared)) (l : Line) → NamesShort l → AreFreshDevices es → AreFreshDevices (furnishing es l)
unfolding furnishing NamesShort
furnishing_fit es (line.Folder device path) short all = held_fit device path None short es all
furnishing_fit es (line.File device path bytes) short all = held_fit device path (Some bytes) short es all
furnishing_fit es (line.Fill device path len byte) short all = held_fit device path (Some (replicate len byte)) short es all
furnishing_fit es _ short all = all

all_fold : (change : List (ℕ × Declared) → Line → List (ℕ × Declared)) → ((es : List (ℕ × Declared)) (l : Line) → NamesShort l → AreFreshDevices es → AreFreshDevices (change es l))
    → (ls : List Line) (es : List (ℕ × Declared)) → AllByRecursion NamesShort ls → AreFreshDevices es → AreFreshDevices (fold change es ls)
all_fold change keeps [] es short all = all
all_fold change keeps (l ∷ ls) es short all = all_fold change keeps ls (change es l) short.1 (keeps es l short.0 all)

pub declared_fit : (lines : List Line) → AllByRecursion NamesShort lines → AreFreshDevices (declared_devices lines)
declared_fit lines short = all_fold furnishing furnishing_fit lines _ short (all_fold declaring declaring_fit lines [] short tt)
