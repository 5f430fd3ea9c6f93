-- What lines declare: devices that can be opened.
use Rattle.std.proofs.Common.{◌≡◌, refl, sym, ap, subst, ℕ, Bool, true, false, List, [], ◌∷◌, Option, Some, None, arith}
use Rattle.std.specs.Prelude.{◌==◌, fold, if◌then◌else◌, replicate}
use Rattle.std.specs.List.{AllByRecursion}
use Rattle.std.specs.List.Sorted.{IsStrictlySortedBy}
use Rattle.std.specs.Map.{keys_of}
use Rattle.std.specs.Ordering.{match_ordering, nat_cmp}
use Rattle.std.specs.declared.cmp.Ordering.{Ordering}
use Rattle.std.specs.declared.cmp.Ordering.TheVariants.{Less, Equal, Greater}
use Rattle.std.specs.BTreeMap.{insert_entry}
use Rattle.std.proofs.lemmas.Bool.Decides.{nat_tests}
use Rattle.rd_dirinfo.specs.Paths.{Names}
use Rattle.rd_pending.proofs.MapLemmas.{rises_with}
use Rattle.rd_script.specs.declared.line.Line.{Line}
use Rattle.rd_script.specs.declared.line.Line.TheVariants as line
use Rattle.rd_script.specs.declared.line.NumberedLine.{NumberedLine}
use Rattle.rd_declared.specs.Devices.{Declared, declaring, device_parked, furnishing, holding_at, with_first}
use Rattle.rd_declared.specs.declared.device.SessionDevice.{SessionDevice}
use Rattle.rd_declared.specs.declared.device.SessionDevice.TheVariants as session
use Rattle.rd_declared.specs.Declaring.{AreDeclarable, AreDeclared, AreOpenable, IsDeclarable, IsOpenable, bare_lines, declared_devices}

equal_keys : (k l : ℕ) → nat_cmp k l ≡ Equal → k ≡ l
equal_keys k l is = grind (arith, nat_tests)

inserted_each : (k : ℕ) (d : Declared) (es : List (ℕ × Declared)) → IsOpenable (k, d) → AllByRecursion IsOpenable es → AllByRecursion IsOpenable (insert_entry nat_cmp es k d)
inserted_each k d [] own all = (own, tt)
inserted_each k d (e ∷ es) own all = by (inserted_each k d es own all.1) (nat_cmp k e.0) refl
  where
    by : AllByRecursion IsOpenable (insert_entry nat_cmp es k d) → (r : Ordering) → nat_cmp k e.0 ≡ r → AllByRecursion IsOpenable (match_ordering r ((k, d) ∷ e ∷ es) ((e.0, d) ∷ es) (e ∷ insert_entry nat_cmp es k d))
    by rest Less is = (own, all)
    by rest Equal is = (subst (λ (n : ℕ). IsOpenable (n, d)) (equal_keys k e.0 is) own, all.1)
    by rest Greater is = (all.0, rest)

held_quiet : (first : Names × Option (List ℕ)) (d : Declared) (s : SessionDevice) → device_parked s ≡ [] → device_parked (with_first first (record d { state = s })).state ≡ []
held_quiet first d (session.Drive s) quiet = quiet
held_quiet first d (session.Printer s) quiet = quiet

held_each : (device : ℕ) (first : Names × Option (List ℕ)) (es : List (ℕ × Declared)) → AllByRecursion IsOpenable es → AllByRecursion IsOpenable (holding_at es device first)
held_each device first [] all = tt
held_each device first (e ∷ es) all = (one (e.0 == device), held_each device first es all.1)
  where
    one : (b : Bool) → IsOpenable (e.0, if b then with_first first e.1 else e.1)
    one true = record { same = (all.0).same; name = (all.0).name; quiet = held_quiet first e.1 (e.1).state (all.0).quiet; names = (all.0).names }
    one false = record { same = (all.0).same; name = (all.0).name; quiet = (all.0).quiet; names = (all.0).names }

held_keys : (device : ℕ) (first : Names × Option (List ℕ)) (es : List (ℕ × Declared)) → keys_of (holding_at es device first) ≡ keys_of es
held_keys device first [] = refl
held_keys device first (e ∷ es) = ap (λ (ks : List ℕ). e.0 ∷ ks) (held_keys device first es)

-- devices by rising ids that can be opened
abbrev AreKept : List (ℕ × Declared) → Type 0
AreKept es = IsStrictlySortedBy nat_cmp (keys_of es) × AllByRecursion IsOpenable es

kept_inserted : (k : ℕ) (d : Declared) (es : List (ℕ × Declared)) → IsOpenable (k, d) → AreKept es → AreKept (insert_entry nat_cmp es k d)
kept_inserted k d es own kept = (rises_with k d es kept.0, inserted_each k d es own kept.1)

kept_held : (device : ℕ) (first : Names × Option (List ℕ)) (es : List (ℕ × Declared)) → AreKept es → AreKept (holding_at es device first)
kept_held device first es kept = (subst (λ (ks : List ℕ). IsStrictlySortedBy nat_cmp ks) (sym (held_keys device first es)) kept.0, held_each device first es kept.1)

kept_declared : (es : List (ℕ × Declared)) (l : Line) → IsDeclarable l → AreKept es → AreKept (declaring es l)
unfolding declaring IsDeclarable
kept_declared es (line.Drive device name) within kept = kept_inserted device _ es (record { same = refl; name = within; quiet = refl; names = tt }) kept
kept_declared es (line.DriveFold device name) within kept = kept_inserted device _ es (record { same = refl; name = within; quiet = refl; names = tt }) kept
kept_declared es (line.Printer device name driver printer) within kept =
    kept_inserted device _ es (record { same = refl; name = within.0; quiet = refl; names = record { driver = within.1; printer = within.2 } }) kept
kept_declared es _ within kept = kept

kept_furnished : (es : List (ℕ × Declared)) (l : Line) → AreKept es → AreKept (furnishing es l)
unfolding furnishing
kept_furnished es (line.Folder device path) kept = kept_held device (path, None) es kept
kept_furnished es (line.File device path bytes) kept = kept_held device (path, Some bytes) es kept
kept_furnished es (line.Fill device path len byte) kept = kept_held device (path, Some (replicate len byte)) es kept
kept_furnished es _ kept = kept

all_declared : (lines : List NumberedLine) (es : List (ℕ × Declared)) → AreDeclarable lines → AreKept es → AreKept (fold declaring es (bare_lines lines))
all_declared [] es each kept = kept
all_declared (l ∷ lines) es each kept = all_declared lines (declaring es l.line) each.1 (kept_declared es l.line each.0 kept)

all_furnished : (lines : List NumberedLine) (es : List (ℕ × Declared)) → AreKept es → AreKept (fold furnishing es (bare_lines lines))
all_furnished [] es kept = kept
all_furnished (l ∷ lines) es kept = all_furnished lines (furnishing es l.line) (kept_furnished es l.line kept)

no_devices : AreKept []
unfolding IsStrictlySortedBy
no_devices = (tt, tt)

-- What lines declare can be opened.
pub declared_openable : (lines : List NumberedLine) → AreDeclared lines → AreOpenable (declared_devices (bare_lines lines))
declared_openable lines are =
    let kept = all_furnished lines (fold declaring [] (bare_lines lines)) (all_declared lines [] are.each no_devices) in
    record { rise = kept.0; few = are.few; each = kept.1 }
