-- Devices that are opened one after the other.
use Rattle.std.proofs.Common.{◌≡◌, ◌∙◌, refl, sym, ap, subst, ℕ, ◌+◌, ◌-◌, ◌*◌, ◌≤◌, ◌<◌, false, List, [], ◌∷◌, ◌++◌, append-nil, length, length-append, Option, Some, None, arith}
use Rattle.std.specs.Prelude.{All, IfSome, map, nat_eq, replicate}
use Rattle.std.specs.List.{AllByRecursion, IsDistinct}
use Rattle.std.specs.List.Sorted.{IsStrictlySortedBy}
use Rattle.std.specs.Map.{keys_of}
use Rattle.std.specs.Ordering.{nat_cmp}
use Rattle.std.specs.declared.cmp.Ordering.TheVariants.{Less}
use Rattle.std.proofs.lemmas.Bool.Decides.{nat_tests}
use Rattle.std.proofs.lemmas.List.{length-map, length-replicate}
use Rattle.std.proofs.lemmas.List.Elements.{All-from_recursion}
use Rattle.rd_base.proofs.WrittenPathLemmas.{length-units}
use Rattle.rd_devices.specs.declared.list.Announce.{Announce}
use Rattle.rd_devices.specs.declared.printer.PrinterInfo.{PrinterInfo}
use Rattle.rd_devices.specs.PrinterInfo.{printer_bytes}
use Rattle.rd_station.specs.Station.{StationState}
use Rattle.rd_declared.specs.Devices.{Declared, PrinterNames, announce_of, device_data, dos_name, printer_data, zero_text}
use Rattle.rd_declared.specs.Declaring.{AreOpenable, IsOpenable, max_session_devices}
use Rattle.rd_world.specs.Opening.{AreShort, IsShort, Opens, ids_of}
use Rattle.rd_declared.specs.Printers.{AreShortNames, max_printer_data}
use Rattle.rd_world.specs.Run.{printers_of, station_of}
use Rattle.rd_declared.specs.declared.device.SessionDevice.{SessionDevice}
use Rattle.rd_declared.proofs.PrinterLemmas.{info_length}
use Rattle.rd_world.proofs.ShortLemmas.{short_devices}

abbrev announce_in_order : List (ℕ × Declared) → List Announce
announce_in_order devices = map (λ (e : ℕ × Declared). announce_of [] e.1) devices

-- Some of the devices are opened, and these are left.
pub record OpensSome (all left : List (ℕ × Declared)) (stations : List (ℕ × StationState SessionDevice)) (announced : List Announce) (printers : List (ℕ × PrinterNames)) : Type 0 where
  pub stations_are : stations ++ map station_of left ≡ map station_of all
  pub announced_are : announced ++ map (λ (e : ℕ × Declared). announce_of [] e.1) left ≡ map (λ (e : ℕ × Declared). announce_of [] e.1) all
  pub printers_are : printers ++ printers_of left ≡ printers_of all
  pub rest : AllByRecursion IsOpenable left

pub opens_first : (all : List (ℕ × Declared)) → AreOpenable all → OpensSome all all [] [] []
opens_first all are = record { stations_are = refl; announced_are = refl; printers_are = refl; rest = are.each }

append_over : {X : Type 0} (xs ys zs : List X) → (xs ++ ys) ++ zs ≡ xs ++ (ys ++ zs)
append_over [] ys zs = refl
append_over {X} (x ∷ xs) ys zs = ap (λ (l : List X). x ∷ l) (append_over xs ys zs)

printers_more : (e : ℕ × Declared) (left : List (ℕ × Declared)) → printers_of (e ∷ []) ++ printers_of left ≡ printers_of (e ∷ left)
printers_more e left = by (e.1).printer refl
  where
    by : (o : Option PrinterNames) → (e.1).printer ≡ o → printers_of (e ∷ []) ++ printers_of left ≡ printers_of (e ∷ left)
    by None is = rw is refl
    by (Some names) is = rw is refl

-- the next one is opened
pub opens_more : (all left : List (ℕ × Declared)) (e : ℕ × Declared) (stations new_stations : List (ℕ × StationState SessionDevice)) (announced new_announced : List Announce) (printers new_printers : List (ℕ × PrinterNames))
    → OpensSome all (e ∷ left) stations announced printers → new_stations ≡ stations ++ station_of e ∷ [] → new_announced ≡ announced ++ announce_of [] e.1 ∷ [] → new_printers ≡ printers ++ printers_of (e ∷ [])
    → OpensSome all left new_stations new_announced new_printers
opens_more all left e stations new_stations announced new_announced printers new_printers opens s a p = record {
  stations_are = ap (λ (l : List (ℕ × StationState SessionDevice)). l ++ map station_of left) s ∙ append_over stations (station_of e ∷ []) (map station_of left) ∙ opens.stations_are;
  announced_are = ap (λ (l : List Announce). l ++ announce_in_order left) a ∙ append_over announced (announce_of [] e.1 ∷ []) (announce_in_order left) ∙ opens.announced_are;
  printers_are = ap (λ (l : List (ℕ × PrinterNames)). l ++ printers_of left) p ∙ append_over printers (printers_of (e ∷ [])) (printers_of left)
      ∙ ap (λ (l : List (ℕ × PrinterNames)). printers ++ l) (printers_more e left) ∙ opens.printers_are;
  rest = (opens.rest).1;
}

-- where no device is left there is none
pub nothing_left : {X P : Type 0} (es : List X) → (0 < length es → P) → (P → ⊥) → es ≡ []
nothing_left [] some never = refl
nothing_left (e ∷ es) some never = absurd (never (some (omega arith)))

-- ---- the ids

keys_over : {X : Type 0} (xs ys : List (ℕ × X)) → keys_of (xs ++ ys) ≡ keys_of xs ++ keys_of ys
keys_over [] ys = refl
keys_over (x ∷ xs) ys = ap (λ (ks : List ℕ). x.0 ∷ ks) (keys_over xs ys)

station_keys : (devices : List (ℕ × Declared)) → keys_of (map station_of devices) ≡ keys_of devices
station_keys [] = refl
station_keys (e ∷ devices) = ap (λ (ks : List ℕ). e.0 ∷ ks) (station_keys devices)

less_below : (k l : ℕ) → nat_cmp k l ≡ Less → k < l
less_below k l less = grind (arith, nat_tests)

less_apart : (k l : ℕ) → nat_cmp k l ≡ Less → nat_eq k l ≡ false
less_apart k l less = grind (arith, nat_tests)

at_middle : (P : ℕ → Type 0) (ks ls : List ℕ) (k : ℕ) → AllByRecursion P (ks ++ k ∷ ls) → P k
at_middle P [] ls k all = all.0
at_middle P (j ∷ ks) ls k all = at_middle P ks ls k all.1

all_below : (ks ls : List ℕ) (k : ℕ) → IsStrictlySortedBy nat_cmp (ks ++ k ∷ ls) → AllByRecursion (λ (j : ℕ). j < k) ks
unfolding IsStrictlySortedBy
all_below [] ls k rise = tt
all_below (j ∷ ks) ls k rise = (less_below j k (at_middle (λ (l : ℕ). nat_cmp j l ≡ Less) ks ls k rise.0), all_below ks ls k rise.1)

entries_below : {X : Type 0} (es : List (ℕ × X)) (k : ℕ) → AllByRecursion (λ (j : ℕ). j < k) (keys_of es) → AllByRecursion (λ (e : ℕ × X). e.0 < k) es
entries_below [] k all = tt
entries_below (e ∷ es) k all = (all.0, entries_below es k all.1)

-- The next one has an id above those that are opened.
pub opens_above : (all left : List (ℕ × Declared)) (e : ℕ × Declared) (stations : List (ℕ × StationState SessionDevice)) (announced : List Announce) (printers : List (ℕ × PrinterNames))
    → AreOpenable all → OpensSome all (e ∷ left) stations announced printers → All (λ (x : ℕ × StationState SessionDevice). x.0 < e.0) stations
opens_above all left e stations announced printers are opens =
    let keys : keys_of all ≡ keys_of stations ++ e.0 ∷ keys_of (map station_of left) =
    sym (station_keys all) ∙ ap (λ (l : List (ℕ × StationState SessionDevice)). keys_of l) (sym opens.stations_are) ∙ keys_over stations (map station_of (e ∷ left)) in
    let rise : IsStrictlySortedBy nat_cmp (keys_of stations ++ e.0 ∷ keys_of (map station_of left)) = subst (λ (ks : List ℕ). IsStrictlySortedBy nat_cmp ks) keys are.rise in
    All-from_recursion _ stations (entries_below stations e.0 (all_below (keys_of stations) (keys_of (map station_of left)) e.0 rise))

-- Fewer than the most are opened before the last.
pub opens_few : (all left : List (ℕ × Declared)) (e : ℕ × Declared) (stations : List (ℕ × StationState SessionDevice)) (announced : List Announce) (printers : List (ℕ × PrinterNames))
    → AreOpenable all → OpensSome all (e ∷ left) stations announced printers → length stations < max_session_devices
opens_few all left e stations announced printers are opens =
    let count : length (stations ++ map station_of (e ∷ left)) ≡ length (map station_of all) = ap length opens.stations_are in
    let own : length (map station_of all) ≡ length all = length-map all station_of in
    omega (arith, count, own, length-append stations (map station_of (e ∷ left)), are.few)

rise_apart : (ks : List ℕ) → IsStrictlySortedBy nat_cmp ks → IsDistinct nat_eq ks
unfolding IsStrictlySortedBy IsDistinct
rise_apart [] rise = tt
rise_apart (k ∷ ks) rise = (one ks rise.0, rise_apart ks rise.1)
  where
    one : (ls : List ℕ) → AllByRecursion (λ (l : ℕ). nat_cmp k l ≡ Less) ls → AllByRecursion (λ (l : ℕ). nat_eq k l ≡ false) ls
    one [] less = tt
    one (l ∷ ls) less = (less_apart k l less.0, one ls less.1)

announced_ids : (devices : List (ℕ × Declared)) → AllByRecursion IsOpenable devices → ids_of (announce_in_order devices) ≡ keys_of devices
announced_ids [] all = refl
announced_ids (e ∷ devices) all = cc ((all.0).same, announced_ids devices all.1)

-- ---- how short the announcements are

dos_length : (name : List ℕ) → length name ≤ 7 → length (dos_name name) ≡ 8
dos_length name few = omega (arith, few, length-append name (replicate (8 - length name) 0), length-replicate {A = ℕ} (8 - length name) 0)

text_length : (units : List ℕ) → length (zero_text units) ≡ 2 * (length units + 1)
text_length units =
    let long : length (zero_text units) ≡ 2 * length (units ++ 0 ∷ []) = length-units (units ++ 0 ∷ []) in
    omega (arith, long, length-append units (0 ∷ []))

names_length : (names : PrinterNames) → AreShortNames names → length (printer_data [] names) ≤ max_printer_data
names_length names few =
    let info : PrinterInfo = record { flags = 0; page = 0; pnp = []; driver = zero_text names.driver; name = zero_text names.printer; config = [] } in
    let long : length (printer_bytes info) ≡ 24 + length info.pnp + length info.driver + length info.name + length info.config = info_length info in
    let driver : length info.driver ≡ 2 * (length names.driver + 1) = text_length names.driver in
    let name : length info.name ≡ 2 * (length names.printer + 1) = text_length names.printer in
    omega (arith, long, driver, name, few.driver, few.printer)

data_length : (d : Declared) → IfSome d.printer AreShortNames → length (device_data [] d) ≤ max_printer_data
data_length d names = by d.printer refl names
  where
    by : (o : Option PrinterNames) → d.printer ≡ o → IfSome o AreShortNames → length (device_data [] d) ≤ max_printer_data
    by None is few = rw is (omega arith)
    by (Some n) is few = rw is (names_length n few)

announced_short : (devices : List (ℕ × Declared)) → AllByRecursion IsOpenable devices → AllByRecursion IsShort (announce_in_order devices)
announced_short [] all = tt
announced_short (e ∷ devices) all =
    (record { dos = dos_length (e.1).name (all.0).name; body = data_length e.1 (all.0).names }, announced_short devices all.1)

-- ---- all are opened

-- All are opened: what they are announced by is what a client may have.
pub opens_all : (all : List (ℕ × Declared)) (stations : List (ℕ × StationState SessionDevice)) (announced : List Announce) (printers : List (ℕ × PrinterNames))
    → AreOpenable all → OpensSome all [] stations announced printers → Opens all stations announced printers
opens_all all stations announced printers are opens =
    let s : stations ≡ map station_of all = sym (append-nil stations) ∙ opens.stations_are in
    let a : announced ≡ announce_in_order all = sym (append-nil announced) ∙ opens.announced_are in
    let p : printers ≡ printers_of all = sym (append-nil printers) ∙ opens.printers_are in
    let ids : ids_of announced ≡ keys_of all = ap ids_of a ∙ announced_ids all are.each in
    let count : length (announce_in_order all) ≡ length all = length-map all (λ (e : ℕ × Declared). announce_of [] e.1) in
    let short : AreShort announced = subst AreShort (sym a) (record { few = omega (arith, count, are.few); each = announced_short all are.each }) in
    record {
      stations_are = s;
      announced_are = a;
      printers_are = p;
      same_ids = ids ∙ sym (ap (λ (l : List (ℕ × StationState SessionDevice)). keys_of l) s ∙ station_keys all);
      short = short;
      are_devices = short_devices announced short (subst (λ (ks : List ℕ). IsDistinct nat_eq ks) (sym ids) (rise_apart (keys_of all) are.rise));
    }
