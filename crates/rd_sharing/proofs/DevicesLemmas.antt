-- Devices side by side: those that a script makes up, and one that is added at the place of its id.
use Rattle.std.proofs.Common.{◌≡◌, ◌∙◌, refl, sym, ap, subst, ℕ, zero, suc, ◌+◌, ◌≤◌, List, [], ◌∷◌, ◌++◌, append_assoc, length, None, arith}
use Rattle.std.specs.Prelude.{map}
use Rattle.std.specs.List.{AllByRecursion, cons_option, insert, zip}
use Rattle.std.specs.List.Sorted.{IsNonDecreasingBy, IsPartitionPoint, IsStrictlySortedBy}
use Rattle.std.specs.Map.{keys_of}
use Rattle.std.specs.Option.{option_map}
use Rattle.std.specs.Ordering.{nat_cmp, ordering_index}
use Rattle.std.specs.declared.cmp.Ordering.TheVariants.{Less, Greater}
use Rattle.std.specs.BTreeMap.{insert_entry}
use Rattle.std.proofs.lemmas.List.{length-map}
use Rattle.std.proofs.lemmas.List.Edits.{length-insert}
use Rattle.std.proofs.lemmas.List.Elements.{recursion_from_All}
use Rattle.rd_client.specs.Events.{IsWritableDevice}
use Rattle.rd_devices.specs.declared.list.Announce.{Announce}
use Rattle.rd_pending.proofs.MapLemmas.{rises_with}
use Rattle.rd_station.specs.Station.{StationState, new_station}
use Rattle.rd_served_devices.specs.ServedDevices.{ServedDeviceState, served_parked}
use Rattle.rd_declared.specs.Devices.{Declared, PrinterNames, announce_of}
use Rattle.rd_declared.specs.Declaring.{AreOpenable, IsOpenable}
use Rattle.rd_world.specs.Opening.{Opens}
use Rattle.rd_world.specs.Run.{printers_of, station_of}
use Rattle.rd_declared.specs.declared.device.SessionDevice.{SessionDevice}
use Rattle.rd_sharing.specs.declared.devices.Devices.{Devices}
use Rattle.rd_sharing.specs.Devices.{AddsDevice, AreSideBySide, IsQuietStation, KeepsDevices, KeepsMade, anew}
use Rattle.rd_sharing.specs.FolderLines.{IsFolderDevice}
use Rattle.rd_sharing.specs.ServedOpening.{ServedDeclared, as_made, shown_of}
use Rattle.rd_sharing.proofs.OrderLemmas.{all_at, at_place, mapped_at, never_fall}

-- what a device has as it is opened: its station, and how it is announced
abbrev station_in : ℕ × ServedDeclared → StationState ServedDeviceState
station_in e = new_station (e.1).state

abbrev announce_in : ℕ × ServedDeclared → Announce
announce_in e = announce_of [] (e.1).shown

-- ---- those that a script makes up

made_keys : (devices : List (ℕ × Declared)) → keys_of (map as_made devices) ≡ keys_of devices
made_keys [] = refl
made_keys (e ∷ devices) = ap (λ (ks : List ℕ). e.0 ∷ ks) (made_keys devices)

made_shown : (devices : List (ℕ × Declared)) → map shown_of (map as_made devices) ≡ devices
made_shown [] = refl
made_shown (e ∷ devices) = ap (λ (ds : List (ℕ × Declared)). e ∷ ds) (made_shown devices)

made_announced : (devices : List (ℕ × Declared)) → map (λ (e : ℕ × Declared). announce_of [] e.1) devices ≡ map announce_in (map as_made devices)
made_announced [] = refl
made_announced (e ∷ devices) = ap (λ (l : List Announce). announce_of [] e.1 ∷ l) (made_announced devices)

made_openable : (devices : List (ℕ × Declared)) → AllByRecursion IsOpenable devices → AllByRecursion (λ (e : ℕ × ServedDeclared). IsOpenable (shown_of e)) (map as_made devices)
made_openable [] all = tt
made_openable (e ∷ devices) all = (all.0, made_openable devices all.1)

made_quiet : (devices : List (ℕ × Declared)) → AllByRecursion IsOpenable devices → AllByRecursion (λ (e : ℕ × ServedDeclared). served_parked (e.1).state ≡ []) (map as_made devices)
made_quiet [] all = tt
made_quiet (e ∷ devices) all = ((all.0).quiet, made_quiet devices all.1)

-- the ids and the stations apart
parts : (devices : List (ℕ × Declared)) (ids : List ℕ) (list : List (StationState SessionDevice)) → length list ≡ length ids → zip ids list ≡ map station_of devices
    → (ids ≡ keys_of (map as_made devices)) × (map anew list ≡ map station_in (map as_made devices))
parts [] [] [] same is = (refl, refl)
parts [] [] (s ∷ list) same is = absurd (omega (arith, same))
parts [] (i ∷ ids) [] same is = absurd (omega (arith, same))
parts [] (i ∷ ids) (s ∷ list) same is = absurd (cc is)
parts (e ∷ devices) [] list same is = absurd (cc is)
parts (e ∷ devices) (i ∷ ids) [] same is = absurd (omega (arith, same))
parts (e ∷ devices) (i ∷ ids) (s ∷ list) same is =
    let first : (i, s) ≡ station_of e = cc is in
    let rest : zip ids list ≡ map station_of devices = cc is in
    let id : i ≡ e.0 = ap (λ (x : ℕ × StationState SessionDevice). x.0) first in
    let station : anew s ≡ station_in (as_made e) = ap (λ (x : ℕ × StationState SessionDevice). anew x.1) first in
    let others = parts devices ids list (omega (arith, same)) rest in
    (cc (id, others.0), cc (station, others.1))

-- The devices that lines make up are kept.
pub keeps_made : {F : Type 0} (devices : List (ℕ × Declared)) (stations : List (ℕ × StationState SessionDevice)) (announced : List Announce) (printers : List (ℕ × PrinterNames)) (kept : Devices F)
    → AreOpenable devices → Opens devices stations announced printers → KeepsMade stations announced kept → KeepsDevices (map as_made devices) printers kept
keeps_made devices stations announced printers kept are opens made =
    let apart = parts devices kept.ids.items made.list made.same (made.seen ∙ opens.stations_are) in
    record {
      ids_are = apart.0;
      stations_are = made.stations_are ∙ apart.1;
      announced_are = made.announced_are ∙ opens.announced_are ∙ made_announced devices;
      printers_are = opens.printers_are ∙ ap printers_of (sym (made_shown devices));
      rise = subst (λ (ks : List ℕ). IsStrictlySortedBy nat_cmp ks) (sym (made_keys devices)) are.rise;
      few = omega (arith, are.few, length-map devices as_made);
      openable = made_openable devices are.each;
      quiet = made_quiet devices are.each;
      writable = subst (AllByRecursion IsWritableDevice) (sym made.announced_are) (recursion_from_All IsWritableDevice announced made.writable);
    }

-- Nothing waits in what is opened.
pub opens_quiet : (devices : List (ℕ × Declared)) (stations : List (ℕ × StationState SessionDevice)) → AllByRecursion IsOpenable devices → stations ≡ map station_of devices
    → AllByRecursion (λ (e : ℕ × StationState SessionDevice). IsQuietStation e.1) stations
opens_quiet devices stations all are = subst (AllByRecursion (λ (e : ℕ × StationState SessionDevice). IsQuietStation e.1)) (sym are) (each devices all)
  where
    each : (ds : List (ℕ × Declared)) → AllByRecursion IsOpenable ds → AllByRecursion (λ (e : ℕ × StationState SessionDevice). IsQuietStation e.1) (map station_of ds)
    each [] all = tt
    each (d ∷ ds) all = ((all.0).quiet, each ds all.1)

-- what holds of all that stands beside ids
pub beside_quiet : (ids : List ℕ) (list : List (StationState SessionDevice)) → length list ≡ length ids → AllByRecursion (λ (e : ℕ × StationState SessionDevice). IsQuietStation e.1) (zip ids list) → AllByRecursion IsQuietStation list
beside_quiet [] [] same all = tt
beside_quiet [] (s ∷ list) same all = absurd (omega (arith, same))
beside_quiet (i ∷ ids) [] same all = absurd (omega (arith, same))
beside_quiet (i ∷ ids) (s ∷ list) same all = (all.0, beside_quiet ids list (omega (arith, same)) all.1)

-- one station more is made anew
pub anew_more : (done : List (StationState ServedDeviceState)) (rest behind all : List (StationState SessionDevice)) (s : StationState SessionDevice) (new : StationState ServedDeviceState)
    → done ++ map anew rest ≡ map anew all → rest ≡ s ∷ behind → new ≡ anew s → (done ++ new ∷ []) ++ map anew behind ≡ map anew all
anew_more done rest behind all s new so_far next is =
    append_assoc done (new ∷ []) (map anew behind) ∙ ap (λ (t : StationState ServedDeviceState). done ++ t ∷ map anew behind) is ∙ ap (λ (l : List (StationState SessionDevice)). done ++ map anew l) (sym next) ∙ so_far

-- there are as many stations and announcements as ids
pub beside_of : {F : Type 0} (devices : List (ℕ × ServedDeclared)) (printers : List (ℕ × PrinterNames)) (kept : Devices F) → KeepsDevices devices printers kept → AreSideBySide kept
beside_of devices printers kept keeps =
    let ids : length kept.ids.items ≡ length devices = ap length keeps.ids_are ∙ length-map devices (λ (e : ℕ × ServedDeclared). e.0) in
    record {
      stations = ap length keeps.stations_are ∙ length-map devices station_in ∙ sym ids;
      announced = ap length keeps.announced_are ∙ length-map devices announce_in ∙ sym ids;
    }

-- ---- one more

-- what isn't a printer adds none
plain_at : (devices : List (ℕ × Declared)) (i : ℕ) (e : ℕ × Declared) → (e.1).printer ≡ None → printers_of (insert devices i e) ≡ printers_of devices
plain_at [] zero e none = rw none refl
plain_at [] (suc i) e none = rw none refl
plain_at (d ∷ devices) zero e none = rw none refl
plain_at (d ∷ devices) (suc i) e none = ap (cons_option (option_map (λ (names : PrinterNames). (d.0, names)) (d.1).printer)) (plain_at devices i e none)

-- A device that is added at the place of its id is kept with the others.
pub keeps_add : {F : Type 0} (devices : List (ℕ × ServedDeclared)) (printers : List (ℕ × PrinterNames)) (old new : Devices F) (e : ℕ × ServedDeclared) (announce : Announce)
    → KeepsDevices devices printers old → AddsDevice e.0 (e.1).state announce old new → announce ≡ announce_in e → IsFolderDevice (shown_of e) → served_parked (e.1).state ≡ []
    → KeepsDevices (insert_entry nat_cmp devices e.0 e.1) printers new
keeps_add devices printers old new e announce keeps adds shown folder quiet =
    let count : length old.ids.items ≡ length devices = ap length keeps.ids_are ∙ length-map devices (λ (x : ℕ × ServedDeclared). x.0) in
    let within : adds.place ≤ length devices = omega (arith, adds.within, count) in
    let falls : IsNonDecreasingBy (λ (k : ℕ). ordering_index (nat_cmp k e.0)) old.ids.items =
    never_fall old.ids.items e.0 (subst (λ (ks : List ℕ). IsStrictlySortedBy nat_cmp ks) (sym keeps.ids_are) keeps.rise) in
    let part : IsPartitionPoint (λ (k : ℕ). nat_cmp k e.0 ≡ Less) (λ (k : ℕ). nat_cmp k e.0 ≡ Greater) (keys_of devices) adds.place =
    subst (λ (ks : List ℕ). IsPartitionPoint (λ (k : ℕ). nat_cmp k e.0 ≡ Less) (λ (k : ℕ). nat_cmp k e.0 ≡ Greater) ks adds.place) keeps.ids_are (adds.found falls) in
    let here : insert devices adds.place e ≡ insert_entry nat_cmp devices e.0 e.1 = at_place e.0 e.1 devices adds.place within part in
    record {
      ids_are = adds.ids_are ∙ ap (λ (ks : List ℕ). insert ks adds.place e.0) keeps.ids_are ∙ sym (mapped_at (λ (x : ℕ × ServedDeclared). x.0) devices adds.place e) ∙ ap (λ (ds : List (ℕ × ServedDeclared)). keys_of ds) here;
      stations_are = adds.stations_are ∙ ap (λ (l : List (StationState ServedDeviceState)). insert l adds.place (station_in e)) keeps.stations_are ∙ sym (mapped_at station_in devices adds.place e) ∙ ap (λ (ds : List (ℕ × ServedDeclared)). map station_in ds) here;
      announced_are = adds.announced_are ∙ ap (λ (l : List Announce). insert l adds.place announce) keeps.announced_are ∙ ap (λ (a : Announce). insert (map announce_in devices) adds.place a) shown
          ∙ sym (mapped_at announce_in devices adds.place e) ∙ ap (λ (ds : List (ℕ × ServedDeclared)). map announce_in ds) here;
      printers_are = keeps.printers_are ∙ sym (plain_at (map shown_of devices) adds.place (shown_of e) folder.plain)
          ∙ ap printers_of (sym (mapped_at shown_of devices adds.place e)) ∙ ap (λ (ds : List (ℕ × ServedDeclared)). printers_of (map shown_of ds)) here;
      rise = rises_with e.0 e.1 devices keeps.rise;
      few = let more : length (insert devices adds.place e) ≡ length devices + 1 = length-insert devices adds.place e within in
          let now : length (insert devices adds.place e) ≡ length (insert_entry nat_cmp devices e.0 e.1) = ap length here in
          omega (arith, more, now, adds.few, count);
      openable = subst (AllByRecursion (λ (x : ℕ × ServedDeclared). IsOpenable (shown_of x))) here
          (all_at (λ (x : ℕ × ServedDeclared). IsOpenable (shown_of x)) devices adds.place e keeps.openable folder.openable);
      quiet = subst (AllByRecursion (λ (x : ℕ × ServedDeclared). served_parked (x.1).state ≡ [])) here
          (all_at (λ (x : ℕ × ServedDeclared). served_parked (x.1).state ≡ []) devices adds.place e keeps.quiet quiet);
      writable = subst (AllByRecursion IsWritableDevice) (sym adds.announced_are) (all_at IsWritableDevice old.announced.items adds.place announce keeps.writable adds.writable);
    }

pub beside_add : {F : Type 0} (id : ℕ) (device : ServedDeviceState) (announce : Announce) (old new : Devices F) → AreSideBySide old → AddsDevice id device announce old new → AreSideBySide new
beside_add id device announce old new same adds =
    let ids : length new.ids.items ≡ length old.ids.items + 1 = ap length adds.ids_are ∙ length-insert old.ids.items adds.place id adds.within in
    let stations : length new.stations.items ≡ length old.stations.items + 1 =
    ap length adds.stations_are ∙ length-insert old.stations.items adds.place (new_station device) (omega (arith, adds.within, same.stations)) in
    let announced : length new.announced.items ≡ length old.announced.items + 1 =
    ap length adds.announced_are ∙ length-insert old.announced.items adds.place announce (omega (arith, adds.within, same.announced)) in
    record {
      stations = omega (arith, ids, stations, same.stations);
      announced = omega (arith, ids, announced, same.announced);
    }
