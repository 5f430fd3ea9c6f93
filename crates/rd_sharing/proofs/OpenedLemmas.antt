-- What all devices that are kept come to: a session's opening.
use Rattle.std.proofs.Common.{◌≡◌, ◌∙◌, refl, sym, ap, subst, ℕ, List, [], ◌∷◌, append-nil, arith}
use Rattle.std.specs.Prelude.{All, map}
use Rattle.std.specs.List.{AllByRecursion, zip}
use Rattle.std.specs.List.Sorted.{IsStrictlySortedBy}
use Rattle.std.specs.Map.{keys_of}
use Rattle.std.specs.Ordering.{nat_cmp}
use Rattle.std.proofs.lemmas.List.{length-map}
use Rattle.std.proofs.lemmas.List.Elements.{All-from_recursion}
use Rattle.rd_client.specs.Events.{IsWritableDevice}
use Rattle.rd_devices.specs.declared.list.Announce.{Announce}
use Rattle.rd_script.specs.declared.line.Line.{Line}
use Rattle.rd_station.specs.Station.{StationState, new_station}
use Rattle.rd_served_devices.specs.ServedDevices.{IsServedReached, ServedDeviceState, served_parked}
use Rattle.rd_declared.specs.Devices.{Declared, PrinterNames, announce_of}
use Rattle.rd_declared.specs.Declaring.{AreOpenable, IsOpenable, declared_devices}
use Rattle.rd_world.specs.Run.{station_of}
use Rattle.rd_world.proofs.OpenedLemmas.{opens_all}
use Rattle.rd_sharing.specs.declared.devices.Devices.{Devices}
use Rattle.rd_sharing.specs.Devices.{KeepsDevices, OpensFolders}
use Rattle.rd_sharing.specs.FolderLines.{folder_devices}
use Rattle.rd_sharing.specs.ServedOpening.{AreServedDevices, FoldersTold, OpensServed, ServedDeclared, as_made, served_station, shown_of, with_folders}
use Rattle.rd_sharing.proofs.OrderLemmas.{all_mapped}

shown_keys : (devices : List (ℕ × ServedDeclared)) → keys_of (map shown_of devices) ≡ keys_of devices
shown_keys [] = refl
shown_keys (e ∷ devices) = ap (λ (ks : List ℕ). e.0 ∷ ks) (shown_keys devices)

shown_announced : (devices : List (ℕ × ServedDeclared)) → map (λ (e : ℕ × ServedDeclared). announce_of [] (e.1).shown) devices ≡ map (λ (e : ℕ × Declared). announce_of [] e.1) (map shown_of devices)
shown_announced [] = refl
shown_announced (e ∷ devices) = ap (λ (l : List Announce). announce_of [] (e.1).shown ∷ l) (shown_announced devices)

side_by_side : (devices : List (ℕ × ServedDeclared)) → zip (keys_of devices) (map (λ (e : ℕ × ServedDeclared). new_station (e.1).state) devices) ≡ map served_station devices
side_by_side [] = refl
side_by_side (e ∷ devices) = ap (λ (l : List (ℕ × StationState ServedDeviceState)). served_station e ∷ l) (side_by_side devices)

-- They are opened as they are to be served.
pub opens_served : {F : Type 0} (devices : List (ℕ × ServedDeclared)) (printers : List (ℕ × PrinterNames)) (kept : Devices F) → KeepsDevices devices printers kept
    → OpensServed devices (zip kept.ids.items kept.stations.items) kept.announced.items printers
opens_served devices printers kept keeps =
    let are : AreOpenable (map shown_of devices) = record {
      rise = subst (λ (ks : List ℕ). IsStrictlySortedBy nat_cmp ks) (sym (shown_keys devices)) keeps.rise;
      few = omega (arith, keeps.few, length-map devices shown_of);
      each = all_mapped IsOpenable shown_of devices keeps.openable;
    } in
    record {
      stations_are = ap (λ (ks : List ℕ). zip ks kept.stations.items) keeps.ids_are ∙ ap (λ (l : List (StationState ServedDeviceState)). zip (keys_of devices) l) keeps.stations_are ∙ side_by_side devices;
      quiet = keeps.quiet;
      shown = opens_all (map shown_of devices) (map station_of (map shown_of devices)) kept.announced.items printers are (record {
        stations_are = append-nil (map station_of (map shown_of devices));
        announced_are = append-nil kept.announced.items ∙ keeps.announced_are ∙ shown_announced devices;
        printers_are = append-nil printers ∙ keeps.printers_are;
        rest = tt;
      });
      openable = are;
      writable = All-from_recursion IsWritableDevice kept.announced.items keeps.writable;
    }

pub ids_rise : {F : Type 0} (devices : List (ℕ × ServedDeclared)) (printers : List (ℕ × PrinterNames)) (kept : Devices F) → KeepsDevices devices printers kept → IsStrictlySortedBy nat_cmp kept.ids.items
ids_rise devices printers kept keeps = subst (λ (ks : List ℕ). IsStrictlySortedBy nat_cmp ks) (sym keeps.ids_are) keeps.rise

new_reached : (devices : List (ℕ × ServedDeclared)) → AllByRecursion (λ (e : ℕ × ServedDeclared). served_parked (e.1).state ≡ []) devices → AllByRecursion IsServedReached (map (λ (e : ℕ × ServedDeclared). new_station (e.1).state) devices)
new_reached [] all = tt
new_reached (e ∷ devices) all = (record { device = (e.1).state; nothing = all.0; calls = []; steps = refl }, new_reached devices all.1)

-- Their stations came to be by no call.
pub all_reached : {F : Type 0} (devices : List (ℕ × ServedDeclared)) (printers : List (ℕ × PrinterNames)) (kept : Devices F) → KeepsDevices devices printers kept → All IsServedReached kept.stations.items
all_reached devices printers kept keeps =
    All-from_recursion IsServedReached kept.stations.items (subst (AllByRecursion IsServedReached) (sym keeps.stations_are) (new_reached devices keeps.quiet))

-- The devices of lines, and what is kept of them.
pub kept_of_lines : {F : Type 0} (lines : List Line) (drives : List (ℕ × Declared)) (before after : FoldersTold) (printers : List (ℕ × PrinterNames)) (old new : Devices F)
    → drives ≡ folder_devices lines → KeepsDevices (map as_made (declared_devices lines)) printers old → OpensFolders drives before after old new
    → (devices : List (ℕ × ServedDeclared)) × AreServedDevices lines before after devices × KeepsDevices devices printers new
kept_of_lines {F} lines drives before after printers old new are keeps opens =
    let folders : OpensFolders (folder_devices lines) before after old new = subst (λ (ds : List (ℕ × Declared)). OpensFolders ds before after old new) are opens in (
      with_folders (map as_made (declared_devices lines)) (folder_devices lines) folders.folders,
      record { folders = folders.folders; opens = folders.opens; are = refl },
      folders.keeps (map as_made (declared_devices lines)) printers keeps,
    )
