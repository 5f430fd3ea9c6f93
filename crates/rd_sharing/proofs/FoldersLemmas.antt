-- Folders that are opened one after the other.
use Rattle.std.proofs.Common.{◌≡◌, ◌∙◌, refl, sym, ap, subst, ℕ, List, [], ◌∷◌, ◌++◌, append_assoc, Result, Err}
use Rattle.std.specs.Prelude.{IfErr}
use Rattle.std.specs.List.{AllByRecursion}
use Rattle.std.specs.Ordering.{nat_cmp}
use Rattle.std.specs.BTreeMap.{insert_entry}
use Rattle.rd_base.specs.Faults.{one_more}
use Rattle.rd_devices.specs.declared.list.Announce.{Announce}
use Rattle.rd_folder.specs.FolderOpens.{CountsOpening}
use Rattle.rd_folder.specs.declared.folder.FolderNo.{FolderNo}
use Rattle.rd_folder.specs.declared.folder.FolderNo.TheVariants as folder_no
use Rattle.rd_folder_drive.specs.FolderDrive.{FolderDriveState}
use Rattle.rd_served_devices.specs.ServedDevices as served
use Rattle.rd_served_devices.specs.ServedDevices.{ServedDeviceState}
use Rattle.rd_declared.specs.Devices.{Declared, announce_of}
use Rattle.rd_sharing.specs.declared.devices.Devices.{Devices}
use Rattle.rd_sharing.specs.declared.opening_no.OpeningNo.{OpeningNo}
use Rattle.rd_sharing.specs.declared.opening_no.OpeningNo.TheVariants as no
use Rattle.rd_sharing.specs.Closing.{AreUntroubled, station_devices}
use Rattle.rd_sharing.specs.Devices.{AddsDevice, AreSideBySide, KeepsDevices, OpensFolders}
use Rattle.rd_sharing.specs.FolderLines.{IsFolderDevice}
use Rattle.rd_sharing.specs.Refused.{IsFolderNo, OnFolderNo, StopsOpening}
use Rattle.rd_sharing.specs.ServedOpening.{FoldersTold, OpenInTurn, OpensOne, ServedDeclared, ToldFolders, with_folders}
use Rattle.rd_sharing.proofs.DevicesLemmas.{beside_add, keeps_add}

-- ---- one more is opened

turn_more : (fs : List (ℕ × Declared)) (ss : List FolderDriveState) (f : ℕ × Declared) (s : FolderDriveState) (before mid after : FoldersTold)
    → OpenInTurn fs before ss mid → OpensOne (f.1).name mid s after → OpenInTurn (fs ++ f ∷ []) before (ss ++ s ∷ []) after
turn_more [] [] f s before mid after opens one = (after, subst (λ (told : FoldersTold). OpensOne (f.1).name told s after) opens one, refl)
turn_more [] (t ∷ ss) f s before mid after opens one = absurd opens
turn_more (g ∷ fs) [] f s before mid after opens one = absurd opens
turn_more (g ∷ fs) (t ∷ ss) f s before mid after opens one = (opens.0, opens.1, turn_more fs ss f s opens.0 mid after opens.2 one)

with_more : (devices : List (ℕ × ServedDeclared)) (fs : List (ℕ × Declared)) (ss : List FolderDriveState) (f : ℕ × Declared) (s : FolderDriveState) (before mid : FoldersTold)
    → OpenInTurn fs before ss mid → with_folders devices (fs ++ f ∷ []) (ss ++ s ∷ []) ≡ insert_entry nat_cmp (with_folders devices fs ss) f.0 (record { shown = f.1; state = served.over s })
with_more devices [] [] f s before mid opens = refl
with_more devices [] (t ∷ ss) f s before mid opens = absurd opens
with_more devices (g ∷ fs) [] f s before mid opens = absurd opens
with_more devices (g ∷ fs) (t ∷ ss) f s before mid opens = with_more (insert_entry nat_cmp devices g.0 (record { shown = g.1; state = served.over t })) fs ss f s opens.0 mid opens.2

-- The folders of the first drives are opened, and these are left.
pub record HasOpened {F : Type 0} (all left : List (ℕ × Declared)) (before now : FoldersTold) (old new : Devices F) : Type 0 where
  pub done : List (ℕ × Declared)
  pub whole : done ++ left ≡ all
  pub opens : OpensFolders done before now old new
  pub same : AreSideBySide new
  pub calm : AreUntroubled (station_devices new.stations.items)
  pub are : AllByRecursion IsFolderDevice left

pub opened_none : {F : Type 0} (all : List (ℕ × Declared)) (before : FoldersTold) (old : Devices F) → AreSideBySide old → AreUntroubled (station_devices old.stations.items) → AllByRecursion IsFolderDevice all
    → HasOpened all all before before old old
opened_none all before old same calm are = record {
  done = [];
  whole = refl;
  opens = record { folders = []; opens = refl; keeps = λ devices printers keeps. keeps };
  same = same;
  calm = calm;
  are = are;
}

-- nothing waits in a drive that is made over a folder, which had no fault
pub over_quiet : (label : List ℕ) (before after : FoldersTold) (s : FolderDriveState) → OpensOne label before s after → s.parked ≡ []
over_quiet label before after s opens = ap (λ (t : FolderDriveState). t.parked) opens.over

pub over_faultless : (label : List ℕ) (before after : FoldersTold) (s : FolderDriveState) → OpensOne label before s after → (s.faults).count ≡ 0
over_faultless label before after s opens = ap (λ (t : FolderDriveState). (t.faults).count) opens.over

pub opened_more : {F : Type 0} (all left : List (ℕ × Declared)) (f : ℕ × Declared) (before mid after : FoldersTold) (old kept new : Devices F) (s : FolderDriveState) (announce : Announce)
    → HasOpened all (f ∷ left) before mid old kept → OpensOne (f.1).name mid s after → AddsDevice f.0 (served.over s) announce kept new → announce ≡ announce_of [] f.1
    → AreUntroubled (station_devices new.stations.items) → HasOpened all left before after old new
opened_more all left f before mid after old kept new s announce has one adds told calm = record {
  done = has.done ++ f ∷ [];
  whole = append_assoc has.done (f ∷ []) left ∙ has.whole;
  opens = record {
    folders = (has.opens).folders ++ s ∷ [];
    opens = turn_more has.done (has.opens).folders f s before mid after (has.opens).opens one;
    keeps = λ devices printers keeps.
        let d : ServedDeclared = record { shown = f.1; state = served.over s } in
        subst (λ (ds : List (ℕ × ServedDeclared)). KeepsDevices ds printers new) (sym (with_more devices has.done (has.opens).folders f s before mid (has.opens).opens))
        (keeps_add (with_folders devices has.done (has.opens).folders) printers kept new (f.0, d) announce ((has.opens).keeps devices printers keeps) adds told (has.are).0 (over_quiet (f.1).name mid after s one));
  };
  same = beside_add f.0 (served.over s) announce kept new has.same adds;
  calm = calm;
  are = (has.are).1;
}

-- all are opened
pub opened_all : {F : Type 0} (all left : List (ℕ × Declared)) (before now : FoldersTold) (old new : Devices F) → HasOpened all left before now old new → left ≡ [] → OpensFolders all before now old new
opened_all {F} all left before now old new has none =
    subst (λ (fs : List (ℕ × Declared)). OpensFolders fs before now old new) (end has.done ∙ ap (λ (es : List (ℕ × Declared)). has.done ++ es) (sym none) ∙ has.whole) has.opens
  where
    end : (es : List (ℕ × Declared)) → es ≡ es ++ []
    end [] = refl
    end (e ∷ es) = ap (λ (l : List (ℕ × Declared)). e ∷ l) (end es)

-- ---- refusals

-- a refusal says the same whatever was asked for
counts_any : (X Y : Type 0) (why : FolderNo) (before after : ℕ) → CountsOpening {X = X} (Err why) before after → CountsOpening {X = Y} (Err why) before after
counts_any X Y folder_no.Failed before after counts = counts
counts_any X Y folder_no.Memory before after counts = counts
counts_any X Y why before after counts = counts

pub counts_unit : {X : Type 0} (result : Result X FolderNo) (why : FolderNo) (before after : ℕ) → result ≡ Err why → CountsOpening result before after → CountsOpening {X = Unit {0}} (Err why) before after
counts_unit {X} result why before after is counts = counts_any X (Unit {0}) why before after (subst (λ (r : Result X FolderNo). CountsOpening r before after) is counts)

-- what holds anyway holds where a folder is missing
pub on_folder_no : (why : OpeningNo) (P : Type 0) → P → OnFolderNo why P
on_folder_no (no.Folder device) P is = is
on_folder_no no.Memory P is = tt

-- The first drives are opened, and the next isn't.
pub stops_next : {F : Type 0} (all left : List (ℕ × Declared)) (id : ℕ) (drive : Declared) (before now after : ToldFolders) (old kept : Devices F) (why : OpeningNo)
    → HasOpened all ((id, drive) ∷ left) before.opened now.opened old kept → now.failures ≡ before.failures
    → IsFolderNo drive.id now.failures after.failures why → OnFolderNo why (after.opened ≡ now.opened) → StopsOpening all before after why
stops_next all left id drive before now after old kept (no.Folder device) has same is unopened = record {
  earlier = has.done;
  drive = drive;
  later = left;
  parts = subst (λ (k : ℕ). all ≡ has.done ++ (k, drive) ∷ left) (sym (is.0 ∙ ((has.are).0).openable.same)) (sym has.whole);
  folders = (has.opens).folders;
  opens = subst (λ (told : FoldersTold). OpenInTurn has.done before.opened (has.opens).folders told) (sym unopened) (has.opens).opens;
  counted = is.1 ∙ ap one_more same;
}
stops_next all left id drive before now after old kept no.Memory has same is unopened = is ∙ same

-- What comes after may tell the same, with another count of faults.
pub stops_then : (drives : List (ℕ × Declared)) (before mid after : ToldFolders) (why : OpeningNo) → after.opened ≡ mid.opened → after.failures ≡ mid.failures → StopsOpening drives before mid why → StopsOpening drives before after why
stops_then drives before mid after (no.Folder device) opened failures stops = record {
  earlier = stops.earlier;
  drive = stops.drive;
  later = stops.later;
  parts = stops.parts;
  folders = stops.folders;
  opens = subst (λ (told : FoldersTold). OpenInTurn stops.earlier before.opened stops.folders told) (sym opened) stops.opens;
  counted = failures ∙ stops.counted;
}
stops_then drives before mid after no.Memory opened failures stops = failures ∙ stops

-- what holds of an error holds where it is the one that is answered
pub if_err : {T E : Type 0} (r : Result T E) (e : E) (P : E → Type 0) → r ≡ Err e → P e → IfErr r P
if_err {T} {E} r e P is holds = subst (λ (x : Result T E). IfErr x P) (sym is) holds
