-- Folders that are closed one after the other, and what the count of their faults tells.
use Rattle.std.proofs.Common.{◌≡◌, ◌∙◌, ◌<◌, ◌≤◌, ◌-◌, ◌^◌, refl, sym, ap, subst, ℕ, zero, suc, List, [], ◌∷◌, arith}
use Rattle.std.specs.Prelude.{map}
use Rattle.std.specs.List.{insert}
use Rattle.std.proofs.lemmas.Grind.{common_steps}
use Rattle.rd_link.specs.Links.{more_faults}
use Rattle.rd_station.specs.Station.{StationState, new_station}
use Rattle.rd_devices.specs.declared.list.Announce.{Announce}
use Rattle.rd_served_devices.specs.ServedDevices as served
use Rattle.rd_served_devices.specs.ServedDevices.{ServedDeviceState}
use Rattle.rd_declared.specs.declared.device.SessionDevice.{SessionDevice}
use Rattle.rd_sharing.specs.declared.devices.Devices.{Devices}
use Rattle.rd_sharing.specs.Closing.{AreUntroubled, IsUntroubled, station_devices, trouble_after, trouble_with}
use Rattle.rd_sharing.specs.Devices.{KeepsMade, anew}
use Rattle.rd_sharing.specs.ServedOpening.{HadNoTrouble, ToldFolders}
use Rattle.rd_sharing.proofs.OrderLemmas.{all_at, mapped_at}

-- What had no fault leaves the count as it was.
pub no_trouble : (count : ℕ) (devices : List ServedDeviceState) → AreUntroubled devices → trouble_after count devices ≡ count
no_trouble count [] all = refl
no_trouble count (served.made device ∷ devices) all = no_trouble count devices all.1
no_trouble count (served.over drive ∷ devices) all = ap (λ (n : ℕ). trouble_after (more_faults count n) devices) all.0 ∙ no_trouble count devices all.1

-- the count never falls
more_rises : (count more : ℕ) → count ≤ 2 ^ 64 - 1 → (count ≤ more_faults count more) × (more_faults count more ≤ 2 ^ 64 - 1)
more_rises count zero within = (omega arith, within)
more_rises count (suc n) within = (grind (arith, common_steps), grind (arith, common_steps))

after_rises : (count : ℕ) (devices : List ServedDeviceState) → count ≤ 2 ^ 64 - 1 → count ≤ trouble_after count devices
after_rises count [] within = omega arith
after_rises count (served.made device ∷ devices) within = after_rises count devices within
after_rises count (served.over drive ∷ devices) within =
    let more = more_rises count (drive.faults).count within in
    let rest = after_rises (more_faults count (drive.faults).count) devices more.1 in
    let first = more.0 in
    omega (arith, first, rest)

-- a count below its last value that stays as it is has no more
none_more : (count more : ℕ) → count < 2 ^ 64 - 1 → more_faults count more ≤ count → more ≡ 0
none_more count zero below stays = refl
none_more count (suc n) below stays = grind (arith, common_steps)

-- Where the count stayed, and doesn't stand at its last value, no folder had a fault.
pub untroubled : (count : ℕ) (devices : List ServedDeviceState) → count < 2 ^ 64 - 1 → trouble_after count devices ≡ count → AreUntroubled devices
untroubled count [] below same = tt
untroubled count (served.made device ∷ devices) below same = (tt, untroubled count devices below same)
untroubled count (served.over drive ∷ devices) below same =
    let rest = after_rises (more_faults count (drive.faults).count) devices (more_rises count (drive.faults).count (omega (arith, below))).1 in
    let none : (drive.faults).count ≡ 0 = none_more count (drive.faults).count below (omega (arith, rest, same)) in
    (none, untroubled count devices below (ap (λ (n : ℕ). trouble_after (more_faults count n) devices) (sym none) ∙ same))

-- The folders of these devices were closed, and none that was closed had a fault.
pub none_troubled : (devices : List ServedDeviceState) (before after : ToldFolders) → HadNoTrouble before after → after.trouble ≡ trouble_after before.trouble devices → AreUntroubled devices
none_troubled devices before after had counted = untroubled before.trouble devices had.1 (sym counted ∙ had.0)

-- A device more that had no fault.
pub faultless_at : (stations : List (StationState ServedDeviceState)) (place : ℕ) (device : ServedDeviceState) → AreUntroubled (station_devices stations) → IsUntroubled device
    → AreUntroubled (station_devices (insert stations place (new_station device)))
faultless_at stations place device all own =
    subst AreUntroubled (sym (mapped_at (λ (s : StationState ServedDeviceState). s.device) stations place (new_station device))) (all_at IsUntroubled (station_devices stations) place device all own)

-- What a script makes up has no folder.
made_calm : (list : List (StationState SessionDevice)) → AreUntroubled (station_devices (map anew list))
made_calm [] = tt
made_calm (s ∷ list) = (tt, made_calm list)

pub made_faultless : {F : Type 0} (stations : List (ℕ × StationState SessionDevice)) (announced : List Announce) (kept : Devices F) → KeepsMade stations announced kept → AreUntroubled (station_devices kept.stations.items)
made_faultless stations announced kept made = subst (λ (l : List (StationState ServedDeviceState)). AreUntroubled (station_devices l)) (sym made.stations_are) (made_calm made.list)

-- One folder more is closed.
pub closed_more : (count new all : ℕ) (rest behind : List (StationState ServedDeviceState)) (s : StationState ServedDeviceState) (device : ServedDeviceState)
    → trouble_after count (station_devices rest) ≡ all → rest ≡ s ∷ behind → device ≡ s.device → new ≡ trouble_with count device → trouble_after new (station_devices behind) ≡ all
closed_more count new all rest behind s device so_far next is counted =
    ap (λ (n : ℕ). trouble_after n (station_devices behind)) (counted ∙ ap (trouble_with count) is)
    ∙ ap (λ (l : List (StationState ServedDeviceState)). trouble_after count (station_devices l)) (sym next) ∙ so_far
