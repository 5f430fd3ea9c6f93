-- What is stored where devices are cut off.
use Rattle.std.proofs.Common.{◌≡◌, ℕ, sym, subst, ◌∙◌, ap, refl, length, ◌++◌, ◌∷◌, [], List, map, fold, Bool, Some, None, Option, true, false}
use Rattle.std.specs.Map.{keys_of, lookup}
use Rattle.std.specs.Ordering.{nat_cmp}
use Rattle.std.specs.BTreeMap.{is_at}
use Rattle.std.specs.List.{AllByRecursion}
use Rattle.std.specs.List.Sorted.{IsStrictlySortedBy}
use Rattle.std.specs.Option.{option_map_or}
use Rattle.std.specs.declared.cmp.Ordering.TheVariants.{Less}
use Rattle.rd_station.specs.Station as station
use Rattle.rd_station.specs.Station.{StationState, StationStep, removes}
use Rattle.rd_declared.specs.Devices.{device_cut, device_cuts, device_parked, device_runs}
use Rattle.rd_declared.specs.declared.device.SessionDevice.{SessionDevice}
use Rattle.rd_client.specs.Core.{ClientCoreState}
use Rattle.rd_world.specs.Events.{cutting, dropping}
use Rattle.rd_deeds.specs.Host.{HostSide, ends_channel}
use Rattle.rd_world.specs.Stations.{AreStations, IsPlaceOf, StepsAt, dropped_station}
use Rattle.rd_deeds.specs.Talk.{Deed, host_ends}
use Rattle.rd_world.specs.World.{WayState, WorldState, ending, station_at, stored_beyond, with_deed, with_station}
use Rattle.rd_world.proofs.StationsLemmas.{equal_cmp, is_other, is_same, turned_cmp}
use Rattle.rd_world.proofs.StepLemmas.{steps_of}

abbrev Of : Type 0
Of = ℕ × StationState SessionDevice

-- ---- a device is removed

abbrev pub cut_station : StationState SessionDevice → StationState SessionDevice
cut_station s = (station.remove s (device_cut s.device).state).0

-- what is stored where the device with this id is removed, before these deeds
abbrev pub removal_stores : List Of → ℕ → List Deed → List Deed
removal_stores stations device deeds = option_map_or (λ (s : StationState SessionDevice). stored_beyond (length s.journal) device (cut_station s) ++ deeds) (lookup (is_at (nat_cmp device)) stations) deeds

removed_by : (s after : StationState SessionDevice) (answer : Bool) → StationStep device_runs device_parked device_cuts s (removes answer) after → cut_station s ≡ after
removed_by s after answer (cut, is, off) = go s.live refl
  where
    go : (live : Bool) → s.live ≡ live → cut_station s ≡ after
    go false dead = rw dead (ap (λ (x : StationState SessionDevice × Bool). x.0) (rw dead at is))
    go true live =
        let yes : true ≡ answer = ap (λ (x : StationState SessionDevice × Bool). x.1) (rw live at is) in
        let same : (device_cut s.device).state ≡ cut = (off (sym yes)).cuts in
        ap (λ (x : SessionDevice). (station.remove s x).0) same ∙ ap (λ (x : StationState SessionDevice × Bool). x.0) is

pub removed : (w : WorldState) (device place : ℕ) (answer : Bool) (new : List Of) → IsPlaceOf w.stations device (Some place) → StepsAt w.stations place (removes answer) new
    → record w { stations = new; deeds = removal_stores w.stations device w.deeds } ≡ option_map_or (λ (s : StationState SessionDevice). with_station w device (cut_station s)) (station_at w device) w
removed w device place answer new (s, at, there) steps =
    let made = steps_of w device place s (removes answer) new at steps in
    let is : cut_station s ≡ made.after = removed_by s made.after answer made.step in
    rw (there, is) (ap (λ (es : List Of). record w { stations = es; deeds = stored_beyond (length s.journal) device made.after ++ w.deeds }) made.new_is)

pub not_there : (w : WorldState) (device : ℕ) → lookup (is_at (nat_cmp device)) w.stations ≡ None
    → record w { deeds = removal_stores w.stations device w.deeds } ≡ option_map_or (λ (s : StationState SessionDevice). with_station w device (cut_station s)) (station_at w device) w
not_there w device none = rw none refl

-- ---- a channel ends

abbrev drop_one : List Deed → Of → List Deed
drop_one deeds e = let s = e.1 in stored_beyond (length s.journal) e.0 (station.drop_channel s (device_cut s.device).state) ++ deeds

-- what is stored where the channel of each device ends, before these deeds
abbrev pub drop_stores : List Of → List Deed → List Deed
drop_stores stations deeds = fold drop_one deeds stations

abbrev ids : List Of → List ℕ
ids es = map (λ (e : Of). e.0) es

abbrev behind : Of → WorldState → WorldState
behind e w = record w { stations = e ∷ w.stations }

-- a station below those that change stays in front
dropping_behind : (e : Of) (w : WorldState) (k : ℕ) → nat_cmp e.0 k ≡ Less → dropping (behind e w) k ≡ behind e (dropping w k)
dropping_behind e w k less = go (lookup (is_at (nat_cmp k)) w.stations) refl
  where
    go : (o : Option (StationState SessionDevice)) → lookup (is_at (nat_cmp k)) w.stations ≡ o → dropping (behind e w) k ≡ behind e (dropping w k)
    go None none = rw (is_other k e.0 less, none) refl
    go (Some s) some = rw (is_other k e.0 less, some, turned_cmp e.0 k less) refl

all_behind : (e : Of) (w : WorldState) (ks : List ℕ) → AllByRecursion (λ k. nat_cmp e.0 k ≡ Less) ks → fold dropping (behind e w) ks ≡ behind e (fold dropping w ks)
all_behind e w [] less = refl
all_behind e w (k ∷ ks) less = ap (λ (x : WorldState). fold dropping x ks) (dropping_behind e w k less.0) ∙ all_behind e (dropping w k) ks less.1

first_dropped : (w : WorldState) (e : Of) (es : List Of) → dropping (record w { stations = e ∷ es }) e.0 ≡ record w { stations = dropped_station e ∷ es; deeds = drop_one w.deeds e }
first_dropped w e es = rw (is_same e.0, equal_cmp e.0 e.0 refl) refl

pub all_dropped : (w : WorldState) (es : List Of) → IsStrictlySortedBy nat_cmp (keys_of es)
    → fold dropping (record w { stations = es }) (ids es) ≡ record w { stations = map dropped_station es; deeds = drop_stores es w.deeds }
unfolding IsStrictlySortedBy
all_dropped w [] rise = refl
all_dropped w (e ∷ es) rise =
    ap (λ (x : WorldState). fold dropping x (ids es)) (first_dropped w e es)
    ∙ all_behind (dropped_station e) (record w { stations = es; deeds = drop_one w.deeds e }) (ids es) rise.0
    ∙ ap (behind (dropped_station e)) (all_dropped (record w { deeds = drop_one w.deeds e }) es rise.1)

keys_dropped : (es : List Of) → keys_of (map dropped_station es) ≡ keys_of es
keys_dropped [] = refl
keys_dropped (e ∷ es) = ap (λ (ks : List ℕ). e.0 ∷ ks) (keys_dropped es)

-- what is left of both sides when a channel ends
pub cut_to : (w x : WorldState) (new : List Of) (side : HostSide) (client : ClientCoreState) (y z : WayState) (deeds : List Deed) → w ≡ x → AreStations new → new ≡ map dropped_station w.stations
    → side ≡ ends_channel w.side → client ≡ record w.client { core = record (w.client).core { outbox = [] } } → y ≡ ending w.to_client → z ≡ ending w.to_host
    → deeds ≡ host_ends w.channels ∷ drop_stores w.stations w.deeds
    → record w { stations = new; side = side; client = client; to_client = y; to_host = z; kept = None; deeds = deeds } ≡ cutting x
cut_to w x new side client y z deeds same are stations sides clients ys zs ds =
    let rise : IsStrictlySortedBy nat_cmp (keys_of w.stations) = subst (λ (ks : List ℕ). IsStrictlySortedBy nat_cmp ks) (ap keys_of stations ∙ keys_dropped w.stations) are.rise in
    let to : WorldState → WorldState = λ (cut : WorldState). record (with_deed cut (host_ends cut.channels)) {
      side = ends_channel cut.side;
      client = record cut.client { core = record (cut.client).core { outbox = [] } };
      to_client = ending cut.to_client;
      to_host = ending cut.to_host;
      kept = None;
    } in
    rw (stations, sides, clients, ys, zs, ds) refl ∙ ap to (sym (all_dropped w w.stations rise)) ∙ ap cutting same
