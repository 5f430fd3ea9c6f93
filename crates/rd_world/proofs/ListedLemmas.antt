-- A client's devices by their places: the ids that are kept beside a client's end, and the announcing of those that it lists, in its order.
use Rattle.std.proofs.Common.{◌≡◌, ◌∙◌, refl, sym, ap, subst, ℕ, zero, suc, ◌+◌, ◌<◌, Bool, true, false, cond, List, [], ◌∷◌, length, drop, Some, None, Option, slice_get, arith}
use Rattle.std.specs.Prelude.{◌==◌, ◌||◌, ◌&&◌, fold, map, nat_eq}
use Rattle.std.specs.List.{AllByRecursion, IsDistinct, filter, list_any}
use Rattle.std.specs.Option.{option_and_then, option_map, option_map_or}
use Rattle.std.proofs.lemmas.Bool.Decides.{nat_tests}
use Rattle.std.proofs.lemmas.Option.{slice_get-map}
use Rattle.rd_client.specs.Core.{ClientCoreState, ClientDevice, announce_in, is_device, is_gone, is_present}
use Rattle.rd_devices.specs.declared.list.Announce.{Announce}
use Rattle.rd_station.specs.Station as station
use Rattle.rd_station.specs.Station.{StationState}
use Rattle.rd_world.specs.Client.{KeepsClient, listed_at}
use Rattle.rd_world.specs.Hearing.{announcing}
use Rattle.rd_world.specs.Opening.{ids_of}
use Rattle.rd_world.specs.World.{WorldState, station_at, with_station}
use Rattle.rd_declared.specs.declared.device.SessionDevice.{SessionDevice}
use Rattle.rd_world.proofs.FoldLemmas.{drop_there}

-- ---- a device at a place

same_id : (a : ℕ) → (a == a) ≡ true
same_id a = grind (arith, nat_tests)

other_id : (a b : ℕ) → nat_eq a b ≡ false → (b == a) ≡ false
other_id a b e = grind (arith, nat_tests)

other_before : (a b : ℕ) → nat_eq a b ≡ false → (a == b) ≡ false
other_before a b e = grind (arith, nat_tests)

all_ids_there : (P : ℕ → Type 0) (ds : List ClientDevice) (place : ℕ) (d : ClientDevice) → AllByRecursion P (ids_of (map announce_in ds)) → slice_get ds place ≡ Some d → P (d.announce).id
all_ids_there P [] zero d all there = absurd cc
all_ids_there P [] (suc place) d all there = absurd cc
all_ids_there P (e ∷ ds) zero d all there =
    let same : e ≡ d = cc in
    subst (λ (x : ClientDevice). P (x.announce).id) same all.0
all_ids_there P (e ∷ ds) (suc place) d all there = all_ids_there P ds place d all.1 there

-- whether one with this id is there and was removed
abbrev goes : ℕ → ClientDevice → Bool
goes id d = is_device id d && d.removed

none_goes : (ds : List ClientDevice) (id : ℕ) → AllByRecursion (λ (other : ℕ). nat_eq id other ≡ false) (ids_of (map announce_in ds)) → list_any (goes id) ds ≡ false
none_goes [] id all = refl
none_goes (e ∷ ds) id all = rw (other_id id (e.announce).id all.0) (none_goes ds id all.1)

or_false : (b : Bool) → (b || false) ≡ b
or_false true = refl
or_false false = refl

goes_there : (ds : List ClientDevice) (place : ℕ) (d : ClientDevice) → IsDistinct nat_eq (ids_of (map announce_in ds)) → slice_get ds place ≡ Some d
    → list_any (goes (d.announce).id) ds ≡ d.removed
unfolding IsDistinct
goes_there [] zero d apart there = absurd cc
goes_there [] (suc place) d apart there = absurd cc
goes_there (e ∷ ds) zero d apart there =
    let same : e ≡ d = cc in
    subst (λ (x : ClientDevice). list_any (goes (x.announce).id) (e ∷ ds) ≡ x.removed) same
    (rw (same_id (e.announce).id, none_goes ds (e.announce).id apart.0) (or_false e.removed))
goes_there (e ∷ ds) (suc place) d apart there =
    let other : nat_eq (e.announce).id (d.announce).id ≡ false = all_ids_there (λ (id : ℕ). nat_eq (e.announce).id id ≡ false) ds place d apart.0 there in
    rw (other_before (e.announce).id (d.announce).id other) (goes_there ds place d apart.1 there)

-- a place has a device
device_there : (ds : List ClientDevice) (place : ℕ) → place < length ds → (d : ClientDevice) × (slice_get ds place ≡ Some d)
device_there [] place within = absurd (omega arith)
device_there (d ∷ ds) zero within = (d, refl)
device_there (d ∷ ds) (suc place) within = device_there ds place (omega arith)

abbrev id_in : ClientDevice → ℕ
id_in d = (d.announce).id

ids_there : (ds : List ClientDevice) (place : ℕ) → slice_get (ids_of (map announce_in ds)) place ≡ option_map id_in (slice_get ds place)
ids_there ds place = slice_get-map (λ (a : Announce). a.id) (map announce_in ds) place ∙ ap (λ (o : Option Announce). option_map (λ (a : Announce). a.id) o) (slice_get-map announce_in ds place) ∙ twice (slice_get ds place)
  where
    twice : (o : Option ClientDevice) → option_map (λ (a : Announce). a.id) (option_map announce_in o) ≡ option_map id_in o
    twice None = refl
    twice (Some d) = refl

-- the id at a place of a list, unless the device is removed
abbrev unless_removed : ClientDevice → Option ℕ
unless_removed d = cond d.removed None (Some (d.announce).id)

-- A device is listed unless the one with its id is gone.
pub listed_is : (c : ClientCoreState) (ids : List ℕ) (place id : ℕ) (gone : Bool) → KeepsClient c ids → slice_get ids place ≡ Some id → is_gone c id ≡ gone
    → cond gone None (Some id) ≡ listed_at c place
listed_is c ids place id gone keeps is gone_is =
    go (slice_get c.devices place) refl (sym (ids_there c.devices place) ∙ sym (ap (λ (l : List ℕ). slice_get l place) keeps.ids_are) ∙ is)
  where
    go : (o : Option ClientDevice) → slice_get c.devices place ≡ o → option_map id_in o ≡ Some id → cond gone None (Some id) ≡ option_and_then unless_removed o
    go None there none = absurd cc
    go (Some d) there some =
        let same : (d.announce).id ≡ id = cc in
        let removed : gone ≡ d.removed = sym gone_is ∙ sym (ap (λ (k : ℕ). is_gone c k) same) ∙ goes_there c.devices place d ((keeps.stays).devices).apart there in
        ap (λ (b : Bool). cond b None (Some id)) removed ∙ sym (ap (λ (k : ℕ). cond d.removed None (Some k)) same)

-- ---- those that are listed are announced

-- the world where those of these devices that aren't removed are announced to their stations
abbrev pub announcing_listed : WorldState → List ClientDevice → WorldState
announcing_listed w ds = fold (λ x (a : Announce). announcing x a.id) w (map announce_in (filter is_present ds))

-- a device is announced, if one is named
abbrev announced_by : WorldState → Option ℕ → WorldState
announced_by w None = w
announced_by w (Some id) = announcing w id

-- the first of some devices is announced before the others
first_listed : (w : WorldState) (d : ClientDevice) (ds : List ClientDevice) (removed : Bool) → d.removed ≡ removed
    → announcing_listed w (d ∷ ds) ≡ announcing_listed (announced_by w (cond removed None (Some (d.announce).id))) ds
first_listed w d ds true is = rw is refl
first_listed w d ds false is = rw is refl

listed_more : (w : WorldState) (c : ClientCoreState) (place : ℕ) (o : Option ℕ) → place < length c.devices → o ≡ listed_at c place
    → announcing_listed w (drop place c.devices) ≡ announcing_listed (announced_by w o) (drop (place + 1) c.devices)
listed_more w c place o within is =
    let found = device_there c.devices place within in
    let d : ClientDevice = found.0 in
    let named : cond d.removed None (Some (d.announce).id) ≡ o = sym (is ∙ ap (λ (x : Option ClientDevice). option_and_then unless_removed x) found.1) in
    ap (λ (ds : List ClientDevice). announcing_listed w ds) (drop_there c.devices place d found.1)
    ∙ first_listed w d (drop (place + 1) c.devices) d.removed refl
    ∙ ap (λ (x : Option ℕ). announcing_listed (announced_by w x) (drop (place + 1) c.devices)) named

-- The device at a place is announced.
pub listed_some : (w : WorldState) (c : ClientCoreState) (place id : ℕ) (end : WorldState) → place < length c.devices → Some id ≡ listed_at c place
    → announcing_listed w (drop place c.devices) ≡ end → announcing_listed (announcing w id) (drop (place + 1) c.devices) ≡ end
listed_some w c place id end within is reached = sym (listed_more w c place (Some id) within is) ∙ reached

-- The device at a place is removed.
pub listed_none : (w : WorldState) (c : ClientCoreState) (place : ℕ) (end : WorldState) → place < length c.devices → None ≡ listed_at c place
    → announcing_listed w (drop place c.devices) ≡ end → announcing_listed w (drop (place + 1) c.devices) ≡ end
listed_none w c place end within is reached = sym (listed_more w c place None within is) ∙ reached

-- Announcing leaves the client as it is.
pub announcing_client : (w : WorldState) (device : ℕ) → (announcing w device).client ≡ w.client
announcing_client w device = go (station_at w device)
  where
    go : (o : Option (StationState SessionDevice)) → (option_map_or (λ (s : StationState SessionDevice). with_station w device (station.announce s).0) o w).client ≡ w.client
    go None = refl
    go (Some s) = refl
