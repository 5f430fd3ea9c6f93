-- Stations at which nothing is held: they stay so where nothing comes, and a channel's end leaves all so.
use Rattle.std.proofs.Common.{◌≡◌, ◌≢◌, ◌⊎◌, ◌∙◌, refl, sym, ap, subst, inl, inr, ℕ, Bool, true, false, cond, List, [], ◌∷◌, ◌++◌, map, fold, Some, None, Option}
use Rattle.std.specs.Prelude.{if◌then◌else◌}
use Rattle.std.specs.Map.{lookup}
use Rattle.std.specs.Ordering.{nat_cmp}
use Rattle.std.specs.BTreeMap.{insert_entry, is_at}
use Rattle.std.specs.Option.{option_map_or}
use Rattle.std.proofs.lemmas.Bool.{cases_eq}
use Rattle.rd_base.specs.declared.journal.Cause.TheVariants.{Dropped}
use Rattle.rd_base.specs.declared.journal.Item.TheVariants.{Cut}
use Rattle.rd_base.specs.declared.journal.Key.{Key}
use Rattle.rd_drive.specs.declared.plan.Job.{Job}
use Rattle.rd_drive.specs.Stepped.{Stepped}
use Rattle.rd_pending.proofs.MapLemmas.{beside, inserted, same_key}
use Rattle.rd_station.specs.declared.answers.Completion.{Completion}
use Rattle.rd_station.specs.declared.answers.Given.TheVariants as given
use Rattle.rd_station.specs.Station as station
use Rattle.rd_station.specs.Station.{StationState}
use Rattle.rd_declared.specs.declared.device.SessionDevice.{SessionDevice}
use Rattle.rd_declared.specs.Devices.{device_cut}
use Rattle.rd_world.specs.Events.{applies_at, came_of, dropping}
use Rattle.rd_deeds.specs.Talk.{Has}
use Rattle.rd_world.specs.World.{WorldState, station_at, with_station}

-- no job is held
pub record IsIdle (s : StationState SessionDevice) : Type 0 where
  pub waiting : s.waiting ≡ []
  pub taken : s.taken ≡ []
  pub parked : s.parked ≡ []
  pub ready : s.ready ≡ []

abbrev pub AreIdle : List (ℕ × StationState SessionDevice) → Type 0
AreIdle stations = (device : ℕ) (s : StationState SessionDevice) → lookup (is_at (nat_cmp device)) stations ≡ Some s → IsIdle s

-- ---- calls

pub none_collected : (s after : StationState SessionDevice) (c : Completion) → IsIdle s → station.collect s ≡ (after, Some c) → ⊥
none_collected s after c idle e = let none : station.collect s ≡ (s, None) = rw idle.ready refl in cc (ap (λ r. r.1) none, ap (λ r. r.1) e)

pub none_taken : (s after : StationState SessionDevice) (job : Job) → IsIdle s → station.take s ≡ (after, given.Job job) → ⊥
none_taken s after job idle e = by s.ended refl
  where
    by : (b : Bool) → s.ended ≡ b → ⊥
    by true is = let none : station.take s ≡ (s, given.Over) = rw is refl in cc (ap (λ r. r.1) none, ap (λ r. r.1) e)
    by false is = let none : station.take s ≡ (s, given.Nothing) = rw (is, idle.waiting) refl in cc (ap (λ r. r.1) none, ap (λ r. r.1) e)

applied_idle : (s : StationState SessionDevice) (job : Job) (moment : ℕ) (came : Stepped SessionDevice) → IsIdle s → IsIdle (station.apply s job moment came).0
applied_idle s job moment came idle = let same : (station.apply s job moment came).0 ≡ s = rw idle.taken refl in subst IsIdle (sym same) idle

dropped_idle : (s : StationState SessionDevice) (cut : SessionDevice) → IsIdle (station.drop_channel s cut)
dropped_idle s cut = by s.live
  where
    by : (b : Bool) → IsIdle (if b then record (station.emptied s) { device = cut; live = false; journal = s.journal ++ Cut Dropped ∷ [] } else station.emptied s)
    by true = record { waiting = refl; taken = refl; parked = refl; ready = refl }
    by false = record { waiting = refl; taken = refl; parked = refl; ready = refl }

-- ---- all stations

put_idle : (stations : List (ℕ × StationState SessionDevice)) (device : ℕ) (s : StationState SessionDevice) → IsIdle s → AreIdle stations → AreIdle (insert_entry nat_cmp stations device s)
put_idle stations device s idle all d x there = elim (cases_eq d device) [
  | inl same ↦
      let own : lookup (is_at (nat_cmp d)) (insert_entry nat_cmp stations device s) ≡ Some s = rw same (inserted device s stations) in
      let is : s ≡ x = cc (own, there) in
      subst IsIdle is idle
  | inr other ↦ all d x (sym (beside device s d other stations) ∙ there)
]

pub applied_all_idle : (starves : Key → Bool) (w : WorldState) (hand device : ℕ) (job : Job) (o : Option (StationState SessionDevice)) → station_at w device ≡ o → AreIdle w.stations
    → AreIdle (applies_at starves w hand device job o).stations
applied_all_idle starves w hand device job None there all = all
applied_all_idle starves w hand device job (Some s) there all =
    let came : Stepped SessionDevice = came_of starves w job s.device in
    put_idle w.stations device (station.apply s job w.moment came).0 (applied_idle s job w.moment came (all device s there)) all

-- ---- a channel's end

-- each station is one of these devices', or nothing is held at it
abbrev AreIdleBut : List ℕ → WorldState → Type 0
AreIdleBut devices w = (d : ℕ) (x : StationState SessionDevice) → station_at w d ≡ Some x → Has d devices ⊎ IsIdle x

fewer : (k : ℕ) (devices : List ℕ) (d : ℕ) (x : StationState SessionDevice) → d ≢ k → Has d (k ∷ devices) ⊎ IsIdle x → Has d devices ⊎ IsIdle x
fewer k devices d x other (inl (inl same)) = absurd (other same)
fewer k devices d x other (inl (inr has)) = inl has
fewer k devices d x other (inr idle) = inr idle

one_dropped : (k : ℕ) (devices : List ℕ) (w : WorldState) → AreIdleBut (k ∷ devices) w → AreIdleBut devices (dropping w k)
one_dropped k devices w all d x = by (station_at w k) refl
  where
    by : (o : Option (StationState SessionDevice)) → station_at w k ≡ o
        → station_at (option_map_or (λ (s : StationState SessionDevice). with_station w k (station.drop_channel s (device_cut s.device).state)) o w) d ≡ Some x → Has d devices ⊎ IsIdle x
    by None none there = elim (cases_eq d k) [
      | inl same ↦ let found : station_at w k ≡ Some x = subst (λ (n : ℕ). station_at w n ≡ Some x) same there in absurd (cc (none, found))
      | inr other ↦ fewer k devices d x other (all d x there)
    ]
    by (Some s) is there =
        let after : StationState SessionDevice = station.drop_channel s (device_cut s.device).state in
        elim (cases_eq d k) [
          | inl same ↦
              let own : lookup (is_at (nat_cmp d)) (insert_entry nat_cmp w.stations k after) ≡ Some after = rw same (inserted k after w.stations) in
              let one : after ≡ x = cc (own, there) in
              inr (subst IsIdle one (dropped_idle s (device_cut s.device).state))
          | inr other ↦ fewer k devices d x other (all d x (sym (beside k after d other w.stations) ∙ there))
        ]

all_dropped : (devices : List ℕ) (w : WorldState) → AreIdleBut devices w → AreIdle (fold dropping w devices).stations
all_dropped [] w all = λ d x there. elim (all d x there) [ inl none ↦ absurd none | inr idle ↦ idle ]
all_dropped (k ∷ devices) w all = all_dropped devices (dropping w k) (one_dropped k devices w all)

found_has : (stations : List (ℕ × StationState SessionDevice)) (d : ℕ) (x : StationState SessionDevice) → lookup (is_at (nat_cmp d)) stations ≡ Some x
    → Has d (map (λ (e : ℕ × StationState SessionDevice). e.0) stations)
found_has [] d x there = absurd (cc there)
found_has (e ∷ stations) d x there = by (is_at (nat_cmp d) e.0) refl there (found_has stations d x)
  where
    by : (b : Bool) → is_at (nat_cmp d) e.0 ≡ b → cond b (Some e.1) (lookup (is_at (nat_cmp d)) stations) ≡ Some x
        → (lookup (is_at (nat_cmp d)) stations ≡ Some x → Has d (map (λ (e : ℕ × StationState SessionDevice). e.0) stations))
        → Has d (e.0 ∷ map (λ (e : ℕ × StationState SessionDevice). e.0) stations)
    by true here found later = inl (same_key d e.0 here)
    by false here found later = inr (later found)

pub cut_idle : (w : WorldState) → AreIdle (fold dropping w (map (λ (e : ℕ × StationState SessionDevice). e.0) w.stations)).stations
cut_idle w = all_dropped (map (λ (e : ℕ × StationState SessionDevice). e.0) w.stations) w (λ d x there. inl (found_has w.stations d x there))
