use Rattle.std.proofs.Common.{◌≡◌, ◌∙◌, ◌≤◌, ap, subst, sym, ℕ, List, length, arith}
use Rattle.std.specs.List.{insert}
use Rattle.std.specs.List.Sorted.{IsNonDecreasingBy, IsPartitionPoint}
use Rattle.std.specs.Ordering.{nat_cmp, ordering_index}
use Rattle.std.specs.declared.cmp.Ordering.TheVariants.{Less, Greater}
use Rattle.rd_station.specs.Station.{StationState}
use Rattle.rd_served_devices.specs.ServedDevices.{ServedDeviceState}
use Rattle.rd_sharing.specs.Closing.{AreUntroubled, station_devices}
use Rattle.rd_sharing.proofs.ClosingLemmas.{faultless_at}
use Rattle.rd_sharing.proofs.devices.Devices.add.Goals as goal

pub insert-requires : goal.insert-requires
insert-requires g c =
    let within = subst (λ (ks : List ℕ). c.in-Err.place ≤ length ks) c.deref.ensures.value c.in-Err.ensures.bound in
    omega (arith, within, c.args.self.now.ids.ok.0)

pub insert-requires-2 : goal.insert-requires-2
insert-requires-2 g c =
    let within = subst (λ (ks : List ℕ). c.in-Err.place ≤ length ks) c.deref.ensures.value c.in-Err.ensures.bound in
    omega (arith, within, c.requires.same.stations, c.args.self.now.stations.ok.0)

pub insert-requires-3 : goal.insert-requires-3
insert-requires-3 g c =
    let within = subst (λ (ks : List ℕ). c.in-Err.place ≤ length ks) c.deref.ensures.value c.in-Err.ensures.bound in
    omega (arith, within, c.requires.same.announced, c.args.self.now.announced.ok.0)

pub returns-clause-added : goal.returns-clause-added
returns-clause-added g c = record {
  place = c.in-Err.place;
  within = subst (λ (ks : List ℕ). c.in-Err.place ≤ length ks) c.deref.ensures.value c.in-Err.ensures.bound;
  found = subst (λ (ks : List ℕ). IsNonDecreasingBy (λ (k : ℕ). ordering_index (nat_cmp k c.args.id)) ks
      → IsPartitionPoint (λ (k : ℕ). nat_cmp k c.args.id ≡ Less) (λ (k : ℕ). nat_cmp k c.args.id ≡ Greater) ks c.in-Err.place) c.deref.ensures.value c.in-Err.ensures.position;
  few = omega (arith, c.args.self.now.ids.ok.0);
  ids_are = c.in_ok-insert.ensures.items;
  stations_are = c.in_ok-insert-2.ensures.items ∙ ap (λ (s : StationState ServedDeviceState). insert c.args.self.now.stations.items c.in-Err.place s) c.in-Ok.ensures.made;
  announced_are = c.in_ok-insert-3.ensures.items;
  writable = c.requires.writable;
}

pub returns-clause-calm : goal.returns-clause-calm
returns-clause-calm g c =
    subst (λ (l : List (StationState ServedDeviceState)). AreUntroubled (station_devices l))
    (sym (c.in_ok-insert-2.ensures.items ∙ ap (λ (s : StationState ServedDeviceState). insert c.args.self.now.stations.items c.in-Err.place s) c.in-Ok.ensures.made))
    (faultless_at c.args.self.now.stations.items c.in-Err.place c.args.device c.requires.calm c.requires.faultless)

pub returns-in_err-insert-3-clause-calm : goal.returns-in_err-insert-3-clause-calm
returns-in_err-insert-3-clause-calm g c =
    subst (λ (l : List (StationState ServedDeviceState)). AreUntroubled (station_devices l))
    (sym (c.in_ok-insert-2.ensures.items ∙ ap (λ (s : StationState ServedDeviceState). insert c.args.self.now.stations.items c.in-Err.place s) c.in-Ok.ensures.made))
    (faultless_at c.args.self.now.stations.items c.in-Err.place c.args.device c.requires.calm c.requires.faultless)
