-- In each world that lines come to, a client's marks are what was done: a device is marked that was removed and not added since.
use Rattle.std.proofs.Common.{◌≡◌, ◌∙◌, refl, sym, ap, subst, ℕ, ◌==◌, ◌&&◌, ◌||◌, arith, Bool, true, false, not, List, [], ◌∷◌, map, fold, Some, None, Option, Ok}
use Rattle.std.specs.Prelude.{filter_map, if◌then◌else◌}
use Rattle.std.specs.List.{AllByRecursion}
use Rattle.std.specs.Option.{option_map_or}
use Rattle.std.proofs.lemmas.Bool.Decides.{nat_tests}
use Rattle.rd_base.specs.declared.journal.Key.{Key}
use Rattle.rd_client.specs.Core as client
use Rattle.rd_client.specs.Core.{ClientCoreState, ClientDevice, Outgoing, client_hear, device_marked, present_device}
use Rattle.rd_client.specs.declared.heard.Heard.TheVariants.{Ask}
use Rattle.rd_controls.proofs.Acting.{all_dropped, all_refreshed}
use Rattle.rd_controls.proofs.Marks.{refresh_marks}
use Rattle.rd_controls.proofs.ReadyLemmas.{client_kept}
use Rattle.rd_controls.proofs.Unseen.{Seen, Unseen, heard_unseen, mark, option_unseen, seen, stationed}
use Rattle.rd_devices.specs.declared.list.Announce.{Announce}
use Rattle.rd_controls.proofs.RunsBeginningLemmas.{Unset, begins_as}
use Rattle.rd_controls.proofs.RunsParts.{IsBehind, MayBe, Part, accepts, adds_one, applies_one, begins, by_parts, client_gets, client_hears_one, client_keeps_part, client_sends_one, collects_one, done, draws_one, ends, hands_out, host_gets, host_hears_one, host_keeps_part, host_sends_one, idle_one, queues_one, refreshed_by, refuses, removes_one, takes_one, tells_one, told_added, told_removed, tries_one}
use Rattle.rd_script.specs.declared.line.NumberedLine.{NumberedLine}
use Rattle.rd_station.specs.Station as station
use Rattle.rd_station.specs.Station.{StationState}
use Rattle.rd_world.specs.Acts.{act_by}
use Rattle.rd_world.specs.Control.{Act, added, removed}
use Rattle.rd_declared.specs.declared.device.SessionDevice.{SessionDevice}
use Rattle.rd_declared.specs.Devices.{PrinterNames, device_cut, printer_data}
use Rattle.rd_world.specs.Events.{came_of, deed_on, dropping, refreshing}
use Rattle.rd_world.specs.Hearing.{with_client}
use Rattle.rd_deeds.specs.Talk.{Deed, adds, client_reads, client_writes, completes, host_begins, host_ends, host_reads, host_writes, is_removed, removes, stores, submits, takes, tells}
use Rattle.rd_world.specs.World.{WorldState, with_deed, with_station}

-- whether a device was removed and not added since, by what was done, the newest first
abbrev removed_by : ℕ → List Act → Bool
removed_by device [] = false
removed_by device (removed d ∷ before) = d == device || removed_by device before
removed_by device (added d ∷ before) = not (d == device) && removed_by device before
removed_by device (act ∷ before) = removed_by device before

removed_acts : (device : ℕ) (deeds : List Deed) → is_removed device deeds ≡ removed_by device (filter_map act_by deeds)
removed_acts device [] = refl
removed_acts device (host_begins channel ∷ deeds) = removed_acts device deeds
removed_acts device (host_ends channel ∷ deeds) = removed_acts device deeds
removed_acts device (removes d ∷ deeds) = ap (λ (b : Bool). d == device || b) (removed_acts device deeds)
removed_acts device (adds d ∷ deeds) = ap (λ (b : Bool). not (d == device) && b) (removed_acts device deeds)
removed_acts device (submits a named o ∷ deeds) = removed_acts device deeds
removed_acts device (takes n ∷ deeds) = removed_acts device deeds
removed_acts device (tells n ∷ deeds) = removed_acts device deeds
removed_acts device (host_writes c m ∷ deeds) = removed_acts device deeds
removed_acts device (host_reads c m ∷ deeds) = removed_acts device deeds
removed_acts device (client_reads c m ∷ deeds) = removed_acts device deeds
removed_acts device (client_writes c m ∷ deeds) = removed_acts device deeds
removed_acts device (completes key m ∷ deeds) = removed_acts device deeds
removed_acts device (stores d item ∷ deeds) = removed_acts device deeds

abbrev AreMarked : List Act → List (ℕ × Bool) → Type 0
AreMarked acts marks = AllByRecursion (λ (m : ℕ × Bool). m.1 ≡ removed_by m.0 acts) marks

abbrev Marked : Seen → Type 0
Marked s = AreMarked s.acts s.marks

-- each device of the client is marked where it was removed and not added since
abbrev pub MarksAre : List Deed → List ClientDevice → Type 0
MarksAre deeds ds = AllByRecursion (λ (d : ClientDevice). d.removed ≡ is_removed (d.announce).id deeds) ds

marks_by : (deeds : List Deed) (ds : List ClientDevice) → AreMarked (filter_map act_by deeds) (map mark ds) → MarksAre deeds ds
marks_by deeds [] all = tt
marks_by deeds (d ∷ ds) all = (all.0 ∙ sym (removed_acts (d.announce).id deeds), marks_by deeds ds all.1)

unseen_marked : (w v : WorldState) → Unseen w v → Marked (seen w) → Marked (seen v)
unseen_marked w v u m = subst Marked (sym u.same) m

turned : (a b : ℕ) → (a == b) ≡ (b == a)
turned a b = by (a == b) refl (b == a) refl
  where
    by : (x : Bool) → (a == b) ≡ x → (y : Bool) → (b == a) ≡ y → x ≡ y
    by true e true f = refl
    by true e false f = grind (arith, nat_tests, e, f)
    by false e true f = grind (arith, nat_tests, e, f)
    by false e false f = refl

removed_marked : (device : ℕ) (acts : List Act) (ds : List ClientDevice) → AreMarked acts (map mark ds) → AreMarked (removed device ∷ acts) (map mark (map (device_marked device true) ds))
removed_marked device acts [] all = tt
removed_marked device acts (d ∷ ds) all = (by ((d.announce).id == device) refl, removed_marked device acts ds all.1)
  where
    by : (b : Bool) → ((d.announce).id == device) ≡ b → let m = mark (if b then record d { removed = true } else d) in m.1 ≡ (device == m.0 || removed_by m.0 acts)
    by true e = rw (turned device (d.announce).id, e) refl
    by false e = rw (turned device (d.announce).id, e) all.0

added_marked : (device : ℕ) (acts : List Act) (ds : List ClientDevice) → AreMarked acts (map mark ds) → AreMarked (added device ∷ acts) (map mark (map (device_marked device false) ds))
added_marked device acts [] all = tt
added_marked device acts (d ∷ ds) all = (by ((d.announce).id == device) refl, added_marked device acts ds all.1)
  where
    by : (b : Bool) → ((d.announce).id == device) ≡ b → let m = mark (if b then record d { removed = false } else d) in m.1 ≡ (not (device == m.0) && removed_by m.0 acts)
    by true e = rw (turned device (d.announce).id, e) refl
    by false e = rw (turned device (d.announce).id, e) all.0

own_deed_none : (channel : ℕ) (o : Outgoing) (deeds : List Deed) → filter_map act_by (deed_on channel o ∷ deeds) ≡ filter_map act_by deeds
own_deed_none channel o deeds = by o.answers
  where
    by : (a : Option Key) → filter_map act_by (option_map_or (λ key. completes key o.message) a (client_writes channel o.message) ∷ deeds) ≡ filter_map act_by deeds
    by None = refl
    by (Some key) = refl

sent_devices : (c after : ClientCoreState) (o : Outgoing) → client.client_send c ≡ (after, Some o) → after.devices ≡ c.devices
sent_devices c after o made = ap (λ (r : ClientCoreState × Option Outgoing). (r.0).devices) (sym made)

module _ (lines : List NumberedLine) (starves : Key → Bool) where
  part_marked : (w : WorldState) (p : Part) → MayBe lines starves w p → Marked (seen w) → Marked (seen (done starves w p))
  part_marked w (accepts a asked named t number) may m = m
  part_marked w (refuses a asked cause) may m = m
  part_marked w (hands_out a number t taken None) may m = m
  part_marked w (hands_out a number t taken (Some asked)) may m = m
  part_marked w (host_sends_one message) may m = m
  part_marked w (host_gets n) may m = m
  part_marked w host_keeps_part may m = m
  part_marked w (host_hears_one message rest) may m = m
  part_marked w (tells_one n) may m = m
  part_marked w begins may m =
      unseen_marked w (fold refreshing w (map (λ (e : ℕ × PrinterNames). e.0) w.printers)) (all_refreshed [] lines (map (λ (e : ℕ × PrinterNames). e.0) w.printers) w) m
  part_marked w ends may m =
      let ids : List ℕ = map (λ (e : ℕ × StationState SessionDevice). e.0) w.stations in unseen_marked w (fold dropping w ids) (all_dropped [] lines ids w) m
  part_marked w (client_sends_one after o) made m =
      subst (λ (ds : List ClientDevice). AreMarked (filter_map act_by (deed_on w.channels o ∷ w.deeds)) (map mark ds)) (sym (sent_devices w.client after o made))
      (subst (λ (acts : List Act). AreMarked acts (map mark (w.client).devices)) (sym (own_deed_none w.channels o w.deeds)) m)
  part_marked w (client_gets n) may m = m
  part_marked w client_keeps_part may m = m
  part_marked w (client_hears_one message rest) may m =
      let x : WorldState = record w { to_client = record w.to_client { part = []; taken = _; unhandled = rest } } in
      let heard = client_hear w.client message in
      let y : WorldState = with_deed (with_client x heard.0) (client_reads w.channels message) in
      let same : heard.0.devices ≡ (w.client).devices = (client_kept w.client message).devices in
      unseen_marked y (done starves w (client_hears_one message rest)) (heard_unseen ((w.client).core).shake y heard.1)
      (subst (λ (ds : List ClientDevice). AreMarked (filter_map act_by w.deeds) (map mark ds)) (sym same) m)
  part_marked w (tries_one k) may m =
      let x : WorldState = record w { kept = None } in unseen_marked x (done starves w (tries_one k)) (heard_unseen ((w.client).core).shake x (Ok (Ask k.device k.job))) m
  part_marked w (collects_one device s after c) may m = unseen_marked w (with_station w device after) (stationed w device after) m
  part_marked w (takes_one device hand s after job) may m = unseen_marked w (with_station w device after) (stationed w device after) m
  part_marked w (applies_one hand device job None) may m = m
  part_marked w (applies_one hand device job (Some s)) may m =
      let after : StationState SessionDevice = (station.apply s job w.moment (came_of starves w job s.device)).0 in unseen_marked w (with_station w device after) (stationed w device after) m
  part_marked w (removes_one device o) may m =
      let x : WorldState = told_removed w device in
      unseen_marked x (done starves w (removes_one device o))
      (option_unseen x (λ (s : StationState SessionDevice). with_station x device (station.remove s (device_cut s.device).state).0) o (λ s. stationed x device (station.remove s (device_cut s.device).state).0))
      (removed_marked device (filter_map act_by w.deeds) (w.client).devices m)
  part_marked w (adds_one device names o) may m =
      let x : WorldState = told_added (refreshed_by w device names) device in
      unseen_marked x (done starves w (adds_one device names o))
      (option_unseen x (λ (s : StationState SessionDevice). with_station x device (station.announce s).0) o (λ s. stationed x device (station.announce s).0))
      (by names)
    where
      by : (names : Option PrinterNames) → Marked (seen (told_added (refreshed_by w device names) device))
      by None = added_marked device (filter_map act_by w.deeds) (w.client).devices m
      by (Some own) =
          added_marked device (filter_map act_by w.deeds) (client.refresh w.client device (printer_data w.cache own)).devices
          (subst (AreMarked (filter_map act_by w.deeds)) (sym (refresh_marks w.client device (printer_data w.cache own))) m)
  part_marked w (queues_one a) may m = m
  part_marked w (idle_one number) may m = m
  part_marked w draws_one may m = m

  none_marked : (devices : List Announce) → AreMarked [] (map mark (map present_device devices))
  none_marked [] = tt
  none_marked (a ∷ devices) = (refl, none_marked devices)

  seen_marked : (w : WorldState) → IsBehind lines starves w → Marked (seen w)
  seen_marked = by_parts lines starves (λ x. Marked (seen x)) (begins_as lines (λ (u : Unset). AreMarked (filter_map act_by u.deeds) (map mark (u.client).devices)) (none_marked _))
      (λ w p before after may m. part_marked w p may m)

  pub behind_marked : (w : WorldState) → IsBehind lines starves w → MarksAre w.deeds (w.client).devices
  behind_marked w behind = marks_by w.deeds (w.client).devices (seen_marked w behind)

  -- the same of the world before a channel begins, with its printers' data
  pub refreshed_marked : (w : WorldState) → IsBehind lines starves w → let fresh = fold refreshing w (map (λ (e : ℕ × PrinterNames). e.0) w.printers) in MarksAre fresh.deeds (fresh.client).devices
  refreshed_marked w behind =
      let fresh : WorldState = fold refreshing w (map (λ (e : ℕ × PrinterNames). e.0) w.printers) in
      marks_by fresh.deeds (fresh.client).devices
      (unseen_marked w fresh (all_refreshed [] lines (map (λ (e : ℕ × PrinterNames). e.0) w.printers) w) (seen_marked w behind))
