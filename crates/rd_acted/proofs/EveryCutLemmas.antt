-- In every world that lines come to devices were cut off where they are to be.
use Rattle.std.proofs.Common.{◌≡◌, ◌∙◌, refl, sym, ap, subst, inr, ℕ, ◌+◌, ◌==◌, ◌&&◌, ◌||◌, Bool, true, false, cond, not, arith, eq-eqb, List, [], ◌∷◌, ◌++◌, length, map, reverse, fold, Some, None, Option, is_some, length-append}
use Rattle.std.specs.Prelude.{filter}
use Rattle.std.specs.List.{list_any}
use Rattle.std.specs.List.Sorted.{IsStrictlySortedBy}
use Rattle.std.specs.Map.{lookup}
use Rattle.std.specs.Option.{option_map_or}
use Rattle.std.specs.Ordering.{nat_cmp}
use Rattle.std.specs.BTreeMap.{is_at}
use Rattle.std.proofs.lemmas.List.{reverse-reverse}
use Rattle.std.proofs.lemmas.List.Elements.{filter_map-append}
use Rattle.rd_base.specs.declared.journal.Cause.TheVariants.{Dropped}
use Rattle.rd_base.specs.declared.journal.Item.TheVariants.{Cut}
use Rattle.rd_base.specs.declared.journal.Key.{Key}
use Rattle.rd_client.specs.Core as client
use Rattle.rd_client.specs.Core.{ClientCoreState, Outgoing, has_device, is_gone}
use Rattle.rd_client.specs.Order.{is_client_ready}
use Rattle.rd_rest.proofs.ControlsUnseen.{client_ready}
use Rattle.rd_rest.proofs.JournalsChannelLemmas.{all_refreshed, begun_on}
use Rattle.rd_rest.proofs.JournalsRunLemmas.{behind_orderly}
use Rattle.rd_rest.specs.JournalsOrderly.{Orderly}
use Rattle.rd_rest.proofs.RunsParts.{IsBehind, MayBe, Part, accepts, adds_one, announced_by, applies_one, begins, by_parts, client_gets, client_hears_one, client_keeps_part, client_sends_one, collects_one, done, draws_one, ends, hands_out, host_gets, host_hears_one, host_keeps_part, host_sends_one, idle_one, queues_one, refreshed_by, refuses, removes_one, takes_one, tells_one, told_added, tries_one}
use Rattle.rd_rest.proofs.RunsReaching.{both}
use Rattle.rd_rest.proofs.RunsStanding.{Stands, needs_open, shut_now}
use Rattle.rd_rest.proofs.RunsTogether.{knows}
use Rattle.rd_rest.specs.RunsPremises.{RunPremises}
use Rattle.rd_script.specs.declared.line.NumberedLine.{NumberedLine}
use Rattle.rd_station.specs.Station as station
use Rattle.rd_station.specs.Station.{StationState}
use Rattle.rd_world.proofs.BeginningLemmas.{begun_by}
use Rattle.rd_declared.proofs.DeclaringLemmas.{declared_openable}
use Rattle.rd_world.proofs.OpeningLemmas.{lines_begin}
use Rattle.rd_world.specs.Acts.{tellings_on, there_at}
use Rattle.rd_declared.specs.Devices.{Declared, PrinterNames, device_cut, printer_data}
use Rattle.rd_world.specs.Events.{came_of, completion_message, cutting, dropping, is_channel_open, is_ready, refreshing}
use Rattle.rd_world.specs.Hearing.{with_client}
use Rattle.rd_declared.specs.Declaring.{bare_lines, declared_devices}
use Rattle.rd_world.specs.Run.{station_of, world_of}
use Rattle.rd_deeds.specs.Talk.{Deed, EachAfter, client_writes, completes, host_begins, host_ends, host_reads, host_writes, is_removed, journal, open_channel, stored_by, stores, submits, takes, tells}
use Rattle.rd_world.specs.World.{WorldState, client_sends, station_at, with_station}
use Rattle.rd_acted.proofs.CuttingLemmas.{AreCut, Of, all_dropped, ended_cut, is_live, none_live, plain_cut}
use Rattle.rd_acted.proofs.CutThereLemmas.{adds_there, hears_there, key_found, found_key, open_there, removes_there, shut_there}
use Rattle.rd_acted.proofs.PassingLemmas.{all_dropped_unspoken, left_unspoken}
use Rattle.rd_acted.proofs.ReadLemmas.{fewer_read, part_grows, premises_fit}
use Rattle.rd_acted.proofs.TellLemmas.{TellsAs, behind_tells, ids_in, sent_is}
use Rattle.rd_acted.proofs.ThereLemmas.{HasRoom, IsThere, applied_there, aside_there, collected_there, put_there, room_in, station_keyed, taken_there}
use Rattle.rd_acted.specs.Acted.{EndsTold, GoWell}

-- ---- what went well before

fewer_each : {A : Type 0} (P : List A → A → Type 0) (more xs : List A) → EachAfter P (more ++ xs) → EachAfter P xs
fewer_each P [] xs each = each
fewer_each P (x ∷ more) xs each = fewer_each P more xs each.1

pub fewer_well : (more deeds : List Deed) → GoWell (more ++ deeds) → GoWell deeds
fewer_well more deeds goes = record {
  well = fewer_read more deeds goes.well;
  ends = fewer_each EndsTold more deeds goes.ends;
  short = λ d.
      let longer : length (journal d (more ++ deeds)) ≡ length (journal d more) + length (journal d deeds) = ap length (filter_map-append (stored_by d) more deeds) ∙ length-append (journal d more) (journal d deeds) in
      omega (arith, longer, goes.short d);
}

module _ (devices : List (ℕ × Declared)) (rise : IsStrictlySortedBy nat_cmp (ids_in devices)) where
  -- ---- a channel begins, and ends

  begun_there : (w : WorldState) (c : ClientCoreState) → open_channel w.deeds ≡ None → IsThere devices w → IsThere devices (begun_on w (with_client w c))
  begun_there w c shut is = record {
    keyed = is.keyed;
    live = λ d s there. is.live d s there ∙ shut_there devices rise w d shut;
    cut = plain_cut devices (host_begins (w.channels + 1)) w.deeds tt is.cut;
  }

  dropped_keyed : (ds : List ℕ) (w : WorldState) → map (λ (e : ℕ × Of). e.0) w.stations ≡ ids_in devices → map (λ (e : ℕ × Of). e.0) (fold dropping w ds).stations ≡ ids_in devices
  dropped_keyed [] w keyed = keyed
  dropped_keyed (d ∷ ds) w keyed = dropped_keyed ds (dropping w d) (by (station_at w d) refl)
    where
      by : (o : Option Of) → station_at w d ≡ o → map (λ (e : ℕ × Of). e.0) (option_map_or (λ (s : Of). with_station w d (station.drop_channel s (device_cut s.device).state)) o w).stations ≡ ids_in devices
      by None there = keyed
      by (Some s) there = station_keyed devices rise w d s (station.drop_channel s (device_cut s.device).state) there keyed

  live_there : (w : WorldState) → open_channel w.deeds ≡ Some w.channels → client_ready w ≡ true → IsThere devices w → (ks : List ℕ) → ((d : ℕ) → list_any (λ k. k == d) ks ≡ true → list_any (λ k. k == d) (map (λ (e : ℕ × Of). e.0) w.stations) ≡ true)
      → filter (is_live w) ks ≡ filter (λ d. not (is_removed d w.deeds)) ks
  live_there w opened ready is [] among = refl
  live_there w opened ready is (k ∷ ks) among =
      let (s, there) = found_key w.stations k (among k (ap (λ (b : Bool). b || list_any (λ j. j == k) ks) (eq-eqb k k refl))) in
      let own : is_live w k ≡ not (is_removed k w.deeds) = ap (λ (o : Option Of). option_map_or (λ (t : Of). t.live) o false) there ∙ is.live k s there ∙ open_there devices rise w k opened ready in
      rw (own, live_there w opened ready is ks (λ d has. among d (more d has))) refl
    where
      more : (d : ℕ) → list_any (λ j. j == d) ks ≡ true → ((k == d) || list_any (λ j. j == d) ks) ≡ true
      more d has = by (k == d)
        where
          by : (b : Bool) → (b || list_any (λ j. j == d) ks) ≡ true
          by true = refl
          by false = has

  ended_there : (w : WorldState) → open_channel w.deeds ≡ Some w.channels → client_ready w ≡ true → IsThere devices w → IsThere devices (cutting w)
  ended_there w opened ready is =
      let ks : List ℕ = map (λ (e : ℕ × Of). e.0) w.stations in
      let cut : WorldState = fold dropping w ks in
      let rising : IsStrictlySortedBy nat_cmp ks = subst (λ (xs : List ℕ). IsStrictlySortedBy nat_cmp xs) (sym is.keyed) rise in
      let dropped : cut.deeds ≡ map (λ (d : ℕ). stores d (Cut Dropped)) (reverse (filter (is_live w) ks)) ++ w.deeds = all_dropped ks w rising in
      let those : filter (is_live w) ks ≡ there_at devices w.deeds = live_there w opened ready is ks (λ d has. has) ∙ ap (λ (xs : List ℕ). filter (λ d. not (is_removed d w.deeds)) xs) is.keyed in
      let keyed : map (λ (e : ℕ × Of). e.0) cut.stations ≡ ids_in devices = dropped_keyed ks w is.keyed in
      record {
        keyed = keyed;
        live = λ d s there.
            sym (ap (λ (o : Option Of). option_map_or (λ (t : Of). t.live) o false) there)
            ∙ none_live ks w d (inr (ap (λ (xs : List ℕ). list_any (λ k. k == d) xs) (is.keyed ∙ sym keyed) ∙ key_found cut.stations d s there));
        cut = subst (λ (ds : List Deed). AreCut devices (host_ends cut.channels ∷ ds)) (sym dropped)
            (ended_cut devices (reverse (filter (is_live w) ks)) w.deeds cut.channels (reverse-reverse (filter (is_live w) ks) ∙ those) is.cut);
      }

-- ---- every world

station_keys : (es : List (ℕ × Declared)) → map (λ (e : ℕ × Of). e.0) (map station_of es) ≡ ids_in es
station_keys [] = refl
station_keys (e ∷ es) = ap (λ (ks : List ℕ). e.0 ∷ ks) (station_keys es)

module _ (lines : List NumberedLine) (starves : Key → Bool) (premises : RunPremises lines) where
  abbrev devices : List (ℕ × Declared)
  devices = declared_devices (bare_lines lines)

  rise : IsStrictlySortedBy nat_cmp (ids_in devices)
  rise = (declared_openable lines premises.declared).rise

  first_there : IsThere devices (world_of lines)
  first_there = subst (IsThere devices) (sym (begun_by lines _ (lines_begin lines))) (record { keyed = station_keys devices; live = λ d s there. none devices d s there; cut = record { there = tt; all = tt } })
    where
      none : (es : List (ℕ × Declared)) (d : ℕ) (s : Of) → lookup (is_at (nat_cmp d)) (map station_of es) ≡ Some s → s.live ≡ false
      none [] d s there = absurd (cc there)
      none (e ∷ es) d s there = by (is_at (nat_cmp d) e.0) there (none es d s)
        where
          by : (b : Bool) → cond b (Some (station_of e).1) (lookup (is_at (nat_cmp d)) (map station_of es)) ≡ Some s → (lookup (is_at (nat_cmp d)) (map station_of es) ≡ Some s → s.live ≡ false) → s.live ≡ false
          by true found later = let is : (station_of e).1 ≡ s = cc found in sym (ap (λ (t : Of). t.live) is)
          by false found later = later found

  -- the client was ready where its channel ends
  ready_at_end : (w : WorldState) → Stands w → MayBe lines starves w ends → TellsAs devices w → GoWell (done starves w ends).deeds → client_ready w ≡ true
  ready_at_end w stands may t goes = by (client_ready w) refl
    where
      ks : List ℕ
      ks = map (λ (e : ℕ × Of). e.0) w.stations

      by : (b : Bool) → client_ready w ≡ b → b ≡ true
      by true e = refl
      by false e =
          let cut : WorldState = fold dropping w (map (λ (e : ℕ × Of). e.0) w.stations) in
          let u = all_dropped_unspoken (map (λ (e : ℕ × Of). e.0) w.stations) w in
          let none = (t.first (needs_open lines starves w ends may tt stands) e).0 in
          let untold : tellings_on w.channels w.deeds ≡ [] = first_none (tellings_on w.channels w.deeds) _ none in
          let same : tellings_on cut.channels cut.deeds ≡ tellings_on w.channels w.deeds = ap (λ (n : ℕ). tellings_on n cut.deeds) u.channels ∙ (left_unspoken w cut u).told w.channels in
          absurd (goes.ends.0 (same ∙ untold))
        where
          first_none : {A : Type 0} (xs ys : List A) → xs ++ ys ≡ [] → xs ≡ []
          first_none [] ys e = refl
          first_none (x ∷ xs) ys e = absurd (cc e)

  is_off : (b : Bool) → not b ≡ true → b ≡ false
  is_off true e = absurd cc
  is_off false e = refl

  part_there : (w : WorldState) (p : Part) → MayBe lines starves w p → Stands w → TellsAs devices w → ((d : ℕ) (s : Of) → station_at w d ≡ Some s → HasRoom s) → GoWell (done starves w p).deeds → IsThere devices w
      → IsThere devices (done starves w p)
  part_there w (accepts a asked named t number) may stands tells_as room goes is = aside_there devices rise w _ refl (λ q. refl) (plain_cut devices (submits a named _) w.deeds tt is.cut) is
  part_there w (refuses a asked cause) may stands tells_as room goes is = aside_there devices rise w _ refl (λ q. refl) is.cut is
  part_there w (hands_out a number t taken None) may stands tells_as room goes is = aside_there devices rise w _ refl (λ q. refl) (plain_cut devices (takes number) w.deeds tt is.cut) is
  part_there w (hands_out a number t taken (Some asked)) may stands tells_as room goes is = aside_there devices rise w _ refl (λ q. refl) (plain_cut devices (takes number) w.deeds tt is.cut) is
  part_there w (host_sends_one message) may stands tells_as room goes is = aside_there devices rise w _ refl (λ q. refl) (plain_cut devices (host_writes w.channels message) w.deeds tt is.cut) is
  part_there w (host_gets n) may stands tells_as room goes is = aside_there devices rise w _ refl (λ q. refl) is.cut is
  part_there w host_keeps_part may stands tells_as room goes is = aside_there devices rise w _ refl (λ q. refl) is.cut is
  part_there w (host_hears_one message rest) may stands tells_as room goes is = aside_there devices rise w _ refl (λ q. refl) (plain_cut devices (host_reads w.channels message) w.deeds tt is.cut) is
  part_there w (tells_one n) may stands tells_as room goes is = aside_there devices rise w _ refl (λ q. refl) (plain_cut devices (tells n) w.deeds tt is.cut) is
  part_there w begins may stands tells_as room goes is =
      subst (λ (x : WorldState). IsThere devices (begun_on w x)) (sym (all_refreshed (map (λ (e : ℕ × PrinterNames). e.0) w.printers) w))
      (begun_there devices rise w (fold refreshing w (map (λ (e : ℕ × PrinterNames). e.0) w.printers)).client (shut_now w stands (is_off (is_channel_open w) may)) is)
  part_there w ends may stands tells_as room goes is = ended_there devices rise w (needs_open lines starves w ends may tt stands) (ready_at_end w stands may tells_as goes) is
  part_there w (client_sends_one c o) made stands tells_as room goes is =
      let (rest, outbox, same) = sent_is w.client c o made in
      by o.answers (ap (λ (d : ClientCoreState). is_client_ready (d.core).shake) same)
    where
      by : (key : Option Key) → is_client_ready (c.core).shake ≡ client_ready w
          → IsThere devices (client_sends (with_client w c) (option_map_or (λ k. completes k o.message) key (client_writes w.channels o.message)) o.message)
      by None ready = aside_there devices rise w _ refl (λ q. ap (λ (b : Bool). is_some (open_channel w.deeds) && (b && not (is_removed q w.deeds))) ready) (plain_cut devices (client_writes w.channels o.message) w.deeds tt is.cut) is
      by (Some key) ready = aside_there devices rise w _ refl (λ q. ap (λ (b : Bool). is_some (open_channel w.deeds) && (b && not (is_removed q w.deeds))) ready) (plain_cut devices (completes key o.message) w.deeds tt is.cut) is
  part_there w (client_gets n) may stands tells_as room goes is = aside_there devices rise w _ refl (λ q. refl) is.cut is
  part_there w client_keeps_part may stands tells_as room goes is = aside_there devices rise w _ refl (λ q. refl) is.cut is
  part_there w (client_hears_one message rest) may stands tells_as room goes is =
      let x : WorldState = record w { to_client = record w.to_client { part = []; taken = _; unhandled = rest } } in
      hears_there devices rise x message (needs_open lines starves w (client_hears_one message rest) may tt stands) room tells_as.shaped (aside_there devices rise w x refl (λ q. refl) is.cut is)
  part_there w (tries_one k) may stands tells_as room goes is =
      let x : WorldState = record w { kept = None } in
      put_there devices rise x k.device k.job (aside_there devices rise w x refl (λ q. refl) is.cut is)
  part_there w (collects_one device s after c) (reached, idle, there, made) stands tells_as room goes is =
      let x : WorldState = with_station w device after in
      let own = collected_there devices rise w device s after c there made is in
      aside_there devices rise x _ refl (λ q. refl) (plain_cut devices (completes c.key (completion_message device c)) x.deeds tt own.cut) own
  part_there w (takes_one device hand s after job) (free, there, made) stands tells_as room goes is =
      let own = taken_there devices rise w device s after _ there made is in
      aside_there devices rise (with_station w device after) _ refl (λ q. refl) own.cut own
  part_there w (applies_one hand device job None) may stands tells_as room goes is = aside_there devices rise w _ refl (λ q. refl) is.cut is
  part_there w (applies_one hand device job (Some s)) (holds, there) stands tells_as room goes is =
      let own = applied_there devices rise w device s job w.moment (came_of starves w job s.device) there is in
      aside_there devices rise (with_station w device (station.apply s job w.moment (came_of starves w job s.device)).0) _ refl (λ q. refl) own.cut own
  part_there w (removes_one device o) (can, there) stands tells_as room goes is =
      let opened = needs_open lines starves w (removes_one device o) (can, there) tt stands in
      let (ready, kept) = both (is_ready w) (has_device w.client device && not (is_gone w.client device)) can in
      let (has, stays) = both (has_device w.client device) (not (is_gone w.client device)) kept in
      removes_there devices rise w device o there opened (both (is_channel_open w) (client_ready w) ready).1 has (is_off (is_gone w.client device) stays) tells_as.shaped is
  part_there w (adds_one device names o) (can, named, there) stands tells_as room goes is =
      let opened = needs_open lines starves w (adds_one device names o) (can, named, there) tt stands in
      let ready = (both (is_channel_open w) (client_ready w) (both (is_ready w) (is_gone w.client device) can).0).1 in
      by names opened ready
    where
      by : (n : Option PrinterNames) → open_channel w.deeds ≡ Some w.channels → client_ready w ≡ true → IsThere devices (announced_by (told_added (refreshed_by w device n) device) device o)
      by None opened ready = adds_there devices rise w w.client device o there opened ready ready room is
      by (Some found) opened ready = adds_there devices rise w (client.refresh w.client device (printer_data w.cache found)) device o there opened ready ready room is
  part_there w (queues_one a) may stands tells_as room goes is = aside_there devices rise w _ refl (λ q. refl) is.cut is
  part_there w (idle_one number) may stands tells_as room goes is = aside_there devices rise w _ refl (λ q. refl) is.cut is
  part_there w draws_one may stands tells_as room goes is = aside_there devices rise w _ refl (λ q. refl) is.cut is

  -- Each station is live just while its device is there, and devices were cut off where they are to be.
  pub behind_there : (w : WorldState) → IsBehind lines starves w → GoWell w.deeds → IsThere devices w
  behind_there =
      by_parts lines starves (λ w. GoWell w.deeds → IsThere devices w) (λ goes. first_there)
      (λ w p before after may is goes.
      let g = part_grows lines starves w p may in
      let earlier : GoWell w.deeds = fewer_well g.0 w.deeds (subst GoWell g.1 goes) in
      let ordered : Orderly w = (behind_orderly lines starves w (premises_fit lines premises) before).0 in
      part_there w p may (knows lines starves premises w before).stands (behind_tells lines starves premises w before earlier.well) (room_in w ordered earlier.short) goes (is earlier))
