-- A channel that ended isn't written on, so where each channel opened it ends only after its devices were told of.
use Rattle.std.proofs.Common.{◌≡◌, ◌⊎◌, ◌∙◌, refl, sym, ap, subst, inl, inr, ℕ, ◌+◌, ◌<◌, ◌≤◌, ◌==◌, ◌||◌, Bool, true, false, arith, eq-eqb, eqb-true, List, [], ◌∷◌, ◌++◌, length, map, fold, Some, None, Option, append-nil}
use Rattle.std.specs.Prelude.{Contains, filter, if◌then◌else◌}
use Rattle.std.specs.List.{AllByRecursion, cons_option}
use Rattle.std.specs.Option.{IfSome, option_map_or}
use Rattle.rd_base.specs.declared.journal.Key.{Key}
use Rattle.rd_client.specs.Core.{Outgoing}
use Rattle.rd_base.specs.declared.journal.Item.{Item}
use Rattle.rd_base.specs.declared.journal.Item.TheVariants.{Came}
use Rattle.rd_rest.proofs.JournalsRunLemmas.{behind_orderly}
use Rattle.rd_rest.specs.JournalsOrderly.{Orderly}
use Rattle.rd_station.proofs.Remembering.{came_named}
use Rattle.rd_deeds.proofs.Journals.{has_contains}
use Rattle.rd_rest.proofs.JournalsChannelLemmas.{all_refreshed, begun_on}
use Rattle.rd_rest.proofs.RunsParts.{IsBehind, MayBe, Part, adds_one, announced_by, begins, by_parts, client_hears_one, client_sends_one, done, ends, refreshed_by, removes_one, told_added, told_removed}
use Rattle.rd_rest.proofs.RunsStanding.{Stands, needs_open}
use Rattle.rd_rest.proofs.RunsTogether.{knows}
use Rattle.rd_rest.specs.RunsPremises.{RunPremises}
use Rattle.rd_script.specs.declared.line.NumberedLine.{NumberedLine}
use Rattle.rd_station.specs.Station as station
use Rattle.rd_station.specs.Station.{StationState}
use Rattle.rd_world.proofs.BeginningLemmas.{begun_by}
use Rattle.rd_world.proofs.OpeningLemmas.{lines_begin}
use Rattle.rd_world.specs.Acts.{Opens, is_telling, tellings_on}
use Rattle.rd_declared.specs.Devices.{Declared, PrinterNames, device_cut}
use Rattle.rd_world.specs.Events.{dropping}
use Rattle.rd_declared.specs.Declaring.{bare_lines, declared_devices}
use Rattle.rd_deeds.specs.Talk.{Deed, EachAfter, adds, client_reads, client_writes, completes, has_ended, host_begins, host_ends, journal, open_channel, removes, Has}
use Rattle.rd_world.specs.World.{WorldState, station_at, with_station}
use Rattle.rd_declared.specs.declared.device.SessionDevice.{SessionDevice}
use Rattle.rd_acted.proofs.PassingLemmas.{all_dropped_unspoken, left_one, left_unspoken, quiet_unspoken}
use Rattle.rd_acted.proofs.QuietLemmas.{AreSilent, IsSilent, Unspoken, hears_unspoken, option_unspoken, stationed_unspoken}
use Rattle.rd_acted.proofs.ReadLemmas.{part_well, premises_fit}
use Rattle.rd_acted.proofs.SayingLemmas.{completes_tell, told_longer, writes_tell}
use Rattle.rd_acted.proofs.TellLemmas.{AnswersUntold, TellsAs, behind_tells, sent_is}
use Rattle.rd_acted.specs.Acted.{AreReadWell, EndsTold, control_by_deeds}

-- what was told on a channel that ended is what was told until then
abbrev pub EndsAsTold : List Deed → ℕ → List Deed → Deed → Type 0
EndsAsTold deeds last before (host_ends c) =
    (tellings_on c deeds ≡ tellings_on c before) × (has_ended c deeds ≡ true) × (1 ≤ c) × (c ≤ last) × ((d : ℕ) (k : Key) → Has (Came k) (journal d before) → k.channel ≤ c)
EndsAsTold deeds last before deed = Unit {0}

-- Channels that ended are below the last one, or that is it and none is open; and what was told on them stays.
pub record AreOver (ids : List ℕ) (deeds : List Deed) (last : ℕ) : Type 0 where
  pub over : (c : ℕ) → has_ended c deeds ≡ true → (c < last) ⊎ ((c ≡ last) × (open_channel deeds ≡ None))
  pub some : (c : ℕ) → open_channel deeds ≡ Some c → 1 ≤ c
  pub each : EachAfter (EndsAsTold deeds last) deeds
  pub channels : (control_by_deeds ids deeds).channels ≡ last

ends_as : (old new : List Deed) (last next : ℕ) → last ≤ next → ((c : ℕ) → has_ended c old ≡ true → (tellings_on c new ≡ tellings_on c old) × (has_ended c new ≡ true)) → (ds : List Deed) → EachAfter (EndsAsTold old last) ds
    → EachAfter (EndsAsTold new next) ds
ends_as old new last next more same [] each = tt
ends_as old new last next more same (x ∷ ds) each = (one x each.0, ends_as old new last next more same ds each.1)
  where
    one : (y : Deed) → EndsAsTold old last ds y → EndsAsTold new next ds y
    one (host_ends c) (told, ended, least, most, keys) = let (kept, still) = same c ended in (kept ∙ told, still, least, omega (arith, most, more), keys)
    one y is = tt

-- by a deed that ends no channel, and tells on none that ended
one_over : (ids : List ℕ) (x : Deed) (deeds : List Deed) (last : ℕ) → ((c : ℕ) → has_ended c (x ∷ deeds) ≡ has_ended c deeds) → open_channel (x ∷ deeds) ≡ open_channel deeds → ((c : ℕ) → has_ended c deeds ≡ true → tellings_on c (x ∷ deeds) ≡ tellings_on c deeds)
    → EndsAsTold (x ∷ deeds) last deeds x → (control_by_deeds ids (x ∷ deeds)).channels ≡ (control_by_deeds ids deeds).channels → AreOver ids deeds last → AreOver ids (x ∷ deeds) last
one_over ids x deeds last ended opened told own channels is = record {
  over = λ c e. elim (is.over c (sym (ended c) ∙ e)) [ inl below ↦ inl below | inr shut ↦ inr (shut.0, opened ∙ shut.1) ];
  some = λ c e. is.some c (sym opened ∙ e);
  each = (own, ends_as deeds (x ∷ deeds) last last (omega arith) (λ c e. (told c e, ended c ∙ e)) deeds is.each);
  channels = channels ∙ is.channels;
}

silent_over : (ids : List ℕ) (more deeds : List Deed) (last : ℕ) → AreSilent more → AreOver ids deeds last → AreOver ids (more ++ deeds) last
silent_over ids [] deeds last silent is = is
silent_over ids (x ∷ more) deeds last silent is =
    let left = left_one x (more ++ deeds) silent.0 in
    one_over ids x (more ++ deeds) last left.ended left.opened (λ c e. left.told c) (none x silent.0) (left.channels ids) (silent_over ids more deeds last silent.1 is)
  where
    none : (y : Deed) → IsSilent y → EndsAsTold (x ∷ more ++ deeds) last (more ++ deeds) y
    none (host_ends c) off = absurd off
    none y off = tt

quiet_over : (ids : List ℕ) (w v : WorldState) → Unspoken w v → AreOver ids w.deeds w.channels → AreOver ids v.deeds v.channels
quiet_over ids w v u is = subst (λ (n : ℕ). AreOver ids v.deeds n) (sym u.channels) (subst (λ (ds : List Deed). AreOver ids ds w.channels) (sym u.deeds) (silent_over ids u.more w.deeds w.channels u.silent is))

begun_over : (ids : List ℕ) (n : ℕ) (deeds : List Deed) → AreOver ids deeds n → AreOver ids (host_begins (n + 1) ∷ deeds) (n + 1)
begun_over ids n deeds is = record {
  over = λ c e. elim (is.over c e) [ inl below ↦ inl (omega (arith, below)) | inr shut ↦ inl (omega (arith, shut.0)) ];
  some = λ c e. (let same : n + 1 ≡ c = cc e in omega (arith, same));
  each = (tt, ends_as deeds (host_begins (n + 1) ∷ deeds) n (n + 1) (omega arith) (λ c e. (refl, e)) deeds is.each);
  channels = refl;
}

ended_over : (ids : List ℕ) (n : ℕ) (deeds : List Deed) → open_channel deeds ≡ Some n → ((d : ℕ) (k : Key) → Has (Came k) (journal d deeds) → k.channel ≤ n) → AreOver ids deeds n → AreOver ids (host_ends n ∷ deeds) n
ended_over ids n deeds opened keys is = record {
  over = λ c e. by c (n == c) refl e;
  some = λ c e. absurd (cc e);
  each = (
    (refl, ap (λ (b : Bool). b || has_ended n deeds) (eq-eqb n n refl), is.some n opened, omega arith, keys),
    ends_as deeds (host_ends n ∷ deeds) n n (omega arith) (λ c e. (refl, more c (n == c) e)) deeds is.each,
  );
  channels = is.channels;
}
  where
    more : (c : ℕ) (b : Bool) → has_ended c deeds ≡ true → (b || has_ended c deeds) ≡ true
    more c true e = refl
    more c false e = e

    by : (c : ℕ) (b : Bool) → (n == c) ≡ b → (b || has_ended c deeds) ≡ true → (c < n) ⊎ ((c ≡ n) × (◌≡◌ {A = Option ℕ} None None))
    by c true f e = inr (sym (eqb-true n c f), refl)
    by c false f e = elim (is.over c e) [ inl below ↦ inl below | inr shut ↦ absurd (cc (opened, shut.1)) ]

module _ (lines : List NumberedLine) (starves : Key → Bool) (premises : RunPremises lines) (ids : List ℕ) where
  -- what is told on the channel that is open is told on no other
  other_told : (w : WorldState) (o : Outgoing) → open_channel w.deeds ≡ Some w.channels → AreOver ids w.deeds w.channels → (c : ℕ) → has_ended c w.deeds ≡ true → (w.channels == c) ≡ false
  other_told w o opened is c e = by (w.channels == c) refl
    where
      by : (b : Bool) → (w.channels == c) ≡ b → b ≡ false
      by true f =
          let same : w.channels ≡ c = eqb-true w.channels c f in
          elim (is.over c e) [ inl below ↦ absurd (omega (arith, below, same)) | inr shut ↦ absurd (cc (opened, shut.1)) ]
      by false f = refl

  -- what came is of no later channel
  came_under : (w : WorldState) → Orderly w → (d : ℕ) (k : Key) → Has (Came k) (journal d w.deeds) → k.channel ≤ w.channels
  came_under w ordered d k has = by (station_at w d) refl
    where
      by : (o : Option (StationState SessionDevice)) → station_at w d ≡ o → k.channel ≤ w.channels
      by None there = absurd (subst (Has (Came k)) ((ordered.held).none d there) has)
      by (Some s) there =
          let names = came_named s.journal k (subst (λ (xs : List Item). Contains xs (Came k)) ((ordered.held).tied d s there) (has_contains (Came k) (journal d w.deeds) has)) in
          elim ((ordered.held).named d s there k names) [ inl less ↦ omega (arith, less) | inr here ↦ omega (arith, here.0) ]

  part_over : (w : WorldState) (p : Part) → MayBe lines starves w p → Stands w → (TellsAs (declared_devices (bare_lines lines)) w) → Orderly (done starves w p) → AreOver ids w.deeds w.channels → AreOver ids (done starves w p).deeds (done starves w p).channels
  part_over w begins may stands t after is =
      subst (λ (x : WorldState). AreOver ids (begun_on w x).deeds (w.channels + 1)) (sym (all_refreshed (map (λ (e : ℕ × PrinterNames). e.0) w.printers) w)) (begun_over ids w.channels w.deeds is)
  part_over w ends may stands t after is =
      let stations : List ℕ = map (λ (e : ℕ × StationState SessionDevice). e.0) w.stations in
      let u = all_dropped_unspoken stations w in
      let cut : WorldState = fold dropping w stations in
      ended_over ids cut.channels cut.deeds (open_left w cut u (needs_open lines starves w ends may tt stands)) (λ d k has. came_under (done starves w ends) after d k has) (quiet_over ids w cut u is)
    where
      open_left : (x y : WorldState) → Unspoken x y → open_channel x.deeds ≡ Some x.channels → open_channel y.deeds ≡ Some y.channels
      open_left x y u opened = (left_unspoken x y u).opened ∙ opened ∙ ap (λ (n : ℕ). Some n) (sym u.channels)
  part_over w (client_sends_one c o) may stands t after is = by o.answers refl
    where
      opened : open_channel w.deeds ≡ Some w.channels
      opened = needs_open lines starves w (client_sends_one c o) may tt stands

      by : (key : Option Key) → o.answers ≡ key → AreOver ids (option_map_or (λ i. completes i o.message) key (client_writes w.channels o.message) ∷ w.deeds) w.channels
      by None e =
          one_over ids (client_writes w.channels o.message) w.deeds w.channels (λ k. refl) refl
          (λ k ended.
          writes_tell k w.channels o.message w.deeds
          ∙ ap (λ (b : Bool). tellings_on k w.deeds ++ filter is_telling (cons_option (if b then Some o.message else None) [])) (other_told w o opened is k ended)
          ∙ append-nil (tellings_on k w.deeds)) tt refl is
      by (Some key) e =
          let (rest, outbox, same) = sent_is w.client c o may in
          let untold = (subst (λ (os : List Outgoing). AllByRecursion AnswersUntold os) outbox t.answers).0 in
          let silent = subst (λ (k : Option Key). IfSome k (λ (i : Key). is_telling o.message ≡ false)) e untold in
          one_over ids (completes key o.message) w.deeds w.channels (λ k. refl) refl (λ k ended. completes_tell k key o.message w.deeds silent) tt refl is
  part_over w (client_hears_one message rest) may stands t after is =
      let x : WorldState = record w { to_client = record w.to_client { part = []; taken = _; unhandled = rest } } in
      let u = hears_unspoken x message in
      subst (λ (n : ℕ). AreOver ids (done starves w (client_hears_one message rest)).deeds n) (sym u.channels)
      (subst (λ (ds : List Deed). AreOver ids ds w.channels) (sym u.deeds)
      (silent_over ids u.more (client_reads w.channels message ∷ w.deeds) w.channels u.silent (silent_over ids (client_reads w.channels message ∷ []) w.deeds w.channels (tt, tt) is)))
  part_over w (removes_one device o) may stands t after is =
      let told : WorldState = told_removed w device in
      quiet_over ids told _ (option_unspoken told (λ (s : StationState SessionDevice). with_station told device (station.remove s (device_cut s.device).state).0) o
      (λ s. stationed_unspoken told device (station.remove s (device_cut s.device).state).0))
      (one_over ids (removes device) w.deeds w.channels (λ k. refl) refl (λ k e. refl) tt refl is)
  part_over w (adds_one device names o) may stands t after is = by names
    where
      announced : (x : WorldState) → AreOver ids x.deeds x.channels → AreOver ids (announced_by x device o).deeds (announced_by x device o).channels
      announced x own = quiet_over ids x _ (option_unspoken x (λ (y : StationState SessionDevice). with_station x device (station.announce y).0) o (λ y. stationed_unspoken x device (station.announce y).0)) own

      added : AreOver ids (adds device ∷ w.deeds) w.channels
      added = one_over ids (adds device) w.deeds w.channels (λ k. refl) refl (λ k e. refl) tt refl is

      by : (n : Option PrinterNames) → AreOver ids (announced_by (told_added (refreshed_by w device n) device) device o).deeds (announced_by (told_added (refreshed_by w device n) device) device o).channels
      by None = announced (told_added w device) added
      by (Some found) = announced (told_added (refreshed_by w device (Some found)) device) added
  part_over w p may stands t after is = quiet_over ids w (done starves w p) (quiet_unspoken starves w p tt) is

  pub behind_over : (w : WorldState) → IsBehind lines starves w → AreReadWell w.deeds → AreOver ids w.deeds w.channels
  behind_over =
      by_parts lines starves (λ w. AreReadWell w.deeds → AreOver ids w.deeds w.channels)
      (λ well. subst (λ (x : WorldState). AreOver ids x.deeds x.channels) (sym (begun_by lines _ (lines_begin lines))) (record { over = λ c e. absurd (cc e); some = λ c e. absurd (cc e); each = tt; channels = refl }))
      (λ w p before after may is well.
      let earlier = part_well lines starves w p may well in
      part_over w p may (knows lines starves premises w before).stands (behind_tells lines starves premises w before earlier) (behind_orderly lines starves (done starves w p) (premises_fit lines premises) after).0 (is earlier))

-- ---- where each channel opened

ends_told : (devices : List (ℕ × Declared)) (deeds : List Deed) (last : ℕ) → ((c : ℕ) → 1 ≤ c → c ≤ last → Opens devices deeds c) → (ds : List Deed) → EachAfter (EndsAsTold deeds last) ds → EachAfter EndsTold ds
ends_told devices deeds last opens [] each = tt
ends_told devices deeds last opens (x ∷ ds) each = (one x each.0, ends_told devices deeds last opens ds each.1)
  where
    one : (y : Deed) → EndsAsTold deeds last ds y → EndsTold ds y
    one (host_ends c) (told, ended, least, most, keys) = λ none.
        let (since, before, is, has) = opens c least most in
        let listed : length (tellings_on c before) ≡ 1 = has.listed in
        let longer : length (tellings_on c before) ≤ length (tellings_on c deeds) = subst (λ (es : List Deed). length (tellings_on c before) ≤ length (tellings_on c es)) (sym is) (told_longer c since before) in
        let short : length (tellings_on c deeds) ≡ 0 = ap length (told ∙ none) in
        omega (arith, listed, longer, short)
    one y is = tt

pub channels_end_told : (lines : List NumberedLine) (starves : Key → Bool) (premises : RunPremises lines) (w : WorldState) → IsBehind lines starves w → AreReadWell w.deeds
    → ((c : ℕ) → 1 ≤ c → c ≤ w.channels → Opens (declared_devices (bare_lines lines)) w.deeds c) → EachAfter EndsTold w.deeds
channels_end_told lines starves premises w b well opens = ends_told (declared_devices (bare_lines lines)) w.deeds w.channels opens w.deeds (behind_over lines starves premises [] w b well).each
