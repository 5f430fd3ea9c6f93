-- A removal, an addition, a channel's begin and its end keep a world orderly.
use Rattle.std.proofs.Common.{◌≡◌, ◌∙◌, refl, sym, ap, subst, inl, inr, ℕ, suc, ◌+◌, ◌<◌, ◌≤◌, ◌==◌, ◌||◌, Bool, true, false, cond, List, [], ◌∷◌, length, map, arith, eq-eqb, eqb-true}
use Rattle.std.specs.Prelude.{Some, None, Option, filter, fold, is_some}
use Rattle.std.specs.Map.{lookup}
use Rattle.std.specs.Option.{option_map_or}
use Rattle.std.specs.Ordering.{nat_cmp}
use Rattle.std.specs.BTreeMap.{is_at}
use Rattle.std.proofs.Math.Bool.{or-true}
use Rattle.std.proofs.lemmas.Bool.Decides.{nat_tests}
use Rattle.rd_base.specs.declared.journal.Key.{Key}
use Rattle.rd_client.specs.Core as client
use Rattle.rd_client.specs.Core.{ClientCoreState, client_begin}
use Rattle.rd_pending.specs.Table as table
use Rattle.rd_pending.specs.Table.{TableState}
use Rattle.rd_station.specs.Station as station
use Rattle.rd_station.specs.Station.{StationState}
use Rattle.rd_declared.specs.Devices.{PrinterNames, device_cut, printer_data}
use Rattle.rd_world.specs.Events.{connects, cutting, dropping, refreshing}
use Rattle.rd_world.specs.Hearing.{with_client}
use Rattle.rd_deeds.specs.Host.{begins_on, ends_channel}
use Rattle.rd_deeds.specs.Talk.{adds, client_read, host_begins, host_ends, is_request, removes}
use Rattle.rd_world.specs.World.{WorldState, ending, new_way, station_at, with_deed, with_station}
use Rattle.rd_declared.specs.declared.device.SessionDevice.{SessionDevice}
use Rattle.rd_journals.specs.Orderly.{AreHeld, HasStation, Orderly, OrderlyOn, current}
use Rattle.rd_journals.specs.Reads.{IsGiven}
use Rattle.rd_journals.specs.Stations.{IsOn}
use Rattle.rd_journals.proofs.CallLemmas.{AnyJob, Goes, NoKey, dropped, removed}
use Rattle.rd_runs.proofs.Parts.{announced_by, cut_by, refreshed_by, told_added, told_removed}
use Rattle.rd_journals.proofs.ClientLemmas.{announced_orderly, channel_of, channel_open}
use Rattle.rd_journals.proofs.DeviceLemmas.{cut_fits, cuts_off}
use Rattle.rd_journals.proofs.HeldLemmas.{has_elsewhere, held_on, read_then}
use Rattle.rd_journals.proofs.OrderlyLemmas.{beside_open, still_orderly}

abbrev Of : Type 0
Of = StationState SessionDevice

-- ---- a device is removed, or added

pub removes_orderly : (c : ℕ) (w : WorldState) (d : ℕ) → OrderlyOn c w → (o : Option Of) → station_at w d ≡ o → Orderly (cut_by (told_removed w d) d o)
removes_orderly c w d (is, opened) o there = by o there
  where
    told : WorldState
    told = told_removed w d

    so : Orderly told
    so = beside_open is opened (removes d) (λ q. refl) (λ q. refl) tt

    by : (o : Option Of) → station_at told d ≡ o → Orderly (cut_by told d o)
    by None there = so
    by (Some s) there =
        let on = (so.held).on d s there in
        still_orderly told d s (station.remove s (device_cut s.device).state).0 so there (removed AnyJob (channel_of told) s on (device_cut s.device).state (cuts_off s.device on.fit) (cut_fits s.device on.fit))

-- only the data of announcements is replaced
pub refreshed_only : (w : WorldState) (d : ℕ) → (x : ClientCoreState) × (refreshing w d ≡ with_client w x) × (x.channel ≡ (w.client).channel) × (x.asked ≡ (w.client).asked) × (x.core ≡ (w.client).core)
refreshed_only w d = by (lookup (is_at (nat_cmp d)) w.printers)
  where
    by : (o : Option PrinterNames) → (x : ClientCoreState) × (option_map_or (λ (names : PrinterNames). with_client w (client.refresh w.client d (printer_data w.cache names))) o w ≡ with_client w x)
        × (x.channel ≡ (w.client).channel) × (x.asked ≡ (w.client).asked) × (x.core ≡ (w.client).core)
    by None = (w.client, refl, refl, refl, refl)
    by (Some names) = (client.refresh w.client d (printer_data w.cache names), refl, refl, refl, refl)

pub adds_orderly : (c : ℕ) (w : WorldState) (d : ℕ) → OrderlyOn c w → (names : Option PrinterNames) (o : Option Of) → station_at w d ≡ o → Orderly (announced_by (told_added (refreshed_by w d names) d) d o)
adds_orderly c w d (is, opened) None o there = announced_orderly (told_added w d) d o there (beside_open is opened (adds d) (λ q. refl) (λ q. refl) tt)
adds_orderly c w d (is, opened) (Some names) o there = announced_orderly (told_added (refreshed_by w d (Some names)) d) d o there (beside_open is opened (adds d) (λ q. refl) (λ q. refl) tt)

-- ---- a channel begins

pub all_refreshed : (ds : List ℕ) (w : WorldState) → fold refreshing w ds ≡ with_client w (fold refreshing w ds).client
all_refreshed [] w = refl
all_refreshed (d ∷ ds) w =
    let one = refreshed_only w d in
    all_refreshed ds (refreshing w d) ∙ ap (λ (x : WorldState). with_client x (fold refreshing (refreshing w d) ds).client) one.1

abbrev pub begun_on : WorldState → WorldState → WorldState
begun_on w fresh = record (with_deed fresh (host_begins (w.channels + 1))) {
  channels = w.channels + 1;
  client = client_begin fresh.client (w.channels + 1);
  side = begins_on w.side (w.channels + 1);
  to_client = new_way;
  to_host = new_way;
}

pub connects_orderly : (w : WorldState) → Orderly w → ((w.side).table).channel ≡ None → Orderly (connects w)
connects_orderly w is none = subst (λ (x : WorldState). Orderly (begun_on w x)) (sym (all_refreshed ids w)) (so (fold refreshing w ids).client)
  where
    ids : List ℕ
    ids = map (λ (e : ℕ × PrinterNames). e.0) w.printers

    t : TableState
    t = (w.side).table

    begun : ((table.begin t (w.channels + 1)).0).channel ≡ Some (w.channels + 1)
    begun = ap (λ (b : Bool). ((cond {A = TableState × Bool} b (t, false) (record t { channel = Some (w.channels + 1); below = w.channels + 1 + 1; asked = 0; begun = 0 }, true)).0).channel) (ap is_some none)

    same : current t.channel w.channels ≡ current ((table.begin t (w.channels + 1)).0).channel (w.channels + 1)
    same =
        let was : current t.channel w.channels ≡ suc w.channels = ap (λ (o : Option ℕ). current o w.channels) none in
        let now : current ((table.begin t (w.channels + 1)).0).channel (w.channels + 1) ≡ w.channels + 1 = ap (λ (o : Option ℕ). current o (w.channels + 1)) begun in
        omega (arith, was, now)

    so : (x : ClientCoreState) → Orderly (begun_on w (with_client w x))
    so x = record {
      held = record {
        tied = (is.held).tied;
        on = λ d s has. subst (λ (n : ℕ). IsOn n s) same ((is.held).on d s has);
        named = λ d s has key names. elim ((is.held).named d s has key names) [ inl less ↦ inl (omega (arith, less)) | inr here ↦ inl (omega (arith, here.0)) ];
        none = (is.held).none;
        reads = (tt, (is.held).reads);
      };
      counted = λ fine. ap (λ (ms : List (List ℕ)). length (filter is_request ms)) (is.unread (w.channels + 1) (omega arith));
      unread = λ c above. is.unread c (omega (arith, above));
      same_channel = refl;
      same_opened = λ c opened. let e : Some (w.channels + 1) ≡ Some c = sym begun ∙ opened in let equal : w.channels + 1 ≡ c = cc in sym equal;
      kept_next = λ k some. absurd (cc ((is.shut none).kept_none, some));
      shut = λ shut. absurd (cc (shut, begun));
    }

-- ---- a channel ends

abbrev also : (ℕ → Bool) → ℕ → ℕ → Bool
also gone d q = gone q || (q == d)

gone_stays : (ds : List ℕ) (gone : ℕ → Bool) (q : ℕ) → gone q ≡ true → fold also gone ds q ≡ true
gone_stays [] gone q e = e
gone_stays (d ∷ ds) gone q e = gone_stays ds (also gone d) q (ap (λ (b : Bool). b || (q == d)) e)

gone_each : (es : List (ℕ × Of)) (gone : ℕ → Bool) (q : ℕ) (s : Of) → lookup (is_at (nat_cmp q)) es ≡ Some s → fold also gone (map (λ (e : ℕ × Of). e.0) es) q ≡ true
gone_each [] gone q s has = absurd (cc (has))
gone_each (e ∷ es) gone q s has = by (is_at (nat_cmp q) e.0) refl has (gone_each es (also gone e.0) q s)
  where
    by : (b : Bool) → is_at (nat_cmp q) e.0 ≡ b → cond b (Some e.1) (lookup (is_at (nat_cmp q)) es) ≡ Some s → (lookup (is_at (nat_cmp q)) es ≡ Some s → fold also (also gone e.0) (map (λ (f : ℕ × Of). f.0) es) q ≡ true)
        → fold also (also gone e.0) (map (λ (f : ℕ × Of). f.0) es) q ≡ true
    by true f has later =
        let here : (q == e.0) ≡ true = grind (arith, nat_tests, f) in
        gone_stays (map (λ (f : ℕ × Of). f.0) es) (also gone e.0) q (ap (λ (b : Bool). gone q || b) here ∙ or-true (gone q))
    by false f has later = later has

module _ (w : WorldState) where
  -- the channel that a station is on, by whether it was dropped
  abbrev at : (ℕ → Bool) → ℕ → ℕ
  at gone d = cond (gone d) (suc w.channels) w.channels

  -- some stations were dropped
  record Cutting (gone : ℕ → Bool) (x : WorldState) : Type 0 where
    alone : x ≡ record w { stations = x.stations; deeds = x.deeds }
    held : AreHeld (at gone) w.channels (w.client).asked x.stations x.deeds
    same_read : (c : ℕ) → client_read c x.deeds ≡ client_read c w.deeds
    none : (d : ℕ) → lookup (is_at (nat_cmp d)) w.stations ≡ None → lookup (is_at (nat_cmp d)) x.stations ≡ None

  given_low : (key : Key) → IsGiven w.channels (w.client).asked key → key.channel < suc w.channels
  given_low key (inl less) = omega (arith, less)
  given_low key (inr here) = omega (arith, here.0)

  same_at : (gone : ℕ → Bool) (d q : ℕ) → (q == d) ≡ false → at (also gone d) q ≡ at gone q
  same_at gone d q apart = by (gone q)
    where
      by : (g : Bool) → cond (g || (q == d)) (suc w.channels) w.channels ≡ cond g (suc w.channels) w.channels
      by true = refl
      by false = ap (λ (b : Bool). cond b (suc w.channels) w.channels) apart

  own_at : (gone : ℕ → Bool) (d : ℕ) → at (also gone d) d ≡ suc w.channels
  own_at gone d = ap (λ (b : Bool). cond (gone d || b) (suc w.channels) w.channels) (eq-eqb d d refl) ∙ ap (λ (b : Bool). cond b (suc w.channels) w.channels) (or-true (gone d))

  at_low : (gone : ℕ → Bool) (d : ℕ) → at gone d ≤ suc w.channels
  at_low gone d = by (gone d)
    where
      by : (g : Bool) → cond g (suc w.channels) w.channels ≤ suc w.channels
      by true = omega arith
      by false = omega arith

  one_dropped : (gone : ℕ → Bool) (x : WorldState) (d : ℕ) → Cutting gone x → Cutting (also gone d) (dropping x d)
  one_dropped gone x d cut = by (station_at x d) refl
    where
      skipped : station_at x d ≡ None → Cutting (also gone d) x
      skipped missing = record {
        alone = cut.alone;
        held = record {
          tied = (cut.held).tied;
          on = λ q s has. by_id q s has (q == d) refl;
          named = (cut.held).named;
          none = (cut.held).none;
          reads = (cut.held).reads;
        };
        same_read = cut.same_read;
        none = cut.none;
      }
        where
          by_id : (q : ℕ) (s : Of) → HasStation x.stations q s → (b : Bool) → (q == d) ≡ b → IsOn (at (also gone d) q) s
          by_id q s has true e = absurd (cc (subst (λ (y : ℕ). station_at x y ≡ Some s) (eqb-true q d e) has, missing))
          by_id q s has false e = subst (λ (n : ℕ). IsOn n s) (sym (same_at gone d q e)) ((cut.held).on q s has)

      stepped : (s : Of) → station_at x d ≡ Some s → (new : Of) → Goes NoKey AnyJob (at (also gone d) d) s new → Cutting (also gone d) (with_station x d new)
      stepped s there new goes = record {
        alone = ap (λ (y : WorldState). record y { stations = (with_station x d new).stations; deeds = (with_station x d new).deeds }) cut.alone;
        held = held_on NoKey (at gone) (at (also gone d)) w.channels (w.client).asked x d s new there goes (same_at gone d) cut.held (λ key none. absurd none);
        same_read = λ c. read_then NoKey (at gone) (at (also gone d)) w.channels (w.client).asked x d s new there goes c ∙ cut.same_read c;
        none = λ q missing. by_id q missing (q == d) refl;
      }
        where
          by_id : (q : ℕ) → lookup (is_at (nat_cmp q)) w.stations ≡ None → (b : Bool) → (q == d) ≡ b → lookup (is_at (nat_cmp q)) (with_station x d new).stations ≡ None
          by_id q missing true e = absurd (cc (subst (λ (y : ℕ). lookup (is_at (nat_cmp y)) x.stations ≡ None) (eqb-true q d e) (cut.none q missing), there))
          by_id q missing false e = has_elsewhere x.stations d new q e ∙ cut.none q missing

      by : (o : Option Of) → station_at x d ≡ o → Cutting (also gone d) (option_map_or (λ (s : Of). with_station x d (station.drop_channel s (device_cut s.device).state)) o x)
      by None missing = skipped missing
      by (Some s) there =
          let on = (cut.held).on d s there in
          stepped s there (station.drop_channel s (device_cut s.device).state)
          (dropped AnyJob (at gone d) s on (at (also gone d) d) (omega (arith, own_at gone d, at_low gone d)) (λ key names. omega (arith, own_at gone d, given_low key ((cut.held).named d s there key names)))
          (device_cut s.device).state (cuts_off s.device on.fit) (cut_fits s.device on.fit))

  all_dropped : (ds : List ℕ) (gone : ℕ → Bool) (x : WorldState) → Cutting gone x → Cutting (fold also gone ds) (fold dropping x ds)
  all_dropped [] gone x cut = cut
  all_dropped (d ∷ ds) gone x cut = all_dropped ds (also gone d) (dropping x d) (one_dropped gone x d cut)

abbrev pub ended_with : WorldState → WorldState
ended_with cut = record (with_deed cut (host_ends cut.channels)) {
  side = ends_channel cut.side;
  client = record cut.client { core = record (cut.client).core { outbox = [] } };
  to_client = ending cut.to_client;
  to_host = ending cut.to_host;
  kept = None;
}

pub cutting_orderly : (c : ℕ) (w : WorldState) → OrderlyOn c w → Orderly (cutting w)
cutting_orderly c w (is, opened) = subst (λ (x : WorldState). Orderly (ended_with x)) (sym all.alone) so
  where
    ids : List ℕ
    ids = map (λ (e : ℕ × Of). e.0) w.stations

    cut : WorldState
    cut = fold dropping w ids

    first : Cutting w (λ q. false) w
    first = record {
      alone = refl;
      held = record {
        tied = (is.held).tied;
        on = λ d s has. subst (λ (n : ℕ). IsOn n s) (channel_open w c opened) ((is.held).on d s has);
        named = (is.held).named;
        none = (is.held).none;
        reads = (is.held).reads;
      };
      same_read = λ x. refl;
      none = λ d none. none;
    }

    all : Cutting w (fold also (λ q. false) ids) cut
    all = all_dropped w ids (λ q. false) w first

    -- each station was dropped
    every : (d : ℕ) (s : Of) → HasStation cut.stations d s → fold also (λ q. false) ids d ≡ true
    every d s has = by (station_at w d) refl
      where
        by : (o : Option Of) → station_at w d ≡ o → fold also (λ q. false) ids d ≡ true
        by None e = absurd (cc (all.none d e, has))
        by (Some t) e = gone_each w.stations (λ q. false) d t e

    so : Orderly (ended_with (record w { stations = cut.stations; deeds = cut.deeds }))
    so = record {
      held = record {
        tied = (all.held).tied;
        on = λ d s has. subst (λ (b : Bool). IsOn (cond b (suc w.channels) w.channels) s) (every d s has) ((all.held).on d s has);
        named = (all.held).named;
        none = (all.held).none;
        reads = (tt, (all.held).reads);
      };
      counted = λ fine. ap (λ (ms : List (List ℕ)). length (filter is_request ms)) (all.same_read w.channels) ∙ is.counted fine;
      unread = λ x above. all.same_read x ∙ is.unread x above;
      same_channel = is.same_channel;
      same_opened = λ x e. absurd (cc (e));
      kept_next = λ k e. absurd (cc (e));
      shut = λ none. record { own_none = refl; requests_none = refl; answers_none = refl; to_client_none = refl; to_host_none = refl; kept_none = refl };
    }
