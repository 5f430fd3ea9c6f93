-- Each world that is reached is orderly.
use Rattle.std.proofs.Common.{◌≡◌, ◌∙◌, refl, sym, ap, subst, ℕ, ◌&&◌, Bool, true, false, cond, List, [], ◌∷◌, ◌++◌, map, reverse, append-nil, arith}
use Rattle.std.specs.Prelude.{Some, None, Option, Result, is_some, nat_le, nat_lt, not}
use Rattle.std.specs.Map.{lookup}
use Rattle.std.specs.Ordering.{nat_cmp}
use Rattle.std.specs.BTreeMap.{is_at}
use Rattle.std.proofs.lemmas.Bool.Decides.{nat_tests}
use Rattle.rd_base.specs.Lawful.{IsLawful, named_key}
use Rattle.rd_base.specs.declared.journal.Key.{Key}
use Rattle.rd_client.specs.Core as client
use Rattle.rd_client.specs.Core.{ClientCoreState, Outgoing}
use Rattle.rd_core.specs.Core as core
use Rattle.rd_printer.specs.Printer.{new_printer}
use Rattle.rd_script.specs.declared.line.NumberedLine.{NumberedLine}
use Rattle.rd_pending.specs.History as call
use Rattle.rd_pending.specs.Table.{TableState}
use Rattle.rd_pending.specs.declared.calls.SubmitNo.{SubmitNo}
use Rattle.rd_pending.specs.declared.calls.TakeNo.{TakeNo}
use Rattle.rd_pending.specs.declared.calls.Taken.{Taken}
use Rattle.rd_pending.proofs.Neutral.{channel_kept}
use Rattle.rd_station.specs.Memory.{NamesKey}
use Rattle.rd_station.specs.Station.{StationState, new_station}
use Rattle.rd_station.specs.declared.answers.Given.TheVariants as given
use Rattle.rd_station.specs.Tied.{IsKept}
use Rattle.rd_station.proofs.Calls.{reached_kept, reached_new}
use Rattle.rd_station.proofs.Remembering.{any_has}
use Rattle.rd_runs.specs.Moves.{Reached}
use Rattle.rd_runs.proofs.Insides.{IsInside, Outside, added_inside, all_dropped_inside, applied_inside, hears_inside, put_inside, removed_inside}
use Rattle.rd_runs.proofs.Parts.{IsBehind, MayBe, Part, accepts, adds_one, applies_one, begins, by_parts, client_gets, client_hears_one, client_keeps_part, client_sends_one, collects_one, done, draws_one, ends, hands_out, host_gets, host_hears_one, host_keeps_part, host_sends_one, idle_one, queues_one, reached_behind, refuses, removes_one, takes_one, tells_one, tries_one}
use Rattle.rd_declared.specs.Devices.{Declared, device_cuts, device_parked, device_runs}
use Rattle.rd_world.specs.Events.{client_sends_first, is_channel_open, is_read}
use Rattle.rd_world.specs.Hearing.{client_hears}
use Rattle.rd_deeds.specs.Host.{first_waiting, next_message}
use Rattle.rd_declared.specs.Declaring.{bare_lines, declared_devices}
use Rattle.rd_world.specs.Run.{applications_of, new_world, station_of, world_of}
use Rattle.rd_deeds.specs.Talk.{client_reads, journal, tells}
use Rattle.rd_world.specs.World.{ApplicationState, Asked, WayState, WorldState, first_message, handling_by, station_at, with_deed}
use Rattle.rd_declared.specs.declared.device.SessionDevice.{SessionDevice}
use Rattle.rd_declared.specs.declared.device.SessionDevice.TheVariants as session
use Rattle.rd_world.proofs.BeginningLemmas.{begun_by}
use Rattle.rd_world.proofs.OpeningLemmas.{lines_begin}
use Rattle.rd_journals.specs.Orderly.{Orderly}
use Rattle.rd_journals.specs.Stations.{AreFit, IsFit, IsOn}
use Rattle.rd_journals.proofs.CallLemmas.{new_on}
use Rattle.rd_journals.proofs.ChannelLemmas.{adds_orderly, connects_orderly, cutting_orderly, removes_orderly}
use Rattle.rd_journals.proofs.ClientLemmas.{applies_orderly, collects_orderly, hears_orderly, open_or_shut, takes_orderly, tries_orderly}
use Rattle.rd_journals.proofs.HostLemmas.{accepts_orderly, client_sends_orderly, hands_out_orderly, hears_same, host_sends_orderly, sends_same}
use Rattle.rd_journals.proofs.HostLemmas as host
use Rattle.rd_journals.proofs.OrderlyLemmas.{beside_open, while_open}

abbrev Of : Type 0
Of = StationState SessionDevice

-- ---- what can happen only while a channel is open

pub left : (a b : Bool) → (a && b) ≡ true → a ≡ true
left true b e = refl
left false b e = absurd (cc (e))

pub right : (a b : Bool) → (a && b) ≡ true → b ≡ true
right true b e = e
right false b e = absurd (cc (e))

pub opened : (o : Option ℕ) → is_some o ≡ true → (c : ℕ) × (o ≡ Some c)
opened None e = absurd (cc (e))
opened (Some c) e = (c, refl)

pub not_opened : (o : Option ℕ) → not (is_some o) ≡ true → o ≡ None
not_opened None e = refl
not_opened (Some c) e = absurd (cc (e))

nothing_read : (pipe : List ℕ) (n : ℕ) → pipe ≡ [] → is_read pipe n ≡ true → ⊥
nothing_read pipe n none e = no_byte n (subst (λ (p : List ℕ). is_read p n ≡ true) none e)
  where
    no_byte : (k : ℕ) → (nat_lt 0 k && nat_le k 0) ≡ true → ⊥
    no_byte k e = grind (arith, nat_tests, e)

-- ---- what is read and not handled

-- No message stands whole in a part, and while no channel is open nothing is left to handle.
pub record IsHandled (opened : Option ℕ) (to_client to_host : WayState) : Type 0 where
  pub client_part : first_message to_client.part ≡ None
  pub host_part : first_message to_host.part ≡ None
  pub shut : opened ≡ None → (to_client.unhandled ≡ []) × (to_host.unhandled ≡ [])

abbrev pub IsHandledIn : WorldState → Type 0
IsHandledIn w = IsHandled ((w.side).table).channel w.to_client w.to_host

no_message : (part : List ℕ) (unhandled : List ℕ) (found : List ℕ × List ℕ) → first_message part ≡ None → unhandled ≡ [] → first_message (part ++ unhandled) ≡ Some found → ⊥
no_message part unhandled found none empty some =
    let same : part ++ unhandled ≡ part = ap (λ (xs : List ℕ). part ++ xs) empty ∙ append-nil part in
    cc (sym (ap first_message same) ∙ some, none)

module _ (w : WorldState) (is : Orderly w) where
  abbrev pub now : Option ℕ
  now = ((w.side).table).channel

  pub sends_open : (m : List ℕ) → next_message w.side ≡ Some m → (c : ℕ) × (now ≡ Some c)
  sends_open m some = open_or_shut now (λ none. let s = is.shut none in let nothing : next_message w.side ≡ None = (λ i. first_waiting (s.own_none i) (s.requests_none i)) in cc (nothing, some))

  pub gets_open : (n : ℕ) → is_read (w.to_client).pipe n ≡ true → (c : ℕ) × (now ≡ Some c)
  gets_open n can = open_or_shut now (λ none. nothing_read (w.to_client).pipe n (is.shut none).to_client_none can)

  pub back_open : (n : ℕ) → is_read (w.to_host).pipe n ≡ true → (c : ℕ) × (now ≡ Some c)
  back_open n can = open_or_shut now (λ none. nothing_read (w.to_host).pipe n (is.shut none).to_host_none can)

  pub own_open : (c : ClientCoreState) (o : Outgoing) → client.client_send w.client ≡ (c, Some o) → (c : ℕ) × (now ≡ Some c)
  own_open c o made = open_or_shut now (λ none.
      let nothing : (core.send_from (w.client).core ((w.client).core).outbox).1 ≡ None = ap (λ (os : List Outgoing). (core.send_from (w.client).core os).1) (is.shut none).answers_none in
      let some : (core.send_from (w.client).core ((w.client).core).outbox).1 ≡ Some o = ap (λ (r : ClientCoreState × Option Outgoing). r.1) made in
      cc (nothing, some))

  module _ (handled : IsHandledIn w) where
    pub hears_open : (m rest : List ℕ) → first_message ((w.to_client).part ++ (w.to_client).unhandled) ≡ Some (m, rest) → (c : ℕ) × (now ≡ Some c)
    hears_open m rest some = open_or_shut now (λ none. no_message (w.to_client).part (w.to_client).unhandled (m, rest) handled.client_part (handled.shut none).0 some)

    pub host_hears_open : (m rest : List ℕ) → first_message ((w.to_host).part ++ (w.to_host).unhandled) ≡ Some (m, rest) → (c : ℕ) × (now ≡ Some c)
    host_hears_open m rest some = open_or_shut now (λ none. no_message (w.to_host).part (w.to_host).unhandled (m, rest) handled.host_part (handled.shut none).1 some)

handled_inside : (w v : WorldState) → IsInside w v → IsHandledIn w → IsHandledIn v
handled_inside w v inside handled = subst (λ (o : Outside). IsHandled ((o.side).table).channel o.to_client o.to_host) (sym inside.same) handled

module _ (lines : List NumberedLine) (starves : Key → Bool) where
  part_orderly : (w : WorldState) (p : Part) → MayBe lines starves w p → Orderly w → IsHandledIn w → Orderly (done starves w p)
  part_orderly w (accepts a asked named t number) (reached, may, next, target, made) is handled = accepts_orderly w a asked named t number made is
  part_orderly w (refuses a asked cause) may is handled = is
  part_orderly w (hands_out a number t taken next) (waits, nexts, made) is handled = hands_out_orderly w a number t taken next made is
  part_orderly w (host_sends_one m) some is handled = let (c, at) = sends_open w is m some in host_sends_orderly c w m (is, at)
  part_orderly w (host_gets n) can is handled = let (c, at) = back_open w is n can in while_open is at is.kept_next
  part_orderly w host_keeps_part none is handled = is
  part_orderly w (host_hears_one m rest) some is handled =
      let (c, at) = host_hears_open w is handled m rest some in (host.hears_orderly c (record w { to_host = (handling_by w.to_host (Some (m, rest))).0 }) m (is, at)).0
  part_orderly w (tells_one n) (of_lines, can) is handled = let (c, at) = opened (now w is) (left (is_channel_open w) _ can) in beside_open is at (tells n) (λ d. refl) (λ x. refl) tt
  part_orderly w begins can is handled = connects_orderly w is (not_opened (now w is) can)
  part_orderly w ends can is handled = let (c, at) = opened (now w is) can in cutting_orderly c w (is, at)
  part_orderly w (client_sends_one x o) made is handled =
      let (c, at) = own_open w is x o made in subst (λ (r : ClientCoreState × Option Outgoing). Orderly (client_sends_first w r)) made (client_sends_orderly c w (is, at))
  part_orderly w (client_gets n) (can, kept) is handled = let (c, at) = gets_open w is n can in while_open is at is.kept_next
  part_orderly w client_keeps_part none is handled = is
  part_orderly w (client_hears_one m rest) (kept, some) is handled =
      let (c, at) = hears_open w is handled m rest some in (hears_orderly c (record w { to_client = (handling_by w.to_client (Some (m, rest))).0 }) m is at kept).0
  part_orderly w (tries_one k) some is handled = tries_orderly w k some is
  part_orderly w (collects_one d s after x) (reached, idle, there, made) is handled = collects_orderly w d s after x there made is
  part_orderly w (takes_one d hand s after job) (free, there, made) is handled = takes_orderly w d s after (given.Job job) there made is
  part_orderly w (applies_one hand d job o) (holds, there) is handled = applies_orderly starves w hand d job o there is
  part_orderly w (removes_one d o) (can, there) is handled =
      let (c, at) = opened (now w is) (left (is_channel_open w) _ (left (is_channel_open w && _) _ can)) in removes_orderly c w d (is, at) o there
  part_orderly w (adds_one d names o) (can, printers, there) is handled =
      let (c, at) = opened (now w is) (left (is_channel_open w) _ (left (is_channel_open w && _) _ can)) in adds_orderly c w d (is, at) names o there
  part_orderly w (queues_one a) may is handled = is
  part_orderly w (idle_one number) may is handled = is
  part_orderly w draws_one may is handled = is

  part_handled : (w : WorldState) (p : Part) → MayBe lines starves w p → Orderly w → IsHandledIn w → IsHandledIn (done starves w p)
  part_handled w (accepts a asked named t number) (reached, may, next, target, made) is handled =
      subst (λ (o : Option ℕ). IsHandled o w.to_client w.to_host) (sym (channel_kept (call.submits a named asked.op) tt (w.side).table) ∙ ap (λ (r : TableState × Result ℕ SubmitNo). (r.0).channel) made) handled
  part_handled w (refuses a asked cause) may is handled = handled
  part_handled w (hands_out a number t taken next) (waits, nexts, made) is handled = by next
    where
      so : IsHandled t.channel w.to_client w.to_host
      so = subst (λ (o : Option ℕ). IsHandled o w.to_client w.to_host) (sym (channel_kept (call.takes number) tt (w.side).table) ∙ ap (λ (r : TableState × Result Taken TakeNo). (r.0).channel) made) handled

      by : (x : Option Asked) → IsHandledIn (done starves w (hands_out a number t taken x))
      by None = so
      by (Some asked) = so
  part_handled w (host_sends_one m) some is handled =
      let (c, at) = sends_open w is m some in
      record { client_part = handled.client_part; host_part = handled.host_part; shut = λ none. absurd (cc (sym (sends_same w.side) ∙ none, at)) }
  part_handled w (host_gets n) can is handled = let (c, at) = back_open w is n can in record { client_part = handled.client_part; host_part = handled.host_part; shut = λ none. absurd (cc (none, at)) }
  part_handled w host_keeps_part found is handled = record { client_part = handled.client_part; host_part = found; shut = λ none. ((handled.shut none).0, refl) }
  part_handled w (host_hears_one m rest) some is handled =
      let (c, at) = host_hears_open w is handled m rest some in
      record { client_part = handled.client_part; host_part = refl; shut = λ none. absurd (cc (sym (hears_same w.side m) ∙ none, at)) }
  part_handled w (tells_one n) may is handled = handled
  part_handled w begins can is handled = record { client_part = refl; host_part = refl; shut = λ none. (refl, refl) }
  part_handled w ends can is handled =
      let inside = all_dropped_inside (map (λ (e : ℕ × Of). e.0) w.stations) w in
      record {
        client_part = ap (λ (o : Outside). first_message (o.to_client).part) inside.same ∙ handled.client_part;
        host_part = ap (λ (o : Outside). first_message (o.to_host).part) inside.same ∙ handled.host_part;
        shut = λ none. (refl, refl);
      }
  part_handled w (client_sends_one x o) made is handled = record { client_part = handled.client_part; host_part = handled.host_part; shut = handled.shut }
  part_handled w (client_gets n) (can, kept) is handled = let (c, at) = gets_open w is n can in record { client_part = handled.client_part; host_part = handled.host_part; shut = λ none. absurd (cc (none, at)) }
  part_handled w client_keeps_part (kept, found) is handled = record { client_part = found; host_part = handled.host_part; shut = λ none. (refl, (handled.shut none).1) }
  part_handled w (client_hears_one m rest) (kept, some) is handled =
      let (c, at) = hears_open w is handled m rest some in
      let x : WorldState = record w { to_client = (handling_by w.to_client (Some (m, rest))).0 } in
      handled_inside (with_deed x (client_reads w.channels m)) (client_hears x m) (hears_inside x m)
      (record { client_part = refl; host_part = handled.host_part; shut = λ none. absurd (cc (none, at)) })
  part_handled w (tries_one k) some is handled = handled_inside (record w { kept = None }) _ (put_inside (record w { kept = None }) k.device k.job) handled
  part_handled w (collects_one d s after x) may is handled = record { client_part = handled.client_part; host_part = handled.host_part; shut = handled.shut }
  part_handled w (takes_one d hand s after job) may is handled = handled
  part_handled w (applies_one hand d job o) may is handled = handled_inside w _ (applied_inside starves w hand d job o) handled
  part_handled w (removes_one d o) may is handled = handled_inside w _ (removed_inside w d o) handled
  part_handled w (adds_one d names o) may is handled = handled_inside w _ (added_inside w d names o) handled
  part_handled w (queues_one a) may is handled = handled
  part_handled w (idle_one number) may is handled = handled
  part_handled w draws_one may is handled = handled

-- ---- the beginning

-- a station at the beginning
new_at : (es : List (ℕ × Declared)) (d : ℕ) (s : Of) → AreFit es → lookup (is_at (nat_cmp d)) (map station_of es) ≡ Some s → (x : SessionDevice) × (s ≡ new_station x) × IsFit x × (device_parked x ≡ [])
new_at [] d s all has = absurd (cc (has))
new_at (e ∷ es) d s all has = by (is_at (nat_cmp d) e.0) has (new_at es d s all.1)
  where
    by : (b : Bool) → cond b (Some (new_station (e.1).state)) (lookup (is_at (nat_cmp d)) (map station_of es)) ≡ Some s
        → (lookup (is_at (nat_cmp d)) (map station_of es) ≡ Some s → (x : SessionDevice) × (s ≡ new_station x) × IsFit x × (device_parked x ≡ [])) → (x : SessionDevice) × (s ≡ new_station x) × IsFit x × (device_parked x ≡ [])
    by true has later = let same : new_station (e.1).state ≡ s = cc in ((e.1).state, sym same, (all.0).0, (all.0).1)
    by false has later = later has

new_orderly : (es : List (ℕ × Declared)) (applications : List (ℕ × ApplicationState)) → AreFit es → Orderly (new_world es applications)
new_orderly es applications all = record {
  held = record {
    tied = λ d s has. let (x, same, fit, quiet) = new_at es d s all has in ap (λ (t : Of). t.journal) (sym same);
    on = λ d s has. let (x, same, fit, quiet) = new_at es d s all has in subst (IsOn 1) (sym same) (new_on 1 x fit quiet);
    named = λ d s has key names. let (x, same, fit, quiet) = new_at es d s all has in absurd (any_has (λ entry. named_key entry ≡ Some key) [] (subst (λ (t : Of). NamesKey t.journal key) same names)).1;
    none = λ d none. refl;
    reads = tt;
  };
  counted = λ fine. refl;
  unread = λ c above. refl;
  same_channel = refl;
  same_opened = λ c e. absurd (cc (e));
  kept_next = λ k e. absurd (cc (e));
  shut = λ none. record { own_none = refl; requests_none = refl; answers_none = refl; to_client_none = refl; to_host_none = refl; kept_none = refl };
}

begins_orderly : (lines : List NumberedLine) → AreFit (declared_devices (bare_lines lines)) → Orderly (world_of lines)
begins_orderly lines all = subst Orderly (sym (begun_by lines _ (lines_begin lines))) (new_orderly (declared_devices (bare_lines lines)) (applications_of (bare_lines lines)) all)

begins_handled : (lines : List NumberedLine) → IsHandledIn (world_of lines)
begins_handled lines = subst IsHandledIn (sym (begun_by lines _ (lines_begin lines))) (record { client_part = refl; host_part = refl; shut = λ none. (refl, refl) })

-- ---- every run

-- Each world that is behind parts is orderly.
pub behind_orderly : (lines : List NumberedLine) (starves : Key → Bool) (w : WorldState) → AreFit (declared_devices (bare_lines lines)) → IsBehind lines starves w → Orderly w × IsHandledIn w
behind_orderly lines starves w fit behind =
    by_parts lines starves (λ x. Orderly x × IsHandledIn x) (begins_orderly lines fit, begins_handled lines)
    (λ x p before after may both. (part_orderly lines starves x p may both.0 both.1, part_handled lines starves x p may both.0 both.1)) w behind

pub reached_orderly : (lines : List NumberedLine) (starves : Key → Bool) (w : WorldState) → AreFit (declared_devices (bare_lines lines)) → Reached lines starves w → Orderly w
reached_orderly lines starves w fit reached = (behind_orderly lines starves w fit (reached_behind lines starves w reached)).0

-- the journal that is told of a device is lawful
pub orderly_lawful : (w : WorldState) → Orderly w → (d : ℕ) → IsLawful (reverse (journal d w.deeds))
orderly_lawful w is d = by (station_at w d) refl
  where
    unused : IsKept device_parked (new_station (session.Printer new_printer))
    unused = reached_kept device_runs device_parked device_cuts (new_station (session.Printer new_printer)) (reached_new device_runs device_parked device_cuts (session.Printer new_printer) refl)

    by : (o : Option Of) → station_at w d ≡ o → IsLawful (reverse (journal d w.deeds))
    by None there = subst (λ js. IsLawful (reverse js)) (sym ((is.held).none d there)) unused.lawful
    by (Some s) there = subst IsLawful (sym ((is.held).tied d s there)) (reached_kept device_runs device_parked device_cuts s (((is.held).on d s there).sound).reached).lawful
