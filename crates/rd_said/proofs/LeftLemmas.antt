-- Of each channel that ended something was left to be said, with which it is as it should be.
use Rattle.std.proofs.Common.{◌≡◌, ◌∙◌, refl, sym, ap, subst, ℕ, ◌+◌, ◌≤◌, ◌==◌, ◌||◌, Bool, true, false, arith, eqb-true, List, [], ◌∷◌, ◌++◌, length, map, fold, Some, None, Option}
use Rattle.std.specs.Map.{lookup}
use Rattle.std.specs.Ordering.{nat_cmp}
use Rattle.std.specs.BTreeMap.{is_at}
use Rattle.rd_acted.proofs.OrderLemmas.{orders_read}
use Rattle.rd_acted.proofs.TellLemmas.{behind_tells}
use Rattle.rd_acted.specs.Acted.{AreReadWell}
use Rattle.rd_acted.proofs.AnsweredSessionLemmas.{reached_good}
use Rattle.rd_acted.specs.AnsweredRefusing.{DeclareInRoom}
use Rattle.rd_base.specs.declared.journal.Key.{Key}
use Rattle.rd_client.specs.Core.{Outgoing}
use Rattle.rd_acted.proofs.JournalsAnswerLemmas.{reached_spelled}
use Rattle.rd_acted.proofs.JournalsChannelLemmas.{all_refreshed, begun_on}
use Rattle.rd_acted.proofs.JournalsDeclaredLemmas.{bounded_fit}
use Rattle.rd_acted.proofs.JournalsRunLemmas.{behind_orderly}
use Rattle.rd_acted.proofs.JournalsServingLemmas.{behind_standing}
use Rattle.rd_acted.specs.JournalsStations.{AreFit}
use Rattle.rd_orders.proofs.ClientOrdering.{behind_client_ordered}
use Rattle.rd_orders.proofs.Meeting.{behind_meets}
use Rattle.rd_orders.specs.Orders.{DeclaresWritable}
use Rattle.rd_acted.proofs.RunsHostLemmas.{host_channel}
use Rattle.rd_acted.proofs.RunsInsides.{all_dropped_inside}
use Rattle.rd_acted.proofs.RunsParts.{IsBehind, MayBe, Part, adds_one, announced_by, begins, done, draws_one, ends, event_keeps, idle_one, is_issue, part_weight, queues_one, reached_behind, refreshed_by, removes_one, tells_one, told_added, tries_keeps, all_take_keeps}
use Rattle.rd_acted.proofs.RunsReaching.{Steps, by_moves}
use Rattle.rd_acted.proofs.RunsStanding.{open_now}
use Rattle.rd_acted.proofs.RunsTogether.{knows}
use Rattle.rd_acted.specs.RunsMoves.{IsOfLines, Reached, RunMove, after_move, draws, happens, idle, queues}
use Rattle.rd_acted.specs.RunsPremises.{RunPremises}
use Rattle.rd_script.specs.declared.line.NumberedLine.{NumberedLine}
use Rattle.rd_station.specs.Station.{StationState}
use Rattle.rd_acted.proofs.RestTurnsLemmas.{reached_in_turn}
use Rattle.rd_acted.proofs.ToldOpenLemmas.{stored_open}
use Rattle.rd_world.proofs.BeginningLemmas.{begun_by}
use Rattle.rd_deeds.proofs.Lists.{each_end}
use Rattle.rd_world.proofs.OpeningLemmas.{lines_begin}
use Rattle.rd_declared.specs.Devices.{Declared, PrinterNames}
use Rattle.rd_world.specs.Events as event
use Rattle.rd_world.specs.Events.{Event, act, connects, cutting, dropping, is_enabled, refreshing}
use Rattle.rd_world.specs.Hearing.{with_client}
use Rattle.std.specs.Option.{IfSome}
use Rattle.rd_declared.specs.Declaring.{bare_lines, declared_devices}
use Rattle.rd_world.specs.Recording.{client_channel}
use Rattle.rd_world.specs.Session.{IsStoredOpen}
use Rattle.rd_deeds.specs.Talk.{Deed, EachAfter, has_ended, host_begins, open_channel}
use Rattle.rd_world.specs.World.{WorldState, station_at}
use Rattle.rd_declared.specs.declared.device.SessionDevice.{SessionDevice}
use Rattle.rd_said.proofs.EndingLemmas.{GoesOn, cutting_same, left_now}
use Rattle.rd_said.proofs.LastLemmas.{behind_last}
use Rattle.rd_said.proofs.PartLemmas.{IsWithin, Passes, part_passes, passes_inside}
use Rattle.rd_said.proofs.SameLemmas.{IsOnOpen, ended_all, left_same, open_all, same_all, same_one}
use Rattle.rd_said.specs.Rest.{WasLeft}

-- ---- what was left

-- A channel that ended is none that is open or begins later; and of it this was left.
pub record IsOver (devices : List (ℕ × Declared)) (w : WorldState) (c : ℕ) : Type 0 where
  pub begun : c ≤ w.channels
  pub shut : open_channel w.deeds ≡ Some c → ⊥
  pub os : List Outgoing
  pub left : WasLeft devices c os w.deeds

abbrev pub AllOver : List (ℕ × Declared) → WorldState → Type 0
AllOver devices w = EachAfter IsOnOpen w.deeds → (c : ℕ) → has_ended c w.deeds ≡ true → IsOver devices w c

passes_over : (devices : List (ℕ × Declared)) (w v : WorldState) → Passes w v → AllOver devices w → AllOver devices v
passes_over devices w v p all each c ended =
    let on : EachAfter IsOnOpen (p.more ++ w.deeds) = subst (EachAfter IsOnOpen) p.deeds each in
    let was = all (each_end IsOnOpen p.more w.deeds on) c (sym (ended_all c p.more w.deeds p.passing) ∙ ap (has_ended c) (sym p.deeds) ∙ ended) in
    record {
      begun = subst (λ (n : ℕ). c ≤ n) (sym p.channels) was.begun;
      shut = λ opened. was.shut (sym (open_all p.more w.deeds p.passing) ∙ ap open_channel (sym p.deeds) ∙ opened);
      os = was.os;
      left = subst (WasLeft devices c was.os) (sym p.deeds) (left_same devices c was.os (p.more ++ w.deeds) w.deeds (same_all c p.more w.deeds was.shut p.passing on) was.left);
    }

part_over : (devices : List (ℕ × Declared)) (starves : Key → Bool) (w : WorldState) (p : Part) → IsWithin p → AllOver devices w → AllOver devices (done starves w p)
part_over devices starves w p within all = passes_over devices w (done starves w p) (part_passes starves w p within) all

-- a channel begins
connects_over : (devices : List (ℕ × Declared)) (w : WorldState) → AllOver devices w → AllOver devices (connects w)
connects_over devices w all =
    subst (λ (x : WorldState). AllOver devices (begun_on w x)) (sym (all_refreshed (map (λ (e : ℕ × PrinterNames). e.0) w.printers) w)) begun
  where
    begun : EachAfter IsOnOpen (host_begins (w.channels + 1) ∷ w.deeds) → (c : ℕ) → has_ended c w.deeds ≡ true → IsOver devices (begun_on w (with_client w (fold refreshing w (map (λ (e : ℕ × PrinterNames). e.0) w.printers)).client)) c
    begun each c ended =
        let was = all each.1 c ended in
        record {
          begun = (let low : c ≤ w.channels = was.begun in omega (arith, low));
          shut = λ opened. (let low : c ≤ w.channels = was.begun in let same : w.channels + 1 ≡ c = cc opened in omega (arith, low, same));
          os = was.os;
          left = left_same devices c was.os (host_begins (w.channels + 1) ∷ w.deeds) w.deeds (same_one c w.deeds (host_begins (w.channels + 1)) (apart c was.begun)) was.left;
        }
      where
        apart : (c : ℕ) → c ≤ w.channels → (w.channels + 1 == c) ≡ false
        apart c low = by (w.channels + 1 == c) refl
          where
            by : (b : Bool) → (w.channels + 1 == c) ≡ b → b ≡ false
            by true e = let same : w.channels + 1 ≡ c = eqb-true (w.channels + 1) c e in absurd (omega (arith, low, same))
            by false e = refl

-- a channel ends
cutting_over : (devices : List (ℕ × Declared)) (w : WorldState) → WasLeft devices w.channels ((w.client).core).outbox w.deeds → AllOver devices w → AllOver devices (cutting w)
cutting_over devices w left all each c ended = by (cut.channels == c) refl ended
  where
    stations : List ℕ
    stations = map (λ (e : ℕ × StationState SessionDevice). e.0) w.stations

    cut : WorldState
    cut = fold dropping w stations

    p : Passes w (fold dropping w (map (λ (e : ℕ × StationState SessionDevice). e.0) w.stations))
    p = passes_inside w (fold dropping w (map (λ (e : ℕ × StationState SessionDevice). e.0) w.stations)) (all_dropped_inside (map (λ (e : ℕ × StationState SessionDevice). e.0) w.stations) w)

    before : EachAfter IsOnOpen w.deeds
    before = each_end IsOnOpen p.more w.deeds (subst (EachAfter IsOnOpen) p.deeds each.1)

    by : (b : Bool) → (cut.channels == c) ≡ b → (b || has_ended c cut.deeds) ≡ true → IsOver devices (cutting w) c
    by true e is =
        let own : w.channels ≡ c = sym p.channels ∙ eqb-true cut.channels c e in
        record {
          begun = (let same : cut.channels ≡ c = eqb-true cut.channels c e in omega (arith, same));
          shut = λ opened. absurd (cc opened);
          os = ((w.client).core).outbox;
          left = subst (λ (n : ℕ). WasLeft devices n ((w.client).core).outbox (cutting w).deeds) own (left_same devices w.channels ((w.client).core).outbox (cutting w).deeds w.deeds (cutting_same w.channels w) left);
        }
    by false e is =
        let was = all before c (sym (ended_all c p.more w.deeds p.passing) ∙ ap (has_ended c) (sym p.deeds) ∙ is) in
        record {
          begun = subst (λ (n : ℕ). c ≤ n) (sym p.channels) was.begun;
          shut = λ opened. absurd (cc opened);
          os = was.os;
          left = left_same devices c was.os (cutting w).deeds w.deeds (cutting_same c w) was.left;
        }

module _ (lines : List NumberedLine) (starves : Key → Bool) (premises : RunPremises lines) (few : length lines ≤ 1000000) (declare : DeclareInRoom lines) (writable : DeclaresWritable lines) where
  abbrev devs : List (ℕ × Declared)
  devs = declared_devices (bare_lines lines)

  read_well : (w : WorldState) → IsBehind lines starves w → AreReadWell w.deeds
  read_well w behind = orders_read (declared_devices (bare_lines lines)) w.deeds (behind_client_ordered lines starves premises writable w behind).orders

  goes_on : (w : WorldState) → Reached lines starves w → open_channel w.deeds ≡ Some w.channels → GoesOn (declared_devices (bare_lines lines)) w
  goes_on w reached opened =
      let fit : AreFit (declared_devices (bare_lines lines)) = bounded_fit lines premises.bounded in
      let behind : IsBehind lines starves w = reached_behind lines starves w reached in
      let k = knows lines starves premises w behind in
      record {
        opened = host_channel w.side w.channels w.deeds k.stands.host ∙ opened;
        fine = ((behind_meets lines starves premises writable w behind).now opened).client_fine;
        ordered = (behind_orderly lines starves w fit behind).0;
        standing = behind_standing lines starves w fit behind;
        spelled = reached_spelled lines starves fit premises w reached;
        saying = (reached_good lines starves premises few w reached declare).0;
        turns = reached_in_turn lines starves premises declare few w reached;
        last = behind_last lines starves fit w behind;
        answers = k.on.outbox;
        tells = behind_tells lines starves premises w behind (read_well w behind);
      }

  -- what waits on the open channel
  pub waits_so : (w : WorldState) → Reached lines starves w → open_channel w.deeds ≡ Some w.channels → WasLeft (declared_devices (bare_lines lines)) w.channels ((w.client).core).outbox w.deeds
  waits_so w reached opened = left_now (declared_devices (bare_lines lines)) w (goes_on w reached opened)

  -- ---- each move, and every run

  abbrev Over : WorldState → Type 0
  Over w = AllOver (declared_devices (bare_lines lines)) w

  within_free : (p : Part) → part_weight p ≡ 0 → is_issue p ≡ false → IsWithin p
  within_free begins none free = absurd (cc none)
  within_free ends none free = absurd (cc none)
  within_free p none free = tt

  keep_within : (w : WorldState) (p : Part) → IsWithin p → MayBe lines starves w p → Over w → Over (done starves w p)
  keep_within w p within may over = part_over (declared_devices (bare_lines lines)) starves w p within over

  -- the same of what no line does
  abbrev OverFree : ℕ → WorldState → Type 0
  OverFree n w = n ≡ 0 → Over w

  keep_free : (n : ℕ) (w : WorldState) (p : Part) → MayBe lines starves w p → OverFree n w → OverFree (part_weight p + n) (done starves w p)
  keep_free n w begins may over none = absurd (omega (arith, none))
  keep_free n w ends may over none = absurd (omega (arith, none))
  keep_free n w p may over none = part_over (declared_devices (bare_lines lines)) starves w p tt (over (let less : part_weight p + n ≡ 0 = none in omega (arith, less)))

  event_over : (w : WorldState) (e : Event) → Reached lines starves w → IsOfLines lines e → is_enabled w e ≡ true → Over w → Over (act starves w e)
  event_over w (event.remove device) reached said can over =
      let part : Part = removes_one device (station_at w device) in
      tries_keeps lines starves Over IsWithin within_free keep_within (done starves w part) device (keep_within w part tt (can, refl) over)
  event_over w (event.add device) reached said can over = adding (lookup (is_at (nat_cmp device)) w.printers) refl
    where
      adding : (names : Option PrinterNames) → lookup (is_at (nat_cmp device)) w.printers ≡ names → Over (announced_by (told_added (refreshed_by w device names) device) device (station_at (refreshed_by w device names) device))
      adding None is = keep_within w (adds_one device None (station_at w device)) tt (can, is, refl) over
      adding (Some names) is = keep_within w (adds_one device (Some names) (station_at w device)) tt (can, is, refl) over
  event_over w event.drop_channel reached said can over =
      let behind : IsBehind lines starves w = reached_behind lines starves w reached in
      let opened : open_channel w.deeds ≡ Some w.channels = open_now w (knows lines starves premises w behind).stands can in
      all_take_keeps lines starves Over IsWithin within_free keep_within (cutting w) (cutting_over (declared_devices (bare_lines lines)) w (waits_so w reached opened) over)
  event_over w event.connect reached said can over = connects_over (declared_devices (bare_lines lines)) w over
  event_over w (event.tell notice) reached said can over = keep_within w (tells_one notice) tt (said, can) over
  event_over w (event.issue a) reached said can over = event_keeps lines starves OverFree keep_free 0 w (event.issue a) reached said can (λ none. over) refl
  event_over w event.host_send reached said can over = event_keeps lines starves OverFree keep_free 0 w event.host_send reached said can (λ none. over) refl
  event_over w (event.client_read n) reached said can over = event_keeps lines starves OverFree keep_free 0 w (event.client_read n) reached said can (λ none. over) refl
  event_over w event.client_send reached said can over = event_keeps lines starves OverFree keep_free 0 w event.client_send reached said can (λ none. over) refl
  event_over w (event.collect device) reached said can over = event_keeps lines starves OverFree keep_free 0 w (event.collect device) reached said can (λ none. over) refl
  event_over w (event.host_read n) reached said can over = event_keeps lines starves OverFree keep_free 0 w (event.host_read n) reached said can (λ none. over) refl
  event_over w (event.take_job device hand) reached said can over = event_keeps lines starves OverFree keep_free 0 w (event.take_job device hand) reached said can (λ none. over) refl
  event_over w (event.apply_job hand) reached said can over = event_keeps lines starves OverFree keep_free 0 w (event.apply_job hand) reached said can (λ none. over) refl

  move_over : (w : WorldState) (m : RunMove) → Steps lines starves w m → Over w → Over (after_move starves w m)
  move_over w (happens e) (reached, after, can) over = event_over w e reached can.0 can.1 over
  move_over w (queues a) steps over = keep_within w (queues_one a) tt steps.2 over
  move_over w (idle number) steps over = keep_within w (idle_one number) tt tt over
  move_over w draws steps over = keep_within w draws_one tt tt over

  all_over : (w : WorldState) → Reached lines starves w → Over w
  all_over = by_moves lines starves Over (subst Over (sym (begun_by lines _ (lines_begin lines))) (λ each c ended. absurd (cc ended))) move_over

  both_each : (deeds : List Deed) → EachAfter (λ (before : List Deed) (x : Deed). IfSome (client_channel x) (λ (n : ℕ). open_channel before ≡ Some n)) deeds → EachAfter IsStoredOpen deeds → EachAfter IsOnOpen deeds
  both_each [] first second = tt
  both_each (x ∷ deeds) first second = ((first.0, second.0), both_each deeds first.1 second.1)

  pub reached_over : (w : WorldState) → Reached lines starves w → (c : ℕ) → has_ended c w.deeds ≡ true → IsOver (declared_devices (bare_lines lines)) w c
  reached_over w reached c ended =
      all_over w reached (both_each w.deeds (knows lines starves premises w (reached_behind lines starves w reached)).carries.on_open (stored_open lines starves premises w reached)) c ended
