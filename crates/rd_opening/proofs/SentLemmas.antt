-- Where a run ends all that was accepted on a channel that didn't end was sent, and the host heard all that the client wrote there.
use Rattle.std.proofs.Common.{◌≡◌, ◌≢◌, ◌⊎◌, ◌∙◌, refl, sym, ap, subst, inl, inr, ℕ, ◌<◌, ◌≤◌, arith, Bool, false, List, [], ◌∷◌, ◌++◌, map, reverse, fold, Some, None, Option}
use Rattle.std.specs.Prelude.{filter, nat_le}
use Rattle.std.proofs.lemmas.Bool.Decides.{nat_tests}
use Rattle.std.specs.Option.{IfSome, option_map_or}
use Rattle.std.proofs.lemmas.Bool.{cases_Bool, cases_eq}
use Rattle.rd_base.specs.declared.journal.Key.{Key}
use Rattle.rd_client.specs.Core.{Outgoing}
use Rattle.rd_orders.proofs.RunsBeginningLemmas.{Unset, begins_as}
use Rattle.rd_orders.proofs.RunsHostLemmas.{opens}
use Rattle.rd_orders.proofs.RunsInsides.{added_inside, all_dropped_inside, all_refreshed_inside, applied_inside, hears_inside, put_inside, removed_inside, stationed}
use Rattle.rd_orders.proofs.RunsKeysOn.{sent_on}
use Rattle.rd_orders.proofs.RunsKeysOnLemmas.{collected_on}
use Rattle.rd_orders.proofs.RunsParts.{IsBehind, MayBe, Part, accepts, adds_one, applies_one, begins, by_parts, client_gets, client_hears_one, client_keeps_part, client_sends_one, collects_one, done, draws_one, ends, hands_out, host_gets, host_hears_one, host_keeps_part, host_sends_one, idle_one, queues_one, reached_behind, refuses, removes_one, takes_one, tells_one, tries_one}
use Rattle.rd_orders.proofs.RunsReaching.{run_reached, run_rests}
use Rattle.rd_orders.proofs.RunsResting.{IsQuiet, quiet}
use Rattle.rd_orders.proofs.RunsStanding.{needs_open}
use Rattle.rd_orders.proofs.RunsTogether.{Knows, known, knows}
use Rattle.rd_orders.proofs.RunsTrafficLemmas.{Traffic, client_reads_else, client_writes_else, completes_else, host_reads_else, host_writes_else, no_traffic, traffic}
use Rattle.rd_orders.specs.RunsMoves.{Reached}
use Rattle.rd_orders.specs.RunsPremises.{RunPremises}
use Rattle.rd_script.specs.declared.line.NumberedLine.{NumberedLine}
use Rattle.rd_station.specs.Station.{StationState}
use Rattle.rd_declared.specs.declared.device.SessionDevice.{SessionDevice}
use Rattle.rd_declared.specs.Devices.{PrinterNames}
use Rattle.rd_world.specs.Events.{completion_message, deed_on, dropping, refreshing}
use Rattle.rd_world.specs.Lines.{submitted}
use Rattle.rd_world.specs.Run.{Most, choices, run_of}
use Rattle.rd_deeds.specs.Talk.{Deed, client_reads, client_writes, client_wrote, completes, has_ended, host_read, host_wrote, is_request, open_channel}
use Rattle.rd_world.specs.World.{WorldState, with_deed, with_station}
use Rattle.rd_orders.proofs.Meeting.{inside_traffic}
use Rattle.rd_orders.specs.Orders.{DeclaresWritable}
use Rattle.rd_opening.proofs.ChannelLemmas.{behind_channels}
use Rattle.rd_opening.proofs.QuietLemmas.{heard_all, no_message}
use Rattle.rd_opening.proofs.Submitted.{asked_on, behind_submitted}

-- ---- no channel has the number 0

abbrev None0 : WorldState → Type 0
None0 w = traffic 0 w.deeds ≡ no_traffic

own_none : (channel : ℕ) (deeds : List Deed) (o : Outgoing) → 0 ≢ channel → IfSome o.answers (λ (key : Key). key.channel ≡ channel) → traffic 0 deeds ≡ no_traffic → traffic 0 (deed_on channel o ∷ deeds) ≡ no_traffic
own_none channel deeds o other on none = by o.answers on
  where
    by : (a : Option Key) → IfSome a (λ (key : Key). key.channel ≡ channel) → traffic 0 (option_map_or (λ key. completes key o.message) a (client_writes channel o.message) ∷ deeds) ≡ no_traffic
    by None on = client_writes_else channel deeds o.message 0 other ∙ none
    by (Some key) on = completes_else channel deeds o.message key on 0 other ∙ none

module _ (lines : List NumberedLine) (starves : Key → Bool) (premises : RunPremises lines) (writable : DeclaresWritable lines) where
  some_channel : (w : WorldState) → IsBehind lines starves w → open_channel w.deeds ≡ Some w.channels → 0 ≢ w.channels
  some_channel w b is same = let some : 1 ≤ w.channels = (behind_submitted lines starves premises writable w b).some is in absurd (omega (arith, some, same))

  none_step : (w : WorldState) (p : Part) → IsBehind lines starves w → Knows w → MayBe lines starves w p → None0 w → None0 (done starves w p)
  none_step w (accepts a asked named t number) b k may none = none
  none_step w (refuses a asked cause) b k may none = none
  none_step w (hands_out a number t taken None) b k may none = none
  none_step w (hands_out a number t taken (Some asked)) b k may none = none
  none_step w (host_sends_one message) b k next none = host_writes_else w.channels w.deeds message 0 (some_channel w b (needs_open lines starves w (host_sends_one message) next tt k.stands)) ∙ none
  none_step w (host_gets n) b k may none = none
  none_step w host_keeps_part b k may none = none
  none_step w (host_hears_one message rest) b k found none = host_reads_else w.channels w.deeds message 0 (some_channel w b (needs_open lines starves w (host_hears_one message rest) found tt k.stands)) ∙ none
  none_step w (tells_one n) b k may none = none
  none_step w begins b k may none = inside_traffic w (fold refreshing w (map (λ (e : ℕ × PrinterNames). e.0) w.printers)) (all_refreshed_inside (map (λ (e : ℕ × PrinterNames). e.0) w.printers) w) 0 ∙ none
  none_step w ends b k may none =
      let ids : List ℕ = map (λ (e : ℕ × StationState SessionDevice). e.0) w.stations in inside_traffic w (fold dropping w ids) (all_dropped_inside ids w) 0 ∙ none
  none_step w (client_sends_one after out) b k made none =
      own_none w.channels w.deeds out (some_channel w b (needs_open lines starves w (client_sends_one after out) made tt k.stands)) ((sent_on w.channels w.client after out k.on.outbox made).0).0 none
  none_step w (client_gets n) b k may none = none
  none_step w client_keeps_part b k may none = none
  none_step w (client_hears_one message rest) b k (kept, found) none =
      let x : WorldState = record w { to_client = record w.to_client { part = []; taken = _; unhandled = rest } } in
      inside_traffic (with_deed x (client_reads w.channels message)) (done starves w (client_hears_one message rest)) (hears_inside x message) 0
      ∙ client_reads_else w.channels w.deeds message 0 (some_channel w b (needs_open lines starves w (client_hears_one message rest) (kept, found) tt k.stands)) ∙ none
  none_step w (tries_one kept) b k may none = inside_traffic (record w { kept = None }) (done starves w (tries_one kept)) (put_inside (record w { kept = None }) kept.device kept.job) 0 ∙ none
  none_step w (collects_one device st after c) b k (reached, quiet, there, made) none =
      let y : WorldState = with_station w device after in
      completes_else w.channels y.deeds (completion_message device c) c.key (collected_on w.channels st (k.on.held device st there) after c made).0 0
      (some_channel w b (needs_open lines starves w (collects_one device st after c) (reached, quiet, there, made) tt k.stands))
      ∙ inside_traffic w y (stationed w device after) 0 ∙ none
  none_step w (takes_one device hand st after job) b k may none = inside_traffic w (with_station w device after) (stationed w device after) 0 ∙ none
  none_step w (applies_one hand device job a) b k may none = inside_traffic w (done starves w (applies_one hand device job a)) (applied_inside starves w hand device job a) 0 ∙ none
  none_step w (removes_one device a) b k may none = inside_traffic w (done starves w (removes_one device a)) (removed_inside w device a) 0 ∙ none
  none_step w (adds_one device names a) b k may none = inside_traffic w (done starves w (adds_one device names a)) (added_inside w device names a) 0 ∙ none
  none_step w (queues_one a) b k may none = none
  none_step w (idle_one number) b k may none = none
  none_step w draws_one b k may none = none

  behind_none : (w : WorldState) → IsBehind lines starves w → None0 w
  behind_none = by_parts lines starves None0 (begins_as lines (λ (u : Unset). traffic 0 u.deeds ≡ no_traffic) refl)
      (λ w p before after may none. none_step w p before (knows lines starves premises w before) may none)

  -- ---- what is open, or never began

  -- a channel that didn't end is open, or never began
  pub open_or_none : (w : WorldState) → Reached lines starves w → (c : ℕ) → has_ended c w.deeds ≡ false → (open_channel w.deeds ≡ Some c) ⊎ ((c ≡ 0) ⊎ (w.channels < c))
  open_or_none w r c off = elim (cases_eq c 0) [
    | inl zero ↦ inr (inl zero)
    | inr some ↦ by (compares w.channels c)
  ]
    where
      compares : (a b : ℕ) → (b ≤ a) ⊎ (a < b)
      compares a b = elim (cases_Bool (nat_le b a)) [ inl on ↦ inl (grind (arith, nat_tests, on)) | inr off ↦ inr (grind (arith, nat_tests, off)) ]

      by : (c ≤ w.channels) ⊎ (w.channels < c) → (open_channel w.deeds ≡ Some c) ⊎ ((c ≡ 0) ⊎ (w.channels < c))
      by (inr above) = inr (inr above)
      by (inl below) = elim (cases_eq c 0) [
        | inl zero ↦ inr (inl zero)
        | inr some ↦ elim ((behind_channels lines starves premises w (reached_behind lines starves w r)).each c (omega (arith, some)) below) [
          | inl is ↦ inl is
          | inr ended ↦ absurd (cc (off, ended))
        ]
      ]

  -- what an open channel's number is
  pub opened_as : (w : WorldState) → Reached lines starves w → (c : ℕ) → open_channel w.deeds ≡ Some c → (open_channel w.deeds ≡ Some w.channels) × (w.channels ≡ c)
  opened_as w r c is =
      let opened : open_channel w.deeds ≡ Some w.channels = opens w.side w.channels w.deeds (known lines starves premises w r).stands.host (λ shut. cc (shut, is)) in (opened, (let same : w.channels ≡ c = cc (opened, is) in same))

  -- ---- the requests

  pub all_sent : (w : WorldState) → Reached lines starves w → open_channel w.deeds ≡ Some w.channels → IsQuiet w → filter is_request (host_wrote w.channels w.deeds) ≡ submitted w.channels w.deeds
  all_sent w r is silent =
      let s = behind_submitted lines starves premises writable w (reached_behind lines starves w r) in
      sym (s.now is ∙ ap (λ (ms : List (List ℕ)). reverse ms ++ asked_on w.channels w.deeds) (no_message w.side silent.host_sends).1)

  pub rest_sent : (w : WorldState) → Reached lines starves w → choices w ≡ [] → (c : ℕ) → has_ended c w.deeds ≡ false → filter is_request (host_wrote c w.deeds) ≡ submitted c w.deeds
  rest_sent w r rests c off = elim (open_or_none w r c off) [
    | inl is ↦
        let (opened, same) = opened_as w r c is in
        subst (λ (x : ℕ). filter is_request (host_wrote x w.deeds) ≡ submitted x w.deeds) same (all_sent w r opened (quiet w rests))
    | inr out ↦ let none = (behind_submitted lines starves premises writable w (reached_behind lines starves w r)).unbegun c out in none.1 ∙ sym none.0
  ]

  -- ---- what is heard

  pub unbegun_heard : (w : WorldState) → Reached lines starves w → (c : ℕ) → (c ≡ 0) ⊎ (w.channels < c) → traffic c w.deeds ≡ no_traffic
  unbegun_heard w r c (inl zero) = subst (λ (x : ℕ). traffic x w.deeds ≡ no_traffic) (sym zero) (behind_none w (reached_behind lines starves w r))
  unbegun_heard w r c (inr above) = (known lines starves premises w r).carries.later c above

  pub rest_heard : (w : WorldState) → Reached lines starves w → choices w ≡ [] → (c : ℕ) → has_ended c w.deeds ≡ false → host_read c w.deeds ≡ client_wrote c w.deeds
  rest_heard w r rests c off = elim (open_or_none w r c off) [
    | inl is ↦
        let (opened, same) = opened_as w r c is in
        subst (λ (x : ℕ). host_read x w.deeds ≡ client_wrote x w.deeds) same (heard_all lines starves premises writable w r opened (quiet w rests))
    | inr out ↦ let none = unbegun_heard w r c out in ap (λ (t : Traffic). t.host_read) none ∙ sym (ap (λ (t : Traffic). t.client_wrote) none)
  ]

  pub runs_sent : (most : Most) (w : WorldState) → run_of most starves lines ≡ Some w → (c : ℕ) → has_ended c w.deeds ≡ false → filter is_request (host_wrote c w.deeds) ≡ submitted c w.deeds
  runs_sent most w is = rest_sent w (run_reached lines starves most w is) (run_rests starves most lines w is)

  pub runs_heard : (most : Most) (w : WorldState) → run_of most starves lines ≡ Some w → (c : ℕ) → has_ended c w.deeds ≡ false → host_read c w.deeds ≡ client_wrote c w.deeds
  runs_heard most w is = rest_heard w (run_reached lines starves most w is) (run_rests starves most lines w is)
