-- In each world that lines come to, what a host read and wrote on each channel is in order, and on the open one it stands there.
use Rattle.std.proofs.Common.{◌≡◌, ◌≢◌, ◌∙◌, refl, sym, ap, subst, inl, inr, ℕ, ◌+◌, ◌<◌, arith, Bool, true, false, List, [], ◌∷◌, ◌++◌, map, reverse, fold, Some, None, Option, Result, Ok, Err, is_ok, is_some, append_assoc}
use Rattle.std.specs.Prelude.{if◌then◌else◌, IsOk}
use Rattle.std.specs.Map.{remove_entry}
use Rattle.std.specs.Ordering.{nat_cmp}
use Rattle.std.specs.BTreeMap.{is_at}
use Rattle.std.specs.Option.{option_map_or}
use Rattle.std.proofs.lemmas.Bool.{cases_eq}
use Rattle.std.proofs.lemmas.List.{reverse-append}
use Rattle.rd_base.specs.declared.journal.Key.{Key}
use Rattle.rd_client.specs.Core.{Outgoing}
use Rattle.rd_client.specs.Events.{AreWritable, waiting_messages}
use Rattle.rd_devices.specs.declared.list.Announce.{Announce}
use Rattle.rd_client.specs.Order.{is_client_ready}
use Rattle.rd_hello.specs.declared.client.ClientState.{ClientState}
use Rattle.rd_hello.specs.declared.client.ClientState.TheVariants as client_state
use Rattle.rd_hello.specs.declared.end_fault.EndFault.{EndFault}
use Rattle.rd_hello.specs.Moves.{Move, reads, writes}
use Rattle.rd_host.specs.Core.{HostCoreState, IsHostReady, host_hear, host_send}
use Rattle.rd_host.specs.declared.act.Act.{Act}
use Rattle.rd_host.specs.declared.act.Act.TheVariants as act
use Rattle.rd_host.specs.Order.{HostOrder}
use Rattle.rd_base.specs.Layout.{met}
use Rattle.rd_base.specs.Position.{at_start}
use Rattle.rd_irp.specs.Request.{request_head}
use Rattle.rd_irp.specs.declared.request.Request.{Request}
use Rattle.rd_pending.proofs.Effects as effects
use Rattle.rd_pending.proofs.Neutral.{AreNeutral, lives_all}
use Rattle.rd_pending.proofs.Tame.{newest}
use Rattle.rd_pending.specs.declared.calls.SubmitNo.{SubmitNo}
use Rattle.rd_pending.specs.declared.calls.Taken.{Taken}
use Rattle.rd_pending.specs.declared.calls.TakeNo.{TakeNo}
use Rattle.rd_pending.specs.History.{after, lives_before}
use Rattle.rd_pending.specs.Outcomes.{Accepted}
use Rattle.rd_pending.specs.Table as table
use Rattle.rd_pending.specs.Table.{TableState, accept, submit_refusal}
use Rattle.rd_controls.proofs.RunsAskedLemmas.{tellable_lines}
use Rattle.rd_controls.proofs.RunsBeginningLemmas.{Unset, begins_as}
use Rattle.rd_controls.proofs.RunsBelowLemmas.{channel_is}
use Rattle.rd_controls.proofs.RunsHostLemmas.{host_channel}
use Rattle.rd_controls.proofs.RunsInsides.{AreOwn, IsInside, Outside, added_inside, all_dropped_inside, all_refreshed_inside, applied_inside, hears_inside, put_inside, removed_inside, stationed}
use Rattle.rd_controls.proofs.RunsParts.{IsBehind, MayBe, Part, accepts, adds_one, applies_one, begins, by_parts, client_gets, client_hears_one, client_keeps_part, client_sends_one, collects_one, done, draws_one, ends, hands_out, host_gets, host_hears_one, host_keeps_part, host_sends_one, idle_one, queues_one, refuses, removes_one, takes_one, tells_one, tries_one}
use Rattle.rd_controls.proofs.RunsReaching.{both}
use Rattle.rd_controls.proofs.RunsStanding.{is_off, needs_open, open_inside, shut_now}
use Rattle.rd_controls.proofs.RunsTogether.{Knows, knows}
use Rattle.rd_controls.proofs.RunsTrafficLemmas.{other_number, same_number, traffic}
use Rattle.rd_controls.proofs.RunsWayLemmas.{one_read}
use Rattle.rd_controls.specs.RunsPremises.{RunPremises}
use Rattle.rd_script.specs.declared.line.NumberedLine.{NumberedLine}
use Rattle.rd_station.specs.Station.{StationState}
use Rattle.rd_deeds.proofs.Calls.{neutral_reading, table_of}
use Rattle.rd_deeds.proofs.Written.{Matches, requests_on, sound_side, written}
use Rattle.rd_deeds.specs.Joining.{accepted}
use Rattle.rd_declared.specs.declared.device.SessionDevice.{SessionDevice}
use Rattle.rd_declared.specs.Devices.{Declared, PrinterNames}
use Rattle.rd_world.specs.Events.{deed_on, dropping, is_channel_open, refreshing}
use Rattle.rd_deeds.specs.Host.{HostSide, hears, host_heard, next_message, side_sends}
use Rattle.rd_deeds.specs.HostDeeds.{calls_in, calls_of, sending, side_of}
use Rattle.rd_declared.specs.Declaring.{bare_lines, declared_devices}
use Rattle.rd_world.specs.Recording.{announced_of, client_id}
use Rattle.rd_deeds.specs.Talk.{Deed, adds, client_reads, client_writes, client_wrote, completes, host_begins, host_moves, host_read, host_reads, host_writes, open_channel, removes, request_in, stores}
use Rattle.rd_world.specs.World.{Asked, WorldState, with_deed, with_station}
use Rattle.rd_orders.proofs.HostOrders.{HearsOf, HostNow, host_asks_now, host_begins_now, host_hears_now, host_now_ordered, host_sends_now, host_table_now, host_tells_now}
use Rattle.rd_orders.proofs.Meeting.{IsKnown, Meets, behind_known, behind_meets, served_is}
use Rattle.rd_orders.proofs.MeetingLemmas.{MeetsAs, host_reads_first, ready_is}
use Rattle.rd_orders.proofs.PhaseLemmas.{HostCame, Phase, phase_ready}
use Rattle.rd_orders.proofs.SayingLemmas.{request_met}

-- What a host read and wrote on each channel is in order, and nothing on later ones than the last; on the open one it stands where its moves lead. Of the deeds this
-- takes how many lives were given before each channel, and the moves there.
pub record HostOrdersFor (s : HostSide) (opened : Option ℕ) (channels : ℕ) (given : ℕ → ℕ) (moves : ℕ → List Move) : Type 0 where
  pub later : (x : ℕ) → channels < x → moves x ≡ []
  pub orders : (x : ℕ) → HostOrder client_id (given x) (reverse (moves x))
  pub now : opened ≡ Some channels → HostNow (given channels) (moves channels) s

abbrev pub given_by : List Deed → ℕ → ℕ
given_by deeds x = lives_before x (calls_of client_id deeds)

abbrev pub HostOrders : WorldState → Type 0
HostOrders w = HostOrdersFor w.side (open_channel w.deeds) w.channels (given_by w.deeds) (λ x. host_moves x w.deeds)

-- ---- what a client does by itself

own_calls : (more deeds : List Deed) → AreOwn more → calls_of client_id (more ++ deeds) ≡ calls_of client_id deeds
own_calls [] deeds own = refl
own_calls (stores device item ∷ more) deeds own = own_calls more deeds own.1
own_calls (removes device ∷ more) deeds own = own_calls more deeds own.1
own_calls (adds device ∷ more) deeds own = own_calls more deeds own.1
own_calls (deed ∷ more) deeds own = absurd own.0

own_side : (more deeds : List Deed) → AreOwn more → side_of client_id (more ++ deeds) ≡ side_of client_id deeds
own_side [] deeds own = refl
own_side (stores device item ∷ more) deeds own = own_side more deeds own.1
own_side (removes device ∷ more) deeds own = own_side more deeds own.1
own_side (adds device ∷ more) deeds own = own_side more deeds own.1
own_side (deed ∷ more) deeds own = absurd own.0

own_moves : (x : ℕ) (more deeds : List Deed) → AreOwn more → host_moves x (more ++ deeds) ≡ host_moves x deeds
own_moves x [] deeds own = refl
own_moves x (stores device item ∷ more) deeds own = own_moves x more deeds own.1
own_moves x (removes device ∷ more) deeds own = own_moves x more deeds own.1
own_moves x (adds device ∷ more) deeds own = own_moves x more deeds own.1
own_moves x (deed ∷ more) deeds own = absurd own.0

inside_given : (w v : WorldState) → IsInside w v → given_by v.deeds ≡ given_by w.deeds
inside_given w v i = λ j x. lives_before x ((ap (calls_of client_id) i.deeds ∙ own_calls i.more w.deeds i.own) j)

inside_moves : (w v : WorldState) → IsInside w v → (x : ℕ) → host_moves x v.deeds ≡ host_moves x w.deeds
inside_moves w v i x = ap (host_moves x) i.deeds ∙ own_moves x i.more w.deeds i.own

inside_orders : (w v : WorldState) → IsInside w v → HostOrders w → HostOrders v
inside_orders w v i o =
    let moves : (λ (x : ℕ). host_moves x w.deeds) ≡ (λ (x : ℕ). host_moves x v.deeds) = λ j x. sym (inside_moves w v i x) j in
    subst (λ (n : Outside). HostOrdersFor n.side (open_channel v.deeds) n.channels (given_by v.deeds) (λ x. host_moves x v.deeds)) (sym i.same)
    (subst (λ (p : Option ℕ). HostOrdersFor w.side p w.channels (given_by v.deeds) (λ x. host_moves x v.deeds)) (sym (open_inside w v i))
    (subst (λ (f : ℕ → ℕ). HostOrdersFor w.side (open_channel w.deeds) w.channels f (λ x. host_moves x v.deeds)) (sym (inside_given w v i))
    (subst (HostOrdersFor w.side (open_channel w.deeds) w.channels (given_by w.deeds)) moves o)))

-- where nothing is read or written
quiet_orders : {s r : HostSide} {opened : Option ℕ} {channels : ℕ} {given : ℕ → ℕ} {moves : ℕ → List Move} → (opened ≡ Some channels → HostNow (given channels) (moves channels) s → HostNow (given channels) (moves channels) r)
    → HostOrdersFor s opened channels given moves → HostOrdersFor r opened channels given moves
quiet_orders on o = record { later = o.later; orders = o.orders; now = λ is. on is (o.now is) }

-- where one message is
loud_orders : {s r : HostSide} {opened : Option ℕ} {channels : ℕ} {given gave : ℕ → ℕ} {moves others : ℕ → List Move} (m : Move) → opened ≡ Some channels → others channels ≡ m ∷ moves channels
    → ((x : ℕ) → x ≢ channels → others x ≡ moves x) → gave ≡ given → (HostNow (given channels) (moves channels) s → HostNow (given channels) (m ∷ moves channels) r)
    → HostOrdersFor s opened channels given moves → HostOrdersFor r opened channels gave others
loud_orders {r = r} {opened = opened} {channels = channels} {given = given} {moves = moves} {others = others} m is here elsewhere same on o =
    let next : HostNow (given channels) (others channels) r = subst (λ (ms : List Move). HostNow (given channels) ms r) (sym here) (on (o.now is)) in
    subst (λ (f : ℕ → ℕ). HostOrdersFor r opened channels f others) (sym same) (record {
      later = λ x above. elsewhere x (λ same. omega (arith, above, same)) ∙ o.later x above;
      orders = λ x. elim (cases_eq x channels) [
        | inl same ↦ subst (λ (n : ℕ). HostOrder client_id (given n) (reverse (others n))) (sym same) (host_now_ordered (given channels) (others channels) r next)
        | inr other ↦ subst (λ (ms : List Move). HostOrder client_id (given x) (reverse ms)) (sym (elsewhere x other)) (o.orders x)
      ];
      now = λ opened. next;
    })

module _ (c : ℕ) (deeds : List Deed) (m : List ℕ) where
  reads_here : host_moves c (host_reads c m ∷ deeds) ≡ reads m ∷ host_moves c deeds
  reads_here = rw (same_number c) refl

  reads_else : (x : ℕ) → x ≢ c → host_moves x (host_reads c m ∷ deeds) ≡ host_moves x deeds
  reads_else x other = rw (other_number c x other) refl

  writes_here : host_moves c (host_writes c m ∷ deeds) ≡ writes m ∷ host_moves c deeds
  writes_here = rw (same_number c) refl

  writes_else : (x : ℕ) → x ≢ c → host_moves x (host_writes c m ∷ deeds) ≡ host_moves x deeds
  writes_else x other = rw (other_number c x other) refl

  neutral_sending : (o : List (List ℕ)) → AreNeutral (sending o)
  neutral_sending [] = (tt, tt)
  neutral_sending (x ∷ o) = tt

  written_given : given_by (host_writes c m ∷ deeds) ≡ given_by deeds
  written_given = λ j x. lives_all x (sending (((side_of client_id deeds).core).core).outbox) (calls_of client_id deeds) (neutral_sending (((side_of client_id deeds).core).core).outbox) j

  read_given : given_by (host_reads c m ∷ deeds) ≡ given_by deeds
  read_given =
      λ j x. lives_all x (calls_in (side_of client_id deeds).table (host_hear (side_of client_id deeds).core m).1) (calls_of client_id deeds) (neutral_reading (side_of client_id deeds).table (host_hear (side_of client_id deeds).core m).1) j

-- a message of the client's own, by whichever deed
own_orders : (s : HostSide) (channel : ℕ) (deeds : List Deed) (o : Outgoing) → HostOrdersFor s (open_channel deeds) channel (given_by deeds) (λ x. host_moves x deeds)
    → HostOrdersFor s (open_channel (deed_on channel o ∷ deeds)) channel (given_by (deed_on channel o ∷ deeds)) (λ x. host_moves x (deed_on channel o ∷ deeds))
own_orders s channel deeds o orders = by o.answers
  where
    by : (a : Option Key) → HostOrdersFor s (open_channel (option_map_or (λ key. completes key o.message) a (client_writes channel o.message) ∷ deeds)) channel (given_by (option_map_or (λ key. completes key o.message) a (client_writes channel o.message) ∷ deeds))
        (λ x. host_moves x (option_map_or (λ key. completes key o.message) a (client_writes channel o.message) ∷ deeds))
    by None = orders
    by (Some key) = orders

begun_lives : (t : TableState) (channel : ℕ) → (((table.begin t channel).0).lives ≡ t.lives) × (((table.begin t channel).0).given ≡ t.given)
begun_lives t channel = by (is_some t.channel)
  where
    by : (b : Bool) → (((if◌then◌else◌ {A = TableState × Bool} b (t, false) (record t { channel = Some channel; below = channel + 1; asked = 0; begun = 0 }, true)).0).lives ≡ t.lives)
        × (((if◌then◌else◌ {A = TableState × Bool} b (t, false) (record t { channel = Some channel; below = channel + 1; asked = 0; begun = 0 }, true)).0).given ≡ t.given)
    by true = (refl, refl)
    by false = (refl, refl)

-- ---- requests

matched : (xs : List Accepted) (before after : List (List ℕ)) (m : List ℕ) → Matches xs (before ++ m ∷ after) → (r : Request) × (request_in m ≡ Some r)
matched [] [] after m p = absurd p
matched [] (x ∷ before) after m p = absurd p
matched (a ∷ xs) [] after m p = (_, p.0)
matched (a ∷ xs) (x ∷ before) after m p = matched xs before after m p.1

module _ (lines : List NumberedLine) (starves : Key → Bool) (premises : RunPremises lines) (writable : AreWritable (announced_of (declared_devices (bare_lines lines)))) where
  abbrev declared : List (ℕ × Declared)
  declared = declared_devices (bare_lines lines)

  abbrev devices : List Announce
  devices = announced_of declared

  abbrev Known : WorldState → Type 0
  Known w = IsKnown lines starves premises declared devices writable w

  -- a request that is to be sent is one
  pub asked_request : (w : WorldState) → Knows w → open_channel w.deeds ≡ Some w.channels → (m : List ℕ) (others : List (List ℕ)) → ((w.side).table).outbox ≡ m ∷ others → (r : Request) × (request_in m ≡ Some r)
  asked_request w k is m others asked =
      let host = k.stands.host in
      let t : TableState = (side_of client_id w.deeds).table in
      let same : t ≡ (w.side).table = ap (λ (s : HostSide). s.table) host.is in
      let wrote = written client_id w.deeds host.may w.channels in
      let unsent = wrote.in_outbox (ap (λ (x : TableState). x.channel) same ∙ host_channel w.side w.channels w.deeds host ∙ is) in
      let parts : wrote.unsent ≡ reverse others ++ m ∷ [] = unsent ∙ ap (λ (x : TableState). reverse x.outbox) same ∙ ap reverse asked ∙ reverse-append (m ∷ []) others in
      let old : List (List ℕ) = requests_on w.channels w.deeds in
      let xs : List Accepted = newest w.channels (accepted client_id w.deeds) in
      matched xs (reverse others) old m (subst (Matches xs) (ap (λ (ms : List (List ℕ)). ms ++ old) parts ∙ append_assoc (reverse others) (m ∷ []) old) wrote.matches)

  -- a host that has a request to send is ready
  asks_ready : (w : WorldState) → MeetsAs w.client w.side (traffic w.channels w.deeds) → (((w.side).table).outbox ≡ [] → ⊥) → IsHostReady (w.side).core
  asks_ready w m some =
      let ready : ((w.client).core).shake ≡ client_state.Ready = by (is_client_ready ((w.client).core).shake) refl in
      let down : List (List ℕ) = m.down ++ (((w.side).core).core).outbox ++ ((w.side).table).outbox in
      let up : List (List ℕ) = m.up ++ waiting_messages w.client in
      phase_ready (((w.side).core).core).shake down up (subst (λ (k : ClientState). Phase k (((w.side).core).core).shake down up) ready m.phase)
    where
      by : (b : Bool) → is_client_ready ((w.client).core).shake ≡ b → ((w.client).core).shake ≡ client_state.Ready
      by true is = ready_is ((w.client).core).shake is
      by false is = absurd (some (m.early is).outbox)

  sent_now : (w : WorldState) → Knows w → open_channel w.deeds ≡ Some w.channels → MeetsAs w.client w.side (traffic w.channels w.deeds) → (given : ℕ) (moves : List Move) (message : List ℕ) → next_message w.side ≡ Some message
      → HostNow given moves w.side → HostNow given (writes message ∷ moves) (side_sends w.side)
  sent_now w k is m given moves message next n = own (((w.side).core).core).outbox refl
    where
      s : HostSide
      s = w.side

      asks : (o : List (List ℕ)) → (s.table).outbox ≡ o → ((s.core).core).outbox ≡ [] → HostNow given (writes message ∷ moves) (side_sends s)
      asks [] asked none = let nothing : next_message s ≡ None = rw (none, asked) refl in absurd (cc (nothing, next))
      asks (x ∷ others) asked none =
          let first : next_message s ≡ Some x = rw (none, asked) refl in
          let same : x ≡ message = cc (first, next) in
          let after : side_sends s ≡ record s { table = record s.table { outbox = others } } = rw (none, asked) refl in
          let (r, spelled) = asked_request w k is x others asked in
          let (head, is_met) = request_met x r spelled in
          subst (HostNow given (writes message ∷ moves)) (sym after)
          (host_asks_now given s (record s.table { outbox = others }) message moves
          (record { ready = asks_ready w m (λ empty. let some : x ∷ others ≡ [] = sym asked ∙ empty in cc some); sent = none; head = subst (λ (y : List ℕ). IsOk (met request_head (at_start y))) same (ap is_ok is_met) }) refl refl n)

      own : (o : List (List ℕ)) → ((s.core).core).outbox ≡ o → HostNow given (writes message ∷ moves) (side_sends s)
      own [] empty = asks (s.table).outbox refl empty
      own (x ∷ others) some =
          let first : next_message s ≡ Some x = rw some refl in
          let same : x ≡ message = cc (first, next) in
          let new : HostCoreState = record s.core { core = record (s.core).core { outbox = others } } in
          let after : side_sends s ≡ record s { core = new } = rw some refl in
          let sent : host_send s.core ≡ (new, Some x) = rw some refl in
          subst (HostNow given (writes message ∷ moves)) (sym after) (host_sends_now given s new message moves (sent ∙ ap (λ (y : List ℕ). (new, Some y)) same) n)

  heard_now : (w : WorldState) (given : ℕ) (moves : List Move) (message : List ℕ) (up : List (List ℕ)) (down : List (List ℕ)) → open_channel w.deeds ≡ Some w.channels → Knows w
      → HostCame (w.side).core ((w.client).core).shake down ((w.side).table).outbox up (host_hear (w.side).core message) → HostNow given moves w.side → HostNow given (reads message ∷ moves) (hears w.side message)
  heard_now w given moves message up down is k came n = by (host_hear (w.side).core message) refl came
    where
      opened : ((w.side).table).channel ≡ Some w.channels
      opened = host_channel w.side w.channels w.deeds k.stands.host ∙ is

      of : (d : HostCoreState) (a : Act) → HostCame (w.side).core ((w.client).core).shake down ((w.side).table).outbox up (d, Ok a) → HearsOf given w.side a d
      of d act.Nothing came = tt
      of d (act.Announced list) came = (came.acts.1, (w.channels, opened))
      of d (act.Removed ids) came = tt
      of d (act.Complete head bytes) came = tt

      by : (r : HostCoreState × Result Act EndFault) → host_hear (w.side).core message ≡ r → HostCame (w.side).core ((w.client).core).shake down ((w.side).table).outbox up r
          → HostNow given (reads message ∷ moves) (host_heard (record w.side { core = r.0 }) r.1)
      by (d, Err fault) made came = absurd came.acts
      by (d, Ok a) made came = host_hears_now given w.side message moves d a made (of d a came) n

  began_orders : (w : WorldState) → Known w → MayBe lines starves w begins → Meets devices w → HostOrders w → HostOrders (done starves w begins)
  began_orders w i can m o = record {
    later = λ x above. moved x ∙ o.later x (omega (arith, above));
    orders = λ x. elim (cases_eq x channel) [
      | inl same ↦ subst (λ (n : ℕ). HostOrder client_id (given n) (reverse (host_moves n fresh.deeds))) (sym same)
          (subst (λ (ms : List Move). HostOrder client_id (given channel) (reverse ms)) (sym none) refl)
      | inr other ↦ subst (λ (n : ℕ). HostOrder client_id n (reverse (host_moves x fresh.deeds))) (sym (elsewhere x other))
          (subst (λ (ms : List Move). HostOrder client_id (given_by w.deeds x) (reverse ms)) (sym (moved x)) (o.orders x))
    ];
    now = λ is. subst (λ (ms : List Move). HostNow (given channel) ms (done starves w begins).side) (sym none)
        (subst (λ (n : ℕ). HostNow n [] (done starves w begins).side) (sym here) (host_begins_now (w.side).core (table.begin (w.side).table channel).0 m.number lives));
  }
    where
      fresh : WorldState
      fresh = fold refreshing w (map (λ (e : ℕ × PrinterNames). e.0) w.printers)

      channel : ℕ
      channel = w.channels + 1

      given : ℕ → ℕ
      given = given_by (host_begins channel ∷ fresh.deeds)

      inside : IsInside w fresh
      inside = all_refreshed_inside (map (λ (e : ℕ × PrinterNames). e.0) w.printers) w

      moved : (x : ℕ) → host_moves x fresh.deeds ≡ host_moves x w.deeds
      moved x = inside_moves w fresh inside x

      none : host_moves channel fresh.deeds ≡ []
      none = moved channel ∙ o.later channel (omega arith)

      side_is : side_of client_id fresh.deeds ≡ w.side
      side_is = ap (side_of client_id) inside.deeds ∙ own_side inside.more w.deeds inside.own ∙ i.knows.stands.host.is

      lives : ((table.begin (w.side).table channel).0).lives ≡ []
      lives =
          let stand = i.knows.stands in
          let off : open_channel w.deeds ≡ None = shut_now w stand (is_off (is_channel_open w) can) in
          let closed = (sound_side client_id w.deeds stand.host.may).slots.closed (channel_is client_id w.deeds stand.host.may ∙ off) in
          (begun_lives (w.side).table channel).0 ∙ ap (λ (x : HostSide). (x.table).lives) (sym stand.host.is) ∙ closed.1

      here : given channel ≡ ((table.begin (w.side).table channel).0).given
      here =
          let own : given channel ≡ (after (calls_of client_id fresh.deeds)).given = rw (same_number channel) refl in
          own ∙ ap (λ (t : TableState). t.given) (table_of client_id fresh.deeds) ∙ ap (λ (s : HostSide). (s.table).given) side_is ∙ sym (begun_lives (w.side).table channel).1

      elsewhere : (x : ℕ) → x ≢ channel → given x ≡ given_by w.deeds x
      elsewhere x other =
          let own : given x ≡ given_by fresh.deeds x = rw (other_number channel x other) refl in
          own ∙ ap (λ (f : ℕ → ℕ). f x) (inside_given w fresh inside)

  ordered_step : (w : WorldState) (p : Part) → Known w → Knows (done starves w p) → Meets devices w → MayBe lines starves w p → HostOrders w → HostOrders (done starves w p)
  ordered_step w (accepts a asked named t number) i k m (reached, may, next, target, made) o =
      let (fits, range, unrefused) = k.stands.host.may.0 in
      let free : submit_refusal (w.side).table named ≡ None = subst (λ (x : HostSide). submit_refusal x.table named ≡ None) i.knows.stands.host.is unrefused in
      let effect = effects.submits (w.side).table a named asked.op free in
      let is : t ≡ accept (w.side).table named asked.op = sym (ap (λ (r : TableState × Result ℕ SubmitNo). r.0) made) ∙ effect.new in
      quiet_orders (λ opened n. host_table_now (given_by w.deeds w.channels) w.side t (host_moves w.channels w.deeds) (ap (λ (x : TableState). x.lives) is) (ap (λ (x : TableState). x.given) is) n) o
  ordered_step w (refuses a asked cause) i k m may o = o
  ordered_step w (hands_out a number t taken next) i k m (waits, is, made) o = by next
    where
      same : t ≡ record (w.side).table { untaken = remove_entry (is_at (nat_cmp number)) ((w.side).table).untaken }
      same = sym (ap (λ (r : TableState × Result Taken TakeNo). r.0) made) ∙ (effects.takes (w.side).table number (ap (λ (r : TableState × Result Taken TakeNo). is_ok r.1) made)).new

      own : HostOrdersFor (record w.side { table = t }) (open_channel w.deeds) w.channels (given_by w.deeds) (λ x. host_moves x w.deeds)
      own = quiet_orders (λ opened n. host_table_now (given_by w.deeds w.channels) w.side t (host_moves w.channels w.deeds) (ap (λ (x : TableState). x.lives) same) (ap (λ (x : TableState). x.given) same) n) o

      by : (e : Option Asked) → HostOrders (done starves w (hands_out a number t taken e))
      by None = own
      by (Some asked) = own
  ordered_step w (host_sends_one message) i k m next o =
      let is = needs_open lines starves w (host_sends_one message) next tt i.knows.stands in
      loud_orders (writes message) is (writes_here w.channels w.deeds message) (writes_else w.channels w.deeds message) (written_given w.channels w.deeds message)
      (sent_now w i.knows is (m.now is) (given_by w.deeds w.channels) (host_moves w.channels w.deeds) message next) o
  ordered_step w (host_gets count) i k m may o = o
  ordered_step w host_keeps_part i k m may o = o
  ordered_step w (host_hears_one message rest) i k m found o =
      let is = needs_open lines starves w (host_hears_one message rest) found tt i.knows.stands in
      let read = one_read (client_wrote w.channels w.deeds) (host_read w.channels w.deeds) w.to_host ((i.knows.carries).moving is).1 message rest found in
      let x = m.now is in
      loud_orders (reads message) is (reads_here w.channels w.deeds message) (reads_else w.channels w.deeds message) (read_given w.channels w.deeds message)
      (heard_now w (given_by w.deeds w.channels) (host_moves w.channels w.deeds) message (read.waiting ++ waiting_messages w.client) x.down is i.knows
      (host_reads_first w.client w.side (traffic w.channels w.deeds) x message read.waiting read.told)) o
  ordered_step w (tells_one notice) i k m ((l, has, said), can) o =
      let tellable = tellable_lines lines premises.notable l notice has said in
      quiet_orders (λ opened n. host_tells_now (given_by w.deeds w.channels) w.side notice (host_moves w.channels w.deeds)
      (record { ready = served_is lines starves premises declared devices writable (((w.side).core).core).shake (both (is_channel_open w) _ can).1; writable = tellable.writable; port = tellable.port; fit = tellable.fit }) n) o
  ordered_step w begins i k m can o = began_orders w i can m o
  ordered_step w ends i k m may o =
      let ids : List ℕ = map (λ (e : ℕ × StationState SessionDevice). e.0) w.stations in
      let before : HostOrders (fold dropping w ids) = inside_orders w (fold dropping w ids) (all_dropped_inside ids w) o in
      record { later = before.later; orders = before.orders; now = λ opened. absurd (cc opened) }
  ordered_step w (client_sends_one after out) i k m made o = own_orders w.side w.channels w.deeds out o
  ordered_step w (client_gets count) i k m may o = o
  ordered_step w client_keeps_part i k m may o = o
  ordered_step w (client_hears_one message rest) i k m may o =
      let x : WorldState = record w { to_client = record w.to_client { part = []; taken = _; unhandled = rest } } in
      inside_orders (with_deed x (client_reads w.channels message)) (done starves w (client_hears_one message rest)) (hears_inside x message) o
  ordered_step w (tries_one kept) i k m is o = inside_orders (record w { kept = None }) (done starves w (tries_one kept)) (put_inside (record w { kept = None }) kept.device kept.job) o
  ordered_step w (collects_one device st after c) i k m may o = inside_orders w (with_station w device after) (stationed w device after) o
  ordered_step w (takes_one device hand st after job) i k m may o = inside_orders w (with_station w device after) (stationed w device after) o
  ordered_step w (applies_one hand device job a) i k m may o = inside_orders w (done starves w (applies_one hand device job a)) (applied_inside starves w hand device job a) o
  ordered_step w (removes_one device a) i k m may o = inside_orders w (done starves w (removes_one device a)) (removed_inside w device a) o
  ordered_step w (adds_one device names a) i k m may o = inside_orders w (done starves w (adds_one device names a)) (added_inside w device names a) o
  ordered_step w (queues_one a) i k m may o = o
  ordered_step w (idle_one number) i k m may o = o
  ordered_step w draws_one i k m may o = o

  -- what a host read and wrote on each channel is in order
  pub behind_host_ordered : (w : WorldState) → IsBehind lines starves w → HostOrders w
  behind_host_ordered = by_parts lines starves HostOrders
      (begins_as lines (λ (u : Unset). HostOrdersFor u.side (open_channel u.deeds) u.channels (given_by u.deeds) (λ x. host_moves x u.deeds))
      (record { later = λ x above. refl; orders = λ x. refl; now = λ is. absurd (cc is) }))
      (λ w p before later may o. ordered_step w p (behind_known lines starves premises writable w before) (knows lines starves premises (done starves w p) later)
      (behind_meets lines starves premises writable w before) may o)
