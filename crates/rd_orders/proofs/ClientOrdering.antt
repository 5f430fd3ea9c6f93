-- In each world that lines come to, what a client read and wrote on each channel is in order, and on the open one it stands there.
use Rattle.std.proofs.Common.{◌≡◌, ◌≢◌, ◌∙◌, refl, sym, ap, subst, inl, inr, ℕ, ◌+◌, ◌<◌, ◌==◌, ◌&&◌, arith, Bool, true, false, not, List, [], ◌∷◌, ◌++◌, map, reverse, fold, Some, None, Option}
use Rattle.std.specs.Option.{IfSome, option_map_or}
use Rattle.std.proofs.lemmas.Bool.{cases_eq}
use Rattle.rd_base.specs.declared.journal.Key.{Key}
use Rattle.rd_client.specs.Core as client
use Rattle.rd_client.specs.Core.{ClientCoreState, Outgoing, announces, client_hear, has_device, is_gone, is_present, may_be_asked, refresh}
use Rattle.rd_client.specs.Events.{AreWritable}
use Rattle.rd_client.specs.Order.{ClientOrder}
use Rattle.rd_devices.specs.declared.list.Announce.{Announce}
use Rattle.rd_hello.specs.declared.client.ClientState.TheVariants as client_state
use Rattle.rd_hello.specs.Moves.{Move, reads, writes}
use Rattle.rd_controls.proofs.RunsBeginningLemmas.{Unset, begins_as}
use Rattle.rd_controls.proofs.RunsInsides.{AreOwn, IsInside, Outside, added_inside, all_dropped_inside, all_refreshed_inside, applied_inside, hears_inside, put_inside, removed_inside, stationed}
use Rattle.rd_controls.proofs.RunsKeysOn.{all_dropped_client, sent_on}
use Rattle.rd_controls.proofs.RunsParts.{IsBehind, MayBe, Part, accepts, adds_one, applies_one, begins, by_parts, client_gets, client_hears_one, client_keeps_part, client_sends_one, collects_one, done, draws_one, ends, hands_out, host_gets, host_hears_one, host_keeps_part, host_sends_one, idle_one, queues_one, refreshed_by, refuses, removes_one, takes_one, tells_one, told_added, told_removed, tries_one}
use Rattle.rd_controls.proofs.RunsReaching.{both}
use Rattle.rd_controls.proofs.RunsSizeLemmas.{ClientFits}
use Rattle.rd_controls.proofs.RunsStanding.{needs_open, open_inside}
use Rattle.rd_controls.proofs.RunsTogether.{Knows, knows}
use Rattle.rd_controls.proofs.RunsTrafficLemmas.{other_number, same_number, traffic}
use Rattle.rd_controls.proofs.RunsWayLemmas.{one_read}
use Rattle.rd_controls.specs.RunsPremises.{RunPremises}
use Rattle.rd_script.specs.declared.line.NumberedLine.{NumberedLine}
use Rattle.rd_station.specs.Station.{StationState}
use Rattle.rd_declared.specs.declared.device.SessionDevice.{SessionDevice}
use Rattle.rd_declared.specs.Devices.{Declared, PrinterNames, printer_data}
use Rattle.rd_world.specs.Events.{completion_message, deed_on, dropping, is_ready, refreshing}
use Rattle.rd_world.specs.Hearing.{client_hears, with_client}
use Rattle.rd_declared.specs.Declaring.{bare_lines, declared_devices}
use Rattle.rd_world.specs.Recording.{announced_of}
use Rattle.rd_deeds.specs.Talk.{Deed, adds, client_moves, client_read, client_reads, client_writes, completes, host_begins, host_wrote, is_removed, open_channel, removes, stores, until_begin}
use Rattle.rd_world.specs.World.{WorldState, with_deed, with_station}
use Rattle.rd_orders.proofs.ClientOrders.{ClientNow, adds_now, begins_now, completes_now, gone_had, heard_now, hears_now, now_ordered, put_now, refreshed_gone, refreshes_now, removes_now, sends_now}
use Rattle.rd_orders.proofs.Marked.{refreshed_marked}
use Rattle.rd_orders.proofs.Meeting.{IsKnown, Meets, announced_client, applied_client, behind_known, behind_meets, collects_ready, cut_client, heard_client, kept_ready, none_waits, put_client, ready_now, refreshed_ends, some_say}
use Rattle.rd_orders.proofs.MeetingLemmas.{client_reads_first}

-- What a client read and wrote on each channel is in order, and nothing on later ones than the last; on the open one it stands where its moves lead. Of the deeds
-- this takes what was done before each channel, and the moves there.
pub record ClientOrdersFor (devices : List Announce) (c : ClientCoreState) (opened : Option ℕ) (channels : ℕ) (until : ℕ → List Deed) (moves : ℕ → List Move) : Type 0 where
  pub later : (x : ℕ) → channels < x → moves x ≡ []
  pub orders : (x : ℕ) → ClientOrder devices (λ d. is_removed d (until x)) (reverse (moves x))
  pub now : opened ≡ Some channels → ClientNow devices (λ d. is_removed d (until channels)) (moves channels) c

abbrev pub ClientOrders : List Announce → WorldState → Type 0
ClientOrders devices w = ClientOrdersFor devices w.client (open_channel w.deeds) w.channels (λ x. until_begin x w.deeds) (λ x. client_moves x w.deeds)

-- ---- what a client does by itself

own_until : (x : ℕ) (more deeds : List Deed) → AreOwn more → until_begin x (more ++ deeds) ≡ until_begin x deeds
own_until x [] deeds own = refl
own_until x (stores device item ∷ more) deeds own = own_until x more deeds own.1
own_until x (removes device ∷ more) deeds own = own_until x more deeds own.1
own_until x (adds device ∷ more) deeds own = own_until x more deeds own.1
own_until x (deed ∷ more) deeds own = absurd own.0

own_moves : (x : ℕ) (more deeds : List Deed) → AreOwn more → client_moves x (more ++ deeds) ≡ client_moves x deeds
own_moves x [] deeds own = refl
own_moves x (stores device item ∷ more) deeds own = own_moves x more deeds own.1
own_moves x (removes device ∷ more) deeds own = own_moves x more deeds own.1
own_moves x (adds device ∷ more) deeds own = own_moves x more deeds own.1
own_moves x (deed ∷ more) deeds own = absurd own.0

pub inside_until : (w v : WorldState) → IsInside w v → (x : ℕ) → until_begin x v.deeds ≡ until_begin x w.deeds
inside_until w v i x = ap (until_begin x) i.deeds ∙ own_until x i.more w.deeds i.own

inside_moves : (w v : WorldState) → IsInside w v → (x : ℕ) → client_moves x v.deeds ≡ client_moves x w.deeds
inside_moves w v i x = ap (client_moves x) i.deeds ∙ own_moves x i.more w.deeds i.own

inside_orders : (devices : List Announce) (w v : WorldState) → IsInside w v
    → ClientOrdersFor devices v.client (open_channel w.deeds) w.channels (λ x. until_begin x w.deeds) (λ x. client_moves x w.deeds) → ClientOrders devices v
inside_orders devices w v i o =
    let until : (λ (x : ℕ). until_begin x w.deeds) ≡ (λ (x : ℕ). until_begin x v.deeds) = λ j x. sym (inside_until w v i x) j in
    let moves : (λ (x : ℕ). client_moves x w.deeds) ≡ (λ (x : ℕ). client_moves x v.deeds) = λ j x. sym (inside_moves w v i x) j in
    subst (λ (n : ℕ). ClientOrdersFor devices v.client (open_channel v.deeds) n (λ x. until_begin x v.deeds) (λ x. client_moves x v.deeds)) (sym (ap (λ (o : Outside). o.channels) i.same))
    (subst (λ (p : Option ℕ). ClientOrdersFor devices v.client p w.channels (λ x. until_begin x v.deeds) (λ x. client_moves x v.deeds)) (sym (open_inside w v i))
    (subst (λ (f : ℕ → List Deed). ClientOrdersFor devices v.client (open_channel w.deeds) w.channels f (λ x. client_moves x v.deeds)) until
    (subst (ClientOrdersFor devices v.client (open_channel w.deeds) w.channels (λ x. until_begin x w.deeds)) moves o)))

-- where nothing is read or written
quiet_orders : (devices : List Announce) {c d : ClientCoreState} {opened : Option ℕ} {channels : ℕ} {until : ℕ → List Deed} {moves : ℕ → List Move}
    → (opened ≡ Some channels → ClientNow devices (λ x. is_removed x (until channels)) (moves channels) c → ClientNow devices (λ x. is_removed x (until channels)) (moves channels) d)
    → ClientOrdersFor devices c opened channels until moves → ClientOrdersFor devices d opened channels until moves
quiet_orders devices on o = record { later = o.later; orders = o.orders; now = λ is. on is (o.now is) }

-- where one message is
loud_orders : (devices : List Announce) {c d : ClientCoreState} {opened : Option ℕ} {channels : ℕ} {until : ℕ → List Deed} {moves others : ℕ → List Move} (m : Move) → opened ≡ Some channels
    → others channels ≡ m ∷ moves channels → ((x : ℕ) → x ≢ channels → others x ≡ moves x)
    → (ClientNow devices (λ x. is_removed x (until channels)) (moves channels) c → ClientNow devices (λ x. is_removed x (until channels)) (m ∷ moves channels) d)
    → ClientOrdersFor devices c opened channels until moves → ClientOrdersFor devices d opened channels until others
loud_orders devices {d = d} {opened = opened} {channels = channels} {until = until} {moves = moves} {others = others} m is here elsewhere on o =
    let next : ClientNow devices (λ x. is_removed x (until channels)) (others channels) d = subst (λ (ms : List Move). ClientNow devices (λ x. is_removed x (until channels)) ms d) (sym here) (on (o.now is)) in
    record {
      later = λ x above. elsewhere x (λ same. omega (arith, above, same)) ∙ o.later x above;
      orders = λ x. elim (cases_eq x channels) [
        | inl same ↦ subst (λ (n : ℕ). ClientOrder devices (λ d. is_removed d (until n)) (reverse (others n))) (sym same) (now_ordered devices (λ x. is_removed x (until channels)) (others channels) d next)
        | inr other ↦ subst (λ (ms : List Move). ClientOrder devices (λ d. is_removed d (until x)) (reverse ms)) (sym (elsewhere x other)) (o.orders x)
      ];
      now = λ opened. next;
    }

module _ (c : ℕ) (deeds : List Deed) (m : List ℕ) where
  reads_here : client_moves c (client_reads c m ∷ deeds) ≡ reads m ∷ client_moves c deeds
  reads_here = rw (same_number c) refl

  reads_else : (x : ℕ) → x ≢ c → client_moves x (client_reads c m ∷ deeds) ≡ client_moves x deeds
  reads_else x other = rw (other_number c x other) refl

  writes_here : client_moves c (client_writes c m ∷ deeds) ≡ writes m ∷ client_moves c deeds
  writes_here = rw (same_number c) refl

  writes_else : (x : ℕ) → x ≢ c → client_moves x (client_writes c m ∷ deeds) ≡ client_moves x deeds
  writes_else x other = rw (other_number c x other) refl

  completes_here : (key : Key) → key.channel ≡ c → client_moves c (completes key m ∷ deeds) ≡ writes m ∷ client_moves c deeds
  completes_here key on = rw (ap (λ (n : ℕ). n == c) on ∙ same_number c) refl

  completes_else : (key : Key) → key.channel ≡ c → (x : ℕ) → x ≢ c → client_moves x (completes key m ∷ deeds) ≡ client_moves x deeds
  completes_else key on x other = rw (ap (λ (n : ℕ). n == x) on ∙ other_number c x other) refl

-- a message of the client's own, by whichever deed
own_orders : (devices : List Announce) (c d : ClientCoreState) (channel : ℕ) (deeds : List Deed) (o : Outgoing) → IfSome o.answers (λ (key : Key). key.channel ≡ channel) → open_channel deeds ≡ Some channel
    → (ClientNow devices (λ x. is_removed x (until_begin channel deeds)) (client_moves channel deeds) c → ClientNow devices (λ x. is_removed x (until_begin channel deeds)) (writes o.message ∷ client_moves channel deeds) d)
    → ClientOrdersFor devices c (open_channel deeds) channel (λ x. until_begin x deeds) (λ x. client_moves x deeds)
    → ClientOrdersFor devices d (open_channel (deed_on channel o ∷ deeds)) channel (λ x. until_begin x (deed_on channel o ∷ deeds)) (λ x. client_moves x (deed_on channel o ∷ deeds))
own_orders devices c d channel deeds o on is next orders = by o.answers on
  where
    by : (a : Option Key) → IfSome a (λ (key : Key). key.channel ≡ channel)
        → ClientOrdersFor devices d (open_channel (option_map_or (λ key. completes key o.message) a (client_writes channel o.message) ∷ deeds)) channel
        (λ x. until_begin x (option_map_or (λ key. completes key o.message) a (client_writes channel o.message) ∷ deeds))
        (λ x. client_moves x (option_map_or (λ key. completes key o.message) a (client_writes channel o.message) ∷ deeds))
    by None on = loud_orders devices (writes o.message) is (writes_here channel deeds o.message) (writes_else channel deeds o.message) next orders
    by (Some key) on = loud_orders devices (writes o.message) is (completes_here channel deeds o.message key on) (completes_else channel deeds o.message key on) next orders

module _ (lines : List NumberedLine) (starves : Key → Bool) (premises : RunPremises lines) (writable : AreWritable (announced_of (declared_devices (bare_lines lines)))) where
  abbrev declared : List (ℕ × Declared)
  declared = declared_devices (bare_lines lines)

  abbrev devices : List Announce
  devices = announced_of declared

  abbrev Known : WorldState → Type 0
  Known w = IsKnown lines starves premises declared devices writable w

  began_orders : (w : WorldState) → IsBehind lines starves w → Meets devices (done starves w begins) → Knows (done starves w begins) → ClientOrders devices w → ClientOrders devices (done starves w begins)
  began_orders w behind m k o = record {
    later = λ x above. moved x ∙ o.later x (omega (arith, above));
    orders = λ x. elim (cases_eq x channel) [
      | inl same ↦ subst (λ (n : ℕ). ClientOrder devices (λ d. is_removed d (until n)) (reverse (client_moves n fresh.deeds))) (sym same)
          (subst (λ (ms : List Move). ClientOrder devices (λ d. is_removed d (until channel)) (reverse ms)) (sym none) refl)
      | inr other ↦ subst (λ (ds : List Deed). ClientOrder devices (λ d. is_removed d ds) (reverse (client_moves x fresh.deeds))) (sym (elsewhere x other))
          (subst (λ (ms : List Move). ClientOrder devices (λ d. is_removed d (until_begin x w.deeds)) (reverse ms)) (sym (moved x)) (o.orders x))
    ];
    now = λ is. subst (λ (ms : List Move). ClientNow devices (λ d. is_removed d (until channel)) ms (done starves w begins).client) (sym none)
        (subst (λ (ds : List Deed). ClientNow devices (λ d. is_removed d ds) [] (done starves w begins).client) (sym here)
        (begins_now devices (λ d. is_removed d fresh.deeds) fresh.client channel (refreshed_marked lines starves w behind) m.same k.fits.ends.kept.devices writable));
  }
    where
      fresh : WorldState
      fresh = fold refreshing w (map (λ (e : ℕ × PrinterNames). e.0) w.printers)

      channel : ℕ
      channel = w.channels + 1

      until : ℕ → List Deed
      until x = until_begin x (host_begins channel ∷ fresh.deeds)

      inside : IsInside w fresh
      inside = all_refreshed_inside (map (λ (e : ℕ × PrinterNames). e.0) w.printers) w

      moved : (x : ℕ) → client_moves x fresh.deeds ≡ client_moves x w.deeds
      moved x = inside_moves w fresh inside x

      none : client_moves channel fresh.deeds ≡ []
      none = moved channel ∙ o.later channel (omega arith)

      here : until channel ≡ fresh.deeds
      here = rw (same_number channel) refl

      elsewhere : (x : ℕ) → x ≢ channel → until x ≡ until_begin x w.deeds
      elsewhere x other = rw (other_number channel x other) (inside_until w fresh inside x)

  ordered_step : (w : WorldState) (p : Part) → IsBehind lines starves w → Known w → Knows (done starves w p) → Meets devices w → Meets devices (done starves w p) → MayBe lines starves w p
      → ClientOrders devices w → ClientOrders devices (done starves w p)
  ordered_step w (accepts a asked named t number) b i k m n may o = o
  ordered_step w (refuses a asked cause) b i k m n may o = o
  ordered_step w (hands_out a number t taken None) b i k m n may o = o
  ordered_step w (hands_out a number t taken (Some asked)) b i k m n may o = o
  ordered_step w (host_sends_one message) b i k m n may o = o
  ordered_step w (host_gets count) b i k m n may o = o
  ordered_step w host_keeps_part b i k m n may o = o
  ordered_step w (host_hears_one message rest) b i k m n may o = o
  ordered_step w (tells_one notice) b i k m n may o = o
  ordered_step w begins b i k m n may o = began_orders w b n k o
  ordered_step w ends b i k m n may o =
      let ids : List ℕ = map (λ (e : ℕ × StationState SessionDevice). e.0) w.stations in
      let cut : WorldState = fold dropping w ids in
      let before : ClientOrders devices cut = inside_orders devices w cut (all_dropped_inside ids w)
      (subst (λ (c : ClientCoreState). ClientOrdersFor devices c (open_channel w.deeds) w.channels (λ x. until_begin x w.deeds) (λ x. client_moves x w.deeds)) (sym (all_dropped_client ids w)) o) in
      record { later = before.later; orders = before.orders; now = λ opened. absurd (cc opened) }
  ordered_step w (client_sends_one after out) b i k m n made o =
      let is = needs_open lines starves w (client_sends_one after out) made tt i.knows.stands in
      own_orders devices w.client after w.channels w.deeds out ((sent_on w.channels w.client after out i.knows.on.outbox made).0).0 is
      (sends_now devices (λ x. is_removed x (until_begin w.channels w.deeds)) w.client after out (client_moves w.channels w.deeds) made) o
  ordered_step w (client_gets count) b i k m n may o = o
  ordered_step w client_keeps_part b i k m n may o = o
  ordered_step w (client_hears_one message rest) b i k m n (kept, found) o =
      let is = needs_open lines starves w (client_hears_one message rest) (kept, found) tt i.knows.stands in
      let read = one_read (host_wrote w.channels w.deeds) (client_read w.channels w.deeds) w.to_client ((i.knows.carries).moving is).0 message rest found in
      let lists = some_say devices writable w.client i.knows.fits.ends m.same is_present in
      let came = client_reads_first w.client w.side (traffic w.channels w.deeds) (m.now is) message read.waiting read.told lists in
      let x : WorldState = record w { to_client = record w.to_client { part = []; taken = _; unhandled = rest } } in
      let heard = client_hear w.client message in
      let y : WorldState = with_deed (with_client x heard.0) (client_reads w.channels message) in
      let gone : ℕ → Bool = λ d. is_removed d (until_begin w.channels w.deeds) in
      inside_orders devices (with_deed x (client_reads w.channels message)) (done starves w (client_hears_one message rest)) (hears_inside x message)
      (loud_orders devices (reads message) is (reads_here w.channels w.deeds message) (reads_else w.channels w.deeds message)
      (λ now. heard_now devices gone heard.0 (client_hears x message).client heard.1 (reads message ∷ client_moves w.channels w.deeds) came.asks (heard_client ((w.client).core).shake y heard.1)
      (hears_now devices gone w.client message (client_moves w.channels w.deeds) came.ok now)) o)
  ordered_step w (tries_one kept) b i k m n is o =
      let x : WorldState = record w { kept = None } in
      let gone : ℕ → Bool = λ d. is_removed d (until_begin w.channels w.deeds) in
      inside_orders devices x (done starves w (tries_one kept)) (put_inside x kept.device kept.job)
      (quiet_orders devices (λ opened now. put_now devices gone w.client _ kept.device kept.job (client_moves w.channels w.deeds) (kept_ready lines starves premises declared devices writable w i m kept is) (put_client x kept.device kept.job) now) o)
  ordered_step w (collects_one device st after c) b i k m n (reached, quiet, there, made) o =
      let is = needs_open lines starves w (collects_one device st after c) (reached, quiet, there, made) tt i.knows.stands in
      let own = collects_ready lines starves premises declared devices writable w i m device st after c is there made in
      let y : WorldState = with_station w device after in
      let inside = stationed w device after in
      let bytes : List ℕ = completion_message device c in
      let before : ClientOrders devices y = inside_orders devices w y inside o in
      loud_orders devices (writes bytes) (open_inside w y inside ∙ is) (completes_here w.channels y.deeds bytes c.key own.channel) (completes_else w.channels y.deeds bytes c.key own.channel)
      (λ now. completes_now devices (λ x. is_removed x (until_begin w.channels y.deeds)) w.client bytes (client_moves w.channels y.deeds)
      (record { none_waits = none_waits lines starves premises declared devices writable w quiet; asked = ap may_be_asked own.ready; completion = own.head }) now) before
  ordered_step w (takes_one device hand st after job) b i k m n may o = inside_orders devices w (with_station w device after) (stationed w device after) o
  ordered_step w (applies_one hand device job a) b i k m n may o =
      inside_orders devices w (done starves w (applies_one hand device job a)) (applied_inside starves w hand device job a)
      (subst (λ (c : ClientCoreState). ClientOrdersFor devices c (open_channel w.deeds) w.channels (λ x. until_begin x w.deeds) (λ x. client_moves x w.deeds)) (sym (applied_client starves w hand device job a)) o)
  ordered_step w (removes_one device a) b i k m n (can, there) o =
      let (ready, may) = both (is_ready w) (has_device w.client device && not (is_gone w.client device)) can in
      let (has, present) = both (has_device w.client device) (not (is_gone w.client device)) may in
      inside_orders devices w (done starves w (removes_one device a)) (removed_inside w device a)
      (subst (λ (c : ClientCoreState). ClientOrdersFor devices c (open_channel w.deeds) w.channels (λ x. until_begin x w.deeds) (λ x. client_moves x w.deeds)) (sym (cut_client (told_removed w device) device a))
      (quiet_orders devices (λ opened now. removes_now devices (λ d. is_removed d (until_begin w.channels w.deeds)) w.client device (client_moves w.channels w.deeds)
      (ready_now lines starves premises declared devices writable w _ can, has, off (is_gone w.client device) present) now) o))
    where
      off : (b : Bool) → not b ≡ true → b ≡ false
      off false e = refl
      off true e = absurd (cc e)
  ordered_step w (adds_one device names a) b i k m n (can, printer, there) o =
      let (ready, gone) = both (is_ready w) (is_gone w.client device) can in
      let shake = ready_now lines starves premises declared devices writable w _ can in
      inside_orders devices w (done starves w (adds_one device names a)) (added_inside w device names a)
      (subst (λ (c : ClientCoreState). ClientOrdersFor devices c (open_channel w.deeds) w.channels (λ x. until_begin x w.deeds) (λ x. client_moves x w.deeds)) (sym (announced_client (told_added (refreshed_by w device names) device) device a))
      (quiet_orders devices (λ opened now. by names (refreshed_ends w device names i.knows.fits.ends i.knows.fits.names printer) gone shake now) o))
    where
      by : (names : Option PrinterNames) → ClientFits (refreshed_by w device names).client → is_gone w.client device ≡ true → ((w.client).core).shake ≡ client_state.Ready
          → ClientNow devices (λ d. is_removed d (until_begin w.channels w.deeds)) (client_moves w.channels w.deeds) w.client
          → ClientNow devices (λ d. is_removed d (until_begin w.channels w.deeds)) (client_moves w.channels w.deeds) (client.tell_added (refreshed_by w device names).client device)
      by None fits gone shake now = adds_now devices (λ d. is_removed d (until_begin w.channels w.deeds)) w.client device (client_moves w.channels w.deeds) (shake, gone) now
      by (Some own) fits gone shake now =
          let body : List ℕ = printer_data w.cache own in
          adds_now devices (λ d. is_removed d (until_begin w.channels w.deeds)) (refresh w.client device body) device (client_moves w.channels w.deeds) (shake, refreshed_gone w.client device device body ∙ gone)
          (refreshes_now devices (λ d. is_removed d (until_begin w.channels w.deeds)) w.client device body (client_moves w.channels w.deeds) (gone_had w.client device gone, fits.kept.devices) now)
  ordered_step w (queues_one a) b i k m n may o = o
  ordered_step w (idle_one number) b i k m n may o = o
  ordered_step w draws_one b i k m n may o = o

  -- what a client read and wrote on each channel is in order
  pub behind_client_ordered : (w : WorldState) → IsBehind lines starves w → ClientOrders devices w
  behind_client_ordered = by_parts lines starves (ClientOrders devices)
      (begins_as lines (λ (u : Unset). ClientOrdersFor devices u.client (open_channel u.deeds) u.channels (λ x. until_begin x u.deeds) (λ x. client_moves x u.deeds))
      (record { later = λ x above. refl; orders = λ x. refl; now = λ is. absurd (cc is) }))
      (λ w p before after may o. ordered_step w p before (behind_known lines starves premises writable w before) (knows lines starves premises (done starves w p) after)
      (behind_meets lines starves premises writable w before) (behind_meets lines starves premises writable (done starves w p) after) may o)
