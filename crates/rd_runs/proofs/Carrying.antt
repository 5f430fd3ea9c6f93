-- In each world that lines come to, messages of a message's size are carried at each point, however the bytes are cut.
use Rattle.std.proofs.Common.{◌≡◌, ◌∙◌, refl, sym, ap, subst, ℕ, Bool, List, [], ◌∷◌, ◌++◌, map, fold, Some, None, Option}
use Rattle.std.specs.List.{AllByRecursion}
use Rattle.std.specs.Option.{IfSome, option_map_or}
use Rattle.rd_base.specs.declared.journal.Key.{Key}
use Rattle.rd_chunk.specs.Carrier.{IsMessage}
use Rattle.rd_client.specs.Core.{Outgoing}
use Rattle.rd_script.specs.declared.line.NumberedLine.{NumberedLine}
use Rattle.rd_station.specs.Station.{StationState}
use Rattle.rd_runs.proofs.BeginningLemmas.{Unset, begins_as}
use Rattle.rd_runs.proofs.Insides.{AreOwn, IsInside, Outside, added_inside, all_dropped_inside, all_refreshed_inside, applied_inside, hears_inside, put_inside, removed_inside, stationed}
use Rattle.rd_runs.proofs.KeysOn.{OnNow, sent_on}
use Rattle.rd_runs.proofs.KeysOnLemmas.{collected_on}
use Rattle.rd_runs.proofs.Parts.{MayBe, Part, accepts, adds_one, applies_one, begins, client_gets, client_hears_one, client_keeps_part, client_sends_one, collects_one, done, draws_one, ends, hands_out, host_gets, host_hears_one, host_keeps_part, host_sends_one, idle_one, queues_one, refuses, removes_one, takes_one, tells_one, tries_one}
use Rattle.rd_runs.proofs.Standing.{Stands, needs_open, open_inside}
use Rattle.rd_runs.proofs.TrafficLemmas.{AreMoving, AreSilent, Carries, Traffic, all_silent, client_reads_else, client_reads_here, client_writes_else, client_writes_here, completes_else, completes_here, host_reads_else, host_reads_here, host_writes_else, host_writes_here, one_begun, one_ended, one_loud, one_silent, ways_moved}
use Rattle.rd_runs.proofs.WayLemmas.{IsUnderWay, one_read, one_written, part_kept, some_got}
use Rattle.rd_declared.specs.declared.device.SessionDevice.{SessionDevice}
use Rattle.rd_declared.specs.Devices.{PrinterNames}
use Rattle.rd_world.specs.Events.{completion_message, deed_on, dropping, refreshing}
use Rattle.rd_world.specs.Recording.{written_by}
use Rattle.rd_world.specs.Run.{world_of}
use Rattle.rd_deeds.specs.Talk.{Deed, adds, client_read, client_reads, client_writes, client_wrote, completes, host_read, host_reads, host_writes, host_wrote, open_channel, removes, stores, submits, takes, tells}
use Rattle.rd_world.specs.World.{WayState, WorldState, carrying, with_deed, with_station}

-- what is written by it is of a message's size
abbrev pub IsFit : Deed → Type 0
IsFit deed = IfSome (written_by deed) IsMessage

abbrev pub AreFit : List Deed → Type 0
AreFit deeds = AllByRecursion IsFit deeds

fit_end : (more deeds : List Deed) → AreFit (more ++ deeds) → AreFit deeds
fit_end [] deeds fit = fit
fit_end (deed ∷ more) deeds fit = fit_end more deeds fit.1

own_silent : (more : List Deed) → AreOwn more → AreSilent more
own_silent [] own = tt
own_silent (stores device item ∷ more) own = (tt, own_silent more own.1)
own_silent (removes device ∷ more) own = (tt, own_silent more own.1)
own_silent (adds device ∷ more) own = (tt, own_silent more own.1)
own_silent (deed ∷ more) own = absurd own.0

abbrev pub CarriesNow : WorldState → Type 0
CarriesNow w = Carries w.channels w.to_client w.to_host w.deeds

-- what holds where all that was written is of a message's size
abbrev pub CarriesFit : WorldState → Type 0
CarriesFit w = AreFit w.deeds → CarriesNow w

-- what a client does by itself
inside_carries : (w v : WorldState) → IsInside w v → CarriesNow w → CarriesNow v
inside_carries w v i k =
    subst (λ (o : Outside). Carries o.channels o.to_client o.to_host v.deeds) (sym i.same)
    (subst (Carries w.channels w.to_client w.to_host) (sym i.deeds) (all_silent w.channels w.to_client w.to_host i.more w.deeds (own_silent i.more i.own) k))

inside_fit : (w v : WorldState) → IsInside w v → AreFit v.deeds → AreFit w.deeds
inside_fit w v i fit = fit_end i.more w.deeds (subst AreFit i.deeds fit)

inside_now : (w v : WorldState) → IsInside w v → CarriesFit w → CarriesFit v
inside_now w v i k fit = inside_carries w v i (k (inside_fit w v i fit))

-- ---- messages

module _ (w : WorldState) (is : open_channel w.deeds ≡ Some w.channels) (k : CarriesNow w) where
  host_wrote_one : (m : List ℕ) → IsMessage m → Carries w.channels (carrying w.to_client m) w.to_host (host_writes w.channels m ∷ w.deeds)
  host_wrote_one m fits =
      let (down, up) = k.moving is in
      one_loud w.channels w.to_client w.to_host w.deeds k (carrying w.to_client m) w.to_host (host_writes w.channels m) is tt (host_writes_else w.channels w.deeds m)
      (subst (λ (t : Traffic). AreMoving t (carrying w.to_client m) w.to_host) (sym (host_writes_here w.channels w.deeds m))
      (one_written (host_wrote w.channels w.deeds) (client_read w.channels w.deeds) w.to_client down m fits, up))

  host_read_one : (m : List ℕ) (up' : WayState) → (IsUnderWay (client_wrote w.channels w.deeds) (host_read w.channels w.deeds) w.to_host → IsUnderWay (client_wrote w.channels w.deeds) (m ∷ host_read w.channels w.deeds) up')
      → Carries w.channels w.to_client up' (host_reads w.channels m ∷ w.deeds)
  host_read_one m up' more =
      let (down, up) = k.moving is in
      one_loud w.channels w.to_client w.to_host w.deeds k w.to_client up' (host_reads w.channels m) is tt (host_reads_else w.channels w.deeds m)
      (subst (λ (t : Traffic). AreMoving t w.to_client up') (sym (host_reads_here w.channels w.deeds m)) (down, more up))

  client_read_one : (m : List ℕ) (down' : WayState) → (IsUnderWay (host_wrote w.channels w.deeds) (client_read w.channels w.deeds) w.to_client → IsUnderWay (host_wrote w.channels w.deeds) (m ∷ client_read w.channels w.deeds) down')
      → Carries w.channels down' w.to_host (client_reads w.channels m ∷ w.deeds)
  client_read_one m down' more =
      let (down, up) = k.moving is in
      one_loud w.channels w.to_client w.to_host w.deeds k down' w.to_host (client_reads w.channels m) is is (client_reads_else w.channels w.deeds m)
      (subst (λ (t : Traffic). AreMoving t down' w.to_host) (sym (client_reads_here w.channels w.deeds m)) (more down, up))

  client_wrote_one : (m : List ℕ) → IsMessage m → Carries w.channels w.to_client (carrying w.to_host m) (client_writes w.channels m ∷ w.deeds)
  client_wrote_one m fits =
      let (down, up) = k.moving is in
      one_loud w.channels w.to_client w.to_host w.deeds k w.to_client (carrying w.to_host m) (client_writes w.channels m) is is (client_writes_else w.channels w.deeds m)
      (subst (λ (t : Traffic). AreMoving t w.to_client (carrying w.to_host m)) (sym (client_writes_here w.channels w.deeds m))
      (down, one_written (client_wrote w.channels w.deeds) (host_read w.channels w.deeds) w.to_host up m fits))

  completed_one : (key : Key) → key.channel ≡ w.channels → (m : List ℕ) → IsMessage m → Carries w.channels w.to_client (carrying w.to_host m) (completes key m ∷ w.deeds)
  completed_one key on m fits =
      let (down, up) = k.moving is in
      one_loud w.channels w.to_client w.to_host w.deeds k w.to_client (carrying w.to_host m) (completes key m) is (is ∙ ap Some (sym on)) (completes_else w.channels w.deeds m key on)
      (subst (λ (t : Traffic). AreMoving t w.to_client (carrying w.to_host m)) (sym (completes_here w.channels w.deeds m key on))
      (down, one_written (client_wrote w.channels w.deeds) (host_read w.channels w.deeds) w.to_host up m fits))

  sent_one : (o : Outgoing) → IfSome o.answers (λ (key : Key). key.channel ≡ w.channels) → IsFit (deed_on w.channels o) → Carries w.channels w.to_client (carrying w.to_host o.message) (deed_on w.channels o ∷ w.deeds)
  sent_one o answers fits = by o.answers answers fits
    where
      by : (a : Option Key) → IfSome a (λ (key : Key). key.channel ≡ w.channels) → IsFit (option_map_or (λ key. completes key o.message) a (client_writes w.channels o.message))
          → Carries w.channels w.to_client (carrying w.to_host o.message) (option_map_or (λ key. completes key o.message) a (client_writes w.channels o.message) ∷ w.deeds)
      by None on fits = client_wrote_one o.message fits
      by (Some key) on fits = completed_one key on o.message fits

module _ (lines : List NumberedLine) (starves : Key → Bool) where
  pub carries_first : CarriesFit (world_of lines)
  carries_first = begins_as lines (λ (u : Unset). AreFit u.deeds → Carries u.channels u.to_client u.to_host u.deeds)
      (λ fits. record { each = record { to_client = λ c. ([], refl); to_host = λ c. ([], refl) }; on_open = tt; later = λ x above. refl; moving = λ is. absurd (cc is) })

  pub carries_step : (w : WorldState) (p : Part) → Stands w → OnNow w → MayBe lines starves w p → CarriesFit w → CarriesFit (done starves w p)
  carries_step w (accepts a asked named t number) s on may k fits = one_silent w.channels w.to_client w.to_host w.deeds (k fits.1) (submits a named asked.op) tt
  carries_step w (refuses a asked cause) s on may k fits = k fits
  carries_step w (hands_out a number t taken None) s on may k fits = one_silent w.channels w.to_client w.to_host w.deeds (k fits.1) (takes number) tt
  carries_step w (hands_out a number t taken (Some asked)) s on may k fits = one_silent w.channels w.to_client w.to_host w.deeds (k fits.1) (takes number) tt
  carries_step w (host_sends_one message) s on may k fits = host_wrote_one w (needs_open lines starves w (host_sends_one message) may tt s) (k fits.1) message fits.0
  carries_step w (host_gets n) s on may k fits =
      ways_moved w.channels w.to_client w.to_host w.deeds (k fits) w.to_client ((done starves w (host_gets n)).to_host)
      (λ (down, up). (down, some_got (client_wrote w.channels w.deeds) (host_read w.channels w.deeds) w.to_host up n))
  carries_step w host_keeps_part s on may k fits =
      ways_moved w.channels w.to_client w.to_host w.deeds (k fits) w.to_client ((done starves w host_keeps_part).to_host)
      (λ (down, up). (down, part_kept (client_wrote w.channels w.deeds) (host_read w.channels w.deeds) w.to_host up))
  carries_step w (host_hears_one message rest) s on may k fits =
      host_read_one w (needs_open lines starves w (host_hears_one message rest) may tt s) (k fits.1) message ((done starves w (host_hears_one message rest)).to_host)
      (λ up. one_read (client_wrote w.channels w.deeds) (host_read w.channels w.deeds) w.to_host up message rest may)
  carries_step w (tells_one n) s on may k fits = one_silent w.channels w.to_client w.to_host w.deeds (k fits.1) (tells n) tt
  carries_step w begins s on may k fits =
      let fresh : WorldState = fold refreshing w (map (λ (e : ℕ × PrinterNames). e.0) w.printers) in
      let i = all_refreshed_inside (map (λ (e : ℕ × PrinterNames). e.0) w.printers) w in
      let same : fresh.channels ≡ w.channels = ap (λ (o : Outside). o.channels) i.same in
      one_begun w.channels fresh.to_client fresh.to_host fresh.deeds (subst (λ (n : ℕ). Carries n fresh.to_client fresh.to_host fresh.deeds) same (inside_now w fresh i k fits.1))
  carries_step w ends s on may k fits =
      let devices : List ℕ = map (λ (e : ℕ × StationState SessionDevice). e.0) w.stations in
      let cut : WorldState = fold dropping w devices in
      one_ended cut.channels cut.to_client cut.to_host cut.deeds (inside_now w cut (all_dropped_inside devices w) k fits.1) _ _
  carries_step w (client_sends_one after o) s on made k fits =
      sent_one w (needs_open lines starves w (client_sends_one after o) made tt s) (k fits.1) o ((sent_on w.channels w.client after o on.outbox made).0).0 fits.0
  carries_step w (client_gets n) s on may k fits =
      ways_moved w.channels w.to_client w.to_host w.deeds (k fits) ((done starves w (client_gets n)).to_client) w.to_host
      (λ (down, up). (some_got (host_wrote w.channels w.deeds) (client_read w.channels w.deeds) w.to_client down n, up))
  carries_step w client_keeps_part s on may k fits =
      ways_moved w.channels w.to_client w.to_host w.deeds (k fits) ((done starves w client_keeps_part).to_client) w.to_host
      (λ (down, up). (part_kept (host_wrote w.channels w.deeds) (client_read w.channels w.deeds) w.to_client down, up))
  carries_step w (client_hears_one message rest) s on (kept, is) k fits =
      let x : WorldState = record w { to_client = record w.to_client { part = []; taken = _; unhandled = rest } } in
      let read : WorldState = with_deed x (client_reads w.channels message) in
      inside_now read (done starves w (client_hears_one message rest)) (hears_inside x message)
      (λ fits. client_read_one w (needs_open lines starves w (client_hears_one message rest) (kept, is) tt s) (k fits.1) message x.to_client
      (λ down. one_read (host_wrote w.channels w.deeds) (client_read w.channels w.deeds) w.to_client down message rest is)) fits
  carries_step w (tries_one kept) s on may k fits =
      let x : WorldState = record w { kept = None } in
      inside_now x (done starves w (tries_one kept)) (put_inside x kept.device kept.job) k fits
  carries_step w (collects_one device st after c) s on (reached, quiet, there, made) k fits =
      let y : WorldState = with_station w device after in
      let i = stationed w device after in
      let is = needs_open lines starves w (collects_one device st after c) (reached, quiet, there, made) tt s in
      completed_one y (open_inside w y i ∙ is) (inside_now w y i k fits.1) c.key (collected_on w.channels st (on.held device st there) after c made).0 (completion_message device c) fits.0
  carries_step w (takes_one device hand st after job) s on may k fits = inside_now w (with_station w device after) (stationed w device after) k fits
  carries_step w (applies_one hand device job None) s on may k fits = k fits
  carries_step w (applies_one hand device job (Some st)) s on may k fits =
      inside_now w (done starves w (applies_one hand device job (Some st))) (applied_inside starves w hand device job (Some st)) k fits
  carries_step w (removes_one device o) s on may k fits = inside_now w (done starves w (removes_one device o)) (removed_inside w device o) k fits
  carries_step w (adds_one device names o) s on may k fits = inside_now w (done starves w (adds_one device names o)) (added_inside w device names o) k fits
  carries_step w (queues_one a) s on may k fits = k fits
  carries_step w (idle_one number) s on may k fits = k fits
  carries_step w draws_one s on may k fits = k fits
