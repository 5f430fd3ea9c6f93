-- All that holds of each world that lines come to, part by part: each of it may use the others.
use Rattle.std.proofs.Common.{◌≡◌, sym, ap, subst, ℕ, ◌+◌, ◌<◌, ◌^◌, Bool, true, false, List, [], ◌∷◌, ◌++◌, map, reverse, fold, Some, None, Option, Result, Ok, Err, is_some}
use Rattle.std.specs.Prelude.{filter_map, if◌then◌else◌}
use Rattle.std.specs.List.{AllByRecursion, cons_option}
use Rattle.std.specs.Map.{lookup}
use Rattle.std.specs.Ordering.{nat_cmp}
use Rattle.std.specs.BTreeMap.{is_at}
use Rattle.std.specs.Option.{IfSome, option_map_or, unwrap_or}
use Rattle.rd_base.specs.declared.journal.Key.{Key}
use Rattle.rd_hello.specs.declared.end_fault.EndFault.{EndFault}
use Rattle.rd_host.specs.Core.{HostCoreState, host_hear}
use Rattle.rd_host.specs.declared.act.Act.{Act}
use Rattle.rd_host.specs.declared.act.Act.TheVariants as act
use Rattle.rd_pending.specs.declared.calls.Handle.{Handle}
use Rattle.rd_pending.specs.declared.calls.Outcome as table_outcome
use Rattle.rd_pending.specs.declared.calls.Outcome.TheVariants.{Done, Lost}
use Rattle.rd_pending.specs.declared.calls.SubmitNo.{SubmitNo}
use Rattle.rd_pending.specs.declared.calls.Taken.{Taken}
use Rattle.rd_pending.specs.Table.{TableState}
use Rattle.rd_printer.specs.Cache.{bytes_cmp}
use Rattle.rd_script.specs.declared.line.NumberedLine.{NumberedLine}
use Rattle.rd_script.specs.declared.outcome.Outcome.{Outcome}
use Rattle.rd_script.specs.declared.outcome.Outcome.TheVariants as outcome
use Rattle.rd_station.specs.Station.{StationState}
use Rattle.rd_runs.specs.Moves.{Reached}
use Rattle.rd_runs.specs.Premises.{IsHandleInRange, RunPremises}
use Rattle.rd_runs.proofs.AskedLemmas.{may_take, tellable_lines}
use Rattle.rd_runs.proofs.BeginningLemmas.{Unset, begins_as}
use Rattle.rd_runs.proofs.Carrying.{CarriesNow, carries_first, carries_step}
use Rattle.rd_runs.proofs.FileNumbers.{BeginsInBytes, IsSafe, completion_safe}
use Rattle.rd_runs.proofs.Insides.{AreOwn, IsInside, Outside, added_inside, all_dropped_inside, all_refreshed_inside, applied_inside, hears_inside, put_inside, removed_inside, stationed}
use Rattle.rd_runs.proofs.KeysOn.{OnNow, on_first, on_step, sent_on}
use Rattle.rd_runs.proofs.Parts.{IsBehind, MayBe, Part, accepts, adds_one, applies_one, begins, by_parts, client_gets, client_hears_one, client_keeps_part, client_sends_one, collects_one, done, draws_one, ends, hands_out, host_gets, host_hears_one, host_keeps_part, host_sends_one, idle_one, queues_one, reached_behind, refuses, removes_one, takes_one, tells_one, tries_one}
use Rattle.rd_runs.proofs.RoomLemmas.{ActIsSafe, OutcomeHasRoom, TableHasRoom, all_inserted, all_removed, begun_room, dropped_room, found_in, heard_room, sent_room, submitted_room, taken_room}
use Rattle.rd_runs.proofs.Sending.{completions_fit}
use Rattle.rd_runs.proofs.Sizes.{Fits, fits_first, fits_step}
use Rattle.rd_runs.proofs.Standing.{AreTellable, MayTake, Stands, needs_open, stands_first, stands_step}
use Rattle.rd_runs.proofs.WayLemmas.{one_read}
use Rattle.rd_deeds.proofs.Hearings.{Heard, heard}
use Rattle.rd_declared.specs.declared.device.SessionDevice.{SessionDevice}
use Rattle.rd_declared.specs.Devices.{PrinterNames}
use Rattle.rd_world.specs.Events.{dropping}
use Rattle.rd_world.specs.Hearing.{file_given, given_handle, holding_under, reported_outcome, with_outcome}
use Rattle.rd_deeds.specs.Host.{sent_from}
use Rattle.rd_world.specs.Run.{asked_by, asking, world_of}
use Rattle.rd_deeds.specs.Talk.{Deed, adds, client_reads, client_writes, client_wrote, completes, host_read, removes, stores}
use Rattle.rd_world.specs.World.{ApplicationState, Asked, WorldState, application_at, handle_named, new_application, with_application, with_deed, with_station}

-- ---- what a client writes is safe to read

-- what a client wrote by it
abbrev by_client : Deed → Option (List ℕ)
by_client (client_writes c m) = Some m
by_client (completes key m) = Some m
by_client deed = None

abbrev AreSafe : List Deed → Type 0
AreSafe deeds = AllByRecursion (λ deed. IfSome (by_client deed) IsSafe) deeds

own_safe : (more deeds : List Deed) → AreOwn more → AreSafe deeds → AreSafe (more ++ deeds)
own_safe [] deeds own safe = safe
own_safe (stores device item ∷ more) deeds own safe = (tt, own_safe more deeds own.1 safe)
own_safe (removes device ∷ more) deeds own safe = (tt, own_safe more deeds own.1 safe)
own_safe (adds device ∷ more) deeds own safe = (tt, own_safe more deeds own.1 safe)
own_safe (deed ∷ more) deeds own safe = absurd own.0

inside_safe : (w v : WorldState) → IsInside w v → AreSafe w.deeds → AreSafe v.deeds
inside_safe w v i safe = subst AreSafe (sym i.deeds) (own_safe i.more w.deeds i.own safe)

on_channel : (b : Bool) (m : List ℕ) (ms : List (List ℕ)) → IsSafe m → AllByRecursion IsSafe ms → AllByRecursion IsSafe (cons_option (if b then Some m else None) ms)
on_channel true m ms own safe = (own, safe)
on_channel false m ms own safe = safe

-- so are the messages of a channel
wrote_safe : (c : ℕ) (deeds : List Deed) → AreSafe deeds → AllByRecursion IsSafe (client_wrote c deeds)
wrote_safe c [] safe = tt
wrote_safe c (client_writes d m ∷ deeds) safe = on_channel _ m (client_wrote c deeds) safe.0 (wrote_safe c deeds safe.1)
wrote_safe c (completes key m ∷ deeds) safe = on_channel _ m (client_wrote c deeds) safe.0 (wrote_safe c deeds safe.1)
wrote_safe c (deed ∷ deeds) safe = wrote_safe c deeds safe.1

middle_safe : (before after : List (List ℕ)) (m : List ℕ) → AllByRecursion IsSafe (before ++ m ∷ after) → IsSafe m
middle_safe [] after m safe = safe.0
middle_safe (x ∷ before) after m safe = middle_safe before after m safe.1

act_safe : (h : HostCoreState) (m : List ℕ) → IsSafe m → ActIsSafe (host_hear h m).1
act_safe h m safe = by (host_hear h m) (heard h m)
  where
    by : (r : HostCoreState × Result Act EndFault) → Heard h m r → ActIsSafe r.1
    by (c, Err fault) is = tt
    by (c, Ok act.Nothing) is = tt
    by (c, Ok (act.Announced devices)) is = tt
    by (c, Ok (act.Removed ids)) is = tt
    by (c, Ok (act.Complete head bytes)) (sound, same, removals, lists, q, read, left) = subst BeginsInBytes (sym left) (safe head q read)

-- ---- handles

abbrev AppHasRoom : ApplicationState → Type 0
AppHasRoom x = AllByRecursion (λ (e : List ℕ × Handle). IsHandleInRange e.1) x.handles

abbrev AppsHaveRoom : List (ℕ × ApplicationState) → Type 0
AppsHaveRoom apps = AllByRecursion (λ (e : ℕ × ApplicationState). AppHasRoom e.1) apps

app_at : (w : WorldState) (a : ℕ) → AppsHaveRoom w.applications → AppHasRoom (application_at w a)
app_at w a all = by (lookup (is_at (nat_cmp a)) w.applications) (found_in AppHasRoom (is_at (nat_cmp a)) w.applications all)
  where
    by : (o : Option ApplicationState) → IfSome o AppHasRoom → AppHasRoom (unwrap_or o new_application)
    by None own = tt
    by (Some x) own = own

app_put : (w : WorldState) (a : ℕ) (x : ApplicationState) → AppHasRoom x → AppsHaveRoom w.applications → AppsHaveRoom (with_application w a x).applications
app_put w a x own all = all_inserted AppHasRoom nat_cmp w.applications a x own all

held_room : (handles : List (List ℕ × Handle)) (name : List ℕ) (given : Option Handle) → IfSome given IsHandleInRange → AllByRecursion (λ (e : List ℕ × Handle). IsHandleInRange e.1) handles
    → AllByRecursion (λ (e : List ℕ × Handle). IsHandleInRange e.1) (holding_under handles name given)
held_room handles name None own all = all_removed IsHandleInRange (is_at (bytes_cmp name)) handles all
held_room handles name (Some h) own all = all_inserted IsHandleInRange bytes_cmp handles name h own all

outcome_room : (x : ApplicationState) (asked : Asked) (o : Outcome) (given : Option Handle) → IfSome given IsHandleInRange → AppHasRoom x → AppHasRoom (with_outcome x o given asked)
outcome_room x asked o given own all = by (is_some asked.device)
  where
    by : (b : Bool) → AppHasRoom (record (if b then record x { handles = holding_under x.handles asked.handle given } else x) { awaits = None; outcomes = x.outcomes ++ o ∷ [] })
    by true = held_room x.handles asked.handle given own all
    by false = all

given_room : (t : Taken) → t.device < 2 ^ 32 → OutcomeHasRoom t.outcome → IfSome (given_handle t) IsHandleInRange
given_room t few room = by (file_given t.outcome) (file t.outcome room)
  where
    file : (o : table_outcome.Outcome) → OutcomeHasRoom o → IfSome (file_given o) (λ (f : ℕ). f < 2 ^ 32)
    file (Done reply) room = room
    file (Lost cause) room = tt

    by : (o : Option ℕ) → IfSome o (λ (f : ℕ). f < 2 ^ 32)
        → IfSome (option_map_or (λ file. Some (record { device = t.device; life = t.life; file = file })) o None) IsHandleInRange
    by None own = tt
    by (Some f) own = (few, own)

named_room : (x : ApplicationState) (name : List ℕ) (h : Handle) → AppHasRoom x → handle_named x name ≡ Some h → IsHandleInRange h
named_room x name h own is = subst (λ (o : Option Handle). IfSome o IsHandleInRange) is (found_in IsHandleInRange (is_at (bytes_cmp name)) x.handles own)

-- ---- all of it

pub record Knows (w : WorldState) : Type 0 where
  pub stands : Stands w
  pub on : OnNow w
  pub carries : CarriesNow w
  pub fits : Fits w
  pub safe : AreSafe w.deeds
  pub room : TableHasRoom (w.side).table
  pub handles : AppsHaveRoom w.applications

asked_rooms : (asked : List (ℕ × Asked)) (es : List (ℕ × ApplicationState)) → AppsHaveRoom es → AppsHaveRoom (fold asking es asked)
asked_rooms [] es all = all
asked_rooms (x ∷ asked) es all = asked_rooms asked (asking es x) (all_inserted AppHasRoom nat_cmp es x.0 _ (by (lookup (is_at (nat_cmp x.0)) es) (found_in AppHasRoom (is_at (nat_cmp x.0)) es all)) all)
  where
    by : (o : Option ApplicationState) → IfSome o AppHasRoom → AppHasRoom (unwrap_or o new_application)
    by None own = tt
    by (Some y) own = own

module _ (lines : List NumberedLine) (starves : Key → Bool) (premises : RunPremises lines) where
  told : AreTellable lines
  told = tellable_lines lines premises.notable

  take_at : (w : WorldState) → Knows w → MayTake lines starves w
  take_at w k = may_take lines starves premises.fitting w (λ a name h is. named_room (application_at w a) name h (app_at w a k.handles) is)

  safe_step : (w : WorldState) (p : Part) → MayBe lines starves w p → OnNow w → AreSafe w.deeds → AreSafe (done starves w p).deeds
  safe_step w (accepts a asked named t number) may on safe = (tt, safe)
  safe_step w (refuses a asked cause) may on safe = safe
  safe_step w (hands_out a number t taken None) may on safe = (tt, safe)
  safe_step w (hands_out a number t taken (Some asked)) may on safe = (tt, safe)
  safe_step w (host_sends_one message) may on safe = (tt, safe)
  safe_step w (host_gets n) may on safe = safe
  safe_step w host_keeps_part may on safe = safe
  safe_step w (host_hears_one message rest) may on safe = (tt, safe)
  safe_step w (tells_one n) may on safe = (tt, safe)
  safe_step w begins may on safe = (tt, inside_safe w _ (all_refreshed_inside (map (λ (e : ℕ × PrinterNames). e.0) w.printers) w) safe)
  safe_step w ends may on safe = (tt, inside_safe w _ (all_dropped_inside (map (λ (e : ℕ × StationState SessionDevice). e.0) w.stations) w) safe)
  safe_step w (client_sends_one after o) made on safe = (by o.answers, safe)
    where
      by : (a : Option Key) → IfSome (by_client (option_map_or (λ key. completes key o.message) a (client_writes w.channels o.message))) IsSafe
      by None = ((sent_on w.channels w.client after o on.outbox made).0).1
      by (Some key) = ((sent_on w.channels w.client after o on.outbox made).0).1
  safe_step w (client_gets n) may on safe = safe
  safe_step w client_keeps_part may on safe = safe
  safe_step w (client_hears_one message rest) may on safe =
      let x : WorldState = record w { to_client = record w.to_client { part = []; taken = _; unhandled = rest } } in
      inside_safe (with_deed x (client_reads w.channels message)) (done starves w (client_hears_one message rest)) (hears_inside x message) (tt, safe)
  safe_step w (tries_one k) may on safe = inside_safe (record w { kept = None }) (done starves w (tries_one k)) (put_inside (record w { kept = None }) k.device k.job) safe
  safe_step w (collects_one device s after c) may on safe =
      (completion_safe c.kind _ (c.reply).body, inside_safe w (with_station w device after) (stationed w device after) safe)
  safe_step w (takes_one device hand s after job) may on safe = inside_safe w (with_station w device after) (stationed w device after) safe
  safe_step w (applies_one hand device job o) may on safe = inside_safe w (done starves w (applies_one hand device job o)) (applied_inside starves w hand device job o) safe
  safe_step w (removes_one device o) may on safe = inside_safe w (done starves w (removes_one device o)) (removed_inside w device o) safe
  safe_step w (adds_one device names o) may on safe = inside_safe w (done starves w (adds_one device names o)) (added_inside w device names o) safe
  safe_step w (queues_one a) may on safe = safe
  safe_step w (idle_one number) may on safe = safe
  safe_step w draws_one may on safe = safe

  -- the message that a host hears was written
  heard_safe : (w : WorldState) (m rest : List ℕ) → MayBe lines starves w (host_hears_one m rest) → Knows w → IsSafe m
  heard_safe w m rest found k =
      let is = needs_open lines starves w (host_hears_one m rest) found tt k.stands in
      let up = (k.carries.moving is).1 in
      let read = one_read (client_wrote w.channels w.deeds) (host_read w.channels w.deeds) w.to_host up m rest found in
      middle_safe (reverse read.waiting) (host_read w.channels w.deeds) m (subst (AllByRecursion IsSafe) read.told (wrote_safe w.channels w.deeds k.safe))

  inside_room : (w v : WorldState) → IsInside w v → TableHasRoom (w.side).table → TableHasRoom (v.side).table
  inside_room w v i room = subst (λ (o : Outside). TableHasRoom (o.side).table) (sym i.same) room

  room_step : (w : WorldState) (p : Part) → MayBe lines starves w p → Knows w → TableHasRoom ((done starves w p).side).table
  room_step w (accepts a asked named t number) (reached, may, next, target, made) k =
      let (fits, range) = take_at w k reached a asked named next target in
      subst TableHasRoom (ap (λ (r : TableState × Result ℕ SubmitNo). r.0) made) (submitted_room (w.side).table a named asked.op range.device k.room)
  room_step w (refuses a asked cause) may k = k.room
  room_step w (hands_out a number t taken None) (waits, next, made) k = (taken_room (w.side).table t number taken made k.room).2
  room_step w (hands_out a number t taken (Some asked)) (waits, next, made) k = (taken_room (w.side).table t number taken made k.room).2
  room_step w (host_sends_one message) may k = by (((w.side).core).core).outbox
    where
      by : (o : List (List ℕ)) → TableHasRoom (sent_from w.side o).table
      by [] = sent_room (w.side).table k.room
      by (m ∷ ms) = k.room
  room_step w (host_gets n) may k = k.room
  room_step w host_keeps_part may k = k.room
  room_step w (host_hears_one message rest) may k =
      let made = host_hear (w.side).core message in
      heard_room (record w.side { core = made.0 }) made.1 (act_safe (w.side).core message (heard_safe w message rest may k)) k.room
  room_step w (tells_one n) may k = k.room
  room_step w begins may k = begun_room (w.side).table (w.channels + 1) k.room
  room_step w ends may k =
      let devices : List ℕ = map (λ (e : ℕ × StationState SessionDevice). e.0) w.stations in
      dropped_room ((fold dropping w devices).side).table (inside_room w (fold dropping w devices) (all_dropped_inside devices w) k.room)
  room_step w (client_sends_one after o) may k = k.room
  room_step w (client_gets n) may k = k.room
  room_step w client_keeps_part may k = k.room
  room_step w (client_hears_one message rest) may k =
      let x : WorldState = record w { to_client = record w.to_client { part = []; taken = _; unhandled = rest } } in
      inside_room (with_deed x (client_reads w.channels message)) (done starves w (client_hears_one message rest)) (hears_inside x message) k.room
  room_step w (tries_one kept) may k = inside_room (record w { kept = None }) (done starves w (tries_one kept)) (put_inside (record w { kept = None }) kept.device kept.job) k.room
  room_step w (collects_one device s after c) may k = k.room
  room_step w (takes_one device hand s after job) may k = k.room
  room_step w (applies_one hand device job o) may k = inside_room w (done starves w (applies_one hand device job o)) (applied_inside starves w hand device job o) k.room
  room_step w (removes_one device o) may k = inside_room w (done starves w (removes_one device o)) (removed_inside w device o) k.room
  room_step w (adds_one device names o) may k = inside_room w (done starves w (adds_one device names o)) (added_inside w device names o) k.room
  room_step w (queues_one a) may k = k.room
  room_step w (idle_one number) may k = k.room
  room_step w draws_one may k = k.room

  inside_apps : (w v : WorldState) → IsInside w v → AppsHaveRoom w.applications → AppsHaveRoom v.applications
  inside_apps w v i all = subst AppsHaveRoom (sym (ap (λ (o : Outside). o.applications) i.same)) all

  handles_step : (w : WorldState) (p : Part) → MayBe lines starves w p → Knows w → AppsHaveRoom (done starves w p).applications
  handles_step w (accepts a asked named t number) may k = app_put w a (record (application_at w a) { awaits = Some number }) (app_at w a k.handles) k.handles
  handles_step w (refuses a asked cause) may k = app_put w a _ (outcome_room (application_at w a) asked (outcome.Refused cause) None tt (app_at w a k.handles)) k.handles
  handles_step w (hands_out a number t taken None) may k = k.handles
  handles_step w (hands_out a number t taken (Some asked)) (waits, next, made) k =
      let gave = taken_room (w.side).table t number taken made k.room in
      app_put w a _ (outcome_room (application_at w a) asked (reported_outcome taken.outcome) (given_handle taken) (given_room taken gave.0 gave.1) (app_at w a k.handles)) k.handles
  handles_step w (host_sends_one message) may k = k.handles
  handles_step w (host_gets n) may k = k.handles
  handles_step w host_keeps_part may k = k.handles
  handles_step w (host_hears_one message rest) may k = k.handles
  handles_step w (tells_one n) may k = k.handles
  handles_step w begins may k = inside_apps w _ (all_refreshed_inside (map (λ (e : ℕ × PrinterNames). e.0) w.printers) w) k.handles
  handles_step w ends may k = inside_apps w _ (all_dropped_inside (map (λ (e : ℕ × StationState SessionDevice). e.0) w.stations) w) k.handles
  handles_step w (client_sends_one after o) may k = k.handles
  handles_step w (client_gets n) may k = k.handles
  handles_step w client_keeps_part may k = k.handles
  handles_step w (client_hears_one message rest) may k =
      let x : WorldState = record w { to_client = record w.to_client { part = []; taken = _; unhandled = rest } } in
      inside_apps (with_deed x (client_reads w.channels message)) (done starves w (client_hears_one message rest)) (hears_inside x message) k.handles
  handles_step w (tries_one kept) may k = inside_apps (record w { kept = None }) (done starves w (tries_one kept)) (put_inside (record w { kept = None }) kept.device kept.job) k.handles
  handles_step w (collects_one device s after c) may k = k.handles
  handles_step w (takes_one device hand s after job) may k = k.handles
  handles_step w (applies_one hand device job o) may k = inside_apps w (done starves w (applies_one hand device job o)) (applied_inside starves w hand device job o) k.handles
  handles_step w (removes_one device o) may k = inside_apps w (done starves w (removes_one device o)) (removed_inside w device o) k.handles
  handles_step w (adds_one device names o) may k = inside_apps w (done starves w (adds_one device names o)) (added_inside w device names o) k.handles
  handles_step w (queues_one a) may k = app_put w a (record (application_at w a) { queued = (application_at w a).queued + 1 }) (app_at w a k.handles) k.handles
  handles_step w (idle_one number) may k = k.handles
  handles_step w draws_one may k = k.handles

  first : Knows (world_of lines)
  first =
      let fits = fits_first lines starves told premises.declared (completions_fit lines starves premises.bounded) in
      record {
        stands = stands_first lines starves told;
        on = on_first lines starves;
        carries = carries_first lines starves fits.deeds;
        fits = fits;
        safe = begins_as lines (λ (u : Unset). AreSafe u.deeds) tt;
        room = begins_as lines (λ (u : Unset). TableHasRoom (u.side).table) tt;
        handles = begins_as lines (λ (u : Unset). AppsHaveRoom u.applications) (asked_rooms (filter_map asked_by (map (λ (l : NumberedLine). l.line) lines)) [] tt);
      }

  step : (w : WorldState) (p : Part) → MayBe lines starves w p → Knows w → Knows (done starves w p)
  step w p may k =
      let fits = fits_step lines starves told premises.declared (completions_fit lines starves premises.bounded) w p k.stands may k.fits in
      record {
        stands = stands_step lines starves told w p (take_at w k) may k.stands;
        on = on_step lines starves w p k.stands may k.on;
        carries = carries_step lines starves w p k.stands k.on may (λ deeds. k.carries) fits.deeds;
        fits = fits;
        safe = safe_step w p may k.on k.safe;
        room = room_step w p may k;
        handles = handles_step w p may k;
      }

  -- every world that lines come to, and each in between
  pub knows : (w : WorldState) → IsBehind lines starves w → Knows w
  knows = by_parts lines starves Knows first (λ w p before after may k. step w p may k)

  pub known : (w : WorldState) → Reached lines starves w → Knows w
  known w r = knows w (reached_behind lines starves w r)

  -- the numbers of handles have room
  pub handles_room : (w : WorldState) → Reached lines starves w → (a : ℕ) (name : List ℕ) (h : Handle) → handle_named (application_at w a) name ≡ Some h → IsHandleInRange h
  handles_room w r a name h is = named_room (application_at w a) name h (app_at w a (known w r).handles) is
