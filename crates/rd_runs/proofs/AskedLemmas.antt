-- What applications ask for next is what a line asks for, so a host may take it; and what lines tell of printers a host may tell.
use Rattle.std.proofs.Common.{◌≡◌, ◌∙◌, refl, sym, ap, subst, inl, inr, ℕ, zero, suc, ◌+◌, ◌-◌, ◌≤◌, arith, Bool, true, false, cond, List, [], ◌∷◌, ◌++◌, length, map, fold, replicate, Some, None, Option, Ordering, is_some, length-append, lit<}
use Rattle.std.specs.Prelude.{filter_map, slice_get}
use Rattle.std.specs.List.{AllByRecursion, cons_option}
use Rattle.std.specs.Map.{lookup}
use Rattle.std.specs.Ordering.{match_ordering, nat_cmp}
use Rattle.std.specs.declared.cmp.Ordering.TheVariants.{Less, Equal, Greater}
use Rattle.std.specs.BTreeMap.{insert_entry, is_at}
use Rattle.std.specs.Option.{IfSome, option_map_or, unwrap_or}
use Rattle.rd_base.proofs.WrittenPathLemmas.{length-units}
use Rattle.std.proofs.lemmas.List.{length-replicate}
use Rattle.rd_base.specs.declared.journal.Key.{Key}
use Rattle.rd_drive.proofs.AllLemmas.{all_append}
use Rattle.rd_irp.specs.Fits.{opens}
use Rattle.rd_pending.specs.declared.calls.Handle.{Handle}
use Rattle.rd_pending.specs.declared.calls.Target.{Target}
use Rattle.rd_pending.specs.declared.calls.Target.TheVariants as target
use Rattle.rd_pending.specs.Table.{MaySubmit}
use Rattle.rd_printer.specs.declared.notice.Notice.{Notice}
use Rattle.rd_script.specs.declared.line.Line.{Line}
use Rattle.rd_script.specs.declared.line.Line.TheVariants as line
use Rattle.rd_script.specs.declared.line.NumberedLine.{NumberedLine}
use Rattle.rd_script.specs.declared.outcome.Outcome.{Outcome}
use Rattle.rd_station.specs.Station.{StationState}
use Rattle.rd_declared.specs.declared.device.SessionDevice.{SessionDevice}
use Rattle.rd_runs.specs.Moves.{Reached}
use Rattle.rd_runs.specs.Premises.{AreSubmittable, IsHandleInRange, IsSubmittable}
use Rattle.rd_runs.proofs.BeginningLemmas.{Unset, begins_as}
use Rattle.rd_runs.proofs.Insides.{IsInside, Outside, added_inside, all_dropped_inside, all_refreshed_inside, applied_inside, hears_inside, put_inside, removed_inside}
use Rattle.rd_runs.proofs.Parts.{Part, accepts, adds_one, applies_one, begins, by_parts, client_gets, client_hears_one, client_keeps_part, client_sends_one, collects_one, done, draws_one, ends, hands_out, host_gets, host_hears_one, host_keeps_part, host_sends_one, idle_one, queues_one, reached_behind, refuses, removes_one, takes_one, tells_one, tries_one}
use Rattle.rd_runs.proofs.Standing.{AreTellable, MayTake}
use Rattle.rd_world.proofs.NotingLemmas.{add_tellable, delete_tellable, rename_tellable, update_tellable}
use Rattle.rd_declared.specs.Devices.{PrinterNames, dos_name, zero_text}
use Rattle.rd_world.specs.Events.{target_of}
use Rattle.rd_world.specs.Hearing.{holding_after, next_asked, with_outcome}
use Rattle.rd_deeds.specs.HostDeeds.{IsInRange}
use Rattle.rd_declared.specs.Declaring.{AreNotable, IsNotable}
use Rattle.rd_world.specs.Noting.{IsTellable}
use Rattle.rd_world.specs.Run.{asked_by, asking, notice_of, world_of}
use Rattle.rd_deeds.specs.Talk.{Has, client_reads}
use Rattle.rd_world.specs.World.{ApplicationState, Asked, WorldState, application_at, handle_named, new_application, with_application, with_deed}

-- ---- what is asked for is what lines ask for

-- a line of these asks for it
abbrev pub IsOfLine : List NumberedLine → Asked → Type 0
IsOfLine lines asked = (l : NumberedLine) × (a : ℕ) × Has l lines × (asked_by l.line ≡ Some (a, asked))

module _ (P : Asked → Type 0) where
  abbrev AreAll : List (ℕ × ApplicationState) → Type 0
  AreAll applications = AllByRecursion (λ (e : ℕ × ApplicationState). AllByRecursion P e.1.asks) applications

  all_put : (es : List (ℕ × ApplicationState)) (a : ℕ) (x : ApplicationState) → AllByRecursion P x.asks → AreAll es → AreAll (insert_entry nat_cmp es a x)
  all_put [] a x own all = (own, tt)
  all_put (e ∷ es) a x own all = by (nat_cmp a e.0) (all_put es a x own all.1)
    where
      by : (o : Ordering) → AreAll (insert_entry nat_cmp es a x) → AreAll (match_ordering o ((a, x) ∷ e ∷ es) ((e.0, x) ∷ es) (e ∷ insert_entry nat_cmp es a x))
      by Less later = (own, all)
      by Equal later = (own, all.1)
      by Greater later = (all.0, later)

  all_found : (es : List (ℕ × ApplicationState)) (a : ℕ) → AreAll es → AllByRecursion P (unwrap_or (lookup (is_at (nat_cmp a)) es) new_application).asks
  all_found [] a all = tt
  all_found (e ∷ es) a all = by (is_at (nat_cmp a) e.0) (all_found es a all.1)
    where
      by : (b : Bool) → AllByRecursion P (unwrap_or (lookup (is_at (nat_cmp a)) es) new_application).asks
          → AllByRecursion P (unwrap_or (cond b (Some e.1) (lookup (is_at (nat_cmp a)) es)) new_application).asks
      by true later = all.0
      by false later = later

  all_asked : (asked : List (ℕ × Asked)) → AllByRecursion (λ (x : ℕ × Asked). P x.1) asked → (es : List (ℕ × ApplicationState)) → AreAll es → AreAll (fold asking es asked)
  all_asked [] own es all = all
  all_asked (x ∷ asked) own es all =
      let application : ApplicationState = unwrap_or (lookup (is_at (nat_cmp x.0)) es) new_application in
      all_asked asked own.1 (asking es x)
      (all_put es x.0 (record application { asks = application.asks ++ x.1 ∷ [] }) (all_append P application.asks (x.1 ∷ []) (all_found es x.0 all) (own.0, tt)) all)

  next_of : (asks : List Asked) (i : ℕ) (asked : Asked) → AllByRecursion P asks → slice_get asks i ≡ Some asked → P asked
  next_of [] i asked all e = absurd (cc e)
  next_of (x ∷ asks) zero asked all e = let same : x ≡ asked = cc e in subst P same all.0
  next_of (x ∷ asks) (suc i) asked all e = next_of asks i asked all.1 e

holding_asks : (x : ApplicationState) (asked : Asked) (given : Option Handle) → (holding_after x asked given).asks ≡ x.asks
holding_asks x asked given = by (is_some asked.device) refl
  where
    by : (b : Bool) → is_some asked.device ≡ b → (holding_after x asked given).asks ≡ x.asks
    by true e = rw e refl
    by false e = rw e refl

module _ (lines : List NumberedLine) (starves : Key → Bool) where
  abbrev Asks : List (ℕ × ApplicationState) → Type 0
  Asks applications = AreAll (IsOfLine lines) applications

  outcome_asks : (w : WorldState) (a : ℕ) (asked : Asked) (o : Outcome) (given : Option Handle) → Asks w.applications
      → Asks (with_application w a (with_outcome (application_at w a) o given asked)).applications
  outcome_asks w a asked o given all =
      let x : ApplicationState = application_at w a in
      all_put (IsOfLine lines) w.applications a (with_outcome x o given asked)
      (subst (AllByRecursion (IsOfLine lines)) (sym (holding_asks x asked given)) (all_found (IsOfLine lines) w.applications a all)) all

  inside_asks : (w v : WorldState) → IsInside w v → Asks w.applications → Asks v.applications
  inside_asks w v i all = subst Asks (sym (ap (λ (o : Outside). o.applications) i.same)) all

  asks_step : (w : WorldState) (p : Part) → Asks w.applications → Asks (done starves w p).applications
  asks_step w (accepts a asked named t number) all =
      let x : ApplicationState = application_at w a in
      all_put (IsOfLine lines) w.applications a (record x { awaits = Some number }) (all_found (IsOfLine lines) w.applications a all) all
  asks_step w (refuses a asked cause) all = outcome_asks w a asked _ None all
  asks_step w (hands_out a number t taken None) all = all
  asks_step w (hands_out a number t taken (Some asked)) all = outcome_asks w a asked _ _ all
  asks_step w (host_sends_one message) all = all
  asks_step w (host_gets n) all = all
  asks_step w host_keeps_part all = all
  asks_step w (host_hears_one message rest) all = all
  asks_step w (tells_one n) all = all
  asks_step w begins all = inside_asks w _ (all_refreshed_inside (map (λ (e : ℕ × PrinterNames). e.0) w.printers) w) all
  asks_step w ends all = inside_asks w _ (all_dropped_inside (map (λ (e : ℕ × StationState SessionDevice). e.0) w.stations) w) all
  asks_step w (client_sends_one c o) all = all
  asks_step w (client_gets n) all = all
  asks_step w client_keeps_part all = all
  asks_step w (client_hears_one message rest) all =
      let x : WorldState = record w { to_client = record w.to_client { part = []; taken = _; unhandled = rest } } in
      inside_asks (with_deed x (client_reads w.channels message)) (done starves w (client_hears_one message rest)) (hears_inside x message) all
  asks_step w (tries_one k) all = inside_asks (record w { kept = None }) _ (put_inside (record w { kept = None }) k.device k.job) all
  asks_step w (collects_one device x after c) all = all
  asks_step w (takes_one device hand x after job) all = all
  asks_step w (applies_one hand device job o) all = inside_asks w _ (applied_inside starves w hand device job o) all
  asks_step w (removes_one device o) all = inside_asks w _ (removed_inside w device o) all
  asks_step w (adds_one device names o) all = inside_asks w _ (added_inside w device names o) all
  asks_step w (queues_one a) all =
      let x : ApplicationState = application_at w a in
      all_put (IsOfLine lines) w.applications a (record x { queued = x.queued + 1 }) (all_found (IsOfLine lines) w.applications a all) all
  asks_step w (idle_one number) all = all
  asks_step w draws_one all = all

  from_lines : (ls : List NumberedLine) → ((l : NumberedLine) → Has l ls → Has l lines)
      → AllByRecursion (λ (x : ℕ × Asked). IsOfLine lines x.1) (filter_map asked_by (map (λ (l : NumberedLine). l.line) ls))
  from_lines [] among = tt
  from_lines (l ∷ ls) among = by (asked_by l.line) refl (from_lines ls (λ x has. among x (inr has)))
    where
      by : (o : Option (ℕ × Asked)) → asked_by l.line ≡ o → AllByRecursion (λ (x : ℕ × Asked). IsOfLine lines x.1) (filter_map asked_by (map (λ (l : NumberedLine). l.line) ls))
          → AllByRecursion (λ (x : ℕ × Asked). IsOfLine lines x.1) (cons_option o (filter_map asked_by (map (λ (l : NumberedLine). l.line) ls)))
      by None is later = later
      by (Some (a, asked)) is later = ((l, a, among l (inl refl), is), later)

  -- what an application asks for next is what a line asks for
  pub next_of_line : (w : WorldState) → Reached lines starves w → (a : ℕ) (asked : Asked) → next_asked (application_at w a) ≡ Some asked → IsOfLine lines asked
  next_of_line w r a asked next =
      let first : Asks (world_of lines).applications =
      begins_as lines (λ (u : Unset). Asks u.applications) (all_asked (IsOfLine lines) _ (from_lines lines (λ l has. has)) [] tt) in
      let all = by_parts lines starves (λ w. Asks w.applications) first (λ w p before after may all. asks_step w p all) w (reached_behind lines starves w r) in
      next_of (IsOfLine lines) (application_at w a).asks (length (application_at w a).outcomes) asked (all_found (IsOfLine lines) w.applications a all) next

-- ---- so a host may take it

abbrev OpensNamed : Option (ℕ × Asked) → Type 0
OpensNamed o = IfSome o (λ (x : ℕ × Asked). opens x.1.op ≡ is_some x.1.device)

each_opens : (l : Line) → OpensNamed (asked_by l)
unfolding asked_by
each_opens (line.Open a handle device path) = refl
each_opens (line.Create a handle device path disposition access share options attributes) = refl
each_opens (line.Close a handle) = refl
each_opens (line.Read a handle offset len) = refl
each_opens (line.Write a handle offset bytes) = refl
each_opens (line.Query a handle class) = refl
each_opens (line.Set a handle class bytes) = refl
each_opens (line.Volume a handle class) = refl
each_opens (line.SetVolume a handle class bytes) = refl
each_opens (line.Dir a handle class initial path) = refl
each_opens (line.Lock a handle operation wait ranges) = refl
each_opens (line.Control a handle code output bytes) = refl
each_opens (line.Notify a handle tree filters) = refl
each_opens l = tt

named_fits : (x : ApplicationState) (asked : Asked) (named : Target) → IsSubmittable asked → opens asked.op ≡ is_some asked.device
    → ((name : List ℕ) (h : Handle) → handle_named x name ≡ Some h → IsHandleInRange h) → target_of x asked ≡ Some named → MaySubmit named asked.op × IsInRange named asked.op
named_fits x asked named fit names handles e = by asked.device refl (handle_named x asked.handle) refl e
  where
    by : (d : Option ℕ) → asked.device ≡ d → (o : Option Handle) → handle_named x asked.handle ≡ o
        → option_map_or (λ device. Some (target.Device device)) d (option_map_or (λ (h : Handle). Some (target.Handle h)) o None) ≡ Some named → MaySubmit named asked.op × IsInRange named asked.op
    by (Some device) opened o held e =
        let is : target.Device device ≡ named = cc e in
        subst (λ (n : Target). MaySubmit n asked.op × IsInRange n asked.op) is (
          record { fits = fit.fits; names = names ∙ ap is_some opened },
          record { device = rw opened at fit.device; file = lit< tt; op = fit.range },
        )
    by None opened (Some h) held e =
        let is : target.Handle h ≡ named = cc e in
        let range = handles asked.handle h held in
        subst (λ (n : Target). MaySubmit n asked.op × IsInRange n asked.op) is (
          record { fits = fit.fits; names = names ∙ ap is_some opened },
          record { device = range.0; file = range.1; op = fit.range },
        )
    by None opened None held e = absurd (cc e)

-- ---- notices

dos_length : (name : List ℕ) → length name ≤ 7 → length (dos_name name) ≡ 8
dos_length name few = omega (arith, few, length-append name (replicate (8 - length name) 0), length-replicate {A = ℕ} (8 - length name) 0)

text_few : (units : List ℕ) → length units ≤ 255 → length (zero_text units) ≤ 512
text_few units few = omega (arith, few, length-units (units ++ 0 ∷ []), length-append units (0 ∷ []))

notable_told : (l : Line) → IsNotable l → IfSome (notice_of l) IsTellable
unfolding notice_of IsNotable
notable_told (line.CacheAdd port driver printer bytes) (port_few, driver_few, printer_few, bytes_few) =
    add_tellable (dos_name port) [] (zero_text driver) (zero_text printer) bytes (dos_length port port_few) refl (text_few driver driver_few) (text_few printer printer_few) bytes_few
notable_told (line.CacheUpdate printer bytes) (printer_few, bytes_few) = update_tellable (zero_text printer) bytes (text_few printer printer_few) bytes_few
notable_told (line.CacheDelete printer) few = delete_tellable (zero_text printer) (text_few printer few)
notable_told (line.CacheRename old new) (old_few, new_few) = rename_tellable (zero_text old) (zero_text new) (text_few old old_few) (text_few new new_few)
notable_told l notable = tt

one_notable : (ls : List NumberedLine) (l : NumberedLine) → AreNotable ls → Has l ls → IsNotable l.line
one_notable [] l all has = absurd has
one_notable (x ∷ ls) l all (inl same) = subst (λ (y : NumberedLine). IsNotable y.line) (sym same) all.0
one_notable (x ∷ ls) l all (inr has) = one_notable ls l all.1 has

-- So a host may take what an application's line names, where handles have room in a request.
pub may_take : (lines : List NumberedLine) (starves : Key → Bool) → AreSubmittable lines → (w : WorldState)
    → ((a : ℕ) (name : List ℕ) (h : Handle) → handle_named (application_at w a) name ≡ Some h → IsHandleInRange h) → MayTake lines starves w
may_take lines starves fitting w handles r a asked named next names =
    let (l, n, has, is) = next_of_line lines starves w r a asked next in
    named_fits (application_at w a) asked named (fitting l n asked has is) (subst OpensNamed is (each_opens l.line)) (handles a) names

pub tellable_lines : (lines : List NumberedLine) → AreNotable lines → AreTellable lines
tellable_lines lines notable l n has said = subst (λ (o : Option Notice). IfSome o IsTellable) said (notable_told l.line (one_notable lines l notable has))
