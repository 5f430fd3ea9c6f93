-- Each request that is accepted_count, and each channel, is owed to a line of its own.
use Rattle.std.proofs.Common.{◌≡◌, ◌≢◌, ◌∙◌, refl, sym, ap, subst, inl, inr, ℕ, suc, ◌+◌, ◌<◌, ◌≤◌, Bool, true, false, List, [], ◌∷◌, ◌++◌, length, map, fold, Some, None, Option, arith, is_some, length-append}
use Rattle.std.specs.Prelude.{filter_map, if◌then◌else◌, is_none, nat_lt}
use Rattle.std.specs.List.{AllByRecursion}
use Rattle.std.specs.List.Sorted.{IsStrictlySortedBy}
use Rattle.std.specs.Map.{keys_of, lookup}
use Rattle.std.specs.Ordering.{nat_cmp}
use Rattle.std.specs.declared.cmp.Ordering.TheVariants.{Less}
use Rattle.std.specs.BTreeMap.{insert_entry, is_at}
use Rattle.std.specs.Option.{IfSome, option_map_or, unwrap_or}
use Rattle.std.proofs.lemmas.Bool.{cases_order}
use Rattle.std.proofs.lemmas.Bool.Decides.{nat_tests}
use Rattle.rd_base.specs.declared.journal.Key.{Key}
use Rattle.rd_client.specs.Core.{Outgoing}
use Rattle.rd_pending.proofs.MapLemmas.{rises_with}
use Rattle.rd_pending.specs.declared.calls.Handle.{Handle}
use Rattle.rd_script.specs.declared.line.NumberedLine.{NumberedLine}
use Rattle.rd_script.specs.declared.outcome.Outcome.{Outcome}
use Rattle.rd_script.specs.declared.outcome.Outcome.TheVariants as outcome
use Rattle.rd_station.specs.Station.{StationState}
use Rattle.rd_runs.specs.Counts.{accepted_count}
use Rattle.rd_runs.specs.Moves.{Reached}
use Rattle.rd_runs.proofs.BeginningLemmas.{Unset, begins_as}
use Rattle.rd_runs.proofs.Insides.{AreOwn, IsInside, Outside, added_inside, all_dropped_inside, all_refreshed_inside, applied_inside, hears_inside, put_inside, removed_inside, stationed}
use Rattle.rd_runs.proofs.Parts.{IsBehind, MayBe, Part, accepts, adds_one, applies_one, begins, by_counted_parts, client_gets, client_hears_one, client_keeps_part, client_sends_one, collects_one, done, draws_one, ends, hands_out, host_gets, host_hears_one, host_keeps_part, host_sends_one, idle_one, part_weight, parts_weight, queues_one, reached_behind, refuses, removes_one, takes_one, tells_one, tries_one}
use Rattle.rd_runs.proofs.Reaching.{both}
use Rattle.rd_runs.proofs.RoomLemmas.{all_inserted, found_in}
use Rattle.rd_world.proofs.ApplicationsLemmas.{apart_at, below_of, equal_is, greater_is}
use Rattle.rd_declared.specs.declared.device.SessionDevice.{SessionDevice}
use Rattle.rd_declared.specs.Devices.{PrinterNames}
use Rattle.rd_world.specs.Events.{deed_on, dropping, may_issue}
use Rattle.rd_world.specs.Hearing.{given_handle, holding_under, reported_outcome, with_outcome}
use Rattle.rd_world.specs.Run.{asked_by, asking, world_of}
use Rattle.rd_deeds.specs.Talk.{Deed, adds, client_reads, client_writes, completes, removes, stores}
use Rattle.rd_world.specs.World.{ApplicationState, Asked, WorldState, application_at, new_application, with_deed, with_station}

-- ---- sums over applications

less_is : (k l : ℕ) → k < l → nat_cmp k l ≡ Less
less_is k l under = grind (arith, nat_tests)

abbrev Applications : Type 0
Applications = List (ℕ × ApplicationState)

none_under : (es : Applications) (a b : ℕ) → a ≤ b → AllByRecursion (λ k. nat_cmp b k ≡ Less) (keys_of es) → lookup (is_at (nat_cmp a)) es ≡ None
none_under [] a b few all = refl
none_under (e ∷ es) a b few all =
    let under : b < e.0 = below_of b e.0 all.0 in
    let apart : a ≢ e.0 = λ (same : a ≡ e.0). omega arith in
    rw (apart_at a e.0 apart) (none_under es a b few all.1)

abbrev total : (ApplicationState → ℕ) → Applications → ℕ
total f [] = 0
total f (e ∷ es) = f e.1 + total f es

-- of one, or none
abbrev one_of : (ApplicationState → ℕ) → Option ApplicationState → ℕ
one_of f o = option_map_or f o 0

-- one is put where another was, or none
total_put : (f : ApplicationState → ℕ) (es : Applications) (a : ℕ) (x : ApplicationState) → IsStrictlySortedBy nat_cmp (keys_of es)
    → total f (insert_entry nat_cmp es a x) + one_of f (lookup (is_at (nat_cmp a)) es) ≡ total f es + f x
unfolding IsStrictlySortedBy
total_put f [] a x rise = omega arith
total_put f (e ∷ es) a x rise = elim (cases_order a e.0) [
  | inl here ↦ rw (equal_is a e.0 here) (omega arith)
  | inr (inl below) ↦
      rw (less_is a e.0 below, none_under es a e.0 (omega (arith, below)) rise.0) (omega arith)
  | inr (inr above) ↦
      let later = total_put f es a x rise.1 in
      rw (greater_is a e.0 above) (omega (arith, later))
]

-- ---- what is counted

abbrev waits : Option ℕ → ℕ
waits None = 0
waits (Some number) = 1

-- how many lines of an application were issued
abbrev spent : ApplicationState → ℕ
spent x = length x.outcomes + waits x.awaits

abbrev lined : ApplicationState → ℕ
lined x = x.queued

-- Behind so many lines: an application issued no more than were queued, and each request that was accepted_count is of one that was issued.
record Counted (n : ℕ) (es : Applications) (channels count : ℕ) : Type 0 where
  rise : IsStrictlySortedBy nat_cmp (keys_of es)
  each : AllByRecursion (λ (e : ℕ × ApplicationState). spent e.1 ≤ (e.1).queued) es
  queued : total lined es ≤ n
  issued : count ≤ total spent es
  begun : channels ≤ n

abbrev CountedNow : ℕ → WorldState → Type 0
CountedNow n w = Counted n w.applications w.channels (accepted_count w.deeds)

more : (n : ℕ) (w : WorldState) (p : Part) → CountedNow n w → CountedNow (part_weight p + n) w
more n w p c = record {
  rise = c.rise;
  each = c.each;
  queued = omega (arith, c.queued);
  issued = c.issued;
  begun = omega (arith, c.begun);
}

-- no more are issued than are queued
spent_within : (es : Applications) → AllByRecursion (λ (e : ℕ × ApplicationState). spent e.1 ≤ (e.1).queued) es → total spent es ≤ total lined es
spent_within [] each = omega arith
spent_within (e ∷ es) each =
    let later = spent_within es each.1 in
    omega (arith, each.0, later)

own_accepts : (more deeds : List Deed) → AreOwn more → accepted_count (more ++ deeds) ≡ accepted_count deeds
own_accepts [] deeds own = refl
own_accepts (stores device item ∷ more) deeds own = own_accepts more deeds own.1
own_accepts (removes device ∷ more) deeds own = own_accepts more deeds own.1
own_accepts (adds device ∷ more) deeds own = own_accepts more deeds own.1
own_accepts (deed ∷ more) deeds own = absurd own.0

inside_counted : (n : ℕ) (w v : WorldState) → IsInside w v → CountedNow n w → CountedNow n v
inside_counted n w v i c =
    let count : accepted_count v.deeds ≡ accepted_count w.deeds = ap accepted_count i.deeds ∙ own_accepts i.more w.deeds i.own in
    subst (λ (k : ℕ). Counted n v.applications v.channels k) (sym count)
    (subst (λ (o : Outside). Counted n o.applications o.channels (accepted_count w.deeds)) (sym i.same) c)

-- ---- one application

module _ (n : ℕ) (w : WorldState) (a : ℕ) (c : CountedNow n w) where
  of_old : (f : ApplicationState → ℕ) → f new_application ≡ 0 → f (application_at w a) ≡ one_of f (lookup (is_at (nat_cmp a)) w.applications)
  of_old f none = by (lookup (is_at (nat_cmp a)) w.applications)
    where
      by : (o : Option ApplicationState) → f (unwrap_or o new_application) ≡ one_of f o
      by None = none
      by (Some x) = refl

  old_within : spent (application_at w a) ≤ (application_at w a).queued
  old_within =
      by (lookup (is_at (nat_cmp a)) w.applications)
      (found_in (λ (x : ApplicationState). spent x ≤ x.queued) (is_at (nat_cmp a)) w.applications c.each)
    where
      by : (o : Option ApplicationState) → IfSome o (λ (x : ApplicationState). spent x ≤ x.queued) → spent (unwrap_or o new_application) ≤ (unwrap_or o new_application).queued
      by None own = omega arith
      by (Some x) own = own

  put : (k : ℕ) (x : ApplicationState) (count : ℕ) → n ≤ k → spent x ≤ x.queued → x.queued + n ≤ (application_at w a).queued + k
      → count + spent (application_at w a) ≤ accepted_count w.deeds + spent x → Counted k (insert_entry nat_cmp w.applications a x) w.channels count
  put k x count few within lines issued =
      let q = total_put lined w.applications a x c.rise in
      let s = total_put spent w.applications a x c.rise in
      let old_q = of_old lined refl in
      let old_s = of_old spent refl in
      record {
        rise = rises_with a x w.applications c.rise;
        each = all_inserted (λ (y : ApplicationState). spent y ≤ y.queued) nat_cmp w.applications a x within c.each;
        queued = omega (arith, q, old_q, lines, c.queued);
        issued = omega (arith, s, old_s, issued, c.issued);
        begun = omega (arith, few, c.begun);
      }

none_waits : (o : Option ℕ) → is_none o ≡ true → waits o ≡ 0
none_waits None e = refl
none_waits (Some number) e = absurd (cc e)

-- an application that may issue has a line left, and awaits nothing
may_issue_one : (x : ApplicationState) → may_issue x ≡ true → (length x.outcomes < x.queued) × (waits x.awaits ≡ 0)
may_issue_one x may =
    let (left, none) = both (nat_lt (length x.outcomes) x.queued) (is_none x.awaits) may in
    (grind (arith, nat_tests, left), none_waits x.awaits none)

with_spent : (x : ApplicationState) (o : Outcome) (given : Option Handle) (asked : Asked)
    → (spent (with_outcome x o given asked) ≡ length x.outcomes + 1) × ((with_outcome x o given asked).queued ≡ x.queued)
with_spent x o given asked =
    let longer = length-append x.outcomes (o ∷ []) in
    (omega (arith, longer), by (is_some asked.device))
  where
    by : (b : Bool) → (if b then record x { handles = holding_under x.handles asked.handle given } else x).queued ≡ x.queued
    by true = refl
    by false = refl

-- ---- the beginning, at which no line is queued

asked_counted : (asked : List (ℕ × Asked)) (es : Applications) → Counted 0 es 0 0 → Counted 0 (fold asking es asked) 0 0
asked_counted [] es c = c
asked_counted (x ∷ asked) es c = asked_counted asked (asking es x) put_one
  where
    old : ApplicationState
    old = unwrap_or (lookup (is_at (nat_cmp x.0)) es) new_application

    new : ApplicationState
    new = record old { asks = old.asks ++ x.1 ∷ [] }

    within : spent old ≤ old.queued
    within = by (lookup (is_at (nat_cmp x.0)) es) (found_in (λ (y : ApplicationState). spent y ≤ y.queued) (is_at (nat_cmp x.0)) es c.each)
      where
        by : (o : Option ApplicationState) → IfSome o (λ (y : ApplicationState). spent y ≤ y.queued) → spent (unwrap_or o new_application) ≤ (unwrap_or o new_application).queued
        by None own = omega arith
        by (Some y) own = own

    same : lined old ≡ one_of lined (lookup (is_at (nat_cmp x.0)) es)
    same = by (lookup (is_at (nat_cmp x.0)) es)
      where
        by : (o : Option ApplicationState) → lined (unwrap_or o new_application) ≡ one_of lined o
        by None = refl
        by (Some y) = refl

    put_one : Counted 0 (asking es x) 0 0
    put_one =
        let q = total_put lined es x.0 new c.rise in
        record {
          rise = rises_with x.0 new es c.rise;
          each = all_inserted (λ (y : ApplicationState). spent y ≤ y.queued) nat_cmp es x.0 new within c.each;
          queued = omega (arith, q, same, c.queued);
          issued = omega arith;
          begun = omega arith;
        }

none_asked : Counted 0 [] 0 0
unfolding IsStrictlySortedBy
none_asked = record { rise = tt; each = tt; queued = omega arith; issued = omega arith; begun = omega arith }

-- ---- each part

module _ (lines : List NumberedLine) (starves : Key → Bool) where
  sent_accepts : (c : ℕ) (o : Outgoing) (deeds : List Deed) → accepted_count (deed_on c o ∷ deeds) ≡ accepted_count deeds
  sent_accepts c o deeds = by o.answers
    where
      by : (answers : Option Key) → accepted_count (option_map_or (λ key. completes key o.message) answers (client_writes c o.message) ∷ deeds) ≡ accepted_count deeds
      by None = refl
      by (Some key) = refl

  step : (n : ℕ) (w : WorldState) (p : Part) → MayBe lines starves w p → CountedNow n w → CountedNow (part_weight p + n) (done starves w p)
  step n w (accepts a asked named t number) (reached, may, next, target, made) c =
      let x : ApplicationState = application_at w a in
      let (left, none) = may_issue_one x may in
      put n w a c (0 + n) (record x { awaits = Some number }) (suc (accepted_count w.deeds)) (omega arith) (omega (arith, left)) (omega arith) (omega (arith, none))
  step n w (refuses a asked cause) (may, next, refused) c =
      let x : ApplicationState = application_at w a in
      let (left, none) = may_issue_one x may in
      let (one, same) = with_spent x (outcome.Refused cause) None asked in
      put n w a c (0 + n) (with_outcome x (outcome.Refused cause) None asked) (accepted_count w.deeds) (omega arith) (omega (arith, left, one, same)) (omega (arith, same)) (omega (arith, none, one))
  step n w (hands_out a number t taken None) may c = more n w draws_one c
  step n w (hands_out a number t taken (Some asked)) (awaits, next, made) c =
      let x : ApplicationState = application_at w a in
      let one : waits x.awaits ≡ 1 = ap waits awaits in
      let (spends, same) = with_spent x (reported_outcome taken.outcome) (given_handle taken) asked in
      let within = old_within n w a c in
      put n w a c (0 + n) (with_outcome x (reported_outcome taken.outcome) (given_handle taken) asked) (accepted_count w.deeds) (omega arith)
      (omega (arith, one, spends, same, within)) (omega (arith, same)) (omega (arith, one, spends))
  step n w (host_sends_one message) may c = more n w draws_one c
  step n w (host_gets k) may c = more n w draws_one c
  step n w host_keeps_part may c = more n w draws_one c
  step n w (host_hears_one message rest) may c = more n w draws_one c
  step n w (tells_one notice) may c = more n w begins c
  step n w begins may c =
      let fresh = inside_counted n w _ (all_refreshed_inside (map (λ (e : ℕ × PrinterNames). e.0) w.printers) w) c in
      record { rise = fresh.rise; each = fresh.each; queued = omega (arith, fresh.queued); issued = fresh.issued; begun = omega (arith, c.begun) }
  step n w ends may c =
      more n (fold dropping w (map (λ (e : ℕ × StationState SessionDevice). e.0) w.stations)) begins
      (inside_counted n w _ (all_dropped_inside (map (λ (e : ℕ × StationState SessionDevice). e.0) w.stations) w) c)
  step n w (client_sends_one after o) may c =
      subst (λ (k : ℕ). Counted (0 + n) w.applications w.channels k) (sym (sent_accepts w.channels o w.deeds)) (more n w draws_one c)
  step n w (client_gets k) may c = more n w draws_one c
  step n w client_keeps_part may c = more n w draws_one c
  step n w (client_hears_one message rest) may c =
      let x : WorldState = record w { to_client = record w.to_client { part = []; taken = _; unhandled = rest } } in
      more n (done starves w (client_hears_one message rest)) draws_one
      (inside_counted n (with_deed x (client_reads w.channels message)) (done starves w (client_hears_one message rest)) (hears_inside x message) c)
  step n w (tries_one kept) may c =
      more n (done starves w (tries_one kept)) draws_one
      (inside_counted n (record w { kept = None }) (done starves w (tries_one kept)) (put_inside (record w { kept = None }) kept.device kept.job) c)
  step n w (collects_one device s after completion) may c = more n (with_station w device after) draws_one (inside_counted n w (with_station w device after) (stationed w device after) c)
  step n w (takes_one device hand s after job) may c = more n (with_station w device after) draws_one (inside_counted n w (with_station w device after) (stationed w device after) c)
  step n w (applies_one hand device job o) may c =
      more n (done starves w (applies_one hand device job o)) draws_one
      (inside_counted n w (done starves w (applies_one hand device job o)) (applied_inside starves w hand device job o) c)
  step n w (removes_one device o) may c =
      more n (done starves w (removes_one device o)) begins (inside_counted n w (done starves w (removes_one device o)) (removed_inside w device o) c)
  step n w (adds_one device names o) may c =
      more n (done starves w (adds_one device names o)) begins (inside_counted n w (done starves w (adds_one device names o)) (added_inside w device names o) c)
  step n w (queues_one a) may c =
      let x : ApplicationState = application_at w a in
      let within = old_within n w a c in
      put n w a c (1 + n) (record x { queued = x.queued + 1 }) (accepted_count w.deeds) (omega arith) (omega (arith, within)) (omega arith) (omega arith)
  step n w (idle_one number) may c = more n w begins c
  step n w draws_one may c = more n w draws_one c

  first : CountedNow 0 (world_of lines)
  first = begins_as lines (λ (u : Unset). Counted 0 u.applications u.channels (accepted_count u.deeds)) (asked_counted (filter_map asked_by (map (λ (l : NumberedLine). l.line) lines)) [] none_asked)

  counted : (w : WorldState) (b : IsBehind lines starves w) → Counted (parts_weight b.parts) w.applications w.channels (accepted_count w.deeds)
  counted w b = by_counted_parts lines starves CountedNow first (λ n w p before after may c. step n w p may c) w b

  -- so there are no more than lines, and the first channel's begin and the last one's end
  pub channels_few : (w : WorldState) → Reached lines starves w → w.channels ≤ length lines + 2
  channels_few w r =
      let b = reached_behind lines starves w r in
      let c = counted w b in
      omega (arith, c.begun, b.few)

  pub accepted_few : (w : WorldState) → Reached lines starves w → accepted_count w.deeds ≤ length lines + 2
  accepted_few w r =
      let b = reached_behind lines starves w r in
      let c = counted w b in
      let all = spent_within w.applications c.each in
      omega (arith, c.issued, c.queued, all, b.few)
