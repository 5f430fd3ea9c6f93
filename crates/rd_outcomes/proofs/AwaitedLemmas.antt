-- Between two moves no application awaits an outcome that is known.
use Rattle.std.proofs.Common.{◌≡◌, ◌≢◌, ◌⊎◌, ◌∙◌, refl, sym, ap, subst, inl, inr, ℕ, zero, suc, ◌+◌, ◌≤◌, ◌==◌, Bool, true, false, cond, List, [], ◌∷◌, ◌++◌, map, filter_map, fold, Some, None, Option, Result, Ok, Err, arith}
use Rattle.std.specs.Prelude.{IsSome, if◌then◌else◌, is_some}
use Rattle.std.specs.Map.{lookup, remove_entry}
use Rattle.std.specs.Ordering.{nat_cmp}
use Rattle.std.specs.BTreeMap.{insert_entry, is_at}
use Rattle.std.specs.Option.{option_and_then, option_map, option_map_or, unwrap_or}
use Rattle.std.proofs.lemmas.Bool.{cases_eq}
use Rattle.rd_base.specs.declared.journal.Key.{Key}
use Rattle.rd_client.specs.Core as client
use Rattle.rd_client.specs.Core.{ClientCoreState, Outgoing}
use Rattle.rd_drive.specs.declared.plan.Job.{Job}
use Rattle.rd_irp.specs.declared.op.Op.{Op}
use Rattle.rd_journals.proofs.ChannelLemmas.{all_refreshed, begun_on}
use Rattle.rd_pending.specs.declared.calls.Handle.{Handle}
use Rattle.rd_pending.specs.declared.calls.SubmitNo.{SubmitNo}
use Rattle.rd_pending.specs.declared.calls.TakeNo.{TakeNo}
use Rattle.rd_pending.specs.declared.calls.TakeNo.TheVariants as table_no
use Rattle.rd_pending.specs.declared.calls.Taken.{Taken}
use Rattle.rd_pending.specs.declared.calls.Target.{Target}
use Rattle.rd_pending.specs.Table as table
use Rattle.rd_pending.specs.Table.{Fate, TableState, Untaken, accept, awaited, awaits, fate_at, known, untaken_at}
use Rattle.rd_pending.proofs.Effects as effects
use Rattle.rd_pending.proofs.MapLemmas.{beside, inserted, kept}
use Rattle.rd_controls.proofs.RunsBeginningLemmas.{Unset, begins_as}
use Rattle.rd_controls.proofs.RunsInsides.{IsInside, Outside, all_dropped_inside, applied_inside, hears_inside, put_inside, removed_inside, added_inside}
use Rattle.rd_controls.proofs.RunsParts.{MayBe, Part, accepts, adds_one, applies_one, begins, client_gets, client_hears_one, client_keeps_part, client_sends_one, collects_one, done, draws_one, ends, hands_out, host_gets, host_handling_keeps, host_hears_one, host_keeps_part, host_sends_one, idle_one, queues_one, refreshed_by, refuses, removes_one, takes_one, tells_one, told_added, tries_one}
use Rattle.rd_controls.proofs.RunsReaching.{by_moves}
use Rattle.rd_controls.specs.RunsMoves.{MayPass, Reached, RunMove, after_move, draws, happens, idle, queues}
use Rattle.rd_script.specs.declared.line.Line.{Line}
use Rattle.rd_script.specs.declared.line.NumberedLine.{NumberedLine}
use Rattle.rd_script.specs.declared.outcome.Outcome.{Outcome}
use Rattle.rd_script.specs.declared.outcome.Outcome.TheVariants as outcome
use Rattle.rd_script.specs.declared.outcome.Refusal.{Refusal}
use Rattle.rd_station.specs.declared.answers.Completion.{Completion}
use Rattle.rd_station.specs.declared.answers.Given.{Given}
use Rattle.rd_station.specs.declared.answers.Given.TheVariants as given
use Rattle.rd_station.specs.Station as station
use Rattle.rd_station.specs.Station.{StationState}
use Rattle.rd_declared.specs.Devices.{PrinterNames}
use Rattle.rd_declared.specs.declared.device.SessionDevice.{SessionDevice}
use Rattle.rd_world.specs.Events as event
use Rattle.rd_world.specs.Events.{Event, act, asks, collects_from, comes_of_asking, cutting, is_enabled, issues, issues_next, may_issue, refusal_of, takes_job_from, target_of}
use Rattle.rd_world.specs.Hearing.{all_take, client_handles, client_handles_all, client_handles_first, client_hears, with_client, given_handle, holding_under, host_handles, putting, next_asked, reported_outcome, takes_awaited, takes_from, takes_outcome, tries, tries_kept, with_outcome}
use Rattle.rd_world.proofs.ApplicationsLemmas.{apart_at}
use Rattle.rd_deeds.specs.Host as host
use Rattle.rd_deeds.specs.Host.{HostSide, side_sends}
use Rattle.rd_world.specs.Run.{asked_by, drawing, idles, queueing, world_of}
use Rattle.rd_deeds.specs.Talk.{Has, client_reads, submits}
use Rattle.rd_world.specs.World.{ApplicationState, Asked, Kept, WayState, WorldState, application_at, handling, having_read, host_sends, most_messages, new_application, station_at, with_application, with_deed}
use Rattle.rd_outcomes.proofs.ComingLemmas.{put_beside, put_here}
use Rattle.rd_outcomes.proofs.LinesLemmas.{all_fresh, asks_in}
use Rattle.rd_outcomes.proofs.TrailLemmas.{accepted_is}
use Rattle.rd_outcomes.proofs.UntakenLemmas.{LeavesUntaken, leaves_drop, leaves_heard, leaves_same}

-- ---- the numbers that applications await

-- Each of them is in the table, was given, and is awaited by one application alone, whose line is still to come out.
record Awaiting (w : WorldState) : Type 0 where
  there : (a n : ℕ) → (application_at w a).awaits ≡ Some n → IsSome (untaken_at (w.side).table n)
  given : (a n : ℕ) → (application_at w a).awaits ≡ Some n → n ≤ ((w.side).table).count
  next : (a n : ℕ) → (application_at w a).awaits ≡ Some n → IsSome (next_asked (application_at w a))
  alone : (a b n : ℕ) → (application_at w a).awaits ≡ Some n → (application_at w b).awaits ≡ Some n → a ≡ b

-- where the applications stay and the table takes nothing away
awaiting_leaves : (w v : WorldState) → ((a : ℕ) → (application_at v a).awaits ≡ (application_at w a).awaits) → ((a : ℕ) → next_asked (application_at v a) ≡ next_asked (application_at w a))
    → LeavesUntaken (w.side).table (v.side).table → Awaiting w → Awaiting v
awaiting_leaves w v same asks leaves is = record {
  there = λ a n e. leaves.untaken n (is.there a n (sym (same a) ∙ e));
  given = λ a n e. subst (λ (c : ℕ). n ≤ c) (sym leaves.count) (is.given a n (sym (same a) ∙ e));
  next = λ a n e. subst (λ (o : Option Asked). IsSome o) (sym (asks a)) (is.next a n (sym (same a) ∙ e));
  alone = λ a b n e f. is.alone a b n (sym (same a) ∙ e) (sym (same b) ∙ f);
}

awaiting_same : (w v : WorldState) → v.applications ≡ w.applications → LeavesUntaken (w.side).table (v.side).table → Awaiting w → Awaiting v
awaiting_same w v same leaves is =
    awaiting_leaves w v (λ a. ap (λ (es : List (ℕ × ApplicationState)). (unwrap_or (lookup (is_at (nat_cmp a)) es) new_application).awaits) same)
    (λ a. ap (λ (es : List (ℕ × ApplicationState)). next_asked (unwrap_or (lookup (is_at (nat_cmp a)) es) new_application)) same) leaves is

-- what an application awaits when it changes
put_awaits : (w : WorldState) (b : ℕ) (x : ApplicationState) (a n : ℕ) → (application_at (with_application w b x) a).awaits ≡ Some n → ((a ≡ b) × (x.awaits ≡ Some n)) ⊎ ((a ≢ b) × ((application_at w a).awaits ≡ Some n))
put_awaits w b x a n e = elim (cases_eq a b) [
  | inl here ↦ inl (here, ap (λ (y : ApplicationState). y.awaits) (sym (ap (application_at (with_application w b x)) here ∙ put_here w b x)) ∙ e)
  | inr other ↦ inr (other, ap (λ (y : ApplicationState). y.awaits) (sym (put_beside w b x a other)) ∙ e)
]

-- an application that awaits nothing any more
awaiting_ended : (w v : WorldState) (b : ℕ) (x : ApplicationState) → v.applications ≡ insert_entry nat_cmp w.applications b x → x.awaits ≡ None
    → ((a n : ℕ) → (a ≢ b) → (application_at w a).awaits ≡ Some n → IsSome (untaken_at (v.side).table n)) → ((v.side).table).count ≡ ((w.side).table).count → Awaiting w → Awaiting v
awaiting_ended w v b x same none there count is = record {
  there = λ a n e. by a n e (put_awaits w b x a n (at a e)) (λ o f. there a n o f);
  given = λ a n e. subst (λ (c : ℕ). n ≤ c) (sym count) (of a n e (λ f. is.given a n f));
  next = λ a n e. subst (λ (y : ApplicationState). IsSome (next_asked y)) (sym (stays a n e)) (of a n e (λ f. is.next a n f));
  alone = λ a c n e f. is.alone a c n (of a n e (λ g. g)) (of c n f (λ g. g));
}
  where
    at_is : (a : ℕ) → application_at v a ≡ application_at (with_application w b x) a
    at_is a = ap (λ (es : List (ℕ × ApplicationState)). unwrap_or (lookup (is_at (nat_cmp a)) es) new_application) same

    at : {n : ℕ} (a : ℕ) → (application_at v a).awaits ≡ Some n → (application_at (with_application w b x) a).awaits ≡ Some n
    at a e = ap (λ (y : ApplicationState). y.awaits) (sym (at_is a)) ∙ e

    by : (a n : ℕ) → (application_at v a).awaits ≡ Some n → ((a ≡ b) × (x.awaits ≡ Some n)) ⊎ ((a ≢ b) × ((application_at w a).awaits ≡ Some n))
        → ((a ≢ b) → (application_at w a).awaits ≡ Some n → IsSome (untaken_at (v.side).table n)) → IsSome (untaken_at (v.side).table n)
    by a n e (inl (here, f)) own = absurd (cc (none, f))
    by a n e (inr (other, f)) own = own other f

    of : {R : Type 0} (a n : ℕ) → (application_at v a).awaits ≡ Some n → ((application_at w a).awaits ≡ Some n → R) → R
    of a n e on = elim (put_awaits w b x a n (at a e)) [ inl p ↦ absurd (cc (none, p.1)) | inr p ↦ on p.1 ]

    stays : (a n : ℕ) → (application_at v a).awaits ≡ Some n → application_at v a ≡ application_at w a
    stays a n e = elim (put_awaits w b x a n (at a e)) [ inl p ↦ absurd (cc (none, p.1)) | inr p ↦ at_is a ∙ put_beside w b x a p.0 ]

ended_awaits : (x : ApplicationState) (o : Outcome) (g : Option Handle) (asked : Asked) → (with_outcome x o g asked).awaits ≡ None
ended_awaits x o g asked = by (is_some asked.device)
  where
    by : (b : Bool) → (record (cond b (record x { handles = holding_under x.handles asked.handle g }) x) { awaits = None; outcomes = x.outcomes ++ o ∷ [] }).awaits ≡ None
    by true = refl
    by false = refl

-- ---- what was handed out

taken_table : (t u : TableState) (n : ℕ) (g : Taken) → table.take t n ≡ (u, Ok g) → u ≡ record t { untaken = remove_entry (is_at (nat_cmp n)) t.untaken }
taken_table t u n g made = by (untaken_at t n) refl
  where
    fate : (x : Untaken) → untaken_at t n ≡ Some x → (f : Fate) → x.fate ≡ f → u ≡ record t { untaken = remove_entry (is_at (nat_cmp n)) t.untaken }
    fate x e awaited f = let waits : (table.take t n).1 ≡ Err table_no.NotYet = rw (e, f) refl in absurd (cc (ap (λ (r : TableState × Result Taken TakeNo). r.1) made, waits))
    fate x e (known o) f = ap (λ (r : TableState × Result Taken TakeNo). r.0) (sym made) ∙ rw (e, f) refl

    by : (o : Option Untaken) → untaken_at t n ≡ o → u ≡ record t { untaken = remove_entry (is_at (nat_cmp n)) t.untaken }
    by None e = let waits : (table.take t n).1 ≡ Err table_no.Unknown = rw e refl in absurd (cc (ap (λ (r : TableState × Result Taken TakeNo). r.1) made, waits))
    by (Some x) e = fate x e x.fate refl

taken_beside : (t u : TableState) (n : ℕ) (g : Taken) → table.take t n ≡ (u, Ok g) → (m : ℕ) → (m ≢ n) → untaken_at u m ≡ untaken_at t m
taken_beside t u n g made m other = ap (λ (y : TableState). untaken_at y m) (taken_table t u n g made) ∙ kept n m other t.untaken

-- ---- what was accepted

accepted_table : (t u : TableState) (a number : ℕ) (named : Target) (o : Op) → table.submit t a named o ≡ (u, Ok number) → u ≡ accept t named o
accepted_table t u a number named o made =
    ap (λ (r : TableState × Result ℕ SubmitNo). r.0) (sym made) ∙ (effects.submits t a named o (accepted_is t u a number named o made).0).new

accepted_beside : (t u : TableState) (a number : ℕ) (named : Target) (o : Op) → table.submit t a named o ≡ (u, Ok number) → (m : ℕ) → (m ≢ suc t.count) → untaken_at u m ≡ untaken_at t m
accepted_beside t u a number named o made m other = ap (λ (y : TableState). untaken_at y m) (accepted_table t u a number named o made) ∙ beside (suc t.count) _ m other t.untaken

accepted_fate : (t u : TableState) (a number : ℕ) (named : Target) (o : Op) → table.submit t a named o ≡ (u, Ok number) → fate_at u (suc t.count) ≡ Some awaited
accepted_fate t u a number named o made =
    ap (λ (y : TableState). fate_at y (suc t.count)) (accepted_table t u a number named o made) ∙ ap (λ (e : Option Untaken). option_map (λ (x : Untaken). x.fate) e) (inserted (suc t.count) _ t.untaken)

some_fate : (o : Option Untaken) → option_map (λ (x : Untaken). x.fate) o ≡ Some awaited → IsSome o
some_fate None e = absurd (cc e)
some_fate (Some x) e = refl

-- ---- part by part

begun_leaves : (t : TableState) (c : ℕ) → LeavesUntaken t (table.begin t c).0
begun_leaves t c = by (is_some t.channel)
  where
    by : (b : Bool) → LeavesUntaken t ((if◌then◌else◌ {A = TableState × Bool} b (t, false) (record t { channel = Some c; below = c + 1; asked = 0; begun = 0 }, true)).0)
    by true = leaves_same t
    by false = record { untaken = λ n some. some; count = refl }

sent_leaves : (s : HostSide) → LeavesUntaken s.table (side_sends s).table
sent_leaves s = by ((s.core).core).outbox
  where
    of : (o : List (List ℕ)) → (s.table).outbox ≡ o → LeavesUntaken s.table (table.send s.table).0
    of [] e = rw e (record { untaken = λ n some. some; count = refl })
    of (m ∷ ms) e = rw e (record { untaken = λ n some. some; count = refl })

    by : (o : List (List ℕ)) → LeavesUntaken s.table (host.sent_from s o).table
    by [] = of (s.table).outbox refl
    by (m ∷ ms) = leaves_same s.table

side_same : (w v : WorldState) → IsInside w v → (v.applications ≡ w.applications) × (v.side ≡ w.side)
side_same w v i = (ap (λ (o : Outside). o.applications) i.same, ap (λ (o : Outside). o.side) i.same)

awaiting_inside : (w v : WorldState) → (v.applications ≡ w.applications) × (v.side ≡ w.side) → Awaiting w → Awaiting v
awaiting_inside w v (same, side) is = awaiting_same w v same (subst (λ (s : HostSide). LeavesUntaken (w.side).table s.table) (sym side) (leaves_same (w.side).table)) is

module _ (lines : List NumberedLine) (starves : Key → Bool) where
  part_awaiting : (w : WorldState) (p : Part) → MayBe lines starves w p → Awaiting w → Awaiting (done starves w p)
  part_awaiting w (accepts a asked named t number) (reached, may, next, target, made) is = record {
    there = λ b n e. elim (at b n e) [
      | inl p ↦ subst (λ (m : ℕ). IsSome (untaken_at t m)) (number_is ∙ p.1) (some_fate (untaken_at t (suc ((w.side).table).count)) (accepted_fate (w.side).table t a number named asked.op made))
      | inr p ↦ subst (λ (o : Option Untaken). IsSome o) (sym (accepted_beside (w.side).table t a number named asked.op made n (apart b n p.1))) (is.there b n p.1)
    ];
    given = λ b n e. subst (λ (c : ℕ). n ≤ c) (sym count) (elim (at b n e) [ inl p ↦ omega (arith, number_is ∙ p.1) | inr p ↦ omega (arith, is.given b n p.1) ]);
    next = λ b n e. elim (at b n e) [
      | inl p ↦ subst (λ (y : ApplicationState). IsSome (next_asked y)) (sym (ap (application_at v) p.0 ∙ put_here w a (record x { awaits = Some number }))) (ap is_some next)
      | inr p ↦ subst (λ (y : ApplicationState). IsSome (next_asked y)) (sym (put_beside w a (record x { awaits = Some number }) b p.0)) (is.next b n p.1)
    ];
    alone = λ b c n e f. elim (at b n e) [
      | inl p ↦ elim (at c n f) [
        | inl q ↦ p.0 ∙ sym q.0
        | inr q ↦ absurd (let low : n ≤ ((w.side).table).count = is.given c n q.1 in omega (arith, low, number_is ∙ p.1))
      ]
      | inr p ↦ elim (at c n f) [
        | inl q ↦ absurd (let low : n ≤ ((w.side).table).count = is.given b n p.1 in omega (arith, low, number_is ∙ q.1))
        | inr q ↦ is.alone b c n p.1 q.1
      ]
    ];
  }
    where
      x : ApplicationState
      x = application_at w a

      v : WorldState
      v = done starves w (accepts a asked named t number)

      number_is : suc ((w.side).table).count ≡ number
      number_is = sym (accepted_is (w.side).table t a number named asked.op made).1

      count : t.count ≡ suc ((w.side).table).count
      count = ap (λ (y : TableState). y.count) (accepted_table (w.side).table t a number named asked.op made)

      at : (b n : ℕ) → (application_at v b).awaits ≡ Some n → ((b ≡ a) × (number ≡ n)) ⊎ ((b ≢ a) × ((application_at w b).awaits ≡ Some n))
      at b n e = elim (put_awaits w a (record x { awaits = Some number }) b n e) [ inl p ↦ inl (p.0, cc p.1) | inr p ↦ inr p ]

      apart : (b n : ℕ) → (application_at w b).awaits ≡ Some n → n ≢ suc ((w.side).table).count
      apart b n e same = let low : n ≤ ((w.side).table).count = is.given b n e in omega (arith, low, same)
  part_awaiting w (refuses a asked cause) may is =
      awaiting_ended w (done starves w (refuses a asked cause)) a (with_outcome (application_at w a) (outcome.Refused cause) None asked) refl (ended_awaits (application_at w a) (outcome.Refused cause) None asked)
      (λ b n other e. is.there b n e) refl is
  part_awaiting w (hands_out a number t g None) (waits, wants, made) is =
      absurd (let some : is_some (next_asked (application_at w a)) ≡ true = is.next a number waits in cc (some, ap is_some wants))
  part_awaiting w (hands_out a number t g (Some asked)) (waits, wants, made) is =
      awaiting_ended w (done starves w (hands_out a number t g (Some asked))) a (with_outcome (application_at w a) (reported_outcome g.outcome) (given_handle g) asked) refl
      (ended_awaits (application_at w a) (reported_outcome g.outcome) (given_handle g) asked)
      (λ b n other e. subst (λ (o : Option Untaken). IsSome o) (sym (taken_beside (w.side).table t number g made n (λ (same : n ≡ number). other (is.alone b a n e (waits ∙ ap (λ (k : ℕ). Some k) (sym same)))))) (is.there b n e))
      (ap (λ (y : TableState). y.count) (taken_table (w.side).table t number g made)) is
  part_awaiting w (queues_one a) may is =
      let x : ApplicationState = application_at w a in
      let v : WorldState = queueing w a in
      awaiting_leaves w v
      (λ b. elim (cases_eq b a) [
        | inl here ↦ ap (λ (y : ApplicationState). y.awaits) (ap (application_at v) here ∙ put_here w a (record x { queued = x.queued + 1 })) ∙ ap (λ (k : ℕ). (application_at w k).awaits) (sym here)
        | inr other ↦ ap (λ (y : ApplicationState). y.awaits) (put_beside w a (record x { queued = x.queued + 1 }) b other)
      ])
      (λ b. elim (cases_eq b a) [
        | inl here ↦ ap next_asked (ap (application_at v) here ∙ put_here w a (record x { queued = x.queued + 1 })) ∙ ap (λ (k : ℕ). next_asked (application_at w k)) (sym here)
        | inr other ↦ ap next_asked (put_beside w a (record x { queued = x.queued + 1 }) b other)
      ])
      (leaves_same (w.side).table) is
  part_awaiting w (host_sends_one m) may is = awaiting_same w (done starves w (host_sends_one m)) refl (sent_leaves w.side) is
  part_awaiting w (host_gets n) may is = awaiting_same w (done starves w (host_gets n)) refl (leaves_same (w.side).table) is
  part_awaiting w host_keeps_part may is = awaiting_same w (done starves w host_keeps_part) refl (leaves_same (w.side).table) is
  part_awaiting w (host_hears_one m rest) may is = awaiting_same w (done starves w (host_hears_one m rest)) refl (leaves_heard w.side m) is
  part_awaiting w (tells_one n) may is = awaiting_same w (done starves w (tells_one n)) refl (leaves_same (w.side).table) is
  part_awaiting w begins may is =
      subst (λ (x : WorldState). Awaiting (begun_on w x)) (sym (all_refreshed (map (λ (e : ℕ × PrinterNames). e.0) w.printers) w))
      (awaiting_same w _ refl (begun_leaves (w.side).table (w.channels + 1)) is)
  part_awaiting w ends may is =
      let cut : WorldState = fold event.dropping w (map (λ (e : ℕ × StationState SessionDevice). e.0) w.stations) in
      let same = side_same w cut (all_dropped_inside (map (λ (e : ℕ × StationState SessionDevice). e.0) w.stations) w) in
      awaiting_same cut (done starves w ends) refl (leaves_drop (cut.side).table) (awaiting_inside w cut same is)
  part_awaiting w (client_sends_one x o) may is = awaiting_inside w (done starves w (client_sends_one x o)) (refl, refl) is
  part_awaiting w (client_gets n) may is = awaiting_inside w (done starves w (client_gets n)) (refl, refl) is
  part_awaiting w client_keeps_part may is = awaiting_inside w (done starves w client_keeps_part) (refl, refl) is
  part_awaiting w (client_hears_one m rest) may is =
      let x : WorldState = record w { to_client = record w.to_client { part = []; taken = _; unhandled = rest } } in
      awaiting_inside w (done starves w (client_hears_one m rest)) (side_same _ _ (hears_inside x m)) is
  part_awaiting w (tries_one k) may is = awaiting_inside w (done starves w (tries_one k)) (side_same _ _ (put_inside (record w { kept = None }) k.device k.job)) is
  part_awaiting w (collects_one d s after c) may is = awaiting_inside w (done starves w (collects_one d s after c)) (refl, refl) is
  part_awaiting w (takes_one d hand s after job) may is = awaiting_inside w (done starves w (takes_one d hand s after job)) (refl, refl) is
  part_awaiting w (applies_one hand d job o) may is = awaiting_inside w (done starves w (applies_one hand d job o)) (side_same _ _ (applied_inside starves w hand d job o)) is
  part_awaiting w (removes_one d o) may is = awaiting_inside w (done starves w (removes_one d o)) (side_same _ _ (removed_inside w d o)) is
  part_awaiting w (adds_one d names o) may is = awaiting_inside w (done starves w (adds_one d names o)) (side_same _ _ (added_inside w d names o)) is
  part_awaiting w (idle_one number) may is = awaiting_inside w (done starves w (idle_one number)) (refl, refl) is
  part_awaiting w draws_one may is = awaiting_inside w (done starves w draws_one) (refl, refl) is

  abbrev Known : WorldState → ℕ → Type 0
  Known w a = (n : ℕ) → (application_at w a).awaits ≡ Some n → awaits (w.side).table n ≡ true

  -- ---- all take

  record TakesOne (w v : WorldState) (a : ℕ) : Type 0 where
    awaiting : Awaiting v
    own : Known v a
    others : (b : ℕ) → Known w b → Known v b

  take_one : (w : WorldState) (a : ℕ) → Awaiting w → TakesOne w (takes_outcome w a) a
  take_one w a is = by (application_at w a).awaits refl
    where
      t : TableState
      t = (w.side).table

      none_taken : (n : ℕ) → (application_at w a).awaits ≡ Some n → awaits t n ≡ true → TakesOne w w a
      none_taken n e waits = record { awaiting = is; own = λ m f. (let both : Some n ≡ Some m = sym e ∙ f in let same : n ≡ m = cc both in subst (λ (k : ℕ). awaits t k ≡ true) same waits); others = λ b known. known }

      took : (n : ℕ) → (application_at w a).awaits ≡ Some n → (u : TableState) (g : Taken) → table.take t n ≡ (u, Ok g) → (o : Option Asked) → next_asked (application_at w a) ≡ o → TakesOne w (done starves w (hands_out a n u g o)) a
      took n e u g made None f = absurd (let some : is_some (next_asked (application_at w a)) ≡ true = is.next a n e in cc (some, ap is_some f))
      took n e u g made (Some asked) f =
          let x : ApplicationState = with_outcome (application_at w a) (reported_outcome g.outcome) (given_handle g) asked in
          let v : WorldState = done starves w (hands_out a n u g (Some asked)) in
          record {
            awaiting = part_awaiting w (hands_out a n u g (Some asked)) (e, f, made) is;
            own = λ m at. absurd (cc (ap (λ (y : ApplicationState). y.awaits) (put_here w a x) ∙ ended_awaits (application_at w a) (reported_outcome g.outcome) (given_handle g) asked, at));
            others = λ b known m at. elim (put_awaits w a x b m at) [
              | inl p ↦ absurd (cc (ended_awaits (application_at w a) (reported_outcome g.outcome) (given_handle g) asked, p.1))
              | inr p ↦ ap (λ (o : Option Untaken). option_map_or table.is_awaited (option_map (λ (y : Untaken). y.fate) o) false) (taken_beside t u n g made m (λ (same : m ≡ n). p.0 (is.alone b a m p.1 (e ∙ ap (λ (k : ℕ). Some k) (sym same))))) ∙ known m p.1
            ];
          }

      fate : (n : ℕ) → (application_at w a).awaits ≡ Some n → (x : Untaken) → untaken_at t n ≡ Some x → (f : Fate) → x.fate ≡ f → (r : TableState × Result Taken TakeNo) → table.take t n ≡ r → TakesOne w (takes_from w a n r) a
      fate n e x at awaited f (u, Err cause) made = none_taken n e (ap (λ (o : Option Untaken). option_map_or table.is_awaited (option_map (λ (y : Untaken). y.fate) o) false) at ∙ ap table.is_awaited f)
      fate n e x at f g (u, Ok given_out) made = took n e u given_out made (next_asked (application_at w a)) refl
      fate n e x at (known o) f (u, Err cause) made =
          let out : (table.take t n).1 ≡ Ok (record { device = x.device; life = x.life; outcome = o }) = rw (at, f) refl in absurd (cc (ap (λ (r : TableState × Result Taken TakeNo). r.1) made, out))

      from : (n : ℕ) → (application_at w a).awaits ≡ Some n → (o : Option Untaken) → untaken_at t n ≡ o → TakesOne w (takes_from w a n (table.take t n)) a
      from n e None at = absurd (let some : is_some (untaken_at t n) ≡ true = is.there a n e in cc (some, ap is_some at))
      from n e (Some x) at = fate n e x at x.fate refl (table.take t n) refl

      by : (o : Option ℕ) → (application_at w a).awaits ≡ o → TakesOne w (takes_awaited w a o) a
      by None e = record { awaiting = is; own = λ m f. absurd (cc (e, f)); others = λ b known. known }
      by (Some n) e = from n e (untaken_at t n) refl

  record TakesAll (w v : WorldState) (ds : List ℕ) : Type 0 where
    awaiting : Awaiting v
    own : (a : ℕ) → Has a ds → Known v a
    others : (b : ℕ) → Known w b → Known v b

  take_each : (ds : List ℕ) (w : WorldState) → Awaiting w → TakesAll w (fold takes_outcome w ds) ds
  take_each [] w is = record { awaiting = is; own = λ a has. absurd has; others = λ b known. known }
  take_each (d ∷ ds) w is =
      let one = take_one w d is in
      let all = take_each ds (takes_outcome w d) one.awaiting in
      record {
        awaiting = all.awaiting;
        own = λ a has. elim has [ inl here ↦ all.others a (subst (Known (takes_outcome w d)) (sym here) one.own) | inr later ↦ all.own a later ];
        others = λ b known. all.others b (one.others b known);
      }

  abbrev AllKnown : WorldState → Type 0
  AllKnown w = Awaiting w × ((a : ℕ) → Known w a)

  not_there : (w : WorldState) (es : List (ℕ × ApplicationState)) (a : ℕ) → (lookup (is_at (nat_cmp a)) es ≡ None) ⊎ Has a (map (λ (e : ℕ × ApplicationState). e.0) es)
  not_there w [] a = inl refl
  not_there w (e ∷ es) a = elim (cases_eq a e.0) [
    | inl here ↦ inr (inl here)
    | inr other ↦ elim (not_there w es a) [ inl none ↦ inl (rw (apart_at a e.0 other) none) | inr has ↦ inr (inr has) ]
  ]

  all_known : (w : WorldState) → Awaiting w → AllKnown (all_take w)
  all_known w is =
      let all = take_each (map (λ (e : ℕ × ApplicationState). e.0) w.applications) w is in (
        all.awaiting,
        λ a. elim (not_there w w.applications a) [
          | inl none ↦ all.others a (λ n e. absurd (cc (ap (λ (o : Option ApplicationState). (unwrap_or o new_application).awaits) none, e)))
          | inr has ↦ all.own a has
        ],
      )

  -- ---- events

  -- what a client does leaves the applications and the host
  abbrev Leaves : WorldState → WorldState → Type 0
  Leaves w v = (v.applications ≡ w.applications) × (v.side ≡ w.side)

  leaves_more : (w x v : WorldState) → Leaves w x → Leaves x v → Leaves w v
  leaves_more w x v first second = (second.0 ∙ first.0, second.1 ∙ first.1)

  handles_leave : (most : ℕ) (w : WorldState) → Leaves w (client_handles most w)
  handles_leave zero w = (refl, refl)
  handles_leave (suc most) w = by (is_some w.kept) (handles_leave most)
    where
      first : ((x : WorldState) → Leaves x (client_handles most x)) → (r : WayState × Option (List ℕ)) → Leaves w (client_handles_first w r (client_handles most))
      first next (y, None) = (refl, refl)
      first next (y, Some m) =
          let x : WorldState = record w { to_client = y } in
          let heard = side_same (with_deed x (client_reads x.channels m)) (client_hears x m) (hears_inside x m) in
          leaves_more w (client_hears x m) (client_handles most (client_hears x m)) heard (next (client_hears x m))

      by : (b : Bool) → ((x : WorldState) → Leaves x (client_handles most x)) → Leaves w (if b then w else client_handles_first w (handling w.to_client) (client_handles most))
      by true next = (refl, refl)
      by false next = first next (handling w.to_client)

  tries_leave : (w : WorldState) (d : ℕ) → Leaves w (tries_kept w d)
  tries_leave w d = by w.kept
    where
      when : (k : Kept) (b : Bool) → Leaves w (if b then client_handles_all (putting (record w { kept = None }) k.device k.job) else w)
      when k true =
          let p : WorldState = putting (record w { kept = None }) k.device k.job in
          let put = side_same (record w { kept = None }) p (put_inside (record w { kept = None }) k.device k.job) in
          leaves_more w p (client_handles_all p) put (handles_leave (most_messages p.to_client) p)
      when k false = (refl, refl)

      by : (o : Option Kept) → Leaves w (tries w d o)
      by None = (refl, refl)
      by (Some k) = when k (k.device == d)

  known_leaves : (w v : WorldState) → Leaves w v → AllKnown w → AllKnown v
  known_leaves w v same k = (
    awaiting_inside w v same k.0,
    λ a n e. ap (λ (s : HostSide). awaits s.table n) same.1 ∙ k.1 a n (ap (λ (es : List (ℕ × ApplicationState)). (unwrap_or (lookup (is_at (nat_cmp a)) es) new_application).awaits) (sym same.0) ∙ e),
  )

  collects_leave : (w : WorldState) (d : ℕ) → Leaves w (event.collects w d)
  collects_leave w d = by (station_at w d)
    where
      from : (r : StationState SessionDevice × Option Completion) → Leaves w (collects_from w d r)
      from (s, None) = (refl, refl)
      from (s, Some c) = leaves_more w (done starves w (collects_one d s s c)) (tries_kept (done starves w (collects_one d s s c)) d) (refl, refl) (tries_leave (done starves w (collects_one d s s c)) d)

      by : (o : Option (StationState SessionDevice)) → Leaves w (option_map_or (λ (s : StationState SessionDevice). collects_from w d (station.collect s)) o w)
      by None = (refl, refl)
      by (Some s) = from (station.collect s)

  takes_leave : (w : WorldState) (d hand : ℕ) → Leaves w (event.takes_job w d hand)
  takes_leave w d hand = by (station_at w d)
    where
      from : (r : StationState SessionDevice × Given) → Leaves w (takes_job_from w d hand r)
      from (s, given.Job job) = (refl, refl)
      from (s, given.Nothing) = (refl, refl)
      from (s, given.Over) = (refl, refl)

      by : (o : Option (StationState SessionDevice)) → Leaves w (option_map_or (λ (s : StationState SessionDevice). takes_job_from w d hand (station.take s)) o w)
      by None = (refl, refl)
      by (Some s) = from (station.take s)

  applies_leave : (w : WorldState) (hand : ℕ) → Leaves w (event.applies_job starves w hand)
  applies_leave w hand = by (event.hand_at w hand)
    where
      by : (o : Option (Option (ℕ × Job))) → Leaves w (event.applies_held starves w hand (option_and_then (λ held. held) o))
      by None = (refl, refl)
      by (Some None) = (refl, refl)
      by (Some (Some (d, job))) = side_same _ _ (applied_inside starves w hand d job (station_at w d))

  sends_leave : (w : WorldState) → Leaves w (event.client_sends_next w)
  sends_leave w = by (client.client_send w.client)
    where
      by : (r : ClientCoreState × Option Outgoing) → Leaves w (event.client_sends_first w r)
      by (c, None) = (refl, refl)
      by (c, Some o) = (refl, refl)

  -- a table that knows of each number what another knows
  known_fates : (w v : WorldState) → v.applications ≡ w.applications → ((n : ℕ) → untaken_at (v.side).table n ≡ untaken_at (w.side).table n) → ((a : ℕ) → Known w a) → (a : ℕ) → Known v a
  known_fates w v same fates k a n e =
      ap (λ (o : Option Untaken). option_map_or table.is_awaited (option_map (λ (y : Untaken). y.fate) o) false) (fates n)
      ∙ k a n (ap (λ (es : List (ℕ × ApplicationState)). (unwrap_or (lookup (is_at (nat_cmp a)) es) new_application).awaits) (sym same) ∙ e)

  issue_known : (w : WorldState) (a : ℕ) → Reached lines starves w → may_issue (application_at w a) ≡ true → AllKnown w → AllKnown (issues w a)
  issue_known w a reached may k = by (next_asked (application_at w a)) refl
    where
      x : ApplicationState
      x = application_at w a

      refused : (asked : Asked) (cause : Refusal) → next_asked x ≡ Some asked → AllKnown (done starves w (refuses a asked cause))
      refused asked cause next =
          let y : ApplicationState = with_outcome x (outcome.Refused cause) None asked in (
            awaiting_ended w (done starves w (refuses a asked cause)) a y refl (ended_awaits x (outcome.Refused cause) None asked) (λ b n other e. k.0.there b n e) refl k.0,
            λ b n e. elim (put_awaits w a y b n e) [ inl p ↦ absurd (cc (ended_awaits x (outcome.Refused cause) None asked, p.1)) | inr p ↦ k.1 b n p.1 ],
          )

      accepted_one : (asked : Asked) (named : Target) (t : TableState) (number : ℕ) → next_asked x ≡ Some asked → target_of x asked ≡ Some named → table.submit (w.side).table a named asked.op ≡ (t, Ok number)
          → AllKnown (done starves w (accepts a asked named t number))
      accepted_one asked named t number next target made = (
        part_awaiting w (accepts a asked named t number) (reached, may, next, target, made) k.0,
        λ b n e. elim (put_awaits w a (record x { awaits = Some number }) b n e) [
          | inl p ↦
              let same : suc ((w.side).table).count ≡ n = sym (accepted_is (w.side).table t a number named asked.op made).1 ∙ (let own : Some number ≡ Some n = p.1 in let is : number ≡ n = cc own in is) in
              subst (λ (m : ℕ). awaits t m ≡ true) same (ap (λ (f : Option Fate). option_map_or table.is_awaited f false) (accepted_fate (w.side).table t a number named asked.op made))
          | inr p ↦
              let low : n ≤ ((w.side).table).count = k.0.given b n p.1 in
              ap (λ (o : Option Untaken). option_map_or table.is_awaited (option_map (λ (y : Untaken). y.fate) o) false) (accepted_beside (w.side).table t a number named asked.op made n (λ (same : n ≡ suc ((w.side).table).count). omega (arith, low, same)))
              ∙ k.1 b n p.1
        ],
      )

      ended : (asked : Asked) (cause : Refusal) → next_asked x ≡ Some asked → (o : Option Asked) → next_asked x ≡ o → AllKnown (option_map_or (λ (q : Asked). with_application w a (with_outcome x (outcome.Refused cause) None q)) o w)
      ended asked cause next None e = k
      ended asked cause next (Some q) e = refused q cause e

      tried : (asked : Asked) → next_asked x ≡ Some asked → (named : Target) → target_of x asked ≡ Some named → (r : TableState × Result ℕ SubmitNo) → table.submit (w.side).table a named asked.op ≡ r → AllKnown (comes_of_asking w a asked.op named r)
      tried asked next named target (t, Ok number) made = accepted_one asked named t number next target made
      tried asked next named target (t, Err cause) made = ended asked (refusal_of cause) next (next_asked x) refl

      to : (asked : Asked) → next_asked x ≡ Some asked → (o : Option Target) → target_of x asked ≡ o → AllKnown (asks w a asked.op o)
      to asked next None target = ended asked _ next (next_asked x) refl
      to asked next (Some named) target = tried asked next named target (table.submit (w.side).table a named asked.op) refl

      by : (o : Option Asked) → next_asked x ≡ o → AllKnown (issues_next w a o)
      by None next = k
      by (Some asked) next = to asked next (target_of x asked) refl

  event_known : (w : WorldState) (e : Event) → Reached lines starves w → is_enabled w e ≡ true → AllKnown w → AllKnown (act starves w e)
  event_known w (event.issue a) reached can k = issue_known w a reached can k
  event_known w event.host_send reached can k = by (host.next_message w.side)
    where
      untaken : (s : HostSide) (o : List (List ℕ)) (n : ℕ) → untaken_at (host.sent_from s o).table n ≡ untaken_at s.table n
      untaken s (m ∷ ms) n = refl
      untaken s [] n = of (s.table).outbox refl
        where
          of : (o : List (List ℕ)) → (s.table).outbox ≡ o → untaken_at (table.send s.table).0 n ≡ untaken_at s.table n
          of [] e = rw e refl
          of (m ∷ ms) e = rw e refl

      by : (o : Option (List ℕ)) → AllKnown (option_map_or (host_sends (record w { side = side_sends w.side })) o w)
      by None = k
      by (Some m) =
          (awaiting_same w (done starves w (host_sends_one m)) refl (sent_leaves w.side) k.0, known_fates w (done starves w (host_sends_one m)) refl (untaken w.side ((w.side).core.core).outbox) k.1)
  event_known w (event.client_read n) reached can k =
      known_leaves w (act starves w (event.client_read n)) (handles_leave (most_messages (having_read n w.to_client)) (record w { to_client = having_read n w.to_client })) k
  event_known w event.client_send reached can k = known_leaves w (act starves w event.client_send) (sends_leave w) k
  event_known w (event.collect d) reached can k = known_leaves w (act starves w (event.collect d)) (collects_leave w d) k
  event_known w (event.host_read n) reached can k =
      let x : WorldState = done starves w (host_gets n) in
      all_known (host_handles (most_messages x.to_host) x)
      (host_handling_keeps lines starves Awaiting (λ (p : Part). Unit {0}) (λ p free no. tt) (λ v p kind may is. part_awaiting v p may is) (most_messages x.to_host) x (part_awaiting w (host_gets n) can k.0))
  event_known w (event.take_job d hand) reached can k = known_leaves w (act starves w (event.take_job d hand)) (takes_leave w d hand) k
  event_known w (event.apply_job hand) reached can k = known_leaves w (act starves w (event.apply_job hand)) (applies_leave w hand) k
  event_known w (event.remove d) reached can k =
      let x : WorldState = done starves w (removes_one d (station_at w d)) in
      known_leaves w (act starves w (event.remove d)) (leaves_more w x (tries_kept x d) (side_same _ _ (removed_inside w d (station_at w d))) (tries_leave x d)) k
  event_known w (event.add d) reached can k =
      let names : Option PrinterNames = lookup (is_at (nat_cmp d)) w.printers in
      known_leaves w (act starves w (event.add d)) (side_same w (act starves w (event.add d)) (added_inside w d names (station_at (told_added (refreshed_by w d names) d) d))) k
  event_known w event.drop_channel reached can k = all_known (cutting w) (part_awaiting w ends can k.0)
  event_known w event.connect reached can k =
      (part_awaiting w begins can k.0, λ a. subst (λ (x : WorldState). Known (begun_on w x) a) (sym (all_refreshed (map (λ (e : ℕ × PrinterNames). e.0) w.printers) w)) (known_fates w (begun_on w (with_client w (fold event.refreshing w (map (λ (e : ℕ × PrinterNames). e.0) w.printers)).client)) refl (λ n. begun_fate n) k.1 a))
    where
      begun_fate : (n : ℕ) → untaken_at (table.begin (w.side).table (w.channels + 1)).0 n ≡ untaken_at (w.side).table n
      begun_fate n = by (is_some ((w.side).table).channel)
        where
          by : (b : Bool) → untaken_at ((if◌then◌else◌ {A = TableState × Bool} b ((w.side).table, false) (record (w.side).table { channel = Some (w.channels + 1); below = w.channels + 1 + 1; asked = 0; begun = 0 }, true)).0) n ≡ untaken_at (w.side).table n
          by true = refl
          by false = refl
  event_known w (event.tell n) reached can k =
      (awaiting_same w (act starves w (event.tell n)) refl (leaves_same (w.side).table) k.0, known_fates w (act starves w (event.tell n)) refl (λ m. refl) k.1)

  move_known : (w : WorldState) (m : RunMove) → Reached lines starves w → MayPass lines w m → AllKnown w → AllKnown (after_move starves w m)
  move_known w (happens e) reached (said, can) k = event_known w e reached can k
  move_known w (queues a) reached may k = (
    part_awaiting w (queues_one a) may k.0,
    λ b n e. elim (put_awaits w a (record (application_at w a) { queued = (application_at w a).queued + 1 }) b n e) [
      | inl p ↦ k.1 b n (ap (λ (c : ℕ). (application_at w c).awaits) p.0 ∙ p.1)
      | inr p ↦ k.1 b n p.1
    ],
  )
  move_known w (idle number) reached may k = known_leaves w (idles w number) (refl, refl) k
  move_known w draws reached may k = known_leaves w (drawing w) (refl, refl) k

  none_awaits : (a : ℕ) → (application_at (world_of lines) a).awaits ≡ None
  none_awaits =
      let bare : List Line = map (λ (l : NumberedLine). l.line) lines in
      begins_as lines (λ (u : Unset). (a : ℕ) → (asks_in u.applications a).awaits ≡ None) (λ a. ap (λ (x : ApplicationState). x.awaits) (all_fresh (filter_map asked_by bare) [] (λ b. refl) a))

  first_known : AllKnown (world_of lines)
  first_known = (
    record {
      there = λ a n e. absurd (cc (none_awaits a, e));
      given = λ a n e. absurd (cc (none_awaits a, e));
      next = λ a n e. absurd (cc (none_awaits a, e));
      alone = λ a b n e f. absurd (cc (none_awaits a, e));
    },
    λ a n e. absurd (cc (none_awaits a, e)),
  )

  -- between two moves what applications await isn't known yet
  pub awaited_unknown : (w : WorldState) → Reached lines starves w → (a n : ℕ) → (application_at w a).awaits ≡ Some n → awaits (w.side).table n ≡ true
  awaited_unknown w reached = (by_moves lines starves AllKnown first_known (λ x m steps k. move_known x m steps.0 steps.2 k) w reached).1
