-- In every run the lines of each application end as they should, as far as the run has come.
use Rattle.std.proofs.Common.{◌≡◌, ◌≢◌, ◌∙◌, refl, sym, ap, subst, inl, inr, ℕ, ◌+◌, ◌<◌, ◌≤◌, ◌&&◌, ◌||◌, Bool, true, false, cond, List, [], ◌∷◌, ◌++◌, length, map, filter_map, Some, None, Option, arith, append_assoc, ne_eqb}
use Rattle.std.specs.Prelude.{fold, is_none, is_some, nat_lt, slice_get}
use Rattle.std.specs.List.{AllByRecursion, cons_option, list_any}
use Rattle.std.specs.Map.{lookup}
use Rattle.std.specs.Ordering.{nat_cmp}
use Rattle.std.specs.BTreeMap.{insert_entry, is_at}
use Rattle.std.specs.Option.{option_map_or, unwrap_or}
use Rattle.std.proofs.lemmas.Bool.{cases_eq}
use Rattle.std.proofs.lemmas.Bool.Decides.{nat_tests}
use Rattle.rd_base.specs.declared.journal.Key.{Key}
use Rattle.rd_client.specs.Core.{Outgoing}
use Rattle.rd_journals.proofs.ChannelLemmas.{all_refreshed, begun_on}
use Rattle.rd_pending.specs.declared.calls.Handle.{Handle}
use Rattle.rd_pending.specs.declared.calls.Target.{Target}
use Rattle.rd_pending.specs.Table as table
use Rattle.rd_pending.proofs.MapLemmas.{beside, inserted}
use Rattle.rd_controls.proofs.RunsInsides.{AreOwn, IsInside, Outside, added_inside, all_dropped_inside, applied_inside, hears_inside, put_inside, removed_inside, stationed}
use Rattle.rd_controls.proofs.RunsParts.{IsBehind, IsBehindWithin, IsRefused, MayBe, Part, accepts, adds_one, all_take_keeps, announced_by, applies_one, begins, client_gets, client_hears_one, client_keeps_part, client_sends_one, collects_one, done, draws_one, ends, event_keeps, hands_out, host_gets, host_hears_one, host_keeps_part, host_sends_one, idle_one, is_issue, one_part, part_weight, queues_one, reached_behind, refreshed_by, refuses, removes_one, takes_one, tells_one, told_added, tries_keeps, tries_one, within_behind}
use Rattle.rd_controls.proofs.RunsTogether.{knows}
use Rattle.rd_controls.specs.RunsMoves.{IsOfLines, MayPass, Reached, ReachedWithin, event_weight, happens}
use Rattle.rd_controls.specs.RunsPremises.{RunPremises}
use Rattle.rd_script.specs.declared.line.NumberedLine.{NumberedLine}
use Rattle.rd_script.specs.declared.outcome.Outcome.{Outcome}
use Rattle.rd_script.specs.declared.outcome.Outcome.TheVariants as outcome
use Rattle.rd_station.specs.Station as station
use Rattle.rd_station.specs.Station.{StationState}
use Rattle.rd_world.specs.Acts.{Opens, act_by}
use Rattle.rd_world.specs.Control.{Act}
use Rattle.rd_declared.specs.Devices.{Declared, PrinterNames}
use Rattle.rd_declared.specs.declared.device.SessionDevice.{SessionDevice}
use Rattle.rd_world.specs.Events as event
use Rattle.rd_world.specs.Events.{Event, act, completion_message, cutting, deed_on, dropping, is_enabled, may_issue, target_of}
use Rattle.rd_world.specs.Hearing.{given_handle, holding_under, next_asked, reported_outcome, with_outcome}
use Rattle.rd_deeds.specs.Host.{HostSide}
use Rattle.rd_deeds.specs.HostDeeds.{side_of}
use Rattle.rd_world.specs.Lines.{IsDue, Waits, is_submission_of, last_begun, waits_of}
use Rattle.rd_declared.specs.Declaring.{bare_lines, declared_devices}
use Rattle.rd_world.specs.Recording.{client_id}
use Rattle.rd_world.specs.Run.{queueing}
use Rattle.rd_deeds.specs.Talk.{Deed, adds, client_reads, client_writes, completes, host_begins, host_ends, host_reads, host_writes, removes, stores, submits, takes, tells}
use Rattle.rd_world.specs.World.{ApplicationState, Asked, WorldState, application_at, new_application, station_at, with_application}
use Rattle.rd_outcomes.specs.Trail.{IsTrailed}
use Rattle.rd_outcomes.proofs.TrailLemmas.{RefusedBy, accepted_trail, handed_trail, refused_trail, trailed_more}

-- ---- deeds beside

-- a deed that is no acceptance, and begins no channel
IsBeside : Deed → Type 0
IsBeside (submits a named o) = ⊥
IsBeside (host_begins c) = ⊥
IsBeside _ = Unit {0}

AreBeside : List Deed → Type 0
AreBeside deeds = AllByRecursion IsBeside deeds

own_beside : (more : List Deed) → AreOwn more → AreBeside more
unfolding IsBeside AreBeside
own_beside [] own = tt
own_beside (stores d x ∷ more) own = (tt, own_beside more own.1)
own_beside (removes d ∷ more) own = (tt, own_beside more own.1)
own_beside (adds d ∷ more) own = (tt, own_beside more own.1)
own_beside (deed ∷ more) own = absurd own.0

none_of_beside : (a : ℕ) (more : List Deed) → AreBeside more → list_any (is_submission_of a) more ≡ false
unfolding IsBeside AreBeside
none_of_beside a [] all = refl
none_of_beside a (submits x named o ∷ more) all = absurd all.0
none_of_beside a (host_begins c ∷ more) all = absurd all.0
none_of_beside a (host_ends c ∷ more) all = none_of_beside a more all.1
none_of_beside a (removes d ∷ more) all = none_of_beside a more all.1
none_of_beside a (adds d ∷ more) all = none_of_beside a more all.1
none_of_beside a (takes n ∷ more) all = none_of_beside a more all.1
none_of_beside a (tells n ∷ more) all = none_of_beside a more all.1
none_of_beside a (host_writes c m ∷ more) all = none_of_beside a more all.1
none_of_beside a (host_reads c m ∷ more) all = none_of_beside a more all.1
none_of_beside a (client_reads c m ∷ more) all = none_of_beside a more all.1
none_of_beside a (client_writes c m ∷ more) all = none_of_beside a more all.1
none_of_beside a (completes k m ∷ more) all = none_of_beside a more all.1
none_of_beside a (stores d x ∷ more) all = none_of_beside a more all.1

same_begun : (more deeds : List Deed) → AreBeside more → last_begun (more ++ deeds) ≡ last_begun deeds
unfolding IsBeside AreBeside
same_begun [] deeds all = refl
same_begun (submits x named o ∷ more) deeds all = absurd all.0
same_begun (host_begins c ∷ more) deeds all = absurd all.0
same_begun (host_ends c ∷ more) deeds all = same_begun more deeds all.1
same_begun (removes d ∷ more) deeds all = same_begun more deeds all.1
same_begun (adds d ∷ more) deeds all = same_begun more deeds all.1
same_begun (takes n ∷ more) deeds all = same_begun more deeds all.1
same_begun (tells n ∷ more) deeds all = same_begun more deeds all.1
same_begun (host_writes c m ∷ more) deeds all = same_begun more deeds all.1
same_begun (host_reads c m ∷ more) deeds all = same_begun more deeds all.1
same_begun (client_reads c m ∷ more) deeds all = same_begun more deeds all.1
same_begun (client_writes c m ∷ more) deeds all = same_begun more deeds all.1
same_begun (completes k m ∷ more) deeds all = same_begun more deeds all.1
same_begun (stores d x ∷ more) deeds all = same_begun more deeds all.1

-- The applications stay, and what is done is beside them.
record StaysBeside (w v : WorldState) : Type 0 where
  applications : v.applications ≡ w.applications
  more : List Deed
  beside_all : AreBeside more
  deeds : v.deeds ≡ more ++ w.deeds

by_inside : {w v : WorldState} → IsInside w v → StaysBeside w v
by_inside i = record { applications = ap (λ (o : Outside). o.applications) i.same; more = i.more; beside_all = own_beside i.more i.own; deeds = i.deeds }

one_beside : {w v : WorldState} (deed : Deed) → IsBeside deed → v.applications ≡ w.applications → v.deeds ≡ deed ∷ w.deeds → StaysBeside w v
unfolding AreBeside
one_beside deed is same deeds = record { applications = same; more = deed ∷ []; beside_all = (is, tt); deeds = deeds }

none_beside : {w v : WorldState} → v.applications ≡ w.applications → v.deeds ≡ w.deeds → StaysBeside w v
unfolding AreBeside
none_beside same deeds = record { applications = same; more = []; beside_all = tt; deeds = deeds }

taking : (number : ℕ) → IsBeside (takes number)
unfolding IsBeside
taking number = tt

one_after : {w x v : WorldState} (deed : Deed) → IsBeside deed → StaysBeside w x → v.applications ≡ x.applications → v.deeds ≡ deed ∷ x.deeds → StaysBeside w v
unfolding AreBeside
one_after deed is s same deeds = record { applications = same ∙ s.applications; more = deed ∷ s.more; beside_all = (is, s.beside_all); deeds = deeds ∙ ap (λ (ds : List Deed). deed ∷ ds) s.deeds }

sent_beside : (channel : ℕ) (o : Outgoing) → IsBeside (deed_on channel o)
unfolding IsBeside
sent_beside channel o = by o.answers
  where
    by : (k : Option Key) → IsBeside (option_map_or (λ key. completes key o.message) k (client_writes channel o.message))
    by None = tt
    by (Some key) = tt

-- what isn't the applications' own, and begins no channel
abbrev pub IsOther : Part → Type 0
IsOther (accepts a asked named t number) = ⊥
IsOther (refuses a asked cause) = ⊥
IsOther (hands_out a number t taken next) = ⊥
IsOther begins = ⊥
IsOther (queues_one a) = ⊥
IsOther p = Unit {0}

-- where only a first deed is read before what a client does by itself
read_beside : {w v : WorldState} (x : WorldState) (deed : Deed) → IsBeside deed → x.applications ≡ w.applications → x.deeds ≡ deed ∷ w.deeds → IsInside x v → StaysBeside w v
unfolding AreBeside
read_beside {w} x deed is same deeds i = record {
  applications = ap (λ (o : Outside). o.applications) i.same ∙ same;
  more = i.more ++ deed ∷ [];
  beside_all = both i.more (own_beside i.more i.own);
  deeds = i.deeds ∙ ap (λ (ds : List Deed). i.more ++ ds) deeds ∙ sym (append_assoc i.more (deed ∷ []) w.deeds);
}
  where
    both : (more : List Deed) → AllByRecursion IsBeside more → AllByRecursion IsBeside (more ++ deed ∷ [])
    both [] all = (is, tt)
    both (d ∷ more) all = (all.0, both more all.1)

module _ (lines : List NumberedLine) (starves : Key → Bool) where
  stays_beside : (w : WorldState) (p : Part) → MayBe lines starves w p → IsOther p → StaysBeside w (done starves w p)
  unfolding IsBeside
  stays_beside w (accepts a asked named t number) may other = absurd other
  stays_beside w (refuses a asked cause) may other = absurd other
  stays_beside w (hands_out a number t taken next) may other = absurd other
  stays_beside w (queues_one a) may other = absurd other
  stays_beside w begins may other = absurd other
  stays_beside w (host_sends_one m) may other = one_beside (host_writes w.channels m) tt refl refl
  stays_beside w (host_gets n) may other = none_beside refl refl
  stays_beside w host_keeps_part may other = none_beside refl refl
  stays_beside w (host_hears_one m rest) may other = one_beside (host_reads w.channels m) tt refl refl
  stays_beside w (tells_one n) may other = one_beside (tells n) tt refl refl
  stays_beside w ends may other =
      let cut : WorldState = fold dropping w (map (λ (e : ℕ × StationState SessionDevice). e.0) w.stations) in
      one_after (host_ends cut.channels) tt (by_inside (all_dropped_inside (map (λ (e : ℕ × StationState SessionDevice). e.0) w.stations) w)) refl refl
  stays_beside w (client_sends_one x o) may other = one_beside (deed_on w.channels o) (sent_beside w.channels o) refl refl
  stays_beside w (client_gets n) may other = none_beside refl refl
  stays_beside w client_keeps_part may other = none_beside refl refl
  stays_beside w (client_hears_one m rest) may other =
      let x : WorldState = record w { to_client = record w.to_client { part = []; taken = _; unhandled = rest } } in
      read_beside (record x { deeds = client_reads w.channels m ∷ w.deeds }) (client_reads w.channels m) tt refl refl (hears_inside x m)
  stays_beside w (tries_one k) may other =
      let i = put_inside (record w { kept = None }) k.device k.job in
      record { applications = ap (λ (o : Outside). o.applications) i.same; more = i.more; beside_all = own_beside i.more i.own; deeds = i.deeds }
  stays_beside w (collects_one d s after c) may other =
      one_after (completes c.key (completion_message d c)) tt (by_inside (stationed w d after)) refl refl
  stays_beside w (takes_one d hand s after job) may other =
      let i = stationed w d after in
      record { applications = refl; more = i.more; beside_all = own_beside i.more i.own; deeds = i.deeds }
  stays_beside w (applies_one hand d job o) may other = by_inside (applied_inside starves w hand d job o)
  stays_beside w (removes_one d o) may other = by_inside (removed_inside w d o)
  stays_beside w (adds_one d names o) may other = by_inside (added_inside w d names o)
  stays_beside w (idle_one number) may other = none_beside refl refl
  stays_beside w draws_one may other = none_beside refl refl

-- the applications stay
pub applications_stay : (lines : List NumberedLine) (starves : Key → Bool) (w : WorldState) (p : Part) → MayBe lines starves w p → IsOther p → (done starves w p).applications ≡ w.applications
applications_stay lines starves w p may other = (stays_beside lines starves w p may other).applications

-- ---- applications under their numbers

pub put_here : (w : WorldState) (a : ℕ) (x : ApplicationState) → application_at (with_application w a x) a ≡ x
put_here w a x = ap (λ (o : Option ApplicationState). unwrap_or o new_application) (inserted a x w.applications)

pub put_beside : (w : WorldState) (b : ℕ) (x : ApplicationState) (a : ℕ) → (a ≢ b) → application_at (with_application w b x) a ≡ application_at w a
put_beside w b x a other = ap (λ (o : Option ApplicationState). unwrap_or o new_application) (beside b x a other w.applications)

module _ (lines : List NumberedLine) (starves : Key → Bool) where
  abbrev devices : List (ℕ × Declared)
  devices = declared_devices (bare_lines lines)

  abbrev asked_of : ℕ → List Asked
  asked_of a = map (λ (l : Waits). l.asked) (waits_of devices a lines)

  -- The lines of each application ended so far as they should, and it asks for what its lines ask for.
  pub record Going (w : WorldState) : Type 0 where
    pub trails : (a : ℕ) → IsTrailed devices a w.deeds (waits_of devices a lines) (application_at w a)
    pub asks : (a : ℕ) → (application_at w a).asks ≡ asked_of a

  at_same : (w v : WorldState) → v.applications ≡ w.applications → (a : ℕ) → application_at v a ≡ application_at w a
  at_same w v same a = ap (λ (es : List (ℕ × ApplicationState)). unwrap_or (lookup (is_at (nat_cmp a)) es) new_application) same

  going_beside : (w v : WorldState) → StaysBeside w v → Going w → Going v
  going_beside w v s g = record {
    trails = λ a. subst (λ (x : ApplicationState). IsTrailed devices a v.deeds (waits_of devices a lines) x) (sym (at_same w v s.applications a))
        (subst (λ (ds : List Deed). IsTrailed devices a ds (waits_of devices a lines) (application_at w a)) (sym s.deeds)
        (trailed_more devices a w.deeds s.more (waits_of devices a lines) (application_at w a) (none_of_beside a s.more s.beside_all) (g.trails a)));
    asks = λ a. ap (λ (x : ApplicationState). x.asks) (at_same w v s.applications a) ∙ g.asks a;
  }

  -- an application changes by a deed
  going_put : (w : WorldState) (b : ℕ) (x : ApplicationState) (more : List Deed) (v : WorldState) → v.applications ≡ insert_entry nat_cmp w.applications b x → v.deeds ≡ more ++ w.deeds
      → ((a : ℕ) → (a ≢ b) → list_any (is_submission_of a) more ≡ false) → IsTrailed devices b v.deeds (waits_of devices b lines) x → x.asks ≡ (application_at w b).asks → Going w → Going v
  going_put w b x more v same deeds quiet own asks g = record {
    trails = λ a. elim (cases_eq a b) [
      | inl e ↦
          let at : application_at v a ≡ x = at_put a ∙ ap (application_at (with_application w b x)) e ∙ put_here w b x in
          subst (λ (y : ApplicationState). IsTrailed devices a v.deeds (waits_of devices a lines) y) (sym at)
          (subst (λ (n : ℕ). IsTrailed devices n v.deeds (waits_of devices n lines) x) (sym e) own)
      | inr other ↦
          subst (λ (y : ApplicationState). IsTrailed devices a v.deeds (waits_of devices a lines) y) (sym (at_put a ∙ put_beside w b x a other))
          (subst (λ (ds : List Deed). IsTrailed devices a ds (waits_of devices a lines) (application_at w a)) (sym deeds)
          (trailed_more devices a w.deeds more (waits_of devices a lines) (application_at w a) (quiet a other) (g.trails a)))
    ];
    asks = λ a. elim (cases_eq a b) [
      | inl e ↦ ap (λ (y : ApplicationState). y.asks) (at_put a ∙ ap (application_at (with_application w b x)) e ∙ put_here w b x) ∙ asks ∙ ap (λ (n : ℕ). (application_at w n).asks) (sym e) ∙ g.asks a
      | inr other ↦ ap (λ (y : ApplicationState). y.asks) (at_put a ∙ put_beside w b x a other) ∙ g.asks a
    ];
  }
    where
      at_put : (a : ℕ) → application_at v a ≡ application_at (with_application w b x) a
      at_put a = ap (λ (es : List (ℕ × ApplicationState)). unwrap_or (lookup (is_at (nat_cmp a)) es) new_application) same

  -- the lines that are queued may be issued here
  abbrev pub AreDue : WorldState → Type 0
  AreDue w = (a k : ℕ) (l : Waits) → slice_get (waits_of devices a lines) k ≡ Some l → k < (application_at w a).queued → IsDue devices l.acts w.deeds

  issued : (x : ApplicationState) → may_issue x ≡ true → (length x.outcomes < x.queued) × (x.awaits ≡ None)
  issued x may = by x.awaits refl (nat_lt (length x.outcomes) x.queued) refl may
    where
      by : (o : Option ℕ) → x.awaits ≡ o → (b : Bool) → nat_lt (length x.outcomes) x.queued ≡ b → (b && is_none o) ≡ true → (length x.outcomes < x.queued) × (x.awaits ≡ None)
      by None e true f may = (grind (arith, nat_tests, f), e)
      by None e false f may = absurd (cc may)
      by (Some n) e true f may = absurd (cc may)
      by (Some n) e false f may = absurd (cc may)

  kept_asks : (x : ApplicationState) (o : Outcome) (given : Option Handle) (asked : Asked) → (with_outcome x o given asked).asks ≡ x.asks
  kept_asks x o given asked = by (is_some asked.device)
    where
      by : (b : Bool) → (cond b (record x { handles = holding_under x.handles asked.handle given }) x).asks ≡ x.asks
      by true = refl
      by false = refl

  queued_trail : (a : ℕ) (deeds : List Deed) (x : ApplicationState) → IsTrailed devices a deeds (waits_of devices a lines) x → IsTrailed devices a deeds (waits_of devices a lines) (record x { queued = x.queued + 1 })
  queued_trail a deeds x is = record { ended = is.ended; rest = is.rest; whole = is.whole; stage = is.stage; chain = is.chain; handles = is.handles; stands = is.stands }

  pub going_queued : (w : WorldState) (a : ℕ) → Going w → Going (queueing w a)
  going_queued w a g =
      let x : ApplicationState = application_at w a in
      going_put w a (record x { queued = x.queued + 1 }) [] (queueing w a) refl refl (λ b other. refl) (queued_trail a w.deeds x (g.trails a)) refl g

  module _ (premises : RunPremises lines) where
    -- what happens by itself, and where lines are issued these are due
    pub part_going : (w : WorldState) (p : Part) → MayBe lines starves w p → IsBehind lines starves w → (is_issue p ≡ true → AreDue w) → Going w → Going (done starves w p)
    part_going w (accepts a asked named t number) (reached, may, next, target, made) before due g =
        let x : ApplicationState = application_at w a in
        let side = ((knows lines starves premises w before).stands).host.is in
        let can = issued x may in
        going_put w a (record x { awaits = Some number }) (submits a named asked.op ∷ []) (done starves w (accepts a asked named t number)) refl refl
        (λ b other. ap (λ (q : Bool). q || false) (ne_eqb a b (λ (same : a ≡ b). other (sym same))))
        (accepted_trail devices a w.deeds (waits_of devices a lines) x (g.trails a) asked named t number can.1 (g.asks a) next (λ l at. due refl a (length x.outcomes) l at can.0) target
        (ap (λ (s : HostSide). table.submit s.table a named asked.op) side ∙ made)) refl g
    part_going w (refuses a asked cause) (may, next, refused) before due g =
        let x : ApplicationState = application_at w a in
        let side = ((knows lines starves premises w before).stands).host.is in
        let can = issued x may in
        going_put w a (with_outcome x (outcome.Refused cause) None asked) [] (done starves w (refuses a asked cause)) refl refl (λ b other. refl)
        (refused_trail devices a w.deeds (waits_of devices a lines) x (g.trails a) asked cause can.1 (g.asks a) next (λ l at. due refl a (length x.outcomes) l at can.0)
        (by side (target_of x asked) refused)) (kept_asks x (outcome.Refused cause) None asked) g
      where
        by : side_of client_id w.deeds ≡ w.side → (o : Option Target) → IsRefused w a asked cause o → RefusedBy (side_of client_id w.deeds).table a asked cause o
        by side None own = own
        by side (Some named) (t, why, made, same) = (t, why, ap (λ (s : HostSide). table.submit s.table a named asked.op) side ∙ made, same)
    part_going w (hands_out a number t given next) (awaits, asks, made) before due g = by next asks
      where
        x : ApplicationState
        x = application_at w a

        side : side_of client_id w.deeds ≡ w.side
        side = ((knows lines starves premises w before).stands).host.is

        by : (o : Option Asked) → next_asked (application_at w a) ≡ o → Going (done starves w (hands_out a number t given o))
        by None asks = going_beside w (done starves w (hands_out a number t given None)) (one_beside (takes number) (taking number) refl refl) g
        by (Some asked) asks =
            going_put w a (with_outcome x (reported_outcome given.outcome) (given_handle given) asked) (takes number ∷ []) (done starves w (hands_out a number t given (Some asked))) refl refl (λ b other. refl)
            (handed_trail devices a w.deeds (waits_of devices a lines) x (g.trails a) number t given (Some asked) awaits (g.asks a) asks
            (ap (λ (s : HostSide). table.take s.table number) side ∙ made)) (kept_asks x (reported_outcome given.outcome) (given_handle given) asked) g
    part_going w begins may before due g =
        subst (λ (x : WorldState). Going (begun_on w x)) (sym (all_refreshed (map (λ (e : ℕ × PrinterNames). e.0) w.printers) w)) (record {
          trails = λ a. trailed_more devices a w.deeds (host_begins (w.channels + 1) ∷ []) (waits_of devices a lines) (application_at w a) refl (g.trails a);
          asks = g.asks;
        })
    part_going w (queues_one a) may before due g = going_queued w a g
    part_going w p may before due g = going_beside w (done starves w p) (stays_beside lines starves w p may tt) g

  -- ---- what is due stays so

  more_acts : (more deeds : List Deed) → length (filter_map act_by deeds) ≤ length (filter_map act_by (more ++ deeds))
  more_acts [] deeds = omega arith
  more_acts (d ∷ more) deeds = by (act_by d) (more_acts more deeds)
    where
      by : (o : Option Act) → length (filter_map act_by deeds) ≤ length (filter_map act_by (more ++ deeds)) → length (filter_map act_by deeds) ≤ length (cons_option o (filter_map act_by (more ++ deeds)))
      by None less = less
      by (Some x) less = omega (arith, less)

  opens_more : (more deeds : List Deed) (c : ℕ) → Opens devices deeds c → Opens devices (more ++ deeds) c
  opens_more more deeds c (since, before, e, is) = (more ++ since, before, ap (λ (ds : List Deed). more ++ ds) e ∙ sym (append_assoc more since before), is)

  due_more : (more deeds : List Deed) → last_begun (more ++ deeds) ≡ last_begun deeds → (acts : ℕ) → IsDue devices acts deeds → IsDue devices acts (more ++ deeds)
  due_more more deeds same acts is = record {
    acted = omega (arith, is.acted, more_acts more deeds);
    opened = subst (Opens devices (more ++ deeds)) (sym same) (opens_more more deeds (last_begun deeds) is.opened);
  }

  -- What was due in the first world is in the second, and as many lines are queued.
  pub record From (w v : WorldState) : Type 0 where
    pub due : (acts : ℕ) → IsDue devices acts w.deeds → IsDue devices acts v.deeds
    pub queued : (a : ℕ) → (application_at v a).queued ≡ (application_at w a).queued

  acted_beside : (w v : WorldState) → StaysBeside w v → length (filter_map act_by w.deeds) ≤ length (filter_map act_by v.deeds)
  acted_beside w v s = subst (λ (ds : List Deed). length (filter_map act_by w.deeds) ≤ length (filter_map act_by ds)) (sym s.deeds) (more_acts s.more w.deeds)

  pub from_itself : (w : WorldState) → From w w
  from_itself w = record { due = λ acts is. is; queued = λ a. refl }

  from_then : (w x v : WorldState) → From w x → From x v → From w v
  from_then w x v first second = record { due = λ acts is. second.due acts (first.due acts is); queued = λ a. second.queued a ∙ first.queued a }

  from_beside : (w v : WorldState) → StaysBeside w v → From w v
  from_beside w v s = record {
    due = λ acts is. subst (IsDue devices acts) (sym s.deeds) (due_more s.more w.deeds (same_begun s.more w.deeds s.beside_all) acts is);
    queued = λ a. ap (λ (x : ApplicationState). x.queued) (at_same w v s.applications a);
  }

  pub from_put : (w : WorldState) (b : ℕ) (x : ApplicationState) (more : List Deed) (v : WorldState) → v.applications ≡ insert_entry nat_cmp w.applications b x → v.deeds ≡ more ++ w.deeds
      → last_begun (more ++ w.deeds) ≡ last_begun w.deeds → x.queued ≡ (application_at w b).queued → From w v
  from_put w b x more v same deeds begun own = record {
    due = λ acts is. subst (IsDue devices acts) (sym deeds) (due_more more w.deeds begun acts is);
    queued = λ a. elim (cases_eq a b) [
      | inl e ↦ ap (λ (y : ApplicationState). y.queued) (at_put a ∙ ap (application_at (with_application w b x)) e ∙ put_here w b x) ∙ own ∙ ap (λ (n : ℕ). (application_at w n).queued) (sym e)
      | inr other ↦ ap (λ (y : ApplicationState). y.queued) (at_put a ∙ put_beside w b x a other)
    ];
  }
    where
      at_put : (a : ℕ) → application_at v a ≡ application_at (with_application w b x) a
      at_put a = ap (λ (es : List (ℕ × ApplicationState)). unwrap_or (lookup (is_at (nat_cmp a)) es) new_application) same

  kept_queued : (x : ApplicationState) (o : Outcome) (given : Option Handle) (asked : Asked) → (with_outcome x o given asked).queued ≡ x.queued
  kept_queued x o given asked = by (is_some asked.device)
    where
      by : (b : Bool) → (cond b (record x { handles = holding_under x.handles asked.handle given }) x).queued ≡ x.queued
      by true = refl
      by false = refl

  pub part_from : (w : WorldState) (p : Part) → MayBe lines starves w p → part_weight p ≡ 0 → From w (done starves w p)
  part_from w (accepts a asked named t number) may free = from_put w a (record (application_at w a) { awaits = Some number }) (submits a named asked.op ∷ []) (done starves w (accepts a asked named t number)) refl refl refl refl
  part_from w (refuses a asked cause) may free =
      from_put w a (with_outcome (application_at w a) (outcome.Refused cause) None asked) [] (done starves w (refuses a asked cause)) refl refl refl (kept_queued (application_at w a) (outcome.Refused cause) None asked)
  part_from w (hands_out a number t given None) may free = from_beside w (done starves w (hands_out a number t given None)) (one_beside (takes number) (taking number) refl refl)
  part_from w (hands_out a number t given (Some asked)) may free =
      from_put w a (with_outcome (application_at w a) (reported_outcome given.outcome) (given_handle given) asked) (takes number ∷ []) (done starves w (hands_out a number t given (Some asked))) refl refl refl
      (kept_queued (application_at w a) (reported_outcome given.outcome) (given_handle given) asked)
  part_from w begins may free = absurd (omega (arith, free))
  part_from w (queues_one a) may free = absurd (omega (arith, free))
  part_from w p may free = from_beside w (done starves w p) (stays_beside lines starves w p may tt)

  -- so many lines are queued, and no act is undone
  pub part_queued : (w : WorldState) (p : Part) → MayBe lines starves w p → part_weight p ≡ 0 → (a : ℕ) → (application_at (done starves w p) a).queued ≡ (application_at w a).queued
  part_queued w p may free a = (part_from w p may free).queued a

  pub part_acted : (w : WorldState) (p : Part) → MayBe lines starves w p → part_weight p ≡ 0 → length (filter_map act_by w.deeds) ≤ length (filter_map act_by (done starves w p).deeds)
  part_acted w (accepts a asked named t number) may free = omega arith
  part_acted w (refuses a asked cause) may free = omega arith
  part_acted w (hands_out a number t given None) may free = omega arith
  part_acted w (hands_out a number t given (Some asked)) may free = omega arith
  part_acted w begins may free = absurd (omega (arith, free))
  part_acted w (queues_one a) may free = absurd (omega (arith, free))
  part_acted w p may free = acted_beside w (done starves w p) (stays_beside lines starves w p may tt)

  due_from : (w v : WorldState) → From w v → AreDue w → AreDue v
  due_from w v f all a k l at low = f.due l.acts (all a k l at (subst (λ (n : ℕ). k < n) (f.queued a) low))

  -- ---- what happens by itself, and what an event of a line comes to

  module _ (premises : RunPremises lines) where
    -- a world behind so few lines whose lines go on as they should, since another world
    record Goes (m : ℕ) (w v : WorldState) : Type 0 where
      behind : IsBehindWithin lines starves m v
      few : m ≤ length lines + 2
      going : Going v
      due : AreDue v
      from : From w v

    behind_all : (m : ℕ) (v : WorldState) → m ≤ length lines + 2 → IsBehindWithin lines starves m v → IsBehind lines starves v
    behind_all m v few b = record { parts = b.parts; may = b.may; few = omega (arith, few, b.few); leads = b.leads }

    goes_free : (m : ℕ) (w v : WorldState) (p : Part) → part_weight p ≡ 0 → MayBe lines starves v p → Goes m w v → Goes m w (done starves v p)
    goes_free m w v p free may g =
        let from = part_from v p may free in
        record {
          behind = (let same : part_weight p + m ≡ m = omega (arith, free) in subst (λ (k : ℕ). IsBehindWithin lines starves k (done starves v p)) same (one_part lines starves m v p may g.behind));
          few = g.few;
          going = part_going premises v p may (behind_all m v g.few g.behind) (λ issue. g.due) g.going;
          due = due_from v (done starves v p) from g.due;
          from = from_then w v (done starves v p) g.from from;
        }

    goes_line : (m : ℕ) (w v : WorldState) (p : Part) → part_weight p ≡ 1 → IsOther p → m + 1 ≤ length lines + 2 → MayBe lines starves v p → Goes m w v → Goes (1 + m) w (done starves v p)
    goes_line m w v p one other low may g =
        let s = stays_beside lines starves v p may other in
        let from = from_beside v (done starves v p) s in
        record {
          behind = subst (λ (k : ℕ). IsBehindWithin lines starves (k + m) (done starves v p)) one (one_part lines starves m v p may g.behind);
          few = omega (arith, low);
          going = going_beside v (done starves v p) s g.going;
          due = due_from v (done starves v p) from g.due;
          from = from_then w v (done starves v p) g.from from;
        }

    pub event_goes : (w : WorldState) (e : Event) → Reached lines starves w → event_weight e ≡ 0 → is_enabled w e ≡ true → Going w → AreDue w → Going (act starves w e) × From w (act starves w e)
    event_goes w e reached free can going due =
        let all : ℕ = length lines + 2 in
        let start : Goes all w w = record { behind = reached_behind lines starves w reached; few = omega arith; going = going; due = due; from = from_itself w } in
        let g = event_keeps lines starves (λ (n : ℕ) (v : WorldState). (n ≡ 0 → Goes all w v)) (λ n v p may so none.
        (let zero_n : n ≡ 0 = omega (arith, none) in let zero_p : part_weight p ≡ 0 = omega (arith, none) in goes_free all w v p zero_p may (so zero_n)))
        0 w e reached (of_no_line e free) can (λ none. start) in
        let done_so = g (omega (arith, free)) in (done_so.going, done_so.from)
      where
        of_no_line : (e : Event) → event_weight e ≡ 0 → IsOfLines lines e
        of_no_line (event.tell n) free = absurd (omega (arith, free))
        of_no_line e free = tt

    pub line_goes : (n : ℕ) (w : WorldState) (e : Event) → ReachedWithin n lines starves w → n + 1 ≤ length lines + 2 → MayPass lines w (happens e) → event_weight e ≡ 1 → is_enabled w event.connect ≡ false → Going w → AreDue w
        → Going (act starves w e) × From w (act starves w e)
    line_goes n w e reached low may one shut going due = by e may one
      where
        start : Goes n w w
        start = record { behind = within_behind lines starves n w (omega (arith, low)) reached; few = omega (arith, low); going = going; due = due; from = from_itself w }

        told : (v : WorldState) → Goes (1 + n) w v → Going v × From w v
        told v g = (g.going, g.from)

        by : (e : Event) → MayPass lines w (happens e) → event_weight e ≡ 1 → Going (act starves w e) × From w (act starves w e)
        by (event.remove device) may one =
            let p : Part = removes_one device (station_at w device) in
            told (act starves w (event.remove device))
            (tries_keeps lines starves (Goes (1 + n) w) (λ p. part_weight p ≡ 0) (λ p free no. free) (λ v p free may g. goes_free (1 + n) w v p free may g) (done starves w p) device (goes_line n w w p refl tt low (may.1, refl) start))
        by (event.add device) may one = adding (lookup (is_at (nat_cmp device)) w.printers) refl
          where
            adding : (names : Option PrinterNames) → lookup (is_at (nat_cmp device)) w.printers ≡ names
                → let v = announced_by (told_added (refreshed_by w device names) device) device (station_at (refreshed_by w device names) device) in Going v × From w v
            adding None is = let p : Part = adds_one device None (station_at w device) in told (done starves w p) (goes_line n w w p refl tt low (may.1, is, refl) start)
            adding (Some names) is = let p : Part = adds_one device (Some names) (station_at w device) in told (done starves w p) (goes_line n w w p refl tt low (may.1, is, refl) start)
        by event.drop_channel may one =
            told (act starves w event.drop_channel)
            (all_take_keeps lines starves (Goes (1 + n) w) (λ p. part_weight p ≡ 0) (λ p free no. free) (λ v p free may g. goes_free (1 + n) w v p free may g) (cutting w) (goes_line n w w ends refl tt low may.1 start))
        by event.connect may one = absurd (let can : is_enabled w event.connect ≡ true = may.1 in cc (can, shut))
        by (event.tell notice) may one = told (act starves w (event.tell notice)) (goes_line n w w (tells_one notice) refl tt low may start)
        by e may one = absurd (omega (arith, one))
