-- No event queues a line of an application, or changes what its lines ask for.
use Rattle.std.proofs.Common.{◌≡◌, ◌∙◌, refl, sym, ap, subst, ℕ, Bool, true, false, List, [], ◌∷◌, map, fold, Some, None, Option, Result, Ok, Err, inl, inr}
use Rattle.std.specs.Prelude.{if◌then◌else◌, is_some}
use Rattle.std.specs.Map.{lookup}
use Rattle.std.specs.Ordering.{nat_cmp}
use Rattle.std.specs.BTreeMap.{insert_entry, is_at}
use Rattle.std.specs.Option.{option_and_then, option_map_or, unwrap_or}
use Rattle.rd_base.specs.declared.journal.Key.{Key}
use Rattle.rd_client.specs.Core as client
use Rattle.rd_client.specs.Core.{ClientCoreState, Outgoing}
use Rattle.rd_drive.specs.declared.plan.Job.{Job}
use Rattle.rd_irp.specs.declared.op.Op.{Op}
use Rattle.rd_pending.specs.declared.calls.Handle.{Handle}
use Rattle.rd_pending.specs.declared.calls.SubmitNo.{SubmitNo}
use Rattle.rd_pending.specs.declared.calls.Taken.{Taken}
use Rattle.rd_pending.specs.declared.calls.TakeNo.{TakeNo}
use Rattle.rd_pending.specs.declared.calls.Target.{Target}
use Rattle.rd_pending.specs.Table as table
use Rattle.rd_pending.specs.Table.{TableState}
use Rattle.rd_told.proofs.RunsInsides.{IsInside, Outside, added_inside, all_dropped_inside, all_refreshed_inside, applied_inside, removed_inside}
use Rattle.rd_told.proofs.RunsParts.{refreshed_by}
use Rattle.rd_script.specs.declared.outcome.Outcome.{Outcome}
use Rattle.rd_script.specs.declared.outcome.Outcome.TheVariants as outcome
use Rattle.rd_script.specs.declared.outcome.Refusal.TheVariants as refusal
use Rattle.rd_station.specs.declared.answers.Completion.{Completion}
use Rattle.rd_station.specs.declared.answers.Given.{Given}
use Rattle.rd_station.specs.declared.answers.Given.TheVariants as given
use Rattle.rd_station.specs.Station as station
use Rattle.rd_station.specs.Station.{StationState}
use Rattle.rd_declared.specs.declared.device.SessionDevice.{SessionDevice}
use Rattle.rd_declared.specs.Devices.{PrinterNames}
use Rattle.rd_world.specs.Events as event
use Rattle.rd_world.specs.Events.{Event, act, applies_at, applies_held, asks, client_sends_first, collects_from, comes_of_asking, completion_message, cutting, dropping, refreshing, hand_at, issues_next, refusal_of, removing, takes_job_from, target_of}
use Rattle.rd_world.specs.Hearing.{all_take, client_handles_all, ends_line, given_handle, holding_under, host_handles, next_asked, reported_outcome, takes_awaited, takes_from, takes_outcome, tries_kept, with_outcome}
use Rattle.rd_deeds.specs.Host.{next_message, side_sends}
use Rattle.rd_deeds.specs.Talk.{completes, takes}
use Rattle.rd_world.specs.World.{ApplicationState, Asked, WorldState, application_at, client_sends, with_station, having_read, host_sends, most_messages, new_application, station_at, with_application, with_deed, with_table}
use Rattle.rd_ended.proofs.ClientEvents.{client_handles_on, tries_on}
use Rattle.rd_ended.proofs.HostEvents.{host_handles_on}
use Rattle.rd_ended.proofs.Remaining.{put_at_each}

-- Of each application as many lines are queued, and its lines ask for the same.
abbrev pub IsLined : List (ℕ × ApplicationState) → List (ℕ × ApplicationState) → Type 0
IsLined old new =
    (a : ℕ) → let x : ApplicationState = unwrap_or (lookup (is_at (nat_cmp a)) old) new_application in let y : ApplicationState = unwrap_or (lookup (is_at (nat_cmp a)) new) new_application in
    (y.queued ≡ x.queued) × (y.asks ≡ x.asks)

abbrev pub Lined : WorldState → WorldState → Type 0
Lined w v = IsLined w.applications v.applications

lined_none : (es : List (ℕ × ApplicationState)) → IsLined es es
lined_none es a = (refl, refl)

lined_same : (w v : WorldState) → v.applications ≡ w.applications → Lined w v
lined_same w v same = subst (IsLined w.applications) (sym same) (lined_none w.applications)

lined_then : (w x v : WorldState) → Lined w x → Lined x v → Lined w v
lined_then w x v first second a = ((second a).0 ∙ (first a).0, (second a).1 ∙ (first a).1)

lined_put : (es : List (ℕ × ApplicationState)) (a : ℕ) (x : ApplicationState) → let old : ApplicationState = unwrap_or (lookup (is_at (nat_cmp a)) es) new_application in x.queued ≡ old.queued → x.asks ≡ old.asks
    → IsLined es (insert_entry nat_cmp es a x)
lined_put es a x queued asks =
    put_at_each (λ (b : ℕ) (o : Option ApplicationState). let z : ApplicationState = unwrap_or (lookup (is_at (nat_cmp b)) es) new_application in let y : ApplicationState = unwrap_or o new_application in
    (y.queued ≡ z.queued) × (y.asks ≡ z.asks)) a x es (queued, asks) (λ b. (refl, refl))

outcome_same : (x : ApplicationState) (o : Outcome) (holds : Option Handle) (asked : Asked) → ((with_outcome x o holds asked).queued ≡ x.queued) × ((with_outcome x o holds asked).asks ≡ x.asks)
outcome_same x o holds asked = by (is_some asked.device)
  where
    by : (b : Bool) → let y : ApplicationState = if b then record x { handles = holding_under x.handles asked.handle holds } else x in (y.queued ≡ x.queued) × (y.asks ≡ x.asks)
    by true = (refl, refl)
    by false = (refl, refl)

ended_lined : (w : WorldState) (a : ℕ) (o : Outcome) (holds : Option Handle) → Lined w (ends_line w a o holds)
ended_lined w a o holds = by (next_asked (application_at w a))
  where
    by : (n : Option Asked) → Lined w (option_map_or (λ asked. with_application w a (with_outcome (application_at w a) o holds asked)) n w)
    by None = lined_none w.applications
    by (Some asked) = let same = outcome_same (application_at w a) o holds asked in lined_put w.applications a (with_outcome (application_at w a) o holds asked) same.0 same.1

issued_lined : (w : WorldState) (a : ℕ) → Lined w (event.issues w a)
issued_lined w a = by (next_asked (application_at w a))
  where
    comes : (op : Op) (named : Target) (r : TableState × Result ℕ SubmitNo) → Lined w (comes_of_asking w a op named r)
    comes op named (t, Ok number) = lined_put w.applications a (record (application_at w a) { awaits = Some number }) refl refl
    comes op named (t, Err cause) = ended_lined w a (outcome.Refused (refusal_of cause)) None

    target : (op : Op) (o : Option Target) → Lined w (asks w a op o)
    target op None = ended_lined w a (outcome.Refused refusal.NoHandle) None
    target op (Some named) = comes op named (table.submit (w.side).table a named op)

    by : (o : Option Asked) → Lined w (issues_next w a o)
    by None = lined_none w.applications
    by (Some asked) = target asked.op (target_of (application_at w a) asked)

taken_lined : (w : WorldState) (a : ℕ) → Lined w (takes_outcome w a)
taken_lined w a = by (application_at w a).awaits
  where
    from : (number : ℕ) (r : TableState × Result Taken TakeNo) → Lined w (takes_from w a number r)
    from number (t, Err cause) = lined_none w.applications
    from number (t, Ok taken) = ended_lined (with_deed (with_table w t) (takes number)) a (reported_outcome taken.outcome) (given_handle taken)

    by : (o : Option ℕ) → Lined w (takes_awaited w a o)
    by None = lined_none w.applications
    by (Some number) = from number (table.take (w.side).table number)

all_lined : (applications : List ℕ) (w : WorldState) → Lined w (fold takes_outcome w applications)
all_lined [] w = lined_none w.applications
all_lined (a ∷ applications) w = lined_then w (takes_outcome w a) (fold takes_outcome (takes_outcome w a) applications) (taken_lined w a) (all_lined applications (takes_outcome w a))

inside_lined : (w v : WorldState) → IsInside w v → Lined w v
inside_lined w v i = lined_same w v (ap (λ (o : Outside). o.applications) i.same)

tried_lined : (w : WorldState) (device : ℕ) → Lined w (tries_kept w device)
tried_lined w device = elim (tries_on w device) [
  | inl same ↦ lined_same w (tries_kept w device) (ap (λ (x : WorldState). x.applications) same)
  | inr (handles, less) ↦ lined_same w (tries_kept w device) handles.applications
]

pub event_lined : (starves : Key → Bool) (w : WorldState) (e : Event) → Lined w (act starves w e)
event_lined starves w (event.issue a) = issued_lined w a
event_lined starves w event.host_send = by (next_message w.side)
  where
    by : (o : Option (List ℕ)) → Lined w (option_map_or (host_sends (record w { side = side_sends w.side })) o w)
    by None = lined_none w.applications
    by (Some message) = lined_none w.applications
event_lined starves w (event.client_read n) =
    let x : WorldState = record w { to_client = having_read n w.to_client } in
    lined_same w (client_handles_all x) (client_handles_on (most_messages x.to_client) x).applications
event_lined starves w event.client_send = by (client.client_send w.client)
  where
    by : (r : ClientCoreState × Option Outgoing) → Lined w (client_sends_first w r)
    by (c, None) = lined_none w.applications
    by (c, Some o) = lined_none w.applications
event_lined starves w (event.collect device) = by (station_at w device)
  where
    from : (r : StationState SessionDevice × Option Completion) → Lined w (collects_from w device r)
    from (s, None) = lined_none w.applications
    from (s, Some c) = tried_lined (client_sends (with_station w device s) (completes c.key (completion_message device c)) (completion_message device c)) device

    by : (o : Option (StationState SessionDevice)) → Lined w (option_map_or (λ (s : StationState SessionDevice). collects_from w device (station.collect s)) o w)
    by None = lined_none w.applications
    by (Some s) = from (station.collect s)
event_lined starves w (event.host_read n) =
    let x : WorldState = record w { to_host = having_read n w.to_host } in
    let y : WorldState = host_handles (most_messages x.to_host) x in
    lined_then w y (all_take y) (lined_same w y (host_handles_on (most_messages x.to_host) x).applications) (all_lined (map (λ (e : ℕ × ApplicationState). e.0) y.applications) y)
event_lined starves w (event.take_job device hand) = by (station_at w device)
  where
    from : (r : StationState SessionDevice × Given) → Lined w (takes_job_from w device hand r)
    from (s, given.Job job) = lined_none w.applications
    from (s, given.Nothing) = lined_none w.applications
    from (s, given.Over) = lined_none w.applications

    by : (o : Option (StationState SessionDevice)) → Lined w (option_map_or (λ (s : StationState SessionDevice). takes_job_from w device hand (station.take s)) o w)
    by None = lined_none w.applications
    by (Some s) = from (station.take s)
event_lined starves w (event.apply_job hand) = by (option_and_then (λ held. held) (hand_at w hand))
  where
    by : (o : Option (ℕ × Job)) → Lined w (applies_held starves w hand o)
    by None = lined_none w.applications
    by (Some (device, job)) = inside_lined w (applies_at starves w hand device job (station_at w device)) (applied_inside starves w hand device job (station_at w device))
event_lined starves w (event.remove device) =
    lined_then w (removing w device) (tries_kept (removing w device) device) (inside_lined w (removing w device) (removed_inside w device (station_at w device))) (tried_lined (removing w device) device)
event_lined starves w (event.add device) =
    let names : Option PrinterNames = lookup (is_at (nat_cmp device)) w.printers in
    inside_lined w (event.adds_device w device) (added_inside w device names (station_at (refreshed_by w device names) device))
event_lined starves w event.drop_channel =
    let devices : List ℕ = map (λ (e : ℕ × StationState SessionDevice). e.0) w.stations in
    lined_then w (cutting w) (all_take (cutting w)) (inside_lined w (fold dropping w devices) (all_dropped_inside devices w)) (all_lined (map (λ (e : ℕ × ApplicationState). e.0) (cutting w).applications) (cutting w))
event_lined starves w event.connect = inside_lined w (fold refreshing w (map (λ (e : ℕ × PrinterNames). e.0) w.printers)) (all_refreshed_inside (map (λ (e : ℕ × PrinterNames). e.0) w.printers) w)
event_lined starves w (event.tell n) = lined_none w.applications
