-- Between two moves a host handled all that it read, and a client too, unless it keeps a job back.
use Rattle.std.proofs.Common.{◌≡◌, ◌∙◌, refl, sym, ap, subst, ℕ, zero, suc, ◌<◌, ◌==◌, arith, Bool, true, false, List, [], ◌∷◌, ◌++◌, length, map, fold, Some, None, Option, Result, Ok, Err, length-append}
use Rattle.std.specs.Prelude.{if◌then◌else◌, is_some}
use Rattle.std.specs.Map.{lookup}
use Rattle.std.specs.Ordering.{nat_cmp}
use Rattle.std.specs.BTreeMap.{is_at}
use Rattle.std.specs.Option.{option_and_then, option_map_or}
use Rattle.rd_base.specs.declared.journal.Key.{Key}
use Rattle.rd_client.specs.Core as client
use Rattle.rd_client.specs.Core.{ClientCoreState, Outgoing}
use Rattle.rd_drive.specs.declared.plan.Job.{Job}
use Rattle.rd_irp.specs.declared.op.Op.{Op}
use Rattle.rd_pending.specs.declared.calls.Handle.{Handle}
use Rattle.rd_pending.specs.declared.calls.SubmitNo.{SubmitNo}
use Rattle.rd_pending.specs.declared.calls.Taken.{Taken}
use Rattle.rd_pending.specs.declared.calls.TakeNo.{TakeNo}
use Rattle.rd_pending.specs.declared.calls.Target.{Target}
use Rattle.rd_pending.specs.Table as table
use Rattle.rd_pending.specs.Table.{TableState}
use Rattle.rd_script.specs.declared.line.NumberedLine.{NumberedLine}
use Rattle.rd_script.specs.declared.outcome.Outcome.{Outcome}
use Rattle.rd_script.specs.declared.outcome.Outcome.TheVariants as outcome
use Rattle.rd_script.specs.declared.outcome.Refusal.TheVariants as refusal
use Rattle.rd_station.specs.declared.answers.Completion.{Completion}
use Rattle.rd_station.specs.declared.answers.Given.{Given}
use Rattle.rd_station.specs.declared.answers.Given.TheVariants as given
use Rattle.rd_station.specs.Station as station
use Rattle.rd_station.specs.Station.{StationState}
use Rattle.rd_runs.specs.Moves.{RunMove, Reached, draws, happens, idle, after_move, queues}
use Rattle.rd_runs.proofs.BeginningLemmas.{Unset, begins_as}
use Rattle.rd_runs.proofs.Insides.{Outside, hears_inside, put_inside}
use Rattle.rd_runs.proofs.Parts.{announced_by, cut_by, refreshed_by, told_added, told_removed}
use Rattle.rd_runs.proofs.Reaching.{Steps, by_moves}
use Rattle.rd_world.proofs.WayStreamLemmas.{message_shorter}
use Rattle.rd_declared.specs.declared.device.SessionDevice.{SessionDevice}
use Rattle.rd_declared.specs.Devices.{PrinterNames}
use Rattle.rd_world.specs.Events as event
use Rattle.rd_world.specs.Events.{Event, act, asks, collects_from, comes_of_asking, completion_message, cutting, deed_on, hand_at, issues_next, refusal_of, takes_job_from, target_of}
use Rattle.rd_world.specs.Hearing.{all_take, client_handles, client_handles_all, client_handles_first, client_hears, ends_line, given_handle, host_handles, host_handles_first, host_hears, next_asked, putting, reported_outcome, takes_awaited, takes_from, takes_outcome, tries, tries_kept, with_outcome}
use Rattle.rd_deeds.specs.Host.{next_message, side_sends}
use Rattle.rd_deeds.specs.Talk.{completes, takes}
use Rattle.rd_world.specs.World.{ApplicationState, Asked, Kept, WayState, WorldState, application_at, client_sends, first_message, handling_by, having_read, host_sends, most_messages, station_at, with_application, with_deed, with_station, with_table}

-- ---- the ways, and the job that is kept back

pub record Ways : Type 0 where
  pub down : WayState
  pub up : WayState
  pub back : Option Kept

abbrev pub ways : WorldState → Ways
ways w = record { down = w.to_client; up = w.to_host; back = w.kept }

abbrev pub IsHandled : Ways → Type 0
IsHandled y = ((y.up).unhandled ≡ []) × (y.back ≡ None → (y.down).unhandled ≡ [])

abbrev pub Handled : WorldState → Type 0
Handled w = IsHandled (ways w)

same_ways : (w v : WorldState) → ways v ≡ ways w → Handled w → Handled v
same_ways w v same h = subst IsHandled (sym same) h

-- ---- enough is handled

fewer : (y : WayState) (m rest : List ℕ) → first_message (y.part ++ y.unhandled) ≡ Some (m, rest) → length rest < length (y.part ++ y.unhandled)
fewer y m rest found = message_shorter (length (y.part ++ y.unhandled)) [] (y.part ++ y.unhandled) m rest found

host_handled : (most : ℕ) (w : WorldState) → length ((w.to_host).part ++ (w.to_host).unhandled) < most → ((host_handles most w).to_host).unhandled ≡ []
host_handled zero w few = absurd (omega (arith, few))
host_handled (suc most) w few = by (first_message ((w.to_host).part ++ (w.to_host).unhandled)) refl (host_handled most)
  where
    by : (o : Option (List ℕ × List ℕ)) → first_message ((w.to_host).part ++ (w.to_host).unhandled) ≡ o
        → ((x : WorldState) → length ((x.to_host).part ++ (x.to_host).unhandled) < most → ((host_handles most x).to_host).unhandled ≡ [])
        → ((host_handles_first w (handling_by w.to_host o) (host_handles most)).to_host).unhandled ≡ []
    by None found next = refl
    by (Some (m, rest)) found next =
        next (host_hears (record w { to_host = (handling_by w.to_host (Some (m, rest))).0 }) m) (omega (arith, few, fewer w.to_host m rest found))

host_rest : (most : ℕ) (w : WorldState) → ((host_handles most w).to_client ≡ w.to_client) × ((host_handles most w).kept ≡ w.kept)
host_rest zero w = (refl, refl)
host_rest (suc most) w = by (first_message ((w.to_host).part ++ (w.to_host).unhandled)) (host_rest most)
  where
    by : (o : Option (List ℕ × List ℕ)) → ((x : WorldState) → ((host_handles most x).to_client ≡ x.to_client) × ((host_handles most x).kept ≡ x.kept))
        → let v : WorldState = host_handles_first w (handling_by w.to_host o) (host_handles most) in (v.to_client ≡ w.to_client) × (v.kept ≡ w.kept)
    by None next = (refl, refl)
    by (Some (m, rest)) next = next (host_hears (record w { to_host = (handling_by w.to_host (Some (m, rest))).0 }) m)

hears_ways : (w : WorldState) (m : List ℕ) → ((client_hears w m).to_client ≡ w.to_client) × ((client_hears w m).to_host ≡ w.to_host)
hears_ways w m = let i = hears_inside w m in (ap (λ (o : Outside). o.to_client) i.same, ap (λ (o : Outside). o.to_host) i.same)

some_none : (o : Option Kept) → is_some o ≡ true → o ≡ None → ⊥
some_none None some none = cc (some)
some_none (Some k) some none = cc (none)

client_handled : (most : ℕ) (w : WorldState) → length ((w.to_client).part ++ (w.to_client).unhandled) < most
    → ((client_handles most w).to_host ≡ w.to_host) × ((client_handles most w).kept ≡ None → ((client_handles most w).to_client).unhandled ≡ [])
client_handled zero w few = absurd (omega (arith, few))
client_handled (suc most) w few = by (is_some w.kept) refl (client_handled most)
  where
    first : (o : Option (List ℕ × List ℕ)) → first_message ((w.to_client).part ++ (w.to_client).unhandled) ≡ o
        → ((x : WorldState) → length ((x.to_client).part ++ (x.to_client).unhandled) < most
        → ((client_handles most x).to_host ≡ x.to_host) × ((client_handles most x).kept ≡ None → ((client_handles most x).to_client).unhandled ≡ []))
        → (let v : WorldState = client_handles_first w (handling_by w.to_client o) (client_handles most) in (v.to_host ≡ w.to_host) × (v.kept ≡ None → (v.to_client).unhandled ≡ []))
    first None found next = (refl, λ none. refl)
    first (Some (m, rest)) found next =
        let x : WorldState = record w { to_client = (handling_by w.to_client (Some (m, rest))).0 } in
        let same = hears_ways x m in
        let less : length rest < length ((w.to_client).part ++ (w.to_client).unhandled) = fewer w.to_client m rest found in
        let shorter : length (((client_hears x m).to_client).part ++ ((client_hears x m).to_client).unhandled) ≡ length rest = ap (λ (y : WayState). length (y.part ++ y.unhandled)) same.0 in
        let after = next (client_hears x m) (omega (arith, few, less, shorter)) in
        (after.0 ∙ same.1, after.1)

    by : (b : Bool) → is_some w.kept ≡ b
        → ((x : WorldState) → length ((x.to_client).part ++ (x.to_client).unhandled) < most
        → ((client_handles most x).to_host ≡ x.to_host) × ((client_handles most x).kept ≡ None → ((client_handles most x).to_client).unhandled ≡ []))
        → (let v : WorldState = (if b then w else client_handles_first w (handling_by w.to_client (first_message ((w.to_client).part ++ (w.to_client).unhandled))) (client_handles most)) in
        (v.to_host ≡ w.to_host) × (v.kept ≡ None → (v.to_client).unhandled ≡ []))
    by true some next = (refl, λ none. absurd (some_none w.kept some none))
    by false no_job next = first (first_message ((w.to_client).part ++ (w.to_client).unhandled)) refl next

all_handled : (w : WorldState) → (w.to_host).unhandled ≡ [] → Handled (client_handles_all w)
all_handled w up =
    let few : length ((w.to_client).part ++ (w.to_client).unhandled) < most_messages w.to_client = omega (arith, length-append (w.to_client).part (w.to_client).unhandled) in
    let after = client_handled (most_messages w.to_client) w few in
    (ap (λ (y : WayState). y.unhandled) after.0 ∙ up, after.1)

tries_handled : (w : WorldState) (device : ℕ) → Handled w → Handled (tries_kept w device)
tries_handled w device h = by w.kept
  where
    by : (o : Option Kept) → Handled (tries w device o)
    by None = h
    by (Some k) = when (k.device == device)
      where
        when : (b : Bool) → Handled (if b then client_handles_all (putting (record w { kept = None }) k.device k.job) else w)
        when true =
            let x : WorldState = record w { kept = None } in
            all_handled (putting x k.device k.job) (ap (λ (o : Outside). (o.to_host).unhandled) (put_inside x k.device k.job).same ∙ h.0)
        when false = h

-- ---- applications

ended_ways : (w : WorldState) (a : ℕ) (o : Outcome) (handle : Option Handle) → ways (ends_line w a o handle) ≡ ways w
ended_ways w a o handle = by (next_asked (application_at w a))
  where
    by : (next : Option Asked) → ways (option_map_or (λ asked. with_application w a (with_outcome (application_at w a) o handle asked)) next w) ≡ ways w
    by None = refl
    by (Some asked) = refl

issued_ways : (w : WorldState) (a : ℕ) → ways (event.issues w a) ≡ ways w
issued_ways w a = by (next_asked (application_at w a))
  where
    came : (o : Op) (named : Target) (r : TableState × Result ℕ SubmitNo) → ways (comes_of_asking w a o named r) ≡ ways w
    came o named (t, Ok number) = refl
    came o named (t, Err cause) = ended_ways w a (outcome.Refused (refusal_of cause)) None

    ask : (o : Op) (t : Option Target) → ways (asks w a o t) ≡ ways w
    ask o None = ended_ways w a (outcome.Refused refusal.NoHandle) None
    ask o (Some named) = came o named (table.submit (w.side).table a named o)

    by : (next : Option Asked) → ways (issues_next w a next) ≡ ways w
    by None = refl
    by (Some asked) = ask asked.op (target_of (application_at w a) asked)

taken_ways : (w : WorldState) (a : ℕ) → ways (takes_outcome w a) ≡ ways w
taken_ways w a = by (application_at w a).awaits
  where
    from : (number : ℕ) (r : TableState × Result Taken TakeNo) → ways (takes_from w a number r) ≡ ways w
    from number (t, Err cause) = refl
    from number (t, Ok taken) = ended_ways (with_deed (with_table w t) (takes number)) a (reported_outcome taken.outcome) (given_handle taken)

    by : (o : Option ℕ) → ways (takes_awaited w a o) ≡ ways w
    by None = refl
    by (Some number) = from number (table.take (w.side).table number)

all_taken_ways : (apps : List ℕ) (w : WorldState) → ways (fold takes_outcome w apps) ≡ ways w
all_taken_ways [] w = refl
all_taken_ways (a ∷ apps) w = all_taken_ways apps (takes_outcome w a) ∙ taken_ways w a

all_take_ways : (w : WorldState) → ways (all_take w) ≡ ways w
all_take_ways w = all_taken_ways (map (λ (e : ℕ × ApplicationState). e.0) w.applications) w

-- ---- events

option_ways : {X : Type 0} (w : WorldState) (f : X → WorldState) (o : Option X) → ((x : X) → Handled (f x)) → Handled w → Handled (option_map_or f o w)
option_ways w f None some h = h
option_ways w f (Some x) some h = some x

collect_handled : (w : WorldState) (device : ℕ) → Handled w → Handled (event.collects w device)
collect_handled w device h = option_ways w (λ (s : StationState SessionDevice). collects_from w device (station.collect s)) (station_at w device) (λ s. by (station.collect s)) h
  where
    by : (r : StationState SessionDevice × Option Completion) → Handled (collects_from w device r)
    by (s, None) = h
    by (s, Some c) = tries_handled (client_sends (with_station w device s) (completes c.key (completion_message device c)) (completion_message device c)) device h

take_handled : (w : WorldState) (device hand : ℕ) → Handled w → Handled (event.takes_job w device hand)
take_handled w device hand h = option_ways w (λ (s : StationState SessionDevice). takes_job_from w device hand (station.take s)) (station_at w device) (λ s. by (station.take s)) h
  where
    by : (r : StationState SessionDevice × Given) → Handled (takes_job_from w device hand r)
    by (s, given.Job job) = h
    by (s, given.Nothing) = h
    by (s, given.Over) = h

apply_handled : (starves : Key → Bool) (w : WorldState) (hand : ℕ) → Handled w → Handled (event.applies_job starves w hand)
apply_handled starves w hand h = by (option_and_then (λ held. held) (hand_at w hand))
  where
    at : (device : ℕ) (job : Job) (o : Option (StationState SessionDevice)) → Handled (event.applies_at starves w hand device job o)
    at device job None = h
    at device job (Some s) = h

    by : (o : Option (ℕ × Job)) → Handled (event.applies_held starves w hand o)
    by None = h
    by (Some (device, job)) = at device job (station_at w device)

event_handled : (starves : Key → Bool) (w : WorldState) (e : Event) → Handled w → Handled (act starves w e)
event_handled starves w (event.issue a) h = same_ways w (event.issues w a) (issued_ways w a) h
event_handled starves w event.host_send h = option_ways w (host_sends (record w { side = side_sends w.side })) (next_message w.side) (λ m. h) h
event_handled starves w (event.client_read n) h = all_handled (record w { to_client = having_read n w.to_client }) h.0
event_handled starves w event.client_send h = by (client.client_send w.client)
  where
    by : (r : ClientCoreState × Option Outgoing) → Handled (event.client_sends_first w r)
    by (c, None) = h
    by (c, Some o) = h
event_handled starves w (event.collect device) h = collect_handled w device h
event_handled starves w (event.host_read n) h =
    let x : WorldState = record w { to_host = having_read n w.to_host } in
    let v : WorldState = host_handles (most_messages x.to_host) x in
    let few : length ((x.to_host).part ++ (x.to_host).unhandled) < most_messages x.to_host = omega (arith, length-append (x.to_host).part (x.to_host).unhandled) in
    let others = host_rest (most_messages x.to_host) x in
    same_ways v (all_take v) (all_take_ways v)
    (host_handled (most_messages x.to_host) x few, λ none. ap (λ (y : WayState). y.unhandled) others.0 ∙ h.1 (sym others.1 ∙ none))
event_handled starves w (event.take_job device hand) h = take_handled w device hand h
event_handled starves w (event.apply_job hand) h = apply_handled starves w hand h
event_handled starves w (event.remove device) h = tries_handled (event.removing w device) device (by (station_at w device))
  where
    by : (o : Option (StationState SessionDevice)) → Handled (cut_by (told_removed w device) device o)
    by None = h
    by (Some s) = h
event_handled starves w (event.add device) h = fresh (lookup (is_at (nat_cmp device)) w.printers)
  where
    told : (v : WorldState) (o : Option (StationState SessionDevice)) → Handled v → Handled (announced_by (told_added v device) device o)
    told v None own = own
    told v (Some s) own = own

    fresh : (names : Option PrinterNames) → Handled (announced_by (told_added (refreshed_by w device names) device) device (station_at (refreshed_by w device names) device))
    fresh None = told w (station_at w device) h
    fresh (Some names) = told (refreshed_by w device (Some names)) (station_at w device) h
event_handled starves w event.drop_channel h = same_ways (cutting w) (event.drops w) (all_take_ways (cutting w)) (refl, λ none. refl)
event_handled starves w event.connect h = (refl, λ none. refl)
event_handled starves w (event.tell n) h = h

-- in each world between two moves
pub handled : (lines : List NumberedLine) (starves : Key → Bool) (w : WorldState) → Reached lines starves w → Handled w
handled lines starves = by_moves lines starves Handled (begins_as lines (λ (u : Unset). IsHandled (record { down = u.to_client; up = u.to_host; back = u.kept })) (refl, λ none. refl)) step
  where
    step : (w : WorldState) (m : RunMove) → Steps lines starves w m → Handled w → Handled (after_move starves w m)
    step w (happens e) steps h = event_handled starves w e h
    step w (queues a) steps h = h
    step w (idle number) steps h = h
    step w draws steps h = h
