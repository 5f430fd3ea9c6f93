-- A job is kept back only while its station is full. A device has at most 64 requests waiting in it, so where nothing can happen by itself none is kept back.
use Rattle.std.proofs.Common.{◌≡◌, ◌∙◌, refl, sym, ap, subst, ℕ, zero, suc, ◌-◌, ◌≤◌, ◌==◌, ◌&&◌, not, Bool, true, false, cond, arith, List, [], ◌∷◌, length, map, fold, Some, None, Option, Result, Ok, Err, is_some, eqb-true}
use Rattle.std.specs.Prelude.{if◌then◌else◌, find, nat_le, nat_lt}
use Rattle.std.specs.Map.{lookup}
use Rattle.std.specs.Ordering.{nat_cmp}
use Rattle.std.specs.BTreeMap.{is_at}
use Rattle.std.specs.Option.{option_and_then, option_map_or}
use Rattle.std.proofs.lemmas.Bool.Decides.{nat_tests}
use Rattle.std.proofs.lemmas.List.{length-append, length-map}
use Rattle.rd_base.specs.declared.journal.Key.{Key}
use Rattle.rd_client.specs.Core as client
use Rattle.rd_client.specs.Core.{ClientCoreState, Outgoing, client_hear, listed}
use Rattle.rd_client.specs.declared.heard.Heard.{Heard}
use Rattle.rd_client.specs.declared.heard.Heard.TheVariants.{Nothing, Ask, Print}
use Rattle.rd_devices.specs.declared.list.Announce.{Announce}
use Rattle.rd_drive.specs.Answered.{parked_of}
use Rattle.rd_drive.specs.Device.{Parked, is_parked}
use Rattle.rd_drive.specs.declared.plan.Job.{Job}
use Rattle.rd_drive.specs.Replies.{cancellation}
use Rattle.rd_drive.specs.Stepped.{Stepped}
use Rattle.rd_hello.specs.declared.client.ClientState.{ClientState}
use Rattle.rd_hello.specs.declared.end_fault.EndFault.{EndFault}
use Rattle.rd_irp.specs.Fits.{kind_of}
use Rattle.rd_irp.specs.declared.op.Op.{Op}
use Rattle.rd_irp.specs.declared.op.Op.TheVariants as op
use Rattle.rd_answered.proofs.JournalsDeclaredLemmas.{bounded_fit}
use Rattle.rd_answered.proofs.JournalsDeviceLemmas.{comes}
use Rattle.rd_answered.proofs.JournalsHeldLemmas.{has_elsewhere, has_here}
use Rattle.rd_answered.proofs.JournalsRunLemmas.{not_opened, reached_orderly}
use Rattle.rd_answered.specs.JournalsOrderly.{Orderly}
use Rattle.rd_answered.specs.JournalsStations.{IsFit, IsOn}
use Rattle.rd_pending.specs.declared.calls.SubmitNo.{SubmitNo}
use Rattle.rd_pending.specs.declared.calls.Taken.{Taken}
use Rattle.rd_pending.specs.declared.calls.TakeNo.{TakeNo}
use Rattle.rd_pending.specs.declared.calls.Handle.{Handle}
use Rattle.rd_pending.specs.declared.calls.Target.{Target}
use Rattle.rd_pending.specs.Table as table
use Rattle.rd_pending.specs.Table.{TableState}
use Rattle.rd_rest.proofs.RestLemmas.{rest_at}
use Rattle.rd_answered.proofs.RunsBeginningLemmas.{Unset, begins_as}
use Rattle.rd_answered.proofs.RunsParts.{announced_by, cut_by, refreshed_by, told_added, told_removed}
use Rattle.rd_answered.proofs.RunsReaching.{Steps, by_moves}
use Rattle.rd_answered.specs.RunsMoves.{RunMove, Reached, after_move, draws, happens, idle, queues}
use Rattle.rd_answered.specs.RunsPremises.{RunPremises}
use Rattle.rd_script.specs.declared.line.NumberedLine.{NumberedLine}
use Rattle.rd_script.specs.declared.outcome.Outcome.{Outcome}
use Rattle.rd_script.specs.declared.outcome.Outcome.TheVariants as outcome
use Rattle.rd_script.specs.declared.outcome.Refusal.TheVariants as refusal
use Rattle.rd_station.proofs.Calls.{reached_keeps}
use Rattle.rd_station.proofs.Holding.{size_held}
use Rattle.rd_station.proofs.Keeping.{Keeps, as_many, one_less}
use Rattle.rd_station.proofs.Members.{find_has, same_key}
use Rattle.rd_station.specs.Station as station
use Rattle.rd_station.specs.Station.{StationState, announce, apply_from, cancelled_in_hand, completion_of, entry_count, held, is_key, max_entries, max_held, put_refusal, put_unless, ran, take_first}
use Rattle.rd_station.specs.Tied.{as_parked}
use Rattle.rd_station.specs.declared.answers.Applied.{Applied}
use Rattle.rd_station.specs.declared.answers.Applied.TheVariants as applied
use Rattle.rd_station.specs.declared.answers.Completion.{Completion}
use Rattle.rd_station.specs.declared.answers.Given.{Given}
use Rattle.rd_station.specs.declared.answers.Given.TheVariants as given
use Rattle.rd_station.specs.declared.held.InHand.{InHand}
use Rattle.rd_station.specs.declared.refusals.AnnounceNo.{AnnounceNo}
use Rattle.rd_station.specs.declared.refusals.AnnounceNo.TheVariants as no
use Rattle.rd_station.specs.declared.refusals.PutWhy.{PutWhy}
use Rattle.rd_station.specs.declared.refusals.PutWhy.TheVariants as why
use Rattle.rd_declared.specs.declared.device.SessionDevice.{SessionDevice}
use Rattle.rd_declared.specs.declared.device.SessionDevice.TheVariants as session
use Rattle.rd_declared.specs.Devices.{PrinterNames, device_cut, device_cuts, device_parked, device_runs}
use Rattle.rd_world.specs.Events as event
use Rattle.rd_world.specs.Events.{Event, act, asks, came_of, collects_from, comes_of_asking, completion_message, cutting, hand_at, is_close, is_enabled, issues_next, refreshing, refusal_of, takes_job_from, target_of}
use Rattle.rd_world.specs.Hearing.{all_take, announcing, client_handles, client_handles_all, client_handles_first, client_hears, ends_line, given_handle, heard_by_client, host_handles, host_handles_first, host_hears, next_asked, put_at, put_by, putting, refused_put, reported_outcome, takes_awaited, takes_from, takes_outcome, tries, tries_kept, with_client, with_outcome}
use Rattle.rd_deeds.specs.Host.{next_message, side_sends}
use Rattle.rd_world.specs.Run.{choices, world_of}
use Rattle.rd_deeds.specs.Talk.{Has, client_reads, completes, takes}
use Rattle.rd_world.specs.World.{ApplicationState, Asked, Kept, WayState, WorldState, application_at, client_sends, handling, having_read, host_sends, most_messages, station_at, with_application, with_deed, with_station, with_table}

abbrev Of : Type 0
Of = StationState SessionDevice

-- ---- a station

-- a run leaves as many held
applied_size : (starves : Key → Bool) (w : WorldState) (c : ℕ) (s : Of) (job : Job) → IsOn c s → length (held (station.apply s job w.moment (came_of starves w job s.device)).0) ≡ length (held s)
applied_size starves w c s job on = by (find (λ (t : InHand). is_key t.key job.key) s.taken) refl
  where
    came : Stepped SessionDevice
    came = came_of starves w job s.device

    spared : (b : Bool) (o : Op) → o ≡ op.Close → (b && not (is_close o)) ≡ false
    spared true o e = ap (λ (x : Op). not (is_close x)) e
    spared false o e = refl

    keeps : (n : ℕ) × Keeps device_parked n s
    keeps = reached_keeps device_runs device_parked device_cuts s on.sound.reached

    hand : (t : InHand) → Has t s.taken → t.key ≡ job.key → (b : Bool) → t.removed ≡ b
        → length (held (cond {A = Of × Applied} b (cancelled_in_hand s t (kind_of job.op), applied.Cancelled) (ran s t (kind_of job.op) w.moment came, cond (is_parked came.answer) applied.Parked applied.Ran)).0) ≡ length (held s)
    hand t has same true removed =
        let new : Of = cancelled_in_hand s t (kind_of job.op) in
        let one = one_less device_parked keeps.0 s keeps.1 t has in
        omega (arith, size_held new, size_held s, one, length-append s.ready (completion_of t.key t.completion (kind_of job.op) cancellation ∷ []))
    hand t has same false removed =
        let new : Of = ran s t (kind_of job.op) w.moment came in
        let one = one_less device_parked keeps.0 s keeps.1 t has in
        let is = comes s.device job w.moment (starves job.key && not (is_close job.op)) on.fit (spared (starves job.key) job.op) in
        let many = as_many device_parked keeps.0 s keeps.1 t has removed job same w.moment came is.answers is.parks in
        omega (arith, size_held new, size_held s, one, many)

    by : (o : Option InHand) → find (λ (t : InHand). is_key t.key job.key) s.taken ≡ o → length (held (apply_from s job w.moment came o).0) ≡ length (held s)
    by None e = refl
    by (Some t) e = let at = find_has (λ (u : InHand). is_key u.key job.key) t s.taken e in hand t at.0 (same_key t.key job.key at.1) t.removed refl

took_size : (s after : Of) (job : Job) → station.take s ≡ (after, given.Job job) → length (held after) ≡ length (held s)
took_size s after job made = by s.ended s.waiting refl made
  where
    by : (b : Bool) (jobs : List Job) → s.waiting ≡ jobs → cond {A = Of × Given} b (s, given.Over) (take_first s jobs) ≡ (after, given.Job job) → length (held after) ≡ length (held s)
    by true jobs e made = let over : given.Over ≡ given.Job job = ap (λ (r : Of × Given). r.1) made in absurd (cc (over))
    by false [] e made = let nothing : given.Nothing ≡ given.Job job = ap (λ (r : Of × Given). r.1) made in absurd (cc (nothing))
    by false (j ∷ jobs) e made =
        let last : InHand = record { key = j.key; completion = j.completion; removed = false } in
        let new : Of = (take_first s (j ∷ jobs)).0 in
        let same : length (held new) ≡ length (held after) = ap (λ (r : Of × Given). length (held r.0)) made in
        let waits : length s.waiting ≡ suc (length jobs) = ap (length {A = Job}) e in
        omega (arith, same, size_held new, size_held s, waits, length-append s.taken (last ∷ []))

announced_size : (s : Of) → length (held (announce s).0) ≡ length (held s)
announced_size s = by s.live (nat_le max_entries (entry_count s))
  where
    by : (a b : Bool) → length (held (cond {A = Of × Result (Unit {0}) AnnounceNo} a (s, Err no.Live) (cond b (s, Err (no.Worn (entry_count s))) (record s { live = true }, Ok tt))).0) ≡ length (held s)
    by true b = refl
    by false true = refl
    by false false = refl

-- a job that a full station refuses
full_cause : (s : Of) (job : Job) (n : ℕ) → put_refusal s job ≡ Some (why.Full n) → max_held ≤ length (held s)
full_cause s job n e = go s.live (find (λ (other : Key × ℕ). other.1 == job.completion) (held s)) (nat_le max_held (length (held s))) refl (nat_lt (max_entries - 3) (entry_count s)) e
  where
    go : (a : Bool) (found : Option (Key × ℕ)) (b : Bool) → nat_le max_held (length (held s)) ≡ b → (d : Bool)
        → cond (not a) (Some why.Gone) (option_map_or (λ (other : Key × ℕ). Some (why.Duplicate other.0)) found (cond b (Some (why.Full (length (held s)))) (cond d (Some (why.Worn (entry_count s))) None))) ≡ Some (why.Full n)
        → max_held ≤ length (held s)
    go false found b is d e = absurd (cc e)
    go true (Some x) b is d e = absurd (cc e)
    go true None true is d e = grind (arith, nat_tests, is)
    go true None false is true e = absurd (cc e)
    go true None false is false e = absurd (cc e)

-- ---- the invariant

record IsFullAt (stations : List (ℕ × Of)) (k : Kept) : Type 0 where
  full : Of
  there : lookup (is_at (nat_cmp k.device)) stations ≡ Some full
  many : max_held ≤ length (held full)

abbrev Full : WorldState → Type 0
Full w = (k : Kept) → w.kept ≡ Some k → IsFullAt w.stations k

no_job : {X : Type 0} {o : Option Kept} {k : Kept} → o ≡ None → o ≡ Some k → X
no_job none some = absurd (cc (none, some))

none_kept : (w : WorldState) → w.kept ≡ None → Full w
none_kept w none k some = no_job none some

-- what the invariant speaks of
record Back : Type 0 where
  kept : Option Kept
  stations : List (ℕ × Of)

abbrev back : WorldState → Back
back w = record { kept = w.kept; stations = w.stations }

same_full : (w v : WorldState) → back v ≡ back w → Full w → Full v
same_full w v same is k some =
    let f = is k (sym (ap (λ (b : Back). b.kept) same) ∙ some) in
    record { full = f.full; there = ap (λ (b : Back). lookup (is_at (nat_cmp k.device)) b.stations) same ∙ f.there; many = f.many }

station_full : (w : WorldState) (d : ℕ) (s new : Of) → station_at w d ≡ Some s → length (held s) ≤ length (held new) → Full w → Full (with_station w d new)
station_full w d s new there more is k some = by (k.device == d) refl
  where
    f : IsFullAt w.stations k
    f = is k some

    by : (b : Bool) → (k.device == d) ≡ b → IsFullAt (with_station w d new).stations k
    by true e =
        let same : k.device ≡ d = eqb-true k.device d e in
        let found : station_at w d ≡ Some f.full = subst (λ (n : ℕ). station_at w n ≡ Some f.full) same f.there in
        let both : Some s ≡ Some f.full = sym there ∙ found in
        let one : s ≡ f.full = cc in
        record {
          full = new;
          there = subst (λ (n : ℕ). station_at (with_station w d new) n ≡ Some new) (sym same) (has_here w.stations d new);
          many = let size : length (held s) ≡ length (held f.full) = ap (λ (x : Of). length (held x)) one in omega (arith, f.many, size, more);
        }
    by false e = record { full = f.full; there = has_elsewhere w.stations d new k.device e ∙ f.there; many = f.many }

-- ---- a job comes

put_full : (w : WorldState) (d : ℕ) (job : Job) → w.kept ≡ None → Full (putting w d job)
put_full w d job none = at (station_at w d) refl
  where
    refused : (s : Of) → station_at w d ≡ Some s → (cause : PutWhy) → put_refusal s job ≡ Some cause → Full (refused_put w d job cause)
    refused s there (why.Full n) e = λ k some.
        let own : record { device = d; job = job } ≡ k = cc some in
        subst (IsFullAt w.stations) own (record { full = s; there = there; many = full_cause s job n e })
    refused s there why.Gone e = λ k some. no_job none some
    refused s there (why.Worn n) e = λ k some. no_job none some
    refused s there (why.Duplicate key) e = λ k some. no_job none some
    refused s there why.Memory e = λ k some. no_job none some

    by : (s : Of) → station_at w d ≡ Some s → (o : Option PutWhy) → put_refusal s job ≡ o → Full (put_by w d job (put_unless s job o))
    by s there None e = λ k some. no_job none some
    by s there (Some cause) e = refused s there cause e

    at : (o : Option Of) → station_at w d ≡ o → Full (put_at w d job o)
    at None there = λ k some. no_job none some
    at (Some s) there = by s there (put_refusal s job) refl

-- ---- what a client hears

announced_kept : (devices : List Announce) (w : WorldState) → (fold (λ x (a : Announce). announcing x a.id) w devices).kept ≡ w.kept
announced_kept [] w = refl
announced_kept (a ∷ devices) w = announced_kept devices (announcing w a.id) ∙ by (station_at w a.id)
  where
    by : (o : Option Of) → (announced_by w a.id o).kept ≡ w.kept
    by None = refl
    by (Some s) = refl

hears_full : (w : WorldState) (m : List ℕ) → w.kept ≡ None → Full (client_hears w m)
hears_full w m none =
    let heard = client_hear w.client m in
    heard_full ((w.client).core).shake (with_deed (with_client w heard.0) (client_reads w.channels m)) none heard.1
  where
    opened : (shake : ClientState) (x : WorldState) → x.kept ≡ None → (b : Bool) → Full (if b then fold (λ y (a : Announce). announcing y a.id) x (listed x.client) else x)
    opened shake x none true = λ k some. no_job (announced_kept (listed x.client) x ∙ none) some
    opened shake x none false = none_kept x none

    heard_full : (shake : ClientState) (x : WorldState) → x.kept ≡ None → (r : Result Heard EndFault) → Full (heard_by_client shake x r)
    heard_full shake x none (Err fault) = none_kept x none
    heard_full shake x none (Ok Nothing) = opened shake x none (client.becomes_ready shake ((x.client).core).shake)
    heard_full shake x none (Ok (Ask d job)) = put_full x d job none
    heard_full shake x none (Ok (Print n)) = λ k some. no_job none some

is_none_of : (o : Option Kept) → is_some o ≡ false → o ≡ None
is_none_of None e = refl
is_none_of (Some k) e = absurd (cc e)

handles_full : (most : ℕ) (w : WorldState) → Full w → Full (client_handles most w)
handles_full zero w is = is
handles_full (suc most) w is = by (is_some w.kept) refl (handles_full most)
  where
    first : w.kept ≡ None → (r : WayState × Option (List ℕ)) → ((x : WorldState) → Full x → Full (client_handles most x)) → Full (client_handles_first w r (client_handles most))
    first none (y, None) next = λ k some. no_job none some
    first none (y, Some m) next = next (client_hears (record w { to_client = y }) m) (hears_full (record w { to_client = y }) m none)

    by : (b : Bool) → is_some w.kept ≡ b → ((x : WorldState) → Full x → Full (client_handles most x)) → Full (if b then w else client_handles_first w (handling w.to_client) (client_handles most))
    by true e next = is
    by false e next = first (is_none_of w.kept e) (handling w.to_client) next

-- a job of the device that is kept back is tried again, and one of another is kept back still
tries_full : (w : WorldState) (d : ℕ) → ((k : Kept) → w.kept ≡ Some k → (k.device == d) ≡ false → IsFullAt w.stations k) → Full (tries_kept w d)
tries_full w d is = by w.kept refl
  where
    by : (o : Option Kept) → w.kept ≡ o → Full (tries w d o)
    by None e = none_kept w e
    by (Some k) e = when (k.device == d) refl
      where
        when : (b : Bool) → (k.device == d) ≡ b → Full (if b then client_handles_all (putting (record w { kept = None }) k.device k.job) else w)
        when true at =
            let x : WorldState = putting (record w { kept = None }) k.device k.job in handles_full (most_messages x.to_client) x (put_full (record w { kept = None }) k.device k.job refl)
        when false at = λ l some. let both : Some k ≡ Some l = sym e ∙ some in let same : k ≡ l = cc in subst (IsFullAt w.stations) same (is k e at)

-- ---- applications

ended_back : (w : WorldState) (a : ℕ) (o : Outcome) (handle : Option Handle) → back (ends_line w a o handle) ≡ back w
ended_back w a o handle = by (next_asked (application_at w a))
  where
    by : (next : Option Asked) → back (option_map_or (λ asked. with_application w a (with_outcome (application_at w a) o handle asked)) next w) ≡ back w
    by None = refl
    by (Some asked) = refl

issued_back : (w : WorldState) (a : ℕ) → back (event.issues w a) ≡ back w
issued_back w a = by (next_asked (application_at w a))
  where
    came : (o : Op) (named : Target) (r : TableState × Result ℕ SubmitNo) → back (comes_of_asking w a o named r) ≡ back w
    came o named (t, Ok number) = refl
    came o named (t, Err cause) = ended_back w a (outcome.Refused (refusal_of cause)) None

    ask : (o : Op) (t : Option Target) → back (asks w a o t) ≡ back w
    ask o None = ended_back w a (outcome.Refused refusal.NoHandle) None
    ask o (Some named) = came o named (table.submit (w.side).table a named o)

    by : (next : Option Asked) → back (issues_next w a next) ≡ back w
    by None = refl
    by (Some asked) = ask asked.op (target_of (application_at w a) asked)

taken_back : (w : WorldState) (a : ℕ) → back (takes_outcome w a) ≡ back w
taken_back w a = by (application_at w a).awaits
  where
    from : (number : ℕ) (r : TableState × Result Taken TakeNo) → back (takes_from w a number r) ≡ back w
    from number (t, Err cause) = refl
    from number (t, Ok got) = ended_back (with_deed (with_table w t) (takes number)) a (reported_outcome got.outcome) (given_handle got)

    by : (o : Option ℕ) → back (takes_awaited w a o) ≡ back w
    by None = refl
    by (Some number) = from number (table.take (w.side).table number)

all_taken_back : (apps : List ℕ) (w : WorldState) → back (fold takes_outcome w apps) ≡ back w
all_taken_back [] w = refl
all_taken_back (a ∷ apps) w = all_taken_back apps (takes_outcome w a) ∙ taken_back w a

all_take_back : (w : WorldState) → back (all_take w) ≡ back w
all_take_back w = all_taken_back (map (λ (e : ℕ × ApplicationState). e.0) w.applications) w

host_back : (most : ℕ) (w : WorldState) → back (host_handles most w) ≡ back w
host_back zero w = refl
host_back (suc most) w = by (handling w.to_host) (host_back most)
  where
    by : (r : WayState × Option (List ℕ)) → ((x : WorldState) → back (host_handles most x) ≡ back x) → back (host_handles_first w r (host_handles most)) ≡ back w
    by (y, None) next = refl
    by (y, Some m) next = next (host_hears (record w { to_host = y }) m)

-- ---- events

option_full : {X : Type 0} (w : WorldState) (f : X → WorldState) (o : Option X) → ((x : X) → o ≡ Some x → Full (f x)) → Full w → Full (option_map_or f o w)
option_full w f None some is = is
option_full w f (Some x) some is = some x refl

refreshed_kept : (devices : List ℕ) (w : WorldState) → (fold refreshing w devices).kept ≡ w.kept
refreshed_kept [] w = refl
refreshed_kept (d ∷ devices) w = refreshed_kept devices (refreshing w d) ∙ by (lookup (is_at (nat_cmp d)) w.printers)
  where
    by : (o : Option PrinterNames) → (refreshed_by w d o).kept ≡ w.kept
    by None = refl
    by (Some names) = refl

event_full : (starves : Key → Bool) (w : WorldState) (e : Event) → Orderly w → is_enabled w e ≡ true → Full w → Full (act starves w e)
event_full starves w (event.issue a) ordered can is = same_full w (event.issues w a) (issued_back w a) is
event_full starves w event.host_send ordered can is = option_full w (host_sends (record w { side = side_sends w.side })) (next_message w.side) (λ m e. is) is
event_full starves w (event.client_read n) ordered can is = let x : WorldState = record w { to_client = having_read n w.to_client } in handles_full (most_messages x.to_client) x is
event_full starves w event.client_send ordered can is = by (client.client_send w.client)
  where
    by : (r : ClientCoreState × Option Outgoing) → Full (event.client_sends_first w r)
    by (c, None) = is
    by (c, Some o) = is
event_full starves w (event.collect d) ordered can is = at (station_at w d) refl
  where
    from : (r : Of × Option Completion) → Full (collects_from w d r)
    from (after, None) = is
    from (after, Some c) =
        let x : WorldState = client_sends (with_station w d after) (completes c.key (completion_message d c)) (completion_message d c) in
        tries_full x d (λ k some apart. let f = is k some in record { full = f.full; there = has_elsewhere w.stations d after k.device apart ∙ f.there; many = f.many })

    at : (o : Option Of) → station_at w d ≡ o → Full (option_map_or (λ (s : Of). collects_from w d (station.collect s)) o w)
    at None there = is
    at (Some s) there = from (station.collect s)
event_full starves w (event.host_read n) ordered can is =
    let x : WorldState = record w { to_host = having_read n w.to_host } in
    let v : WorldState = host_handles (most_messages x.to_host) x in
    same_full w (all_take v) (all_take_back v ∙ host_back (most_messages x.to_host) x) is
event_full starves w (event.take_job d hand) ordered can is = at (station_at w d) refl
  where
    from : (s : Of) → station_at w d ≡ Some s → (r : Of × Given) → station.take s ≡ r → Full (takes_job_from w d hand r)
    from s there (after, given.Job job) made = station_full w d s after there (let same = took_size s after job made in omega (arith, same)) is
    from s there (after, given.Nothing) made = is
    from s there (after, given.Over) made = is

    at : (o : Option Of) → station_at w d ≡ o → Full (option_map_or (λ (s : Of). takes_job_from w d hand (station.take s)) o w)
    at None there = is
    at (Some s) there = from s there (station.take s) refl
event_full starves w (event.apply_job hand) ordered can is = by (option_and_then (λ held. held) (hand_at w hand))
  where
    at : (d : ℕ) (job : Job) (o : Option Of) → station_at w d ≡ o → Full (event.applies_at starves w hand d job o)
    at d job None there = is
    at d job (Some s) there =
        let new : Of = (station.apply s job w.moment (came_of starves w job s.device)).0 in
        station_full w d s new there (let same = applied_size starves w _ s job ((ordered.held).on d s there) in omega (arith, same)) is

    by : (o : Option (ℕ × Job)) → Full (event.applies_held starves w hand o)
    by None = is
    by (Some (d, job)) = at d job (station_at w d) refl
event_full starves w (event.remove d) ordered can is = tries_full (event.removing w d) d (λ k some apart. at (station_at w d) k some apart)
  where
    at : (o : Option Of) (k : Kept) → (cut_by (told_removed w d) d o).kept ≡ Some k → (k.device == d) ≡ false → IsFullAt (cut_by (told_removed w d) d o).stations k
    at None k some apart = is k some
    at (Some s) k some apart =
        let f = is k some in record { full = f.full; there = has_elsewhere w.stations d (station.remove s (device_cut s.device).state).0 k.device apart ∙ f.there; many = f.many }
event_full starves w (event.add d) ordered can is = fresh (lookup (is_at (nat_cmp d)) w.printers)
  where
    told : (v : WorldState) → Full v → (o : Option Of) → station_at v d ≡ o → Full (announced_by (told_added v d) d o)
    told v own None there = own
    told v own (Some s) there = station_full (told_added v d) d s (announce s).0 there (let same = announced_size s in omega (arith, same)) own

    fresh : (names : Option PrinterNames) → Full (announced_by (told_added (refreshed_by w d names) d) d (station_at (refreshed_by w d names) d))
    fresh None = told w is (station_at w d) refl
    fresh (Some names) = told (refreshed_by w d (Some names)) is (station_at w d) refl
event_full starves w event.drop_channel ordered can is = none_kept (event.drops w) (ap (λ (b : Back). b.kept) (all_take_back (cutting w)))
event_full starves w event.connect ordered can is =
    none_kept (event.connects w) (refreshed_kept (map (λ (e : ℕ × PrinterNames). e.0) w.printers) w ∙ (ordered.shut (not_opened ((w.side).table).channel can)).kept_none)
event_full starves w (event.tell n) ordered can is = is

-- ---- each world between two moves

few_in : (s : SessionDevice) → IsFit s → length (device_parked s) ≤ 64
few_in (session.Drive s) fit = subst (λ n. n ≤ 64) (sym (length-map s.waiting parked_of)) fit.few
few_in (session.Printer s) fit = omega arith

module _ (lines : List NumberedLine) (starves : Key → Bool) (premises : RunPremises lines) where
  full_move : (w : WorldState) (m : RunMove) → Steps lines starves w m → Full w → Full (after_move starves w m)
  full_move w (happens e) steps is = event_full starves w e (reached_orderly lines starves w (bounded_fit lines premises.bounded) steps.0) steps.2.1 is
  full_move w (queues a) steps is = is
  full_move w (idle number) steps is = is
  full_move w draws steps is = is

  reached_full : (w : WorldState) → Reached lines starves w → Full w
  reached_full w reached = by_moves lines starves Full (none_kept (world_of lines) (begins_as lines (λ (u : Unset). u.kept ≡ None) refl)) full_move w reached

  -- where nothing can happen by itself no job is kept back
  pub none_kept_back : (w : WorldState) → Reached lines starves w → choices w ≡ [] → w.kept ≡ None
  none_kept_back w reached none = by w.kept refl
    where
      by : (o : Option Kept) → w.kept ≡ o → o ≡ None
      by None e = refl
      by (Some k) e =
          let f = reached_full w reached k e in
          let s : Of = f.full in
          let rest = rest_at lines starves premises w reached none k.device s f.there in
          let on = ((reached_orderly lines starves w (bounded_fit lines premises.bounded) reached).held).on k.device s f.there in
          let keeps = (reached_keeps device_runs device_parked device_cuts s on.sound.reached).1 in
          let parked : length s.parked ≡ length (device_parked s.device) = sym (length-map s.parked as_parked) ∙ ap (length {A = Parked}) keeps.parked in
          let waiting : length s.waiting ≡ 0 = ap (length {A = Job}) rest.waiting in
          let taken : length s.taken ≡ 0 = ap (length {A = InHand}) rest.taken in
          let ready : length s.ready ≡ 0 = ap (length {A = Completion}) rest.ready in
          absurd (omega (arith, f.many, size_held s, parked, waiting, taken, ready, few_in s.device on.fit))
