-- Journals only become longer and devices keep their ids, whatever happens in a session whose ids rise.
use Rattle.std.proofs.Common.{◌≡◌, ℕ, zero, suc, sym, ◌∙◌, ap, subst, refl, ◌++◌, ◌∷◌, [], List, map, Bool, Some, None, Option, Ok, Err, Result, true, false, cond, append-nil, append_assoc}
use Rattle.std.specs.Prelude.{find, fold, if◌then◌else◌, is_some, nat_le, not, ◌==◌}
use Rattle.std.specs.List.Sorted.{IsStrictlySortedBy}
use Rattle.std.specs.Map.{keys_of, lookup, set_value}
use Rattle.std.specs.Ordering.{nat_cmp}
use Rattle.std.specs.BTreeMap.{is_at}
use Rattle.std.specs.Option.{IsSome, option_and_then, option_map_or}
use Rattle.rd_base.specs.declared.journal.Cause.TheVariants.{Removed, Dropped}
use Rattle.rd_base.specs.declared.journal.Item.{Item}
use Rattle.rd_base.specs.declared.journal.Item.TheVariants.{Came, Ran, Cancelled, Sent, Cut}
use Rattle.rd_base.specs.declared.journal.Key.{Key}
use Rattle.rd_client.specs.Core as client
use Rattle.rd_client.specs.Core.{ClientCoreState, Outgoing, client_hear, listed}
use Rattle.rd_client.specs.declared.heard.Heard.{Heard}
use Rattle.rd_client.specs.declared.heard.Heard.TheVariants as heard
use Rattle.rd_devices.specs.declared.list.Announce.{Announce}
use Rattle.rd_drive.specs.declared.plan.Job.{Job}
use Rattle.rd_drive.specs.Device.{is_parked, is_starved}
use Rattle.rd_drive.specs.Stepped.{Stepped}
use Rattle.rd_hello.specs.declared.client.ClientState.{ClientState}
use Rattle.rd_hello.specs.declared.end_fault.EndFault.{EndFault}
use Rattle.rd_irp.specs.declared.op.Op.{Op}
use Rattle.rd_irp.specs.Fits.{kind_of}
use Rattle.rd_pending.specs.declared.calls.Handle.{Handle}
use Rattle.rd_pending.specs.declared.calls.SubmitNo.{SubmitNo}
use Rattle.rd_pending.specs.declared.calls.Taken.{Taken}
use Rattle.rd_pending.specs.declared.calls.TakeNo.{TakeNo}
use Rattle.rd_pending.specs.declared.calls.Target.{Target}
use Rattle.rd_pending.specs.Table as table
use Rattle.rd_pending.specs.Table.{TableState}
use Rattle.rd_script.specs.declared.outcome.Outcome.{Outcome}
use Rattle.rd_script.specs.declared.outcome.Outcome.TheVariants as outcome
use Rattle.rd_script.specs.declared.outcome.Refusal.TheVariants as refusal
use Rattle.rd_station.specs.declared.answers.Applied.{Applied}
use Rattle.rd_station.specs.declared.answers.Applied.TheVariants as applied
use Rattle.rd_station.specs.declared.answers.Completion.{Completion}
use Rattle.rd_station.specs.declared.answers.Given.{Given}
use Rattle.rd_station.specs.declared.answers.Given.TheVariants as given
use Rattle.rd_station.specs.declared.held.InHand.{InHand}
use Rattle.rd_station.specs.declared.refusals.AnnounceNo.{AnnounceNo}
use Rattle.rd_station.specs.declared.refusals.AnnounceNo.TheVariants as refused
use Rattle.rd_station.specs.declared.refusals.PutWhy.{PutWhy}
use Rattle.rd_station.specs.declared.refusals.PutWhy.TheVariants as why
use Rattle.rd_station.specs.Station as station
use Rattle.rd_station.specs.Station.{StationState, apply_from, cancelled_in_hand, cancelled_parked, cancelled_waiting, collect_first, emptied, entry_count, is_key, marked_removed, max_entries, put_refusal, put_unless, ran, take_first}
use Rattle.rd_declared.specs.declared.device.SessionDevice.{SessionDevice}
use Rattle.rd_declared.specs.Devices.{PrinterNames, device_cut, printer_data}
use Rattle.rd_world.specs.Events as event
use Rattle.rd_world.specs.Events.{Event, act, adds_device, applies_at, applies_held, applies_job, asks, came_of, client_sends_first, collects_from, comes_of_asking, completion_message, connects, cutting, dropping, drops, hand_at, host_sends_next, is_channel_open, is_enabled, issues, issues_next, refreshing, refusal_of, removes_device, removing, takes_job, takes_job_from, target_of}
use Rattle.rd_world.specs.Hearing.{after_opening, all_take, announcing, client_handles, client_handles_all, client_handles_first, client_hears, ends_line, given_handle, heard_by_client, host_handles, host_handles_all, host_handles_first, host_hears, next_asked, put_at, put_by, putting, refused_put, reported_outcome, takes_awaited, takes_from, takes_outcome, tries, tries_kept, with_client, with_outcome}
use Rattle.rd_deeds.specs.Host.{next_message, side_sends}
use Rattle.rd_declared.specs.Marks.{AreLonger}
use Rattle.rd_world.specs.Keys.{station_journals}
use Rattle.rd_deeds.specs.Talk as deed
use Rattle.rd_world.specs.World.{ApplicationState, Asked, Kept, WayState, WorldState, application_at, client_sends, handling, having_read, host_sends, journals_in, most_messages, station_at, with_application, with_deed, with_station, with_table}
use Rattle.rd_world.proofs.ApplicationsLemmas.{put_same}

-- ---- longer journals

pub longer_self : (js : List (ℕ × List Item)) → AreLonger js js
longer_self [] = tt
longer_self (j ∷ js) = ((refl, ([], sym (append-nil j.1))), longer_self js)

pub longer_trans : (js ks ls : List (ℕ × List Item)) → AreLonger js ks → AreLonger ks ls → AreLonger js ls
longer_trans [] [] ls jk kl = kl
longer_trans [] (k ∷ ks) ls jk kl = absurd jk
longer_trans (j ∷ js) [] ls jk kl = absurd jk
longer_trans (j ∷ js) (k ∷ ks) [] jk kl = absurd kl
longer_trans (j ∷ js) (k ∷ ks) (l ∷ ls) jk kl =
    let (more, first) = (jk.0).1 in
    let (yet_more, second) = (kl.0).1 in (
      ((kl.0).0 ∙ (jk.0).0, (more ++ yet_more, second ∙ ap (λ (items : List Item). items ++ yet_more) first ∙ append_assoc j.1 more yet_more)),
      longer_trans js ks ls jk.1 kl.1,
    )

-- the devices are the same
longer_keys : (old new : List (ℕ × StationState SessionDevice)) → AreLonger (station_journals old) (station_journals new) → keys_of new ≡ keys_of old
longer_keys [] [] longer = refl
longer_keys [] (f ∷ new) longer = absurd longer
longer_keys (e ∷ old) [] longer = absurd longer
longer_keys (e ∷ old) (f ∷ new) longer = ap (λ (k : ℕ). k ∷ keys_of new) (longer.0).0 ∙ ap (λ (ks : List ℕ). e.0 ∷ ks) (longer_keys old new longer.1)

-- ---- a station's calls

-- the journal of the second is that of the first, with more at its end
abbrev Lengthens : StationState SessionDevice → StationState SessionDevice → Type 0
Lengthens s t = (more : List Item) × (t.journal ≡ s.journal ++ more)

as_it_was : (s : StationState SessionDevice) → Lengthens s s
as_it_was s = ([], sym (append-nil s.journal))

announce_lengthens : (s : StationState SessionDevice) → Lengthens s (station.announce s).0
announce_lengthens s = by s.live (nat_le max_entries (entry_count s))
  where
    by : (live worn : Bool)
        → Lengthens s (cond {A = StationState SessionDevice × Result (Unit {0}) AnnounceNo} live (s, Err refused.Live)
        (cond worn (s, Err (refused.Worn (entry_count s))) (record s { live = true }, Ok tt))).0
    by true worn = as_it_was s
    by false true = as_it_was s
    by false false = as_it_was s

put_lengthens : (s : StationState SessionDevice) (job : Job) → Lengthens s (station.put s job).0
put_lengthens s job = by (put_refusal s job)
  where
    by : (o : Option PutWhy) → Lengthens s (put_unless s job o).0
    by None = (Came job.key ∷ [], refl)
    by (Some cause) = as_it_was s

take_lengthens : (s : StationState SessionDevice) → Lengthens s (station.take s).0
take_lengthens s = by s.ended s.waiting
  where
    by : (ended : Bool) (jobs : List Job) → Lengthens s (cond {A = StationState SessionDevice × Given} ended (s, given.Over) (take_first s jobs)).0
    by true jobs = as_it_was s
    by false [] = as_it_was s
    by false (job ∷ jobs) = as_it_was s

apply_lengthens : (s : StationState SessionDevice) (job : Job) (moment : ℕ) (came : Stepped SessionDevice) → Lengthens s (station.apply s job moment came).0
apply_lengthens s job moment came = by (find (λ (t : InHand). is_key t.key job.key) s.taken)
  where
    by : (o : Option InHand) → Lengthens s (apply_from s job moment came o).0
    by None = as_it_was s
    by (Some t) = hand t.removed
      where
        hand : (removed : Bool)
            → Lengthens s (cond {A = StationState SessionDevice × Applied} removed (cancelled_in_hand s t (kind_of job.op), applied.Cancelled)
            (ran s t (kind_of job.op) moment came, cond (is_parked came.answer) applied.Parked applied.Ran)).0
        hand true = (Cancelled t.key ∷ [], refl)
        hand false = (Ran t.key moment (is_starved came.answer) (is_parked came.answer) ∷ [], refl)

collect_lengthens : (s : StationState SessionDevice) → Lengthens s (station.collect s).0
collect_lengthens s = by s.ready
  where
    by : (cs : List Completion) → Lengthens s (collect_first s cs).0
    by [] = as_it_was s
    by (c ∷ cs) = (Sent c.key ∷ [], refl)

remove_lengthens : (s : StationState SessionDevice) (cut : SessionDevice) → Lengthens s (station.remove s cut).0
remove_lengthens s cut = by s.live
  where
    gone : StationState SessionDevice
    gone = record s {
      device = cut;
      live = false;
      waiting = [];
      taken = map marked_removed s.taken;
      parked = [];
      ready = s.ready ++ map cancelled_parked s.parked ++ map cancelled_waiting s.waiting;
      journal = s.journal ++ Cut Removed ∷ map (λ (job : Job). Cancelled job.key) s.waiting;
    }

    by : (live : Bool) → Lengthens s (cond {A = StationState SessionDevice × Bool} (not live) (s, false) (gone, true)).0
    by false = as_it_was s
    by true = (Cut Removed ∷ map (λ (job : Job). Cancelled job.key) s.waiting, refl)

drop_lengthens : (s : StationState SessionDevice) (cut : SessionDevice) → Lengthens s (station.drop_channel s cut)
drop_lengthens s cut = by s.live
  where
    by : (live : Bool) → Lengthens s (cond live (record (emptied s) { device = cut; live = false; journal = s.journal ++ Cut Dropped ∷ [] }) (emptied s))
    by true = (Cut Dropped ∷ [], refl)
    by false = as_it_was s

-- ---- worlds

-- The second world's devices are those of the first, and their journals only became longer, if the ids of the first rise.
pub record Grows (w x : WorldState) : Type 0 where
  pub longer : IsStrictlySortedBy nat_cmp (keys_of w.stations) → AreLonger (journals_in w) (journals_in x)

pub grown_keys : (w x : WorldState) → Grows w x → IsStrictlySortedBy nat_cmp (keys_of w.stations) → keys_of x.stations ≡ keys_of w.stations
grown_keys w x grows rise = longer_keys w.stations x.stations (grows.longer rise)

-- a world with the same stations
pub grows_not : {w x : WorldState} → x.stations ≡ w.stations → Grows w x
grows_not {w} {x} same = record {
  longer = λ rise. subst (λ (es : List (ℕ × StationState SessionDevice)). AreLonger (journals_in w) (station_journals es)) (sym same) (longer_self (journals_in w));
}

-- by way of a third
pub grows_by : {w y : WorldState} (x : WorldState) → Grows w x → Grows x y → Grows w y
grows_by {w} {y} x before after = record {
  longer = λ rise.
      let rise_then : IsStrictlySortedBy nat_cmp (keys_of x.stations) =
      subst (λ (ks : List ℕ). IsStrictlySortedBy nat_cmp ks) (sym (grown_keys w x before rise)) rise in
      longer_trans (journals_in w) (journals_in x) (journals_in y) (before.longer rise) (after.longer rise_then);
}

grows_option : {X : Type 0} (w : WorldState) (f : X → WorldState) (o : Option X) → ((x : X) → o ≡ Some x → Grows w (f x)) → Grows w (option_map_or f o w)
grows_option w f None grows = grows_not refl
grows_option w f (Some x) grows = grows x refl

grows_fold : {X : Type 0} (f : WorldState → X → WorldState) → ((w : WorldState) (x : X) → Grows w (f w x)) → (xs : List X) (w : WorldState)
    → Grows w (fold f w xs)
grows_fold f grows [] w = grows_not refl
grows_fold f grows (x ∷ xs) w = grows_by (f w x) (grows w x) (grows_fold f grows xs (f w x))

-- a station under an id that has one is put back with a longer journal
set_longer : (test : ℕ → Bool) (es : List (ℕ × StationState SessionDevice)) (s t : StationState SessionDevice) → lookup test es ≡ Some s → Lengthens s t
    → AreLonger (station_journals es) (station_journals (set_value test es t))
set_longer test [] s t found lengthens = absurd (cc)
set_longer test (e ∷ es) s t found (more, is) = by (test e.0) found (λ later. set_longer test es s t later (more, is))
  where
    by : (b : Bool) → cond b (Some e.1) (lookup test es) ≡ Some s → (lookup test es ≡ Some s → AreLonger (station_journals es) (station_journals (set_value test es t)))
        → AreLonger (station_journals (e ∷ es)) (station_journals (cond b ((e.0, t) ∷ es) (e ∷ set_value test es t)))
    by true found later =
        let same : e.1 ≡ s = cc in
        ((refl, (more, is ∙ ap (λ (u : StationState SessionDevice). u.journal ++ more) (sym same))), longer_self (station_journals es))
    by false found later = ((refl, ([], sym (append-nil (e.1).journal))), later found)

with_station_grows : (w : WorldState) (device : ℕ) (s t : StationState SessionDevice) → station_at w device ≡ Some s → Lengthens s t
    → Grows w (with_station w device t)
with_station_grows w device s t found lengthens = record {
  longer = λ rise.
      let there : IsSome (lookup (is_at (nat_cmp device)) w.stations) = ap is_some found in
      subst (λ (es : List (ℕ × StationState SessionDevice)). AreLonger (journals_in w) (station_journals es)) (sym (put_same w.stations device t rise there))
      (set_longer (is_at (nat_cmp device)) w.stations s t found lengthens);
}

-- ---- what the client hears

announcing_grows : (w : WorldState) (device : ℕ) → Grows w (announcing w device)
announcing_grows w device =
    grows_option w (λ (s : StationState SessionDevice). with_station w device (station.announce s).0) (station_at w device)
    (λ (s : StationState SessionDevice) found. with_station_grows w device s (station.announce s).0 found (announce_lengthens s))

refused_put_grows : (w : WorldState) (device : ℕ) (job : Job) (cause : PutWhy) → Grows w (refused_put w device job cause)
refused_put_grows w device job why.Gone = grows_not refl
refused_put_grows w device job (why.Full held) = grows_not refl
refused_put_grows w device job (why.Worn count) = grows_not refl
refused_put_grows w device job (why.Duplicate key) = grows_not refl
refused_put_grows w device job why.Memory = grows_not refl

put_by_grows : (w : WorldState) (device : ℕ) (job : Job) (s : StationState SessionDevice) (p : StationState SessionDevice × Option PutWhy)
    → station_at w device ≡ Some s → Lengthens s p.0 → Grows w (put_by w device job p)
put_by_grows w device job s (t, None) found lengthens = with_station_grows w device s t found lengthens
put_by_grows w device job s (t, Some cause) found lengthens = refused_put_grows w device job cause

put_at_grows : (w : WorldState) (device : ℕ) (job : Job) (o : Option (StationState SessionDevice)) → station_at w device ≡ o → Grows w (put_at w device job o)
put_at_grows w device job None found = grows_not refl
put_at_grows w device job (Some s) found = put_by_grows w device job s (station.put s job) found (put_lengthens s job)

putting_grows : (w : WorldState) (device : ℕ) (job : Job) → Grows w (putting w device job)
putting_grows w device job = put_at_grows w device job (station_at w device) refl

after_opening_grows : (shake : ClientState) (w : WorldState) → Grows w (after_opening shake w)
after_opening_grows shake w = by (client.becomes_ready shake ((w.client).core).shake)
  where
    by : (b : Bool) → Grows w (if b then fold (λ x (a : Announce). announcing x a.id) w (listed w.client) else w)
    by true = grows_fold (λ (x : WorldState) (a : Announce). announcing x a.id) (λ (x : WorldState) (a : Announce). announcing_grows x a.id) (listed w.client) w
    by false = grows_not refl

heard_by_client_grows : (shake : ClientState) (w : WorldState) (r : Result Heard EndFault) → Grows w (heard_by_client shake w r)
heard_by_client_grows shake w (Err fault) = grows_not refl
heard_by_client_grows shake w (Ok heard.Nothing) = after_opening_grows shake w
heard_by_client_grows shake w (Ok (heard.Ask device job)) = putting_grows w device job
heard_by_client_grows shake w (Ok (heard.Print n)) = grows_not refl

client_hears_grows : (w : WorldState) (message : List ℕ) → Grows w (client_hears w message)
client_hears_grows w message =
    let said = client_hear w.client message in
    let read : WorldState = record w { client = said.0; deeds = deed.client_reads w.channels message ∷ w.deeds } in
    grows_by read (grows_not refl) (heard_by_client_grows ((w.client).core).shake read said.1)

client_handles_first_grows : (w : WorldState) (p : WayState × Option (List ℕ)) (on : WorldState → WorldState) → ((x : WorldState) → Grows x (on x))
    → Grows w (client_handles_first w p on)
client_handles_first_grows w (y, None) on grows = grows_not refl
client_handles_first_grows w (y, Some message) on grows =
    let read : WorldState = record w { to_client = y } in
    grows_by read (grows_not refl) (grows_by (client_hears read message) (client_hears_grows read message) (grows (client_hears read message)))

client_handles_grows : (most : ℕ) (w : WorldState) → Grows w (client_handles most w)
client_handles_grows zero w = grows_not refl
client_handles_grows (suc most) w = by (is_some w.kept) (client_handles_grows most)
  where
    by : (b : Bool) → ((x : WorldState) → Grows x (client_handles most x))
        → Grows w (if b then w else client_handles_first w (handling w.to_client) (client_handles most))
    by true grows = grows_not refl
    by false grows = client_handles_first_grows w (handling w.to_client) (client_handles most) grows

client_handles_all_grows : (w : WorldState) → Grows w (client_handles_all w)
client_handles_all_grows w = client_handles_grows (most_messages w.to_client) w

tries_grows : (w : WorldState) (device : ℕ) (o : Option Kept) → Grows w (tries w device o)
tries_grows w device None = grows_not refl
tries_grows w device (Some k) = by (k.device == device)
  where
    by : (b : Bool) → Grows w (if b then client_handles_all (putting (record w { kept = None }) k.device k.job) else w)
    by true =
        let free : WorldState = record w { kept = None } in
        let put : WorldState = putting free k.device k.job in
        grows_by free (grows_not refl) (grows_by put (putting_grows free k.device k.job) (client_handles_all_grows put))
    by false = grows_not refl

tries_kept_grows : (w : WorldState) (device : ℕ) → Grows w (tries_kept w device)
tries_kept_grows w device = tries_grows w device w.kept

-- ---- what the host hears, and the applications take

host_handles_first_grows : (w : WorldState) (p : WayState × Option (List ℕ)) (on : WorldState → WorldState) → ((x : WorldState) → Grows x (on x))
    → Grows w (host_handles_first w p on)
host_handles_first_grows w (y, None) on grows = grows_not refl
host_handles_first_grows w (y, Some message) on grows =
    let read : WorldState = host_hears (record w { to_host = y }) message in
    grows_by read (grows_not refl) (grows read)

host_handles_grows : (most : ℕ) (w : WorldState) → Grows w (host_handles most w)
host_handles_grows zero w = grows_not refl
host_handles_grows (suc most) w = host_handles_first_grows w (handling w.to_host) (host_handles most) (host_handles_grows most)

ends_line_grows : (w : WorldState) (a : ℕ) (o : Outcome) (given : Option Handle) → Grows w (ends_line w a o given)
ends_line_grows w a o given =
    grows_option w (λ (asked : Asked). with_application w a (with_outcome (application_at w a) o given asked)) (next_asked (application_at w a))
    (λ (asked : Asked) is. grows_not refl)

takes_from_grows : (w : WorldState) (a number : ℕ) (p : TableState × Result Taken TakeNo) → Grows w (takes_from w a number p)
takes_from_grows w a number (t, Err cause) = grows_not refl
takes_from_grows w a number (t, Ok taken) =
    let took : WorldState = with_deed (with_table w t) (deed.takes number) in
    grows_by took (grows_not refl) (ends_line_grows took a (reported_outcome taken.outcome) (given_handle taken))

takes_awaited_grows : (w : WorldState) (a : ℕ) (o : Option ℕ) → Grows w (takes_awaited w a o)
takes_awaited_grows w a None = grows_not refl
takes_awaited_grows w a (Some number) = takes_from_grows w a number (table.take (w.side).table number)

takes_outcome_grows : (w : WorldState) (a : ℕ) → Grows w (takes_outcome w a)
takes_outcome_grows w a = takes_awaited_grows w a (application_at w a).awaits

all_take_grows : (w : WorldState) → Grows w (all_take w)
all_take_grows w = grows_fold takes_outcome takes_outcome_grows (map (λ (e : ℕ × ApplicationState). e.0) w.applications) w

host_handles_all_grows : (w : WorldState) → Grows w (host_handles_all w)
host_handles_all_grows w =
    let handled : WorldState = host_handles (most_messages w.to_host) w in
    grows_by handled (host_handles_grows (most_messages w.to_host) w) (all_take_grows handled)

-- ---- what comes of events

comes_of_asking_grows : (w : WorldState) (a : ℕ) (o : Op) (named : Target) (p : TableState × Result ℕ SubmitNo) → Grows w (comes_of_asking w a o named p)
comes_of_asking_grows w a o named (t, Ok number) = grows_not refl
comes_of_asking_grows w a o named (t, Err cause) = ends_line_grows w a (outcome.Refused (refusal_of cause)) None

asks_grows : (w : WorldState) (a : ℕ) (o : Op) (named : Option Target) → Grows w (asks w a o named)
asks_grows w a o (Some named) = comes_of_asking_grows w a o named (table.submit (w.side).table a named o)
asks_grows w a o None = ends_line_grows w a (outcome.Refused refusal.NoHandle) None

issues_next_grows : (w : WorldState) (a : ℕ) (o : Option Asked) → Grows w (issues_next w a o)
issues_next_grows w a None = grows_not refl
issues_next_grows w a (Some asked) = asks_grows w a asked.op (target_of (application_at w a) asked)

issues_grows : (w : WorldState) (a : ℕ) → Grows w (issues w a)
issues_grows w a = issues_next_grows w a (next_asked (application_at w a))

host_sends_grows : (w : WorldState) → Grows w (host_sends_next w)
host_sends_grows w = grows_option w (host_sends (record w { side = side_sends w.side })) (next_message w.side) (λ (message : List ℕ) is. grows_not refl)

client_sends_first_grows : (w : WorldState) (p : ClientCoreState × Option Outgoing) → Grows w (client_sends_first w p)
client_sends_first_grows w (c, None) = grows_not refl
client_sends_first_grows w (c, Some o) = grows_not refl

collects_from_grows : (w : WorldState) (device : ℕ) (s : StationState SessionDevice) (p : StationState SessionDevice × Option Completion)
    → station_at w device ≡ Some s → Lengthens s p.0 → Grows w (collects_from w device p)
collects_from_grows w device s (t, None) found lengthens = grows_not refl
collects_from_grows w device s (t, Some c) found lengthens =
    let bytes : List ℕ = completion_message device c in
    let put : WorldState = with_station w device t in
    let sent : WorldState = client_sends put (deed.completes c.key bytes) bytes in
    grows_by put (with_station_grows w device s t found lengthens) (grows_by sent (grows_not refl) (tries_kept_grows sent device))

collects_grows : (w : WorldState) (device : ℕ) → Grows w (event.collects w device)
collects_grows w device =
    grows_option w (λ (s : StationState SessionDevice). collects_from w device (station.collect s)) (station_at w device)
    (λ (s : StationState SessionDevice) found. collects_from_grows w device s (station.collect s) found (collect_lengthens s))

takes_job_from_grows : (w : WorldState) (device hand : ℕ) (s : StationState SessionDevice) (p : StationState SessionDevice × Given)
    → station_at w device ≡ Some s → Lengthens s p.0 → Grows w (takes_job_from w device hand p)
takes_job_from_grows w device hand s (t, given.Job job) found lengthens =
    grows_by (with_station w device t) (with_station_grows w device s t found lengthens) (grows_not refl)
takes_job_from_grows w device hand s (t, given.Nothing) found lengthens = grows_not refl
takes_job_from_grows w device hand s (t, given.Over) found lengthens = grows_not refl

takes_job_grows : (w : WorldState) (device hand : ℕ) → Grows w (takes_job w device hand)
takes_job_grows w device hand =
    grows_option w (λ (s : StationState SessionDevice). takes_job_from w device hand (station.take s)) (station_at w device)
    (λ (s : StationState SessionDevice) found. takes_job_from_grows w device hand s (station.take s) found (take_lengthens s))

module _ (starves : Key → Bool) where
  applies_at_grows : (w : WorldState) (hand device : ℕ) (job : Job) (o : Option (StationState SessionDevice)) → station_at w device ≡ o
      → Grows w (applies_at starves w hand device job o)
  applies_at_grows w hand device job None found = grows_not refl
  applies_at_grows w hand device job (Some s) found =
      let came : Stepped SessionDevice = came_of starves w job s.device in
      let ran : StationState SessionDevice = (station.apply s job w.moment came).0 in
      grows_by (with_station w device ran) (with_station_grows w device s ran found (apply_lengthens s job w.moment came)) (grows_not refl)

  applies_held_grows : (w : WorldState) (hand : ℕ) (o : Option (ℕ × Job)) → Grows w (applies_held starves w hand o)
  applies_held_grows w hand None = grows_not refl
  applies_held_grows w hand (Some (device, job)) = applies_at_grows w hand device job (station_at w device) refl

  applies_job_grows : (w : WorldState) (hand : ℕ) → Grows w (applies_job starves w hand)
  applies_job_grows w hand = applies_held_grows w hand (option_and_then (λ held. held) (hand_at w hand))

removing_grows : (w : WorldState) (device : ℕ) → Grows w (removing w device)
removing_grows w device =
    let told : WorldState = with_deed (with_client w (client.tell_removed w.client device)) (deed.removes device) in
    grows_by told (grows_not refl)
    (grows_option told (λ (s : StationState SessionDevice). with_station told device (station.remove s (device_cut s.device).state).0) (station_at told device)
    (λ (s : StationState SessionDevice) found.
    with_station_grows told device s (station.remove s (device_cut s.device).state).0 found (remove_lengthens s (device_cut s.device).state)))

removes_device_grows : (w : WorldState) (device : ℕ) → Grows w (removes_device w device)
removes_device_grows w device = grows_by (removing w device) (removing_grows w device) (tries_kept_grows (removing w device) device)

refreshing_grows : (w : WorldState) (device : ℕ) → Grows w (refreshing w device)
refreshing_grows w device =
    grows_option w (λ (names : PrinterNames). with_client w (client.refresh w.client device (printer_data w.cache names)))
    (lookup (is_at (nat_cmp device)) w.printers) (λ (names : PrinterNames) is. grows_not refl)

adds_device_grows : (w : WorldState) (device : ℕ) → Grows w (adds_device w device)
adds_device_grows w device =
    let fresh : WorldState = refreshing w device in
    let told : WorldState = with_deed (with_client fresh (client.tell_added fresh.client device)) (deed.adds device) in
    grows_by fresh (refreshing_grows w device) (grows_by told (grows_not refl) (announcing_grows told device))

dropping_grows : (w : WorldState) (device : ℕ) → Grows w (dropping w device)
dropping_grows w device =
    grows_option w (λ (s : StationState SessionDevice). with_station w device (station.drop_channel s (device_cut s.device).state)) (station_at w device)
    (λ (s : StationState SessionDevice) found.
    with_station_grows w device s (station.drop_channel s (device_cut s.device).state) found (drop_lengthens s (device_cut s.device).state))

drops_grows : (w : WorldState) → Grows w (drops w)
drops_grows w =
    let devices : List ℕ = map (λ (e : ℕ × StationState SessionDevice). e.0) w.stations in
    let cut : WorldState = fold dropping w devices in
    grows_by cut (grows_fold dropping dropping_grows devices w) (grows_by (cutting w) (grows_not refl) (all_take_grows (cutting w)))

connects_grows : (w : WorldState) → Grows w (connects w)
connects_grows w =
    let devices : List ℕ = map (λ (e : ℕ × PrinterNames). e.0) w.printers in
    grows_by (fold refreshing w devices) (grows_fold refreshing refreshing_grows devices w) (grows_not refl)

-- ---- each event

pub event_grows : (starves : Key → Bool) (w : WorldState) (e : Event) → Grows w (act starves w e)
event_grows starves w (event.issue a) = issues_grows w a
event_grows starves w event.host_send = host_sends_grows w
event_grows starves w (event.client_read n) =
    let read : WorldState = record w { to_client = having_read n w.to_client } in
    grows_by read (grows_not refl) (client_handles_all_grows read)
event_grows starves w event.client_send = client_sends_first_grows w (client.client_send w.client)
event_grows starves w (event.collect device) = collects_grows w device
event_grows starves w (event.host_read n) =
    let read : WorldState = record w { to_host = having_read n w.to_host } in
    grows_by read (grows_not refl) (host_handles_all_grows read)
event_grows starves w (event.take_job device hand) = takes_job_grows w device hand
event_grows starves w (event.apply_job hand) = applies_job_grows starves w hand
event_grows starves w (event.remove device) = removes_device_grows w device
event_grows starves w (event.add device) = adds_device_grows w device
event_grows starves w event.drop_channel = drops_grows w
event_grows starves w event.connect = connects_grows w
event_grows starves w (event.tell n) = grows_not refl

pub acted_longer : (starves : Key → Bool) (w : WorldState) (e : Event) → IsStrictlySortedBy nat_cmp (keys_of w.stations)
    → AreLonger (journals_in w) (journals_in (act starves w e))
acted_longer starves w e rise = (event_grows starves w e).longer rise

pub acted_keys : (starves : Key → Bool) (w : WorldState) (e : Event) → IsStrictlySortedBy nat_cmp (keys_of w.stations)
    → keys_of (act starves w e).stations ≡ keys_of w.stations
acted_keys starves w e rise = grown_keys w (act starves w e) (event_grows starves w e) rise
