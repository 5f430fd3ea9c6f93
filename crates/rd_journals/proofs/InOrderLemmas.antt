-- The completions of what came are told as the journals sent them.
use Rattle.std.proofs.Common.{◌==◌, eqb-true, cond, append-nil, Bool, List, [], ap, arith, false, inl, inr, map, refl, reverse, subst, sym, true, ℕ, ◌&&◌, ◌++◌, ◌∙◌, ◌∷◌, ◌≡◌}
use Rattle.std.specs.Prelude.{◌||◌, find, not, Contains, Err, None, Ok, Option, Result, Some, filter, fold, if◌then◌else◌}
use Rattle.std.specs.Option.{option_map_or}
use Rattle.rd_client.specs.Core as client
use Rattle.rd_client.specs.declared.heard.Heard.TheVariants as heard
use Rattle.rd_core.specs.Core as core
use Rattle.rd_station.specs.Station as station
use Rattle.rd_station.specs.declared.refusals.PutWhy.TheVariants as why
use Rattle.rd_deeds.specs.Talk as deed
use Rattle.rd_base.specs.declared.journal.Item.{Item}
use Rattle.rd_base.specs.declared.journal.Item.TheVariants.{Came, Cancelled, Cut, Ran, Sent}
use Rattle.rd_base.specs.declared.journal.Key.{Key}
use Rattle.rd_client.specs.Core.{ClientCoreState, Outgoing, client_begin, client_hear, job_of, listed, listed_one, plain}
use Rattle.rd_client.specs.declared.heard.Heard.{Heard}
use Rattle.rd_devices.specs.declared.list.Announce.{Announce}
use Rattle.rd_drive.specs.declared.plan.Job.{Job}
use Rattle.rd_hello.specs.declared.client.ClientState.{ClientState}
use Rattle.rd_hello.specs.declared.end_fault.EndFault.{EndFault}
use Rattle.rd_journals.proofs.ChannelLemmas.{all_refreshed, begun_on}
use Rattle.rd_journals.proofs.ClientLemmas.{channel_of}
use Rattle.rd_journals.proofs.OrderlyLemmas.{ready_came}
use Rattle.rd_journals.proofs.RunLemmas.{behind_orderly}
use Rattle.rd_journals.specs.Orderly.{Orderly}
use Rattle.rd_journals.specs.Standing.{IsOut, IsStanding, IsUnserved, pending_of}
use Rattle.rd_journals.specs.Stations.{AreFit}
use Rattle.rd_runs.proofs.Parts.{IsBehind, MayBe, Part, accepts, adds_one, announced_by, applies_one, begins, by_parts, client_gets, client_hears_one, client_keeps_part, client_sends_one, collects_one, done, draws_one, ends, hands_out, host_gets, host_hears_one, host_keeps_part, host_sends_one, idle_one, queues_one, reached_behind, refreshed_by, refuses, removes_one, takes_one, tells_one, told_added, told_removed, tries_one}
use Rattle.rd_runs.specs.Moves.{Reached}
use Rattle.rd_script.specs.declared.line.NumberedLine.{NumberedLine}
use Rattle.rd_station.specs.Station.{StationState, collect_first, held, new_station, put_refusal, put_unless}
use Rattle.rd_station.specs.declared.answers.Completion.{Completion}
use Rattle.rd_station.specs.declared.answers.Given.{Given}
use Rattle.rd_station.specs.declared.refusals.PutWhy.{PutWhy}
use Rattle.rd_world.proofs.BeginningLemmas.{begun_by}
use Rattle.rd_deeds.proofs.Journals.{contains_has}
use Rattle.rd_world.proofs.OpeningLemmas.{lines_begin}
use Rattle.rd_declared.specs.Devices.{PrinterNames, device_cut}
use Rattle.rd_world.specs.Events.{came_of, client_sends_first, client_sends_next, completion_message, connects, dropping}
use Rattle.rd_world.specs.Hearing.{after_opening, announcing, client_hears, heard_by_client, put_at, put_by, putting}
use Rattle.rd_deeds.specs.Joining.{Stands}
use Rattle.rd_declared.specs.Declaring.{bare_lines, declared_devices}
use Rattle.rd_world.specs.Run.{world_of}
use Rattle.rd_deeds.specs.Talk.{Deed, EachAfter, Has, client_read, client_reads, completes, head_in, is_completion_of, is_request, journal, request_at, tells, stores, removes, adds, submits, takes, host_begins, host_ends, host_writes, host_reads, client_writes}
use Rattle.rd_world.specs.World.{WorldState, handling_by, station_at, with_station}
use Rattle.rd_declared.specs.declared.device.SessionDevice.{SessionDevice}
use Rattle.std.specs.List.{cons_option, list_any}
use Rattle.std.proofs.lemmas.Bool.Decides.{nat_tests}
use Rattle.rd_base.specs.declared.journal.Cause.TheVariants.{Dropped, Removed}
use Rattle.rd_drive.specs.Ranged.{IsReplyInRange}
use Rattle.rd_drive.specs.Stepped.{Stepped}
use Rattle.rd_irp.specs.declared.completion.Head.{Head}
use Rattle.rd_station.specs.declared.held.InHand.{InHand}
use Rattle.rd_station.specs.Station.{is_key}
use Rattle.rd_runs.specs.Premises.{RunPremises}
use Rattle.rd_deeds.proofs.Messages.{head_read}
use Rattle.rd_deeds.specs.Told.{came, is_of_device, sent, told}
use Rattle.rd_journals.specs.Jobs.{FitsCompletion, IsCompletionOf}
use Rattle.rd_journals.specs.Told.{InOrder}
use Rattle.rd_journals.proofs.CameLemmas.{came_true, fines, never_came, was_ready}
use Rattle.rd_journals.proofs.CompletionLemmas.{lost_ranged, ready_completes, runs_good}
use Rattle.rd_journals.proofs.HeldLemmas.{stored_deeds, turned_has}
use Rattle.rd_journals.proofs.ServingLemmas.{behind_standing, came_is_named}
use Rattle.rd_journals.proofs.WorkLemmas.{behind_working}
use Rattle.std.specs.Prelude.{nat_le}
use Rattle.rd_base.specs.declared.journal.Cause.{Cause}
use Rattle.rd_drive.specs.Device.{is_parked, is_starved}
use Rattle.rd_irp.specs.Fits.{kind_of}
use Rattle.rd_station.specs.declared.answers.Applied.{Applied}
use Rattle.rd_station.specs.declared.answers.Applied.TheVariants as applied
use Rattle.rd_station.specs.declared.answers.Given.TheVariants as given
use Rattle.rd_station.specs.declared.refusals.AnnounceNo.{AnnounceNo}
use Rattle.rd_station.specs.declared.refusals.AnnounceNo.TheVariants as refused

abbrev Of : Type 0
Of = StationState SessionDevice

-- ---- deeds

IsApart : Deed → Type 0
IsApart (stores d x) = ⊥
IsApart (completes k m) = ⊥
IsApart _ = Unit {0}

order_apart : (y : Deed) (deeds : List Deed) → IsApart y → InOrder deeds → InOrder (y ∷ deeds)
unfolding IsApart
order_apart (stores d x) deeds apart is = absurd apart
order_apart (completes k m) deeds apart is = absurd apart
order_apart (removes d) deeds apart is = is
order_apart (adds d) deeds apart is = is
order_apart (submits a n o) deeds apart is = is
order_apart (takes n) deeds apart is = is
order_apart (tells n) deeds apart is = is
order_apart (host_begins c) deeds apart is = is
order_apart (host_ends c) deeds apart is = is
order_apart (host_writes c m) deeds apart is = is
order_apart (host_reads c m) deeds apart is = is
order_apart (client_reads c m) deeds apart is = is
order_apart (client_writes c m) deeds apart is = is

IsQuiet : Item → Type 0
IsQuiet (Came k) = ⊥
IsQuiet (Sent k) = ⊥
IsQuiet _ = Unit {0}

order_quiet : (e : ℕ) (x : Item) (deeds : List Deed) → IsQuiet x → InOrder deeds → InOrder (stores e x ∷ deeds)
unfolding IsQuiet
order_quiet e x deeds quiet is c d = by (e == d) x quiet
  where
    by : (b : Bool) (x : Item) → IsQuiet x → filter (came c (cons_option (cond b (Some x) None) (journal d deeds))) (told c d deeds) ≡ sent c (cons_option (cond b (Some x) None) (journal d deeds))
    by false x quiet = is c d
    by true (Came k) quiet = absurd quiet
    by true (Sent k) quiet = absurd quiet
    by true (Ran k m s p) quiet = is c d
    by true (Cancelled k) quiet = is c d
    by true (Cut cause) quiet = is c d

order_stores : (e : ℕ) (xs : List Item) (deeds : List Deed) → ((x : Item) → Has x xs → IsQuiet x) → InOrder deeds → InOrder (map (stores e) xs ++ deeds)
order_stores e [] deeds quiet is = is
order_stores e (x ∷ xs) deeds quiet is = order_quiet e x (map (stores e) xs ++ deeds) (quiet x (inl refl)) (order_stores e xs deeds (λ y has. quiet y (inr has)) is)

-- a key that comes was told by none
came_added : (key : Key) (c d : ℕ) (j : List Item) (deeds : List Deed) → list_any (is_completion_of key) deeds ≡ false → filter (came c (Came key ∷ j)) (told c d deeds) ≡ filter (came c j) (told c d deeds)
came_added key c d j [] none = refl
came_added key c d j (completes k m ∷ deeds) none = by (is_key k key) refl none (k.channel == c) refl (is_of_device d m) (came_added key c d j deeds)
  where
    dropped : (t : Bool) → t ≡ false → filter (came c (Came key ∷ j)) (told c d deeds) ≡ filter (came c j) (told c d deeds)
        → cond (t || came c j k.index) (k.index ∷ filter (came c (Came key ∷ j)) (told c d deeds)) (filter (came c (Came key ∷ j)) (told c d deeds)) ≡ cond (came c j k.index) (k.index ∷ filter (came c j) (told c d deeds)) (filter (came c j) (told c d deeds))
    dropped true e later = absurd (cc e)
    dropped false e later = ap (λ (xs : List ℕ). cond (came c j k.index) (k.index ∷ xs) xs) later

    apart : is_key k key ≡ false → (k.channel == c) ≡ true → (key.channel == c && key.index == k.index) ≡ false
    apart e f = grind (arith, nat_tests, e, f)

    by : (a : Bool) → is_key k key ≡ a → (a || list_any (is_completion_of key) deeds) ≡ false → (b : Bool) → (k.channel == c) ≡ b → (x : Bool)
        → (list_any (is_completion_of key) deeds ≡ false → filter (came c (Came key ∷ j)) (told c d deeds) ≡ filter (came c j) (told c d deeds))
        → filter (came c (Came key ∷ j)) (cons_option (cond (b && x) (Some k.index) None) (told c d deeds)) ≡ filter (came c j) (cons_option (cond (b && x) (Some k.index) None) (told c d deeds))
    by true e none b f x later = absurd (cc none)
    by false e none false f x later = later none
    by false e none true f false later = later none
    by false e none true f true later = dropped (key.channel == c && key.index == k.index) (apart e f) (later none)
came_added key c d j (_ ∷ deeds) none = came_added key c d j deeds none

order_came : (e : ℕ) (key : Key) (deeds : List Deed) → list_any (is_completion_of key) deeds ≡ false → InOrder deeds → InOrder (stores e (Came key) ∷ deeds)
order_came e key deeds none is c d = by (e == d)
  where
    by : (b : Bool) → filter (came c (cons_option (cond b (Some (Came key)) None) (journal d deeds))) (told c d deeds) ≡ sent c (cons_option (cond b (Some (Came key)) None) (journal d deeds))
    by false = is c d
    by true = came_added key c d (journal d deeds) deeds none ∙ is c d

-- what is collected is told as it is sent
order_sent : (e : ℕ) (k : Key) (m : List ℕ) (deeds : List Deed) → ((d : ℕ) → is_of_device d m ≡ (e == d)) → came k.channel (journal e deeds) k.index ≡ true → InOrder deeds → InOrder (completes k m ∷ stores e (Sent k) ∷ deeds)
order_sent e k m deeds of has is c d = by (e == d) refl (is_of_device d m) (of d)
  where
    keep : (t : Bool) → t ≡ true → cond t (k.index ∷ filter (came c (journal d deeds)) (told c d deeds)) (filter (came c (journal d deeds)) (told c d deeds)) ≡ k.index ∷ sent c (journal d deeds)
    keep true f = ap (λ (xs : List ℕ). k.index ∷ xs) (is c d)
    keep false f = absurd (cc f)

    there : (e == d) ≡ true → (k.channel == c) ≡ true → came c (journal d deeds) k.index ≡ true
    there f g = subst (λ (x : ℕ). came x (journal d deeds) k.index ≡ true) (eqb-true k.channel c g) (subst (λ (x : ℕ). came k.channel (journal x deeds) k.index ≡ true) (eqb-true e d f) has)

    on_it : (e == d) ≡ true → (b : Bool) → (k.channel == c) ≡ b
        → filter (came c (Sent k ∷ journal d deeds)) (cons_option (cond (b && true) (Some k.index) None) (told c d deeds)) ≡ cons_option (cond b (Some k.index) None) (sent c (journal d deeds))
    on_it f true g = keep (came c (journal d deeds) k.index) (there f g)
    on_it f false g = is c d

    off_it : (b : Bool) → filter (came c (journal d deeds)) (cons_option (cond (b && false) (Some k.index) None) (told c d deeds)) ≡ sent c (journal d deeds)
    off_it true = is c d
    off_it false = is c d

    by : (a : Bool) → (e == d) ≡ a → (x : Bool) → x ≡ a
        → filter (came c (cons_option (cond a (Some (Sent k)) None) (journal d deeds))) (cons_option (cond (k.channel == c && x) (Some k.index) None) (told c d deeds)) ≡ sent c (cons_option (cond a (Some (Sent k)) None) (journal d deeds))
    by true f true g = on_it f (k.channel == c) refl
    by true f false g = absurd (cc g)
    by false f true g = absurd (cc g)
    by false f false g = off_it (k.channel == c)

-- an answer to a key that never came is none of those
order_direct : (k : Key) (m : List ℕ) (deeds : List Deed) → ((d : ℕ) → came k.channel (journal d deeds) k.index ≡ false) → InOrder deeds → InOrder (completes k m ∷ deeds)
order_direct k m deeds never is c d = by (k.channel == c) refl (is_of_device d m)
  where
    gone : (t : Bool) → t ≡ false → cond t (k.index ∷ filter (came c (journal d deeds)) (told c d deeds)) (filter (came c (journal d deeds)) (told c d deeds)) ≡ sent c (journal d deeds)
    gone true f = absurd (cc f)
    gone false f = is c d

    by : (b : Bool) → (k.channel == c) ≡ b → (x : Bool) → filter (came c (journal d deeds)) (cons_option (cond (b && x) (Some k.index) None) (told c d deeds)) ≡ sent c (journal d deeds)
    by true f true = gone (came c (journal d deeds) k.index) (subst (λ (x : ℕ). came x (journal d deeds) k.index ≡ false) (eqb-true k.channel c f) (never d))
    by true f false = is c d
    by false f x = is c d

-- ---- stations

-- a station stores what is neither a coming nor a sending
abbrev Quietly : Of → Of → Type 0
Quietly old new = (more : List Item) × (new.journal ≡ old.journal ++ more) × ((x : Item) → Has x more → IsQuiet x)

silent : (old new : Of) → new.journal ≡ old.journal → Quietly old new
silent old new same = ([], same ∙ sym (append-nil old.journal), λ x none. absurd none)

with_quiet : (w : WorldState) (d : ℕ) (old new : Of) → station_at w d ≡ Some old → Quietly old new → InOrder w.deeds → InOrder (with_station w d new).deeds
with_quiet w d old new there (more, longer, quiet) is =
    subst InOrder (sym (stored_deeds w d old new there more longer)) (order_stores d (reverse more) w.deeds (λ x has. quiet x (turned_has x more has)) is)

announces_quietly : (s : Of) → Quietly s (station.announce s).0
announces_quietly s = silent s (station.announce s).0 (by s.live (nat_le station.max_entries (station.entry_count s)))
  where
    by : (a b : Bool) → (let t = (cond {A = Of × Result (Unit {0}) AnnounceNo} a (s, Err refused.Live) (cond b (s, Err (refused.Worn (station.entry_count s))) (record s { live = true }, Ok tt))).0 in t.journal) ≡ s.journal
    by true b = refl
    by false true = refl
    by false false = refl

cut_quiet : (cause : Cause) (x : Item) → Has x (Cut cause ∷ []) → IsQuiet x
unfolding IsQuiet
cut_quiet cause x (inl same) = subst IsQuiet (sym same) tt
cut_quiet cause x (inr none) = absurd none

drops_quietly : (s : Of) (cut : SessionDevice) → Quietly s (station.drop_channel s cut)
drops_quietly s cut = by s.live
  where
    by : (b : Bool) → Quietly s (cond b (record (station.emptied s) { device = cut; live = false; journal = s.journal ++ Cut Dropped ∷ [] }) (station.emptied s))
    by true = (Cut Dropped ∷ [], refl, cut_quiet Dropped)
    by false = ([], sym (append-nil s.journal), λ x none. absurd none)

removes_quietly : (s : Of) (cut : SessionDevice) → Quietly s (station.remove s cut).0
unfolding IsQuiet
removes_quietly s cut = by s.live
  where
    gone : Of
    gone = record s {
      device = cut;
      live = false;
      waiting = [];
      taken = map station.marked_removed s.taken;
      parked = [];
      ready = s.ready ++ map station.cancelled_parked s.parked ++ map station.cancelled_waiting s.waiting;
      journal = s.journal ++ Cut Removed ∷ map (λ (job : Job). Cancelled job.key) s.waiting;
    }

    cancels : (jobs : List Job) (x : Item) → Has x (map (λ (job : Job). Cancelled job.key) jobs) → IsQuiet x
    cancels [] x none = absurd none
    cancels (job ∷ jobs) x (inl same) = subst IsQuiet (sym same) tt
    cancels (job ∷ jobs) x (inr has) = cancels jobs x has

    each : (x : Item) → Has x (Cut Removed ∷ map (λ (job : Job). Cancelled job.key) s.waiting) → IsQuiet x
    each x (inl same) = cut_quiet Removed x (inl same)
    each x (inr has) = cancels s.waiting x has

    by : (b : Bool) → Quietly s (cond {A = Of × Bool} (not b) (s, false) (gone, true)).0
    by false = ([], sym (append-nil s.journal), λ x none. absurd none)
    by true = (Cut Removed ∷ map (λ (job : Job). Cancelled job.key) s.waiting, refl, each)

takes_quietly : (s : Of) → Quietly s (station.take s).0
takes_quietly s = silent s (station.take s).0 (by s.ended s.waiting)
  where
    by : (b : Bool) (jobs : List Job) → (let t = (cond {A = Of × Given} b (s, given.Over) (station.take_first s jobs)).0 in t.journal) ≡ s.journal
    by true jobs = refl
    by false [] = refl
    by false (job ∷ jobs) = refl

applies_quietly : (s : Of) (job : Job) (moment : ℕ) (come : Stepped SessionDevice) → Quietly s (station.apply s job moment come).0
unfolding IsQuiet
applies_quietly s job moment come = by (find (λ (t : InHand). is_key t.key job.key) s.taken)
  where
    one : (y : Item) → IsQuiet y → (x : Item) → Has x (y ∷ []) → IsQuiet x
    one y quiet x (inl same) = subst IsQuiet (sym same) quiet
    one y quiet x (inr none) = absurd none

    hand : (t : InHand) (b : Bool) → Quietly s (cond {A = Of × Applied} b (station.cancelled_in_hand s t (kind_of job.op), applied.Cancelled) (station.ran s t (kind_of job.op) moment come, cond (is_parked come.answer) applied.Parked applied.Ran)).0
    hand t true = (Cancelled t.key ∷ [], refl, one (Cancelled t.key) tt)
    hand t false = (Ran t.key moment (is_starved come.answer) (is_parked come.answer) ∷ [], refl, one (Ran t.key moment (is_starved come.answer) (is_parked come.answer)) tt)

    by : (o : Option InHand) → Quietly s (station.apply_from s job moment come o).0
    by None = ([], sym (append-nil s.journal), λ x none. absurd none)
    by (Some t) = hand t t.removed

-- ---- a message is heard

announced_order : (w : WorldState) (d : ℕ) (o : Option Of) → station_at w d ≡ o → InOrder w.deeds → InOrder (announced_by w d o).deeds
announced_order w d None there is = is
announced_order w d (Some s) there is = with_quiet w d s (station.announce s).0 there (announces_quietly s) is

all_announced : (devices : List Announce) (w : WorldState) → InOrder w.deeds → InOrder (fold (λ x (a : Announce). announcing x a.id) w devices).deeds
all_announced [] w is = is
all_announced (a ∷ devices) w is = all_announced devices (announcing w a.id) (announced_order w a.id (station_at w a.id) refl is)

-- a job comes whose key was told by none, where what comes of it stands
putting_order : (w : WorldState) (d : ℕ) (job : Job) → EachAfter Stands (putting w d job).deeds → InOrder w.deeds → InOrder (putting w d job).deeds
putting_order w d job stand is = at (station_at w d) refl stand
  where
    here : (s : Of) → station_at w d ≡ Some s → (refusal : Option PutWhy) → EachAfter Stands (put_by w d job (put_unless s job refusal)).deeds → InOrder (put_by w d job (put_unless s job refusal)).deeds
    here s there None stand =
        let stored = stored_deeds w d s (put_unless s job None).0 there (Came job.key ∷ []) refl in
        let own : EachAfter Stands (stores d (Came job.key) ∷ w.deeds) = subst (EachAfter Stands) stored stand in
        let (r, read, device, none) = own.0 in
        subst InOrder (sym stored) (order_came d job.key w.deeds none is)
    here s there (Some why.Gone) stand = is
    here s there (Some (why.Full count)) stand = is
    here s there (Some (why.Worn count)) stand = is
    here s there (Some (why.Duplicate key)) stand = is
    here s there (Some why.Memory) stand = is

    at : (o : Option Of) → station_at w d ≡ o → EachAfter Stands (put_at w d job o).deeds → InOrder (put_at w d job o).deeds
    at None there stand = is
    at (Some s) there stand = here s there (put_refusal s job) stand

hears_order : (w : WorldState) (m : List ℕ) → EachAfter Stands (client_hears w m).deeds → InOrder w.deeds → InOrder (client_hears w m).deeds
hears_order w m stand is = by (client_hear w.client m) stand
  where
    read : ClientCoreState → WorldState
    read x = record w { client = x; deeds = client_reads w.channels m ∷ w.deeds }

    opening : (shake : ClientState) (x : WorldState) → InOrder x.deeds → InOrder (after_opening shake x).deeds
    opening shake x so = go (client.becomes_ready shake ((x.client).core).shake)
      where
        go : (b : Bool) → InOrder (if b then fold (λ y (a : Announce). announcing y a.id) x (listed x.client) else x).deeds
        go true = all_announced (listed x.client) x so
        go false = so

    by : (r : ClientCoreState × Result Heard EndFault) → EachAfter Stands (heard_by_client ((w.client).core).shake (read r.0) r.1).deeds → InOrder (heard_by_client ((w.client).core).shake (read r.0) r.1).deeds
    by (x, Err wrong) stand = is
    by (x, Ok (heard.Print n)) stand = is
    by (x, Ok heard.Nothing) stand = opening ((w.client).core).shake (read x) is
    by (x, Ok (heard.Ask device job)) stand = putting_order (read x) device job stand is

-- ---- channels

connects_order : (w : WorldState) → InOrder w.deeds → InOrder (connects w).deeds
connects_order w is = subst (λ (x : WorldState). InOrder (begun_on w x).deeds) (sym (all_refreshed (map (λ (e : ℕ × PrinterNames). e.0) w.printers) w)) is

one_dropped : (x : WorldState) (d : ℕ) → InOrder x.deeds → InOrder (dropping x d).deeds
one_dropped x d is = by (station_at x d) refl
  where
    by : (o : Option Of) → station_at x d ≡ o → InOrder (option_map_or (λ (s : Of). with_station x d (station.drop_channel s (device_cut s.device).state)) o x).deeds
    by None there = is
    by (Some s) there = with_quiet x d s (station.drop_channel s (device_cut s.device).state) there (drops_quietly s (device_cut s.device).state) is

all_cut : (ds : List ℕ) (x : WorldState) → InOrder x.deeds → InOrder (fold dropping x ds).deeds
all_cut [] x is = is
all_cut (d ∷ ds) x is = all_cut ds (dropping x d) (one_dropped x d is)

-- ---- a client sends

client_sends_order : (w : WorldState) → Orderly w → IsStanding w → InOrder w.deeds → InOrder (client_sends_next w).deeds
client_sends_order w ordered stands is = by ((w.client).core).outbox refl
  where
    sent_one : (o : Outgoing) (others : List Outgoing) → ((w.client).core).outbox ≡ o ∷ others → (answers : Option Key) → o.answers ≡ answers
        → InOrder (option_map_or (λ key. deed.completes key o.message) answers (deed.client_writes w.channels o.message) ∷ w.deeds)
    sent_one o others e answers a = by answers (subst (λ (x : Option Key). IsOut (IsUnserved w.channels (w.client).asked w.stations (pending_of w.kept)) x o.message) a (stands.out o (subst (Has o) (sym e) (inl refl))))
      where
        by : (x : Option Key) → IsOut (IsUnserved w.channels (w.client).asked w.stations (pending_of w.kept)) x o.message → InOrder (option_map_or (λ key. deed.completes key o.message) x (deed.client_writes w.channels o.message) ∷ w.deeds)
        by None out = is
        by (Some key) out = order_direct key o.message w.deeds (λ d. never_came key (journal d w.deeds) (λ has. out.unnamed (came_is_named w ordered d key has))) is

    by : (messages : List Outgoing) → ((w.client).core).outbox ≡ messages → let r = core.send_from (w.client).core messages in InOrder (client_sends_first w (record w.client { core = r.0 }, r.1)).deeds
    by [] e = is
    by (o ∷ others) e = sent_one o others e o.answers refl

collects_order : (w : WorldState) (d : ℕ) (s after : Of) (x : Completion) → station_at w d ≡ Some s → station.collect s ≡ (after, Some x) → Orderly w → IsCompletionOf w.deeds d x → InOrder w.deeds
    → InOrder (completes x.key (completion_message d x) ∷ (with_station w d after).deeds)
collects_order w d s after x there made ordered of is =
    let (came_s, longer) = first s.ready refl made in
    let stored = stored_deeds w d s after there (Sent x.key ∷ []) longer in
    subst (λ (ds : List Deed). InOrder (completes x.key m ∷ ds)) (sym stored)
    (order_sent d x.key m w.deeds own (came_true x.key (journal d w.deeds) (contains_has (Came x.key) (journal d w.deeds) (subst (λ (js : List Item). Contains js (Came x.key)) (sym ((ordered.held).tied d s there)) came_s))) is)
  where
    m : List ℕ
    m = completion_message d x

    own : (q : ℕ) → is_of_device q m ≡ (d == q)
    own q =
        let h : Head = record { device = (of.request).device; completion = (of.request).completion; status = x.reply.status } in
        let read = head_read h m (of.completes).head in
        let is_head : head_in m ≡ Some h = rw read.1 refl in
        ap (λ (o : Option Head). option_map_or (λ (h : Head). h.device == q) o false) is_head ∙ ap (λ (n : ℕ). n == q) of.device

    first : (cs : List Completion) → s.ready ≡ cs → collect_first s cs ≡ (after, Some x) → Contains s.journal (Came x.key) × (after.journal ≡ s.journal ++ Sent x.key ∷ [])
    first [] e same = let nothing : None ≡ Some x = ap (λ (r : Of × Option Completion). r.1) same in absurd (cc (nothing))
    first (y ∷ ys) e same =
        let one : Some y ≡ Some x = ap (λ (r : Of × Option Completion). r.1) same in
        let equal : y ≡ x = cc in (
          subst (λ (z : Completion). Contains s.journal (Came z.key)) equal (ready_came (channel_of w) s ((ordered.held).on d s there) y ys e),
          ap (λ (r : Of × Option Completion). (r.0).journal) (sym same) ∙ ap (λ (z : Completion). s.journal ++ Sent z.key ∷ []) equal,
        )

-- ---- each part, and every run

module _ (lines : List NumberedLine) (starves : Key → Bool) (fit : AreFit (declared_devices (bare_lines lines))) (premises : RunPremises lines) where
  part_order : (w : WorldState) (p : Part) → MayBe lines starves w p → IsBehind lines starves w → IsBehind lines starves (done starves w p) → Orderly w → InOrder w.deeds → InOrder (done starves w p).deeds
  part_order w (accepts a asked named t number) may before after ordered is = is
  part_order w (refuses a asked cause) may before after ordered is = is
  part_order w (hands_out a number t had None) may before after ordered is = is
  part_order w (hands_out a number t had (Some asked)) may before after ordered is = is
  part_order w (host_sends_one m) may before after ordered is = is
  part_order w (host_gets n) may before after ordered is = is
  part_order w host_keeps_part may before after ordered is = is
  part_order w (host_hears_one m rest) may before after ordered is = is
  part_order w (tells_one n) may before after ordered is = is
  part_order w begins may before after ordered is = connects_order w is
  part_order w ends may before after ordered is = all_cut (map (λ (e : ℕ × Of). e.0) w.stations) w is
  part_order w (client_sends_one x o) made before after ordered is =
      subst (λ (r : ClientCoreState × Option Outgoing). InOrder (client_sends_first w r).deeds) made (client_sends_order w ordered (behind_standing lines starves w fit before) is)
  part_order w (client_gets n) may before after ordered is = is
  part_order w client_keeps_part may before after ordered is = is
  part_order w (client_hears_one m rest) may before after ordered is =
      hears_order (record w { to_client = (handling_by w.to_client (Some (m, rest))).0 }) m (behind_standing lines starves (done starves w (client_hears_one m rest)) fit after).stand is
  part_order w (tries_one k) some before after ordered is = putting_order (record w { kept = None }) k.device k.job (behind_standing lines starves (done starves w (tries_one k)) fit after).stand is
  part_order w (collects_one d s after_it x) (reached, idle, there, made) before after ordered is =
      collects_order w d s after_it x there made ordered
      (ready_completes (declared_devices (bare_lines lines)) w ordered (behind_working FitsCompletion IsReplyInRange lost_ranged runs_good lines starves w fit before (fines lines starves premises w before)) d s there x (was_ready s after_it x made)) is
  part_order w (takes_one d hand s after_it job) (free, there, made) before after ordered is =
      with_quiet w d s after_it there (subst (λ (r : Of × Given). Quietly s r.0) made (takes_quietly s)) is
  part_order w (applies_one hand d job None) may before after ordered is = is
  part_order w (applies_one hand d job (Some s)) (holds, there) before after ordered is =
      with_quiet w d s (station.apply s job w.moment (came_of starves w job s.device)).0 there (applies_quietly s job w.moment (came_of starves w job s.device)) is
  part_order w (removes_one d None) (can, there) before after ordered is = is
  part_order w (removes_one d (Some s)) (can, there) before after ordered is =
      with_quiet (told_removed w d) d s (station.remove s (device_cut s.device).state).0 there (removes_quietly s (device_cut s.device).state) is
  part_order w (adds_one d None o) (can, printers, there) before after ordered is = announced_order (told_added w d) d o there is
  part_order w (adds_one d (Some names) o) (can, printers, there) before after ordered is = announced_order (told_added (refreshed_by w d (Some names)) d) d o there is
  part_order w (queues_one a) may before after ordered is = is
  part_order w (idle_one number) may before after ordered is = is
  part_order w draws_one may before after ordered is = is

  begins_order : InOrder (world_of lines).deeds
  begins_order = subst (λ (w : WorldState). InOrder w.deeds) (sym (begun_by lines _ (lines_begin lines))) (λ c d. refl)

  pub reached_order : (w : WorldState) → Reached lines starves w → InOrder w.deeds
  reached_order w reached =
      by_parts lines starves (λ x. InOrder x.deeds) begins_order
      (λ x p before after may is. part_order x p may before after (behind_orderly lines starves x fit before).0 is) w (reached_behind lines starves w reached)
