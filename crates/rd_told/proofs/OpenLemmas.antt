-- An entry that names a key is stored while that key's channel is open.
use Rattle.std.proofs.Common.{◌≡◌, ◌⊎◌, ◌∙◌, refl, sym, ap, subst, inl, inr, ℕ, ◌+◌, Bool, true, false, cond, append-nil, List, [], ◌∷◌, ◌++◌, map, reverse, Some, None, Option, Result, Ok, Err}
use Rattle.std.specs.Prelude.{find, fold, if◌then◌else◌, nat_le, not}
use Rattle.std.specs.List.{AllByRecursion}
use Rattle.std.specs.Map.{lookup}
use Rattle.std.specs.Ordering.{nat_cmp}
use Rattle.std.specs.BTreeMap.{is_at}
use Rattle.std.specs.Option.{IfSome, option_map_or}
use Rattle.rd_base.specs.declared.journal.Cause.TheVariants.{Dropped, Removed}
use Rattle.rd_base.specs.declared.journal.Item.{Item}
use Rattle.rd_base.specs.declared.journal.Item.TheVariants.{Came, Cancelled, Cut, Ran, Sent}
use Rattle.rd_base.specs.declared.journal.Key.{Key}
use Rattle.rd_base.specs.Lawful.{named_key}
use Rattle.rd_client.specs.Core as client
use Rattle.rd_client.specs.Core.{ClientCoreState, client_hear, listed}
use Rattle.rd_client.specs.declared.heard.Heard.{Heard}
use Rattle.rd_client.specs.declared.heard.Heard.TheVariants as heard
use Rattle.rd_devices.specs.declared.list.Announce.{Announce}
use Rattle.rd_drive.specs.Device.{is_parked, is_starved}
use Rattle.rd_drive.specs.Stepped.{Stepped}
use Rattle.rd_drive.specs.declared.plan.Job.{Job}
use Rattle.rd_hello.specs.declared.client.ClientState.{ClientState}
use Rattle.rd_hello.specs.declared.end_fault.EndFault.{EndFault}
use Rattle.rd_irp.specs.Fits.{kind_of}
use Rattle.rd_joined.proofs.JournalsAskingLemmas.{HeardAs, hears}
use Rattle.rd_joined.proofs.JournalsChannelLemmas.{all_refreshed, begun_on}
use Rattle.rd_joined.proofs.JournalsHeldLemmas.{stored_deeds, turned_has}
use Rattle.rd_joined.proofs.RunsIdleLemmas.{IsIdle}
use Rattle.rd_joined.proofs.RunsKeysOnLemmas.{HeldOn, found_one}
use Rattle.rd_joined.proofs.RunsParts.{IsBehind, MayBe, Part, accepts, adds_one, announced_by, applies_one, begins, by_parts, client_gets, client_hears_one, client_keeps_part, client_sends_one, collects_one, cut_by, done, draws_one, ends, hands_out, host_gets, host_hears_one, host_keeps_part, host_sends_one, idle_one, queues_one, reached_behind, refreshed_by, refuses, removes_one, takes_one, tells_one, told_added, told_removed, tries_one}
use Rattle.rd_joined.proofs.RunsStanding.{needs_open}
use Rattle.rd_joined.proofs.RunsTogether.{knows}
use Rattle.rd_joined.specs.RunsMoves.{Reached}
use Rattle.rd_joined.specs.RunsPremises.{RunPremises}
use Rattle.rd_script.specs.declared.line.NumberedLine.{NumberedLine}
use Rattle.rd_station.specs.Station as station
use Rattle.rd_station.specs.Station.{StationState, collect_first, is_key, put_refusal, put_unless}
use Rattle.rd_station.specs.declared.answers.Applied.{Applied}
use Rattle.rd_station.specs.declared.answers.Applied.TheVariants as applied
use Rattle.rd_station.specs.declared.answers.Completion.{Completion}
use Rattle.rd_station.specs.declared.answers.Given.{Given}
use Rattle.rd_station.specs.declared.answers.Given.TheVariants as given
use Rattle.rd_station.specs.declared.held.InHand.{InHand}
use Rattle.rd_station.specs.declared.refusals.AnnounceNo.{AnnounceNo}
use Rattle.rd_station.specs.declared.refusals.AnnounceNo.TheVariants as refused
use Rattle.rd_station.specs.declared.refusals.PutWhy.{PutWhy}
use Rattle.rd_station.specs.declared.refusals.PutWhy.TheVariants as why
use Rattle.rd_declared.specs.Devices.{Declared, PrinterNames, device_cut}
use Rattle.rd_world.specs.Events.{came_of, connects, cutting, deed_on, dropping}
use Rattle.rd_world.specs.Hearing.{after_opening, announcing, client_hears, heard_by_client, put_at, put_by, putting}
use Rattle.rd_declared.specs.Declaring.{bare_lines, declared_devices}
use Rattle.rd_world.specs.Run.{applications_of, new_world, world_of}
use Rattle.rd_world.specs.Session.{IsStoredOpen}
use Rattle.rd_deeds.specs.Talk as deed
use Rattle.rd_deeds.specs.Talk.{Deed, EachAfter, Has, client_reads, client_writes, completes, open_channel, stores}
use Rattle.rd_world.specs.World.{ApplicationState, Kept, WorldState, handling_by, station_at, with_station}
use Rattle.rd_declared.specs.declared.device.SessionDevice.{SessionDevice}
use Rattle.rd_world.proofs.BeginningLemmas.{begun_by}
use Rattle.rd_world.proofs.OpeningLemmas.{lines_begin}

abbrev Of : Type 0
Of = StationState SessionDevice

abbrev Opened : List Deed → Type 0
Opened deeds = EachAfter IsStoredOpen deeds

-- the entry names no key of another channel
abbrev NamesOn : ℕ → Item → Type 0
NamesOn c entry = IfSome (named_key entry) (λ key. key.channel ≡ c)

-- ---- entries

open_stores : (c d : ℕ) (xs : List Item) (deeds : List Deed) → open_channel deeds ≡ Some c → ((x : Item) → Has x xs → NamesOn c x) → Opened deeds → Opened (map (stores d) xs ++ deeds)
open_stores c d [] deeds opened on is = is
open_stores c d (x ∷ xs) deeds opened on is = (by x (on x (inl refl)), open_stores c d xs deeds opened (λ y has. on y (inr has)) is)
  where
    same : (xs : List Item) → open_channel (map (stores d) xs ++ deeds) ≡ Some c
    same [] = opened
    same (x ∷ xs) = same xs

    by : (x : Item) → NamesOn c x → IsStoredOpen (map (stores d) xs ++ deeds) (stores d x)
    by (Came k) at = same xs ∙ ap (λ (n : ℕ). Some n) (sym at)
    by (Ran k m s p) at = same xs ∙ ap (λ (n : ℕ). Some n) (sym at)
    by (Cancelled k) at = same xs ∙ ap (λ (n : ℕ). Some n) (sym at)
    by (Sent k) at = same xs ∙ ap (λ (n : ℕ). Some n) (sym at)
    by (Cut cause) at = tt

-- a station stores only what names keys of a channel
abbrev AddsOn : ℕ → Of → Of → Type 0
AddsOn c old new = (more : List Item) × (new.journal ≡ old.journal ++ more) × ((x : Item) → Has x more → NamesOn c x)

silent : (c : ℕ) (old new : Of) → new.journal ≡ old.journal → AddsOn c old new
silent c old new same = ([], same ∙ sym (append-nil old.journal), λ x none. absurd none)

one_on : (c : ℕ) (y : Item) → NamesOn c y → (x : Item) → Has x (y ∷ []) → NamesOn c x
one_on c y on x (inl same) = subst (NamesOn c) (sym same) on
one_on c y on x (inr none) = absurd none

with_open : (c : ℕ) (w : WorldState) (d : ℕ) (old new : Of) → open_channel w.deeds ≡ Some c → station_at w d ≡ Some old → AddsOn c old new → Opened w.deeds → Opened (with_station w d new).deeds
with_open c w d old new opened there (more, longer, on) is =
    subst Opened (sym (stored_deeds w d old new there more longer)) (open_stores c d (reverse more) w.deeds opened (λ x has. on x (turned_has x more has)) is)

-- the same where nothing is stored
with_silent : (w : WorldState) (d : ℕ) (old new : Of) → station_at w d ≡ Some old → new.journal ≡ old.journal → Opened w.deeds → Opened (with_station w d new).deeds
with_silent w d old new there same is =
    subst Opened (sym (stored_deeds w d old new there [] (same ∙ sym (append-nil old.journal)))) is

-- ---- stations

announces_silently : (s : Of) → ((station.announce s).0).journal ≡ s.journal
announces_silently s = by s.live (nat_le station.max_entries (station.entry_count s))
  where
    by : (a b : Bool) → (let t = (cond {A = Of × Result (Unit {0}) AnnounceNo} a (s, Err refused.Live) (cond b (s, Err (refused.Worn (station.entry_count s))) (record s { live = true }, Ok tt))).0 in t.journal) ≡ s.journal
    by true b = refl
    by false true = refl
    by false false = refl

drops_on : (c : ℕ) (s : Of) (cut : SessionDevice) → AddsOn c s (station.drop_channel s cut)
drops_on c s cut = by s.live
  where
    by : (b : Bool) → AddsOn c s (cond b (record (station.emptied s) { device = cut; live = false; journal = s.journal ++ Cut Dropped ∷ [] }) (station.emptied s))
    by true = (Cut Dropped ∷ [], refl, one_on c (Cut Dropped) tt)
    by false = ([], sym (append-nil s.journal), λ x none. absurd none)

takes_silently : (s : Of) → ((station.take s).0).journal ≡ s.journal
takes_silently s = by s.ended s.waiting
  where
    by : (b : Bool) (jobs : List Job) → (let t = (cond {A = Of × Given} b (s, given.Over) (station.take_first s jobs)).0 in t.journal) ≡ s.journal
    by true jobs = refl
    by false [] = refl
    by false (job ∷ jobs) = refl

removes_on : (c : ℕ) (s : Of) (cut : SessionDevice) → HeldOn c s → AddsOn c s (station.remove s cut).0
removes_on c s cut held = by s.live
  where
    gone : Of
    gone = record s {
      device = cut;
      live = false;
      waiting = [];
      taken = map station.marked_removed s.taken;
      parked = [];
      ready = s.ready ++ map station.cancelled_parked s.parked ++ map station.cancelled_waiting s.waiting;
      journal = s.journal ++ Cut Removed ∷ map (λ (job : Job). Cancelled job.key) s.waiting;
    }

    cancels : (jobs : List Job) → AllByRecursion (λ (job : Job). (job.key).channel ≡ c) jobs → (x : Item) → Has x (map (λ (job : Job). Cancelled job.key) jobs) → NamesOn c x
    cancels [] all x none = absurd none
    cancels (job ∷ jobs) all x (inl same) = subst (NamesOn c) (sym same) all.0
    cancels (job ∷ jobs) all x (inr has) = cancels jobs all.1 x has

    each : (x : Item) → Has x (Cut Removed ∷ map (λ (job : Job). Cancelled job.key) s.waiting) → NamesOn c x
    each x (inl same) = subst (NamesOn c) (sym same) tt
    each x (inr has) = cancels s.waiting held.waiting x has

    by : (b : Bool) → AddsOn c s (cond {A = Of × Bool} (not b) (s, false) (gone, true)).0
    by false = ([], sym (append-nil s.journal), λ x none. absurd none)
    by true = (Cut Removed ∷ map (λ (job : Job). Cancelled job.key) s.waiting, refl, each)

applies_on : (c : ℕ) (s : Of) (job : Job) (moment : ℕ) (come : Stepped SessionDevice) → HeldOn c s → AddsOn c s (station.apply s job moment come).0
applies_on c s job moment come held =
    by (find (λ (t : InHand). is_key t.key job.key) s.taken) (found_one (λ (t : InHand). (t.key).channel ≡ c) (λ (t : InHand). is_key t.key job.key) s.taken held.taken)
  where
    hand : (t : InHand) → (t.key).channel ≡ c → (b : Bool) → AddsOn c s (cond {A = Of × Applied} b (station.cancelled_in_hand s t (kind_of job.op), applied.Cancelled) (station.ran s t (kind_of job.op) moment come, cond (is_parked come.answer) applied.Parked applied.Ran)).0
    hand t at true = (Cancelled t.key ∷ [], refl, one_on c (Cancelled t.key) at)
    hand t at false = (Ran t.key moment (is_starved come.answer) (is_parked come.answer) ∷ [], refl, one_on c (Ran t.key moment (is_starved come.answer) (is_parked come.answer)) at)

    by : (o : Option InHand) → IfSome o (λ (t : InHand). (t.key).channel ≡ c) → AddsOn c s (station.apply_from s job moment come o).0
    by None at = ([], sym (append-nil s.journal), λ x none. absurd none)
    by (Some t) at = hand t at t.removed

-- a station that holds nothing runs nothing
none_applied : (s : Of) (job : Job) (moment : ℕ) (come : Stepped SessionDevice) → IsIdle s → ((station.apply s job moment come).0).journal ≡ s.journal
none_applied s job moment come idle =
    ap (λ (ts : List InHand). ((station.apply_from s job moment come (find (λ (t : InHand). is_key t.key job.key) ts)).0).journal) idle.taken

collects_on : (c : ℕ) (s after : Of) (x : Completion) → HeldOn c s → station.collect s ≡ (after, Some x) → AddsOn c s after
collects_on c s after x held made = first s.ready held.ready made
  where
    first : (cs : List Completion) → AllByRecursion (λ (x : Completion). (x.key).channel ≡ c) cs → collect_first s cs ≡ (after, Some x) → AddsOn c s after
    first [] all same = let nothing : None ≡ Some x = ap (λ (r : Of × Option Completion). r.1) same in absurd (cc (nothing))
    first (z ∷ zs) all same = (Sent z.key ∷ [], ap (λ (r : Of × Option Completion). (r.0).journal) (sym same), one_on c (Sent z.key) all.0)

-- ---- a message is heard

announced_open : (w : WorldState) (d : ℕ) (o : Option Of) → station_at w d ≡ o → Opened w.deeds → Opened (announced_by w d o).deeds
announced_open w d None there is = is
announced_open w d (Some s) there is = with_silent w d s (station.announce s).0 there (announces_silently s) is

all_announced : (devices : List Announce) (w : WorldState) → Opened w.deeds → Opened (fold (λ x (a : Announce). announcing x a.id) w devices).deeds
all_announced [] w is = is
all_announced (a ∷ devices) w is = all_announced devices (announcing w a.id) (announced_open w a.id (station_at w a.id) refl is)

putting_open : (c : ℕ) (w : WorldState) (d : ℕ) (job : Job) → open_channel w.deeds ≡ Some c → (job.key).channel ≡ c → Opened w.deeds → Opened (putting w d job).deeds
putting_open c w d job opened own is = at (station_at w d) refl
  where
    here : (s : Of) → station_at w d ≡ Some s → (refusal : Option PutWhy) → Opened (put_by w d job (put_unless s job refusal)).deeds
    here s there None = with_open c w d s (put_unless s job None).0 opened there (Came job.key ∷ [], refl, one_on c (Came job.key) own) is
    here s there (Some why.Gone) = is
    here s there (Some (why.Full count)) = is
    here s there (Some (why.Worn count)) = is
    here s there (Some (why.Duplicate key)) = is
    here s there (Some why.Memory) = is

    at : (o : Option Of) → station_at w d ≡ o → Opened (put_at w d job o).deeds
    at None there = is
    at (Some s) there = here s there (put_refusal s job)

hears_open : (c : ℕ) (w : WorldState) (m : List ℕ) → open_channel w.deeds ≡ Some c → (w.client).channel ≡ c → Opened w.deeds → Opened (client_hears w m).deeds
hears_open c w m opened own is = by (client_hear w.client m) (hears w.client m)
  where
    read : ClientCoreState → WorldState
    read x = record w { client = x; deeds = client_reads w.channels m ∷ w.deeds }

    so : (x : ClientCoreState) → Opened (read x).deeds
    so x = (tt, is)

    opening : (shake : ClientState) (x : WorldState) → Opened x.deeds → Opened (after_opening shake x).deeds
    opening shake x is = go (client.becomes_ready shake ((x.client).core).shake)
      where
        go : (b : Bool) → Opened (if b then fold (λ y (a : Announce). announcing y a.id) x (listed x.client) else x).deeds
        go true = all_announced (listed x.client) x is
        go false = is

    by : (r : ClientCoreState × Result Heard EndFault) → HeardAs w.client m r → Opened (heard_by_client ((w.client).core).shake (read r.0) r.1).deeds
    by (x, Err wrong) so_heard = so x
    by (x, Ok (heard.Print n)) so_heard = so x
    by (x, Ok heard.Nothing) so_heard = opening ((w.client).core).shake (read x) (so x)
    by (x, Ok (heard.Ask device job)) (same, count, asks, still, fine, r, reads, named, made) =
        putting_open c (read x) device job opened (ap (λ (j : Job). (j.key).channel) made ∙ own) (so x)

-- ---- channels

connects_open : (w : WorldState) → Opened w.deeds → Opened (connects w).deeds
connects_open w is = subst (λ (x : WorldState). Opened (begun_on w x).deeds) (sym (all_refreshed (map (λ (e : ℕ × PrinterNames). e.0) w.printers) w)) (tt, is)

all_cut : (c : ℕ) (ds : List ℕ) (x : WorldState) → open_channel x.deeds ≡ Some c → Opened x.deeds → Opened (fold dropping x ds).deeds
all_cut c [] x opened is = is
all_cut c (d ∷ ds) x opened is = by (station_at x d) refl (all_cut c ds)
  where
    stored : (s : Of) → station_at x d ≡ Some s → open_channel (with_station x d (station.drop_channel s (device_cut s.device).state)).deeds ≡ Some c
    stored s there =
        let (more, longer, on) = drops_on c s (device_cut s.device).state in
        subst (λ (ds : List Deed). open_channel ds ≡ Some c) (sym (stored_deeds x d s (station.drop_channel s (device_cut s.device).state) there more longer)) (same (reverse more))
      where
        same : (xs : List Item) → open_channel (map (stores d) xs ++ x.deeds) ≡ Some c
        same [] = opened
        same (y ∷ xs) = same xs

    by : (o : Option Of) → station_at x d ≡ o → ((y : WorldState) → open_channel y.deeds ≡ Some c → Opened y.deeds → Opened (fold dropping y ds).deeds) → Opened (fold dropping (option_map_or (λ (s : Of). with_station x d (station.drop_channel s (device_cut s.device).state)) o x) ds).deeds
    by None there next = next x opened is
    by (Some s) there next =
        let cut : Of = station.drop_channel s (device_cut s.device).state in
        next (with_station x d cut) (stored s there) (with_open c x d s cut opened there (drops_on c s (device_cut s.device).state) is)

-- ---- each part, and every run

open_beside : (channel : ℕ) (o : Option Key) (m : List ℕ) (deeds : List Deed) → Opened deeds → Opened (option_map_or (λ key. completes key m) o (client_writes channel m) ∷ deeds)
open_beside channel None m deeds is = (tt, is)
open_beside channel (Some key) m deeds is = (tt, is)

module _ (lines : List NumberedLine) (starves : Key → Bool) (premises : RunPremises lines) where
  part_open : (w : WorldState) (p : Part) → MayBe lines starves w p → IsBehind lines starves w → Opened w.deeds → Opened (done starves w p).deeds
  part_open w (accepts a asked named t number) may before is = (tt, is)
  part_open w (refuses a asked cause) may before is = is
  part_open w (hands_out a number t had None) may before is = (tt, is)
  part_open w (hands_out a number t had (Some asked)) may before is = (tt, is)
  part_open w (host_sends_one m) may before is = (tt, is)
  part_open w (host_gets n) may before is = is
  part_open w host_keeps_part may before is = is
  part_open w (host_hears_one m rest) may before is = (tt, is)
  part_open w (tells_one n) may before is = (tt, is)
  part_open w begins may before is = connects_open w is
  part_open w ends may before is =
      let k = knows lines starves premises w before in
      (tt, all_cut w.channels (map (λ (e : ℕ × Of). e.0) w.stations) w (needs_open lines starves w ends may tt k.stands) is)
  part_open w (client_sends_one x o) may before is = open_beside w.channels o.answers o.message w.deeds is
  part_open w (client_gets n) may before is = is
  part_open w client_keeps_part may before is = is
  part_open w (client_hears_one m rest) may before is =
      let k = knows lines starves premises w before in
      hears_open w.channels (record w { to_client = (handling_by w.to_client (Some (m, rest))).0 }) m (needs_open lines starves w (client_hears_one m rest) may tt k.stands) (k.on).channel is
  part_open w (tries_one j) may before is =
      let k = knows lines starves premises w before in
      putting_open w.channels (record w { kept = None }) j.device j.job (needs_open lines starves w (tries_one j) may tt k.stands) (subst (λ (o : Option Kept). IfSome o (λ (k : Kept). ((k.job).key).channel ≡ w.channels)) may (k.on).back) is
  part_open w (collects_one d s after x) (reached, idle, there, made) before is =
      let k = knows lines starves premises w before in
      (tt, with_open w.channels w d s after (needs_open lines starves w (collects_one d s after x) (reached, idle, there, made) tt k.stands) there (collects_on w.channels s after x ((k.on).held d s there) made) is)
  part_open w (takes_one d hand s after job) (free, there, made) before is = with_silent w d s after there (subst (λ (r : Of × Given). (r.0).journal ≡ s.journal) made (takes_silently s)) is
  part_open w (applies_one hand d job None) may before is = is
  part_open w (applies_one hand d job (Some s)) (holds, there) before is =
      let k = knows lines starves premises w before in
      let came = came_of starves w job s.device in
      elim ((k.stands).host).last [
        | inl shut ↦ with_silent w d s (station.apply s job w.moment came).0 there (none_applied s job w.moment came (((k.stands).shut shut).idle d s there)) is
        | inr opened ↦ with_open w.channels w d s (station.apply s job w.moment came).0 opened there (applies_on w.channels s job w.moment came ((k.on).held d s there)) is
      ]
  part_open w (removes_one d None) (can, there) before is = (tt, is)
  part_open w (removes_one d (Some s)) (can, there) before is =
      let k = knows lines starves premises w before in
      with_open w.channels (told_removed w d) d s (station.remove s (device_cut s.device).state).0
      (needs_open lines starves w (removes_one d (Some s)) (can, there) tt k.stands) there (removes_on w.channels s (device_cut s.device).state ((k.on).held d s there)) (tt, is)
  part_open w (adds_one d None o) (can, printers, there) before is = announced_open (told_added w d) d o there (tt, is)
  part_open w (adds_one d (Some names) o) (can, printers, there) before is = announced_open (told_added (refreshed_by w d (Some names)) d) d o there (tt, is)
  part_open w (queues_one a) may before is = is
  part_open w (idle_one number) may before is = is
  part_open w draws_one may before is = is

  begins_open : Opened (world_of lines).deeds
  begins_open = subst (λ (x : WorldState). Opened x.deeds) (sym (begun_by lines _ (lines_begin lines))) (first (declared_devices (bare_lines lines)) (applications_of (bare_lines lines)))
    where
      first : (es : List (ℕ × Declared)) (applications : List (ℕ × ApplicationState)) → Opened (new_world es applications).deeds
      first es applications = tt

  pub stored_open : (w : WorldState) → Reached lines starves w → Opened w.deeds
  stored_open w reached = by_parts lines starves (λ x. Opened x.deeds) begins_open (λ x p before after may is. part_open x p may before is) w (reached_behind lines starves w reached)
