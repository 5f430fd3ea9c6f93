-- A completion of a key after whose coming the device was removed is written after the removal is told.
use Rattle.std.proofs.Common.{◌≡◌, ◌⊎◌, ◌∙◌, refl, sym, ap, subst, inl, inr, ℕ, ◌+◌, ◌<◌, ◌^◌, ◌==◌, Bool, true, false, cond, not, arith, append-nil, eq-eqb, eqb-true, List, [], ◌∷◌, ◌++◌, map, reverse, Some, None, Option, Result, Ok, Err}
use Rattle.std.specs.Prelude.{find, fold, if◌then◌else◌, nat_le}
use Rattle.std.specs.List.{cons_option, list_any}
use Rattle.std.specs.Option.{option_map_or}
use Rattle.std.specs.Int.{to_le_bytes, w32}
use Rattle.rd_base.specs.Fields.{number32}
use Rattle.rd_base.specs.Layout.{four_bytes, met}
use Rattle.rd_base.specs.Limits.{max_devices}
use Rattle.rd_base.specs.Position.{Position, at_start}
use Rattle.rd_base.proofs.CountedLemmas.{counted_spelled}
use Rattle.rd_base.proofs.LayoutLemmas.{meets}
use Rattle.rd_base.proofs.SpellingLemmas.{AreSpelled, number_spelled, times_spelled}
use Rattle.rd_base.specs.declared.journal.Cause.TheVariants.{Dropped, Removed}
use Rattle.rd_base.specs.declared.journal.Item.{Item}
use Rattle.rd_base.specs.declared.journal.Item.TheVariants.{Came, Cancelled, Cut, Ran, Sent}
use Rattle.rd_base.specs.declared.journal.Key.{Key}
use Rattle.rd_client.specs.Core as client
use Rattle.rd_client.specs.Core.{ClientCoreState, Outgoing, client_hear, listed, listed_one, plain}
use Rattle.rd_client.specs.declared.heard.Heard.{Heard}
use Rattle.rd_client.specs.declared.heard.Heard.TheVariants as heard
use Rattle.rd_core.specs.Core as core
use Rattle.rd_devices.specs.DeviceList.{list_bytes}
use Rattle.rd_devices.specs.Removal.{removal, removal_bytes}
use Rattle.rd_devices.proofs.RemovalLemmas.{removal_spelled}
use Rattle.rd_devices.specs.declared.list.Announce.{Announce}
use Rattle.rd_drive.specs.Device.{is_parked, is_starved}
use Rattle.rd_drive.specs.Stepped.{Stepped}
use Rattle.rd_drive.specs.declared.plan.Job.{Job}
use Rattle.rd_hello.specs.declared.client.ClientState.{ClientState}
use Rattle.rd_hello.specs.declared.end_fault.EndFault.{EndFault}
use Rattle.rd_irp.specs.Fits.{kind_of}
use Rattle.rd_irp.specs.declared.request.Request.{Request}
use Rattle.rd_journals.specs.Jobs.{AreFine, FitsCompletion}
use Rattle.rd_journals.specs.Orderly.{Orderly}
use Rattle.rd_journals.specs.Standing.{IsOut, IsStanding, IsUnserved, pending_of}
use Rattle.rd_journals.specs.Stations.{AreFit}
use Rattle.rd_journals.proofs.CameLemmas.{fines}
use Rattle.rd_journals.proofs.ChannelLemmas.{all_refreshed, begun_on}
use Rattle.rd_journals.proofs.HeldLemmas.{stored_deeds, turned_has}
use Rattle.rd_journals.proofs.RunLemmas.{behind_orderly}
use Rattle.rd_journals.proofs.ServingLemmas.{behind_standing, came_is_named}
use Rattle.rd_journals.proofs.ShortLemmas.{came_read}
use Rattle.rd_journals.proofs.WritingLemmas.{AddsOwn, hear_adds}
use Rattle.rd_journals.proofs.RunsParts.{IsBehind, MayBe, Part, accepts, adds_one, announced_by, applies_one, begins, by_parts, client_gets, client_hears_one, client_keeps_part, client_sends_one, collects_one, cut_by, done, draws_one, ends, hands_out, host_gets, host_hears_one, host_keeps_part, host_sends_one, idle_one, queues_one, reached_behind, refreshed_by, refuses, removes_one, takes_one, tells_one, told_added, told_removed, tries_one}
use Rattle.rd_journals.proofs.RunsHostLemmas.{host_channel}
use Rattle.rd_journals.proofs.RunsTogether.{knows}
use Rattle.rd_journals.specs.RunsMoves.{Reached}
use Rattle.rd_journals.specs.RunsPremises.{RunPremises}
use Rattle.rd_script.specs.declared.line.NumberedLine.{NumberedLine}
use Rattle.rd_station.specs.Station as station
use Rattle.rd_station.specs.Station.{StationState, collect_first, is_key, put_refusal, put_unless}
use Rattle.rd_station.specs.declared.answers.Applied.{Applied}
use Rattle.rd_station.specs.declared.answers.Applied.TheVariants as applied
use Rattle.rd_station.specs.declared.answers.Completion.{Completion}
use Rattle.rd_station.specs.declared.answers.Given.{Given}
use Rattle.rd_station.specs.declared.answers.Given.TheVariants as given
use Rattle.rd_station.specs.declared.held.InHand.{InHand}
use Rattle.rd_station.specs.declared.refusals.AnnounceNo.{AnnounceNo}
use Rattle.rd_station.specs.declared.refusals.AnnounceNo.TheVariants as refused
use Rattle.rd_station.specs.declared.refusals.PutWhy.{PutWhy}
use Rattle.rd_station.specs.declared.refusals.PutWhy.TheVariants as why
use Rattle.rd_declared.specs.Devices.{Declared, PrinterNames, device_cut, printer_data}
use Rattle.rd_world.specs.Events.{came_of, client_sends_first, client_sends_next, completion_message, connects, cutting, dropping, is_empty}
use Rattle.rd_world.specs.Hearing.{after_opening, announcing, client_hears, heard_by_client, put_at, put_by, putting}
use Rattle.rd_declared.specs.Declaring.{bare_lines, declared_devices}
use Rattle.rd_world.specs.Run.{applications_of, new_world, world_of}
use Rattle.rd_deeds.specs.Talk as deed
use Rattle.rd_deeds.specs.Talk.{Deed, EachAfter, Has, client_read, client_reads, client_writes, completes, journal, open_channel, removed_in, request_at, stores}
use Rattle.rd_world.specs.World.{ApplicationState, WorldState, handling_by, station_at, with_station}
use Rattle.rd_declared.specs.declared.device.SessionDevice.{SessionDevice}
use Rattle.rd_world.proofs.BeginningLemmas.{begun_by}
use Rattle.rd_world.proofs.OpeningLemmas.{lines_begin}
use Rattle.rd_replied.specs.Removals.{AreGone, IsCutSince, IsGoneSince, IsGoneSoon, TellsGone}

abbrev Of : Type 0
Of = StationState SessionDevice

-- ---- what a removal says

removal_met : (device : ℕ) → device < 2 ^ 32 → (q : Position) × (met removal (at_start (removal_bytes (device ∷ []))) ≡ Ok (device ∷ [], q))
removal_met device fits =
    let ids : List ℕ = device ∷ [] in
    let each : AreSpelled number32 (to_le_bytes w32) ids = record { each = (number_spelled four_bytes device fits, tt) } in
    let s = removal_spelled ids (counted_spelled number32 (to_le_bytes w32) ids max_devices (omega arith) (omega arith) (times_spelled number32 (to_le_bytes w32) ids each)) in
    let m = meets removal 0 (removal_bytes ids) ids 0 s in
    (m.0, m.1)

says_gone : (device : ℕ) → device < 2 ^ 32 → list_any (λ id. id == device) (removed_in (removal_bytes (device ∷ []))) ≡ true
says_gone device fits = rw ((removal_met device fits).1, eq-eqb device device refl) refl

-- ---- entries and deeds

cut_came : (items : List Item) (key : Key) → IsCutSince items key → Has (Came key) items
cut_came [] key is = absurd is
cut_came (Cut Removed ∷ items) key (inl has) = inr has
cut_came (Cut Removed ∷ items) key (inr is) = inr (cut_came items key is)
cut_came (Cut Dropped ∷ items) key is = inr (cut_came items key is)
cut_came (Came k ∷ items) key is = inr (cut_came items key is)
cut_came (Ran k m s p ∷ items) key is = inr (cut_came items key is)
cut_came (Cancelled k ∷ items) key is = inr (cut_came items key is)
cut_came (Sent k ∷ items) key is = inr (cut_came items key is)

gone_more : (d : ℕ) (key : Key) (y : Deed) (deeds : List Deed) → IsGoneSince d key deeds → IsGoneSince d key (y ∷ deeds)
gone_more d key y deeds (late, early, m, parts, says, read) = (y ∷ late, early, m, ap (λ (ds : List Deed). y ∷ ds) parts, says, read)

-- the entry isn't the cut of a removal
IsMild : Item → Type 0
IsMild (Cut Removed) = ⊥
IsMild _ = Unit {0}

mild_since : (x : Item) (items : List Item) (key : Key) → IsMild x → IsCutSince (x ∷ items) key → IsCutSince items key
unfolding IsMild
mild_since (Cut Removed) items key mild is = absurd mild
mild_since (Cut Dropped) items key mild is = is
mild_since (Came k) items key mild is = is
mild_since (Ran k m s p) items key mild is = is
mild_since (Cancelled k) items key mild is = is
mild_since (Sent k) items key mild is = is

has_before : {A : Type 0} (x : A) (xs ys : List A) → Has x xs → Has x (xs ++ ys)
has_before x [] ys has = absurd has
has_before x (y ∷ xs) ys (inl same) = inl same
has_before x (y ∷ xs) ys (inr has) = inr (has_before x xs ys has)

has_last : {A : Type 0} (x : A) (xs : List A) → Has x (xs ++ x ∷ [])
has_last x [] = inl refl
has_last x (y ∷ xs) = inr (has_last x xs)

soon_more : (d : ℕ) (old new : List Outgoing) → ((o : Outgoing) → Has o old → Has o new) → IsGoneSoon d old → IsGoneSoon d new
soon_more d old new more (o, has, own, says) = (o, more o has, own, says)

gone_out : {old : List Outgoing} (new : List Outgoing) {deeds : List Deed} → ((o : Outgoing) → Has o old → Has o new) → AreGone old deeds → AreGone new deeds
gone_out {old} new more is = record {
  soon = λ d key at since. elim (is.soon d key at since) [ inl soon ↦ inl (soon_more d old new more soon) | inr gone ↦ inr gone ];
  each = is.each;
}

gone_own : {old : List Outgoing} (new : List Outgoing) {deeds : List Deed} → AddsOwn old new → AreGone old deeds → AreGone new deeds
gone_own {old} new (more, same, own) is = gone_out new (λ o has. subst (Has o) (sym same) (has_before o old more has)) is

gone_beside : {outbox : List Outgoing} {deeds : List Deed} (y : Deed) → ((d : ℕ) → journal d (y ∷ deeds) ≡ journal d deeds) → open_channel (y ∷ deeds) ≡ open_channel deeds → TellsGone deeds y → AreGone outbox deeds → AreGone outbox (y ∷ deeds)
gone_beside {outbox} {deeds} y same opened own is = record {
  soon = λ d key at since. elim (is.soon d key (sym opened ∙ at) (subst (λ (xs : List Item). IsCutSince xs key) (same d) since)) [ inl soon ↦ inl soon | inr gone ↦ inr (gone_more d key y deeds gone) ];
  each = (own, is.each);
}

gone_mild : {outbox : List Outgoing} {deeds : List Deed} (e : ℕ) (x : Item) → IsMild x → AreGone outbox deeds → AreGone outbox (stores e x ∷ deeds)
gone_mild {outbox} {deeds} e x mild is = record {
  soon = λ d key at since. elim (is.soon d key at (by d key (e == d) since)) [ inl soon ↦ inl soon | inr gone ↦ inr (gone_more d key (stores e x) deeds gone) ];
  each = (tt, is.each);
}
  where
    by : (d : ℕ) (key : Key) (b : Bool) → IsCutSince (cons_option (cond b (Some x) None) (journal d deeds)) key → IsCutSince (journal d deeds) key
    by d key true since = mild_since x (journal d deeds) key mild since
    by d key false since = since

gone_milds : {outbox : List Outgoing} (e : ℕ) (xs : List Item) (deeds : List Deed) → ((x : Item) → Has x xs → IsMild x) → AreGone outbox deeds → AreGone outbox (map (stores e) xs ++ deeds)
gone_milds e [] deeds mild is = is
gone_milds e (x ∷ xs) deeds mild is = gone_mild e x (mild x (inl refl)) (gone_milds e xs deeds (λ y has. mild y (inr has)) is)

-- whatever is stored of a device that is told to be gone
gone_stores : {outbox : List Outgoing} (e : ℕ) (xs : List Item) (deeds : List Deed) → IsGoneSoon e outbox → AreGone outbox deeds → AreGone outbox (map (stores e) xs ++ deeds)
gone_stores e [] deeds soon is = is
gone_stores {outbox} e (x ∷ xs) deeds soon is = one (gone_stores e xs deeds soon is)
  where
    one : AreGone outbox (map (stores e) xs ++ deeds) → AreGone outbox (stores e x ∷ map (stores e) xs ++ deeds)
    one so = record { soon = λ d key at since. by d key at (e == d) refl since; each = (tt, so.each) }
      where
        by : (d : ℕ) (key : Key) → open_channel (map (stores e) xs ++ deeds) ≡ Some key.channel → (b : Bool) → (e == d) ≡ b → IsCutSince (cons_option (cond b (Some x) None) (journal d (map (stores e) xs ++ deeds))) key
            → IsGoneSoon d outbox ⊎ IsGoneSince d key (stores e x ∷ map (stores e) xs ++ deeds)
        by d key at true f since = inl (subst (λ (n : ℕ). IsGoneSoon n outbox) (eqb-true e d f) soon)
        by d key at false f since = elim (so.soon d key at since) [ inl later ↦ inl later | inr gone ↦ inr (gone_more d key (stores e x) (map (stores e) xs ++ deeds) gone) ]

-- ---- stations

abbrev Mildly : Of → Of → Type 0
Mildly old new = (more : List Item) × (new.journal ≡ old.journal ++ more) × ((x : Item) → Has x more → IsMild x)

silent : (old new : Of) → new.journal ≡ old.journal → Mildly old new
silent old new same = ([], same ∙ sym (append-nil old.journal), λ x none. absurd none)

one_mild : (y : Item) → IsMild y → (x : Item) → Has x (y ∷ []) → IsMild x
one_mild y mild x (inl same) = subst IsMild (sym same) mild
one_mild y mild x (inr none) = absurd none

with_mild : {outbox : List Outgoing} (w : WorldState) (d : ℕ) (old new : Of) → station_at w d ≡ Some old → Mildly old new → AreGone outbox w.deeds → AreGone outbox (with_station w d new).deeds
with_mild {outbox} w d old new there (more, longer, mild) is =
    subst (AreGone outbox) (sym (stored_deeds w d old new there more longer)) (gone_milds d (reverse more) w.deeds (λ x has. mild x (turned_has x more has)) is)

announces_mildly : (s : Of) → Mildly s (station.announce s).0
announces_mildly s = silent s (station.announce s).0 (by s.live (nat_le station.max_entries (station.entry_count s)))
  where
    by : (a b : Bool) → (let t = (cond {A = Of × Result (Unit {0}) AnnounceNo} a (s, Err refused.Live) (cond b (s, Err (refused.Worn (station.entry_count s))) (record s { live = true }, Ok tt))).0 in t.journal) ≡ s.journal
    by true b = refl
    by false true = refl
    by false false = refl

drops_mildly : (s : Of) (cut : SessionDevice) → Mildly s (station.drop_channel s cut)
unfolding IsMild
drops_mildly s cut = by s.live
  where
    by : (b : Bool) → Mildly s (cond b (record (station.emptied s) { device = cut; live = false; journal = s.journal ++ Cut Dropped ∷ [] }) (station.emptied s))
    by true = (Cut Dropped ∷ [], refl, one_mild (Cut Dropped) tt)
    by false = ([], sym (append-nil s.journal), λ x none. absurd none)

takes_mildly : (s : Of) → Mildly s (station.take s).0
takes_mildly s = silent s (station.take s).0 (by s.ended s.waiting)
  where
    by : (b : Bool) (jobs : List Job) → (let t = (cond {A = Of × Given} b (s, given.Over) (station.take_first s jobs)).0 in t.journal) ≡ s.journal
    by true jobs = refl
    by false [] = refl
    by false (job ∷ jobs) = refl

applies_mildly : (s : Of) (job : Job) (moment : ℕ) (come : Stepped SessionDevice) → Mildly s (station.apply s job moment come).0
unfolding IsMild
applies_mildly s job moment come = by (find (λ (t : InHand). is_key t.key job.key) s.taken)
  where
    hand : (t : InHand) (b : Bool) → Mildly s (cond {A = Of × Applied} b (station.cancelled_in_hand s t (kind_of job.op), applied.Cancelled) (station.ran s t (kind_of job.op) moment come, cond (is_parked come.answer) applied.Parked applied.Ran)).0
    hand t true = (Cancelled t.key ∷ [], refl, one_mild (Cancelled t.key) tt)
    hand t false = (Ran t.key moment (is_starved come.answer) (is_parked come.answer) ∷ [], refl, one_mild (Ran t.key moment (is_starved come.answer) (is_parked come.answer)) tt)

    by : (o : Option InHand) → Mildly s (station.apply_from s job moment come o).0
    by None = ([], sym (append-nil s.journal), λ x none. absurd none)
    by (Some t) = hand t t.removed

-- a removed station stores something
removes_more : (s : Of) (cut : SessionDevice) → (more : List Item) × ((station.remove s cut).0.journal ≡ s.journal ++ more)
removes_more s cut = by s.live
  where
    gone : Of
    gone = record s {
      device = cut;
      live = false;
      waiting = [];
      taken = map station.marked_removed s.taken;
      parked = [];
      ready = s.ready ++ map station.cancelled_parked s.parked ++ map station.cancelled_waiting s.waiting;
      journal = s.journal ++ Cut Removed ∷ map (λ (job : Job). Cancelled job.key) s.waiting;
    }

    by : (b : Bool) → (more : List Item) × ((let t = (cond {A = Of × Bool} (not b) (s, false) (gone, true)).0 in t.journal) ≡ s.journal ++ more)
    by false = ([], sym (append-nil s.journal))
    by true = (Cut Removed ∷ map (λ (job : Job). Cancelled job.key) s.waiting, refl)

-- ---- a message is heard

abbrev Gone : WorldState → Type 0
Gone w = AreGone ((w.client).core).outbox w.deeds

announced_gone : (w : WorldState) (d : ℕ) (o : Option Of) → station_at w d ≡ o → Gone w → Gone (announced_by w d o)
announced_gone w d None there is = is
announced_gone w d (Some s) there is = with_mild w d s (station.announce s).0 there (announces_mildly s) is

all_announced : (devices : List Announce) (w : WorldState) → Gone w → Gone (fold (λ x (a : Announce). announcing x a.id) w devices)
all_announced [] w is = is
all_announced (a ∷ devices) w is = all_announced devices (announcing w a.id) (announced_gone w a.id (station_at w a.id) refl is)

putting_gone : (w : WorldState) (d : ℕ) (job : Job) → Gone w → Gone (putting w d job)
unfolding IsMild
putting_gone w d job is = at (station_at w d) refl
  where
    direct : (m : Outgoing) → AreGone (((w.client).core).outbox ++ m ∷ []) w.deeds
    direct m = gone_out (((w.client).core).outbox ++ m ∷ []) (λ o has. has_before o ((w.client).core).outbox (m ∷ []) has) is

    here : (s : Of) → station_at w d ≡ Some s → (refusal : Option PutWhy) → Gone (put_by w d job (put_unless s job refusal))
    here s there None = with_mild w d s (put_unless s job None).0 there (Came job.key ∷ [], refl, one_mild (Came job.key) tt) is
    here s there (Some why.Gone) = direct _
    here s there (Some (why.Full count)) = is
    here s there (Some (why.Worn count)) = direct _
    here s there (Some (why.Duplicate key)) = is
    here s there (Some why.Memory) = is

    at : (o : Option Of) → station_at w d ≡ o → Gone (put_at w d job o)
    at None there = direct _
    at (Some s) there = here s there (put_refusal s job)

hears_gone : (w : WorldState) (m : List ℕ) → Gone w → Gone (client_hears w m)
hears_gone w m is = by (client_hear w.client m) (hear_adds w.client m)
  where
    read : ClientCoreState → WorldState
    read x = record w { client = x; deeds = client_reads w.channels m ∷ w.deeds }

    so : (x : ClientCoreState) → AddsOwn ((w.client).core).outbox (x.core).outbox → Gone (read x)
    so x adds = gone_own (x.core).outbox adds (gone_beside (client_reads w.channels m) (λ d. refl) refl tt is)

    opening : (shake : ClientState) (x : WorldState) → Gone x → Gone (after_opening shake x)
    opening shake x gone = go (client.becomes_ready shake ((x.client).core).shake)
      where
        go : (b : Bool) → Gone (if b then fold (λ y (a : Announce). announcing y a.id) x (listed x.client) else x)
        go true = all_announced (listed x.client) x gone
        go false = gone

    by : (r : ClientCoreState × Result Heard EndFault) → AddsOwn ((w.client).core).outbox ((r.0).core).outbox → Gone (heard_by_client ((w.client).core).shake (read r.0) r.1)
    by (x, Err wrong) adds = so x adds
    by (x, Ok (heard.Print n)) adds = so x adds
    by (x, Ok heard.Nothing) adds = opening ((w.client).core).shake (read x) (so x adds)
    by (x, Ok (heard.Ask device job)) adds = putting_gone (read x) device job (so x adds)

-- ---- channels

connects_gone : (w : WorldState) → Orderly w → Gone w → Gone (connects w)
connects_gone w ordered is = subst (λ (x : WorldState). Gone (begun_on w x)) (sym (all_refreshed (map (λ (e : ℕ × PrinterNames). e.0) w.printers) w)) so
  where
    none_read : (c : ℕ) (k : ℕ) (r : Request) → c ≡ w.channels + 1 → request_at (client_read c w.deeds) k ≡ Some r → ⊥
    none_read c k r new read =
        let nothing : request_at [] k ≡ Some r = ap (λ (ms : List (List ℕ)). request_at ms k) (sym (ordered.unread c (omega (arith, new)))) ∙ read in absurd (cc (nothing))

    so : AreGone [] (deed.host_begins (w.channels + 1) ∷ w.deeds)
    so = record {
      soon = λ d key at since.
          let (r, read, named) = came_read d key w.deeds (ordered.held).reads (cut_came (journal d w.deeds) key since) in
          let new : key.channel ≡ w.channels + 1 = cc (at) in
          absurd (none_read key.channel key.index r new read);
      each = (tt, is.each);
    }

one_dropped : {outbox : List Outgoing} (x : WorldState) (d : ℕ) → AreGone outbox x.deeds → AreGone outbox (dropping x d).deeds
one_dropped {outbox} x d is = by (station_at x d) refl
  where
    by : (o : Option Of) → station_at x d ≡ o → AreGone outbox (option_map_or (λ (s : Of). with_station x d (station.drop_channel s (device_cut s.device).state)) o x).deeds
    by None there = is
    by (Some s) there = with_mild x d s (station.drop_channel s (device_cut s.device).state) there (drops_mildly s (device_cut s.device).state) is

all_cut : {outbox : List Outgoing} (ds : List ℕ) (x : WorldState) → AreGone outbox x.deeds → AreGone outbox (fold dropping x ds).deeds
all_cut [] x is = is
all_cut (d ∷ ds) x is = all_cut ds (dropping x d) (one_dropped x d is)

cutting_gone : (w : WorldState) → Gone w → Gone (cutting w)
cutting_gone w is = record {
  soon = λ d key at since. absurd (cc (at));
  each = (tt, (all_cut (map (λ (e : ℕ × Of). e.0) w.stations) w is).each);
}

-- ---- a client sends

client_sends_gone : (w : WorldState) → Orderly w → IsStanding w → AreFine FitsCompletion w.deeds → open_channel w.deeds ≡ Some w.channels → Gone w → Gone (client_sends_next w)
client_sends_gone w ordered stands fine opened is = by ((w.client).core).outbox refl
  where
    still : (o : Outgoing) (others : List Outgoing) (k : Key) → o.answers ≡ Some k → (d : ℕ) → IsGoneSoon d (o ∷ others) → IsGoneSoon d others
    still o others k a d (p, inl same, none, says) = let both : None ≡ Some k = sym none ∙ ap (λ (x : Outgoing). x.answers) same ∙ a in absurd (cc (both))
    still o others k a d (p, inr has, none, says) = (p, has, none, says)

    told : (o : Outgoing) (others : List Outgoing) (d : ℕ) (key : Key) → open_channel w.deeds ≡ Some key.channel → Has (Came key) (journal d w.deeds) → IsGoneSoon d (o ∷ others)
        → IsGoneSoon d others ⊎ IsGoneSince d key (deed.client_writes w.channels o.message ∷ w.deeds)
    told o others d key at came (p, inl same, none, says) =
        let (r, read, named) = came_read d key w.deeds (ordered.held).reads came in
        let both : Some w.channels ≡ Some key.channel = sym opened ∙ at in
        let channel : w.channels ≡ key.channel = cc (both) in
        let small : d < 2 ^ 32 = subst (λ (n : ℕ). n < 2 ^ 32) named (fine key.channel key.index r read).0 in
        inr ([], w.deeds, o.message, ap (λ (n : ℕ). deed.client_writes n o.message ∷ w.deeds) channel, subst (λ (x : Outgoing). list_any (λ id. id == d) (removed_in x.message) ≡ true) same (says small), (r, read, named))
    told o others d key at came (p, inr has, none, says) = inl (p, has, none, says)

    sent_one : (o : Outgoing) (others : List Outgoing) → AreGone (o ∷ others) w.deeds → Has o ((w.client).core).outbox → (answers : Option Key) → o.answers ≡ answers
        → AreGone others (option_map_or (λ key. deed.completes key o.message) answers (deed.client_writes w.channels o.message) ∷ w.deeds)
    sent_one o others now has (Some k) a =
        let out : IsUnserved w.channels (w.client).asked w.stations (pending_of w.kept) k = subst (λ (x : Option Key). IsOut (IsUnserved w.channels (w.client).asked w.stations (pending_of w.kept)) x o.message) a (stands.out o has) in
        record {
          soon = λ d key at since. elim (now.soon d key at since) [
            | inl soon ↦ inl (still o others k a d soon)
            | inr gone ↦ inr (gone_more d key (deed.completes k o.message) w.deeds gone)
          ];
          each = (λ d since. absurd (out.unnamed (came_is_named w ordered d k (cut_came (journal d w.deeds) k since))), now.each);
        }
    sent_one o others now has None a = record {
      soon = λ d key at since. elim (now.soon d key at since) [
        | inl soon ↦ told o others d key at (cut_came (journal d w.deeds) key since) soon
        | inr gone ↦ inr (gone_more d key (deed.client_writes w.channels o.message) w.deeds gone)
      ];
      each = (tt, now.each);
    }

    by : (messages : List Outgoing) → ((w.client).core).outbox ≡ messages → let r = core.send_from (w.client).core messages in Gone (client_sends_first w (record w.client { core = r.0 }, r.1))
    by [] e = is
    by (o ∷ others) e = sent_one o others (subst (λ (os : List Outgoing). AreGone os w.deeds) e is) (subst (Has o) (sym e) (inl refl)) o.answers refl

-- what a device completed is sent where nothing else is to be
collects_gone : (w : WorldState) (d : ℕ) (s after : Of) (x : Completion) → station_at w d ≡ Some s → station.collect s ≡ (after, Some x) → is_empty ((w.client).core).outbox ≡ true → open_channel (with_station w d after).deeds ≡ Some x.key.channel → Gone w
    → AreGone ((w.client).core).outbox (completes x.key (completion_message d x) ∷ (with_station w d after).deeds)
unfolding IsMild
collects_gone w d s after x there made empty opened is = gone_beside (completes x.key (completion_message d x)) (λ q. refl) refl own so
  where
    first : (cs : List Completion) → collect_first s cs ≡ (after, Some x) → after.journal ≡ s.journal ++ Sent x.key ∷ []
    first [] same = let nothing : None ≡ Some x = ap (λ (r : Of × Option Completion). r.1) same in absurd (cc (nothing))
    first (z ∷ zs) same =
        let one : Some z ≡ Some x = ap (λ (r : Of × Option Completion). r.1) same in
        let equal : z ≡ x = cc in
        ap (λ (r : Of × Option Completion). (r.0).journal) (sym same) ∙ ap (λ (z : Completion). s.journal ++ Sent z.key ∷ []) equal

    so : AreGone ((w.client).core).outbox (with_station w d after).deeds
    so = with_mild w d s after there (Sent x.key ∷ [], first s.ready made, one_mild (Sent x.key) tt) is

    nothing_soon : (q : ℕ) (os : List Outgoing) → is_empty os ≡ true → IsGoneSoon q os → ⊥
    nothing_soon q [] e (o, has, none, says) = has
    nothing_soon q (y ∷ os) e soon = absurd (cc (e))

    own : TellsGone (with_station w d after).deeds (completes x.key (completion_message d x))
    own q since = elim (so.soon q x.key opened since) [ inl soon ↦ absurd (nothing_soon q ((w.client).core).outbox empty soon) | inr gone ↦ gone ]

-- ---- devices go and come

removes_gone : (w : WorldState) (d : ℕ) (o : Option Of) → station_at w d ≡ o → Gone w → Gone (cut_by (told_removed w d) d o)
removes_gone w d o there is = by o there
  where
    own : Outgoing
    own = plain (removal_bytes (d ∷ []))

    told : AreGone (((w.client).core).outbox ++ own ∷ []) (deed.removes d ∷ w.deeds)
    told = gone_beside (deed.removes d) (λ q. refl) refl tt (gone_out (((w.client).core).outbox ++ own ∷ []) (λ p has. has_before p ((w.client).core).outbox (own ∷ []) has) is)

    soon : IsGoneSoon d (((w.client).core).outbox ++ own ∷ [])
    soon = (own, has_last own ((w.client).core).outbox, refl, says_gone d)

    by : (o : Option Of) → station_at (told_removed w d) d ≡ o → Gone (cut_by (told_removed w d) d o)
    by None there = told
    by (Some s) there =
        let new : Of = (station.remove s (device_cut s.device).state).0 in
        let (more, longer) = removes_more s (device_cut s.device).state in
        subst (AreGone (((w.client).core).outbox ++ own ∷ [])) (sym (stored_deeds (told_removed w d) d s new there more longer)) (gone_stores d (reverse more) (deed.removes d ∷ w.deeds) soon told)

adds_gone : (w : WorldState) (d : ℕ) (m : Outgoing) → Gone w → AreGone (((w.client).core).outbox ++ m ∷ []) (deed.adds d ∷ w.deeds)
adds_gone w d m is = gone_beside (deed.adds d) (λ q. refl) refl tt (gone_out (((w.client).core).outbox ++ m ∷ []) (λ p has. has_before p ((w.client).core).outbox (m ∷ []) has) is)

-- ---- each part, and every run

not_shut : (w : WorldState) (x : ClientCoreState) (o : Outgoing) → client.client_send w.client ≡ (x, Some o) → ((w.client).core).outbox ≡ [] → ⊥
not_shut w x o made none =
    let nothing : (core.send_from (w.client).core []).1 ≡ Some o = ap (λ (os : List Outgoing). (core.send_from (w.client).core os).1) (sym none) ∙ ap (λ (r : ClientCoreState × Option Outgoing). r.1) made in absurd (cc (nothing))

empty_is : (b : Bool) → not b ≡ false → b ≡ true
empty_is true e = refl
empty_is false e = absurd (cc (e))

module _ (lines : List NumberedLine) (starves : Key → Bool) (fit : AreFit (declared_devices (bare_lines lines))) (premises : RunPremises lines) where
  part_gone : (w : WorldState) (p : Part) → MayBe lines starves w p → IsBehind lines starves w → IsBehind lines starves (done starves w p) → Orderly w → Gone w → Gone (done starves w p)
  part_gone w (accepts a asked named t number) may before after ordered is = gone_beside (deed.submits a named asked.op) (λ d. refl) refl tt is
  part_gone w (refuses a asked cause) may before after ordered is = is
  part_gone w (hands_out a number t had None) may before after ordered is = gone_beside (deed.takes number) (λ d. refl) refl tt is
  part_gone w (hands_out a number t had (Some asked)) may before after ordered is = gone_beside (deed.takes number) (λ d. refl) refl tt is
  part_gone w (host_sends_one m) may before after ordered is = gone_beside (deed.host_writes w.channels m) (λ d. refl) refl tt is
  part_gone w (host_gets n) may before after ordered is = is
  part_gone w host_keeps_part may before after ordered is = is
  part_gone w (host_hears_one m rest) may before after ordered is = gone_beside (deed.host_reads w.channels m) (λ d. refl) refl tt is
  part_gone w (tells_one n) may before after ordered is = gone_beside (deed.tells n) (λ d. refl) refl tt is
  part_gone w begins may before after ordered is = connects_gone w ordered is
  part_gone w ends may before after ordered is = cutting_gone w is
  part_gone w (client_sends_one x o) made before after ordered is =
      let k = knows lines starves premises w before in
      subst (λ (r : ClientCoreState × Option Outgoing). Gone (client_sends_first w r)) made
      (client_sends_gone w ordered (behind_standing lines starves w fit before) (fines lines starves premises w before) (elim ((k.stands).host).last [ inl shut ↦ absurd (not_shut w x o made (ordered.shut (host_channel w.side w.channels w.deeds k.stands.host ∙ shut)).answers_none) | inr at ↦ at ]) is)
  part_gone w (client_gets n) may before after ordered is = is
  part_gone w client_keeps_part may before after ordered is = is
  part_gone w (client_hears_one m rest) may before after ordered is = hears_gone (record w { to_client = (handling_by w.to_client (Some (m, rest))).0 }) m is
  part_gone w (tries_one k) some before after ordered is = putting_gone (record w { kept = None }) k.device k.job is
  part_gone w (collects_one d s after_it x) (reached, idle, there, made) before after ordered is =
      collects_gone w d s after_it x there made (empty_is (is_empty ((w.client).core).outbox) idle) ((knows lines starves premises (done starves w (collects_one d s after_it x)) after).carries.on_open).0 is
  part_gone w (takes_one d hand s after_it job) (free, there, made) before after ordered is = with_mild w d s after_it there (subst (λ (r : Of × Given). Mildly s r.0) made (takes_mildly s)) is
  part_gone w (applies_one hand d job None) may before after ordered is = is
  part_gone w (applies_one hand d job (Some s)) (holds, there) before after ordered is =
      with_mild w d s (station.apply s job w.moment (came_of starves w job s.device)).0 there (applies_mildly s job w.moment (came_of starves w job s.device)) is
  part_gone w (removes_one d o) (can, there) before after ordered is = removes_gone w d o there is
  part_gone w (adds_one d None o) (can, printers, there) before after ordered is = announced_gone (told_added w d) d o there (adds_gone w d (plain (list_bytes (listed_one w.client d))) is)
  part_gone w (adds_one d (Some names) o) (can, printers, there) before after ordered is =
      announced_gone (told_added (refreshed_by w d (Some names)) d) d o there (adds_gone w d (plain (list_bytes (listed_one (client.refresh w.client d (printer_data w.cache names)) d))) is)
  part_gone w (queues_one a) may before after ordered is = is
  part_gone w (idle_one number) may before after ordered is = is
  part_gone w draws_one may before after ordered is = is

  begins_gone : Gone (world_of lines)
  begins_gone = subst Gone (sym (begun_by lines _ (lines_begin lines))) (first (declared_devices (bare_lines lines)) (applications_of (bare_lines lines)))
    where
      first : (es : List (ℕ × Declared)) (applications : List (ℕ × ApplicationState)) → Gone (new_world es applications)
      first es applications = record { soon = λ d key at since. absurd since; each = tt }

  pub reached_gone : (w : WorldState) → Reached lines starves w → Gone w
  reached_gone w reached =
      by_parts lines starves Gone begins_gone
      (λ x p before after may is. part_gone x p may before after (behind_orderly lines starves x fit before).0 is) w (reached_behind lines starves w reached)
