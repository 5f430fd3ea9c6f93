-- In every run each request that never comes is refused as the client had said of its device.
use Rattle.std.proofs.Common.{◌≡◌, ◌∙◌, refl, sym, ap, subst, ℕ, ◌<◌, ◌^◌, ◌==◌, Bool, true, false, eqb-true, List, [], ◌∷◌, ◌++◌, map, inl, inr, Some, None, Option, Result, Ok, Err, lit<}
use Rattle.std.specs.Prelude.{fold, if◌then◌else◌, not, ◌&&◌}
use Rattle.std.specs.List.{AllByRecursion, list_any}
use Rattle.std.specs.Ordering.{nat_cmp}
use Rattle.std.specs.BTreeMap.{insert_entry}
use Rattle.rd_base.specs.Statuses.{insufficient_resources, no_such_device}
use Rattle.rd_base.specs.declared.status.Status.{Status}
use Rattle.rd_client.specs.Core as client
use Rattle.rd_client.specs.Core.{AreDevices, ClientCoreState, ClientDevice, Outgoing, announce_in, announces, becomes_ready, client_hear, device_marked, has_device, is_device, is_gone, is_present, job_of, listed, listed_one, plain, refreshed}
use Rattle.rd_client.specs.Order.{is_client_ready}
use Rattle.rd_client.specs.declared.heard.Heard.{Heard}
use Rattle.rd_client.specs.declared.heard.Heard.TheVariants as heard
use Rattle.rd_devices.specs.declared.list.Announce.{Announce}
use Rattle.rd_drive.specs.Outcome.{fault}
use Rattle.rd_drive.specs.declared.plan.Job.{Job}
use Rattle.rd_hello.specs.declared.end_fault.EndFault.{EndFault}
use Rattle.rd_irp.specs.Fits.{BodyFits, kind_of}
use Rattle.rd_irp.specs.declared.completion.Body.TheVariants.{Fault}
use Rattle.rd_irp.specs.declared.completion.Head.{Head}
use Rattle.rd_irp.specs.declared.request.Request.{Request}
use Rattle.rd_refused.proofs.JournalsAskingLemmas.{HeardAs, hears}
use Rattle.rd_refused.proofs.JournalsClientLemmas.{next_job, read_by}
use Rattle.rd_refused.proofs.JournalsWritingLemmas.{AddsOwn, hear_adds}
use Rattle.rd_refused.proofs.JournalsCompletionLemmas.{completes as completes_with}
use Rattle.rd_refused.proofs.JournalsHeldLemmas.{found_then, has_elsewhere, has_here}
use Rattle.rd_refused.specs.JournalsJobs.{AreFine, FitsCompletion}
use Rattle.rd_refused.specs.JournalsOrderly.{HasStation, IsNext, Orderly}
use Rattle.rd_refused.proofs.SaidLemmas.{completion_says}
use Rattle.rd_refused.proofs.RunsInsides.{AreOwn, IsOwn, stationed}
use Rattle.rd_refused.proofs.RunsParts.{announced_by}
use Rattle.rd_station.specs.Station as station
use Rattle.rd_station.specs.Station.{StationState, put_refusal, put_unless}
use Rattle.rd_station.specs.declared.refusals.PutWhy.{PutWhy}
use Rattle.rd_station.specs.declared.refusals.PutWhy.TheVariants as why
use Rattle.rd_deeds.proofs.Messages.{head_read}
use Rattle.rd_world.specs.Hearing.{after_opening, announcing, answers_directly, client_hears, heard_by_client, is_device_told, put_at, put_by, putting}
use Rattle.rd_world.specs.Opening.{AreShort}
use Rattle.rd_deeds.specs.Talk as deed
use Rattle.rd_deeds.specs.Talk.{Deed, EachAfter, client_read, client_reads, client_writes, client_wrote, completes, head_in, journal, request_at, stores}
use Rattle.rd_deeds.specs.Told.{CompletesWith, is_said_gone}
use Rattle.rd_world.specs.World.{WorldState, station_at, with_station}
use Rattle.rd_declared.specs.declared.device.SessionDevice.{SessionDevice}
use Rattle.rd_answered.proofs.ListedLemmas.{listed_has}
use Rattle.rd_answered.proofs.LiveLemmas.{all_live, gone_off, never_worn}
use Rattle.rd_answered.proofs.ReadyLemmas.{client_kept}
use Rattle.rd_answered.proofs.SayingLemmas.{HearsOn, hear_marks, hear_on, hear_refuses, refuse_more, then_more, told_before}
use Rattle.rd_answered.specs.Refusing.{AllKeepRoom, AreSaying, HasRoomToAnnounce, IsLiveIn, IsSaying, is_told_by, written_then}

abbrev Of : Type 0
Of = StationState SessionDevice

abbrev now : WorldState → Option ℕ
now w = ((w.side).table).channel

-- ---- deeds beside what a client writes

module _ {clt : ClientCoreState} {stations : List (ℕ × Of)} {channels : ℕ} {opened : Option ℕ} where
  pub saying_own : (deeds : List Deed) (y : Deed) → IsOwn y → AreSaying clt stations channels opened deeds → AreSaying clt stations channels opened (y ∷ deeds)
  saying_own deeds (stores d item) own is = record { room = is.room; stationed = is.stationed; marks = is.marks; out = is.out; each = (tt, is.each) }
  saying_own deeds (deed.removes d) own is = record { room = is.room; stationed = is.stationed; marks = is.marks; out = is.out; each = (tt, is.each) }
  saying_own deeds (deed.adds d) own is = record { room = is.room; stationed = is.stationed; marks = is.marks; out = is.out; each = (tt, is.each) }
  saying_own deeds (deed.host_begins c) own is = absurd own
  saying_own deeds (deed.host_ends c) own is = absurd own
  saying_own deeds (deed.submits a n o) own is = absurd own
  saying_own deeds (deed.takes n) own is = absurd own
  saying_own deeds (deed.tells n) own is = absurd own
  saying_own deeds (deed.host_writes c m) own is = absurd own
  saying_own deeds (deed.host_reads c m) own is = absurd own
  saying_own deeds (client_reads c m) own is = absurd own
  saying_own deeds (client_writes c m) own is = absurd own
  saying_own deeds (completes k m) own is = absurd own

  pub saying_owns : (more deeds : List Deed) → AreOwn more → AreSaying clt stations channels opened deeds → AreSaying clt stations channels opened (more ++ deeds)
  saying_owns [] deeds own is = is
  saying_owns (y ∷ more) deeds own is = saying_own (more ++ deeds) y own.0 (saying_owns more deeds own.1 is)

-- ---- one station goes on

stationed_then : (stations : List (ℕ × Of)) (e : ℕ) (new : Of) (d : ℕ) → (s : Of) × HasStation stations d s → (s : Of) × HasStation (insert_entry nat_cmp stations e new) d s
stationed_then stations e new d (s, there) = by (d == e) refl
  where
    by : (b : Bool) → (d == e) ≡ b → (s : Of) × HasStation (insert_entry nat_cmp stations e new) d s
    by true is = (new, subst (λ (n : ℕ). HasStation (insert_entry nat_cmp stations e new) n new) (sym (eqb-true d e is)) (has_here stations e new))
    by false is = (s, has_elsewhere stations e new d is ∙ there)

pub station_saying : (w : WorldState) (e : ℕ) (new : Of) → IsSaying w → IsSaying (with_station w e new)
station_saying w e new is =
    let i = stationed w e new in
    let more : AreSaying w.client w.stations w.channels (now w) (with_station w e new).deeds = subst (AreSaying w.client w.stations w.channels (now w)) (sym i.deeds) (saying_owns i.more w.deeds i.own is) in
    record { room = more.room; stationed = λ d has. stationed_then w.stations e new d (more.stationed d has); marks = more.marks; out = more.out; each = more.each }

pub station_live : (w : WorldState) (e : ℕ) (old new : Of) → station_at w e ≡ Some old → (old.live ≡ true → new.live ≡ true) → IsLiveIn w → IsLiveIn (with_station w e new)
station_live w e old new there stays live c at d s has told = elim (found_then w.stations e new d s has) [
  | inl (same, is) ↦ subst (λ (x : Of). x.live ≡ true) (sym is) (stays (live c at e old there (subst (λ (n : ℕ). is_told_by w.client n ≡ true) same told)))
  | inr (other, was) ↦ live c at d s was told
]

pub announced_saying : (w : WorldState) (e : ℕ) (o : Option Of) → IsSaying w → IsSaying (announced_by w e o)
announced_saying w e None is = is
announced_saying w e (Some s) is = station_saying w e (station.announce s).0 is

pub all_announced : (list : List Announce) (w : WorldState) → IsSaying w → IsSaying (fold (λ x (a : Announce). announcing x a.id) w list)
all_announced [] w is = is
all_announced (a ∷ list) w is = all_announced list (announcing w a.id) (announced_saying w a.id (station_at w a.id) is)

-- ---- a job comes

directly : (r : Request) (st : Status) → FitsCompletion r → st.0 < 2 ^ 32 → BodyFits (kind_of r.op) st (fault st).body → (d : ℕ) (job : Job) (c index : ℕ) → d ≡ r.device → job ≡ job_of r c index → CompletesWith r (fault st) (client.direct_bytes job d st)
directly r st room small fits d job c index device is =
    subst (λ (x : ℕ × Job). CompletesWith r (fault st) (client.direct_bytes x.1 x.0 st)) (λ i. (sym device i, sym is i)) (completes_with r (fault st) room (small, tt) fits)

pub putting_saying : (w : WorldState) (d : ℕ) (job : Job) → AreFine FitsCompletion w.deeds → IsNext w.stations w.channels (w.client).asked w.deeds d job → AllKeepRoom w.stations → (c : ℕ) → now w ≡ Some c
    → IsSaying w → IsLiveIn w → IsSaying (putting w d job) × IsLiveIn (putting w d job)
putting_saying w d job fines next room c opened is live = at (station_at w d) refl
  where
    older : List (List ℕ)
    older = written_then ((w.client).core).outbox (client_wrote w.channels w.deeds)

    m : List ℕ
    m = client.direct_bytes job d no_such_device

    own : Outgoing
    own = record { message = m; answers = Some job.key }

    -- it is refused behind what says that the device is gone
    gone : is_told_by w.client d ≡ false → IsSaying (answers_directly w d job no_such_device) × IsLiveIn (answers_directly w d job no_such_device)
    gone off =
        let r : Request = next.request in
        let done : CompletesWith r (fault no_such_device) m = directly r no_such_device (fines w.channels job.key.index r next.read) (lit< tt) (refl, tt) d job w.channels job.key.index next.device_is next.job_is in
        let h : Head = record { device = r.device; completion = r.completion; status = no_such_device } in
        let is_head : head_in m ≡ Some h = rw (head_read h m done.head).1 refl in
        let said : is_said_gone r.device older ≡ true = subst (λ (n : ℕ). is_said_gone n older ≡ true) next.device_is (is.marks c opened d ∙ ap not off) in
        let says : (e : ℕ) → is_said_gone e (written_then (((w.client).core).outbox ++ own ∷ []) (client_wrote w.channels w.deeds)) ≡ is_said_gone e older =
        λ e. ap (is_said_gone e) (then_more ((w.client).core).outbox (own ∷ []) (client_wrote w.channels w.deeds)) ∙ completion_says e (kind_of job.op) (record { device = d; completion = job.completion; status = no_such_device }) Fault older in (
          record {
            room = is.room;
            stationed = is.stationed;
            marks = λ k at e. says e ∙ is.marks k at e;
            out = refuse_more ((w.client).core).outbox (own ∷ []) (client_wrote w.channels w.deeds) is.out ((h, is_head, refl, said), tt);
            each = is.each;
          },
          live,
        )

    told : (s : Of) → station_at w d ≡ Some s → put_refusal s job ≡ Some why.Gone → (b : Bool) → is_device_told w d ≡ b
        → let x : WorldState = answers_directly w d job (if b then insufficient_resources else no_such_device) in IsSaying x × IsLiveIn x
    told s there e true is_told = absurd (gone_off s job e (live c opened d s there is_told))
    told s there e false off = gone off

    here : (s : Of) → station_at w d ≡ Some s → (refusal : Option PutWhy) → put_refusal s job ≡ refusal → IsSaying (put_by w d job (put_unless s job refusal)) × IsLiveIn (put_by w d job (put_unless s job refusal))
    here s there None e = let new : Of = (put_unless s job None).0 in (station_saying w d new is, station_live w d s new there (λ on. on) live)
    here s there (Some why.Gone) e = told s there e (is_device_told w d) refl
    here s there (Some (why.Full count)) e = (is, live)
    here s there (Some (why.Worn count)) e = absurd (never_worn s job count (room d s there) e)
    here s there (Some (why.Duplicate key)) e = (is, live)
    here s there (Some why.Memory) e = (is, live)

    none : station_at w d ≡ None → (b : Bool) → is_told_by w.client d ≡ b → IsSaying (answers_directly w d job no_such_device) × IsLiveIn (answers_directly w d job no_such_device)
    none there false off = gone off
    none there true on =
        let (s, some) = is.stationed d (has_of (is_client_ready ((w.client).core).shake) (has_device w.client d) (is_gone w.client d) on) in
        let both : None ≡ Some s = sym there ∙ some in absurd (cc both)
      where
        has_of : (r h g : Bool) → (r && (h && not g)) ≡ true → h ≡ true
        has_of true true g e = refl
        has_of true false g e = absurd (cc e)
        has_of false h g e = absurd (cc e)

    at : (o : Option Of) → station_at w d ≡ o → IsSaying (put_at w d job o) × IsLiveIn (put_at w d job o)
    at None there = none there (is_told_by w.client d) refl
    at (Some s) there = here s there (put_refusal s job) refl

-- ---- a message is heard

pub announced_client : (w : WorldState) (e : ℕ) (o : Option Of) → (announced_by w e o).client ≡ w.client
announced_client w e None = refl
announced_client w e (Some s) = refl

all_announced_client : (list : List Announce) (w : WorldState) → (fold (λ x (a : Announce). announcing x a.id) w list).client ≡ w.client
all_announced_client [] w = refl
all_announced_client (a ∷ list) w = all_announced_client list (announcing w a.id) ∙ announced_client w a.id (station_at w a.id)

pub hears_saying : (c : ℕ) (w : WorldState) (m : List ℕ) → Orderly w → (opened : now w ≡ Some c) → w.kept ≡ None → AreFine FitsCompletion (client_reads w.channels m ∷ w.deeds) → AllKeepRoom w.stations
    → AreDevices (announces w.client) → AreShort (announces w.client) → IsSaying w → IsLiveIn w → IsSaying (client_hears w m) × IsLiveIn (client_hears w m)
hears_saying c w m ordered opened free fines room are short is live =
    by (client_hear w.client m) (hears w.client m) (hear_adds w.client m) (hear_on w.client m) (client_kept w.client m).ready
  where
    read : ClientCoreState → WorldState
    read x = read_by c w m ordered opened free x

    wrote : List (List ℕ)
    wrote = client_wrote w.channels w.deeds

    saying : (r : ClientCoreState × Result Heard EndFault) → AddsOwn ((w.client).core).outbox ((r.0).core).outbox → HearsOn w.client r
        → (is_client_ready ((w.client).core).shake ≡ true → is_client_ready ((r.0).core).shake ≡ true) → IsSaying (read r.0)
    saying r (more, same, own) on stays = record {
      room = subst (λ (ds : List ClientDevice). AllByRecursion HasRoomToAnnounce (map announce_in ds)) (sym on.devices) is.room;
      stationed = λ d has. is.stationed d (ap (λ (ds : List ClientDevice). list_any (is_device d) ds) (sym on.devices) ∙ has);
      marks = λ k at. hear_marks w.client r wrote on stays are short is.room (is.marks k at);
      out = hear_refuses w.client r wrote more same own is.out;
      each = (tt, is.each);
    }

    still : (r : ClientCoreState × Result Heard EndFault) → HearsOn w.client r → becomes_ready ((w.client).core).shake ((r.0).core).shake ≡ false → IsLiveIn (read r.0)
    still r on never k at d s has told = live k at d s has (told_before w.client r on never d told)

    -- a message that is no part of the opening
    unready : (r : ClientCoreState × Result Heard EndFault) → HearsOn w.client r → (r.1 ≡ Ok heard.Nothing → ⊥) → becomes_ready ((w.client).core).shake ((r.0).core).shake ≡ false
    unready r on other = go (becomes_ready ((w.client).core).shake ((r.0).core).shake) refl
      where
        go : (b : Bool) → becomes_ready ((w.client).core).shake ((r.0).core).shake ≡ b → b ≡ false
        go true e = absurd (other (on.opens e))
        go false e = refl

    opening : (x : ClientCoreState) → HearsOn w.client (x, Ok heard.Nothing) → IsSaying (read x) → IsSaying (after_opening ((w.client).core).shake (read x)) × IsLiveIn (after_opening ((w.client).core).shake (read x))
    opening x on so = go (becomes_ready ((w.client).core).shake (x.core).shake) refl
      where
        there : (d : ℕ) → is_told_by x d ≡ true → list_any (λ (a : Announce). a.id == d) (listed x) ≡ true
        there d told = listed_has d x.devices (second (is_client_ready (x.core).shake) told)
          where
            second : (a : Bool) {b : Bool} → (a && b) ≡ true → b ≡ true
            second true e = e
            second false e = absurd (cc e)

        go : (b : Bool) → becomes_ready ((w.client).core).shake (x.core).shake ≡ b
            → let v : WorldState = (if b then fold (λ y (a : Announce). announcing y a.id) (read x) (listed x) else read x) in IsSaying v × IsLiveIn v
        go true e = (all_announced (listed x) (read x) so, λ k at d s has told. all_live (listed x) (read x) room d s has (inl (there d (subst (λ (y : ClientCoreState). is_told_by y d ≡ true) (all_announced_client (listed x) (read x)) told))))
        go false e = (so, still (x, Ok heard.Nothing) on e)

    by : (r : ClientCoreState × Result Heard EndFault) → HeardAs w.client m r → AddsOwn ((w.client).core).outbox ((r.0).core).outbox → HearsOn w.client r
        → (is_client_ready ((w.client).core).shake ≡ true → is_client_ready ((r.0).core).shake ≡ true)
        → IsSaying (heard_by_client ((w.client).core).shake (read r.0) r.1) × IsLiveIn (heard_by_client ((w.client).core).shake (read r.0) r.1)
    by (x, Err wrong) heard_as grew on stays = (saying (x, Err wrong) grew on stays, still (x, Err wrong) on (unready (x, Err wrong) on (λ e. cc e)))
    by (x, Ok (heard.Print n)) heard_as grew on stays =
        let so = saying (x, Ok (heard.Print n)) grew on stays in
        let lives = still (x, Ok (heard.Print n)) on (unready (x, Ok (heard.Print n)) on (λ e. cc e)) in
        (record { room = so.room; stationed = so.stationed; marks = so.marks; out = so.out; each = so.each }, lives)
    by (x, Ok heard.Nothing) heard_as grew on stays = opening x on (saying (x, Ok heard.Nothing) grew on stays)
    by (x, Ok (heard.Ask device job)) (same, asked, one, faulty, fine, r, spelled, named, is_job) grew on stays =
        let next : IsNext w.stations w.channels x.asked (client_reads w.channels m ∷ w.deeds) device job =
        subst (λ (y : ℕ × Job). IsNext w.stations w.channels x.asked (client_reads w.channels m ∷ w.deeds) y.0 y.1) (λ i. (sym named i, sym is_job i)) (next_job c w m ordered opened free x r asked spelled one fine) in
        putting_saying (read x) device job fines next room c opened (saying (x, Ok (heard.Ask device job)) grew on stays)
        (still (x, Ok (heard.Ask device job)) on (unready (x, Ok (heard.Ask device job)) on (λ e. cc e)))
