-- What a client hears, and what its stations and hands do, keeps a world orderly.
use Rattle.std.proofs.Common.{◌≡◌, ◌∙◌, refl, sym, ap, subst, inl, inr, ℕ, ◌<◌, ◌+◌, ◌==◌, ◌&&◌, Bool, true, false, cond, not, List, [], ◌∷◌, length, arith, eq-eqb}
use Rattle.std.specs.Prelude.{Some, None, Option, filter, fold, is_some, if◌then◌else◌, Result, Ok, Err}
use Rattle.std.specs.List.{cons_option}
use Rattle.std.specs.Option.{option_map_or}
use Rattle.rd_base.specs.declared.journal.Key.{Key}
use Rattle.rd_base.specs.Statuses.{insufficient_resources, no_such_device}
use Rattle.rd_base.specs.declared.status.Status.{Status}
use Rattle.rd_client.specs.Core as client
use Rattle.rd_client.specs.Core.{ClientCoreState, client_hear, job_of, listed}
use Rattle.rd_client.specs.declared.heard.Heard.{Heard}
use Rattle.rd_client.specs.declared.heard.Heard.TheVariants as heard
use Rattle.rd_devices.specs.declared.list.Announce.{Announce}
use Rattle.rd_drive.specs.Planned.{Planned}
use Rattle.rd_drive.specs.declared.plan.Job.{Job}
use Rattle.rd_hello.specs.declared.client.ClientState.{ClientState}
use Rattle.rd_hello.specs.declared.end_fault.EndFault.{EndFault}
use Rattle.rd_irp.specs.declared.op.Op.{Op}
use Rattle.rd_irp.specs.declared.op.Op.TheVariants as op
use Rattle.rd_irp.specs.declared.request.Request.{Request}
use Rattle.rd_station.specs.Station as station
use Rattle.rd_station.specs.Station.{StationState, collect_first, put_refusal, put_unless}
use Rattle.rd_station.specs.declared.answers.Completion.{Completion}
use Rattle.rd_station.specs.declared.answers.Given.{Given}
use Rattle.rd_station.specs.declared.refusals.PutWhy.{PutWhy}
use Rattle.rd_station.specs.declared.refusals.PutWhy.TheVariants as why
use Rattle.rd_world.specs.Events.{applies_at, came_of, completion_message, is_close}
use Rattle.rd_world.specs.Hearing.{after_opening, announcing, answers_directly, client_hears, heard_by_client, is_device_told, put_at, put_by, putting, with_client}
use Rattle.rd_deeds.specs.Talk.{client_read, client_reads, completes, is_request, request_at, request_in}
use Rattle.rd_world.specs.World.{Kept, WorldState, client_sends, station_at, with_deed, with_station}
use Rattle.rd_declared.specs.declared.device.SessionDevice.{SessionDevice}
use Rattle.rd_journals.specs.Orderly.{IsNext, Orderly, OrderlyOn, current}
use Rattle.rd_journals.specs.Reads.{IsGiven, IsRead}
use Rattle.rd_journals.specs.Stations.{IsOn}
use Rattle.rd_runs.proofs.Parts.{announced_by}
use Rattle.rd_journals.proofs.AskingLemmas.{HeardAs, hears}
use Rattle.rd_journals.proofs.CallLemmas.{AnyJob, Goes, NoKey, announced, applied_back, came, collected, may_put, taken}
use Rattle.rd_journals.proofs.DeviceLemmas.{comes, ran_fits}
use Rattle.rd_journals.proofs.OrderlyLemmas.{beside_open, goes_orderly, ready_open, still_orderly, while_open}

abbrev Of : Type 0
Of = StationState SessionDevice

-- the channel that its stations are on
abbrev pub channel_of : WorldState → ℕ
channel_of w = current ((w.side).table).channel w.channels

pub channel_open : (w : WorldState) (c : ℕ) → ((w.side).table).channel ≡ Some c → channel_of w ≡ w.channels
channel_open w c opened = ap (λ (o : Option ℕ). current o w.channels) opened

pub isnt_some : {A : Type 0} (x : Option A) → is_some x ≡ false → x ≡ None
isnt_some None e = refl
isnt_some (Some a) e = absurd (cc)

-- ---- a job comes

answers_orderly : (c : ℕ) (w : WorldState) (d : ℕ) (job : Job) (st : Status) → OrderlyOn c w → OrderlyOn c (answers_directly w d job st)
answers_orderly c w d job st (is, opened) = (while_open is opened is.kept_next, opened)

pub putting_orderly : (c : ℕ) (w : WorldState) (d : ℕ) (job : Job) → OrderlyOn c w → w.kept ≡ None → IsNext w.stations w.channels (w.client).asked w.deeds d job → OrderlyOn c (putting w d job)
putting_orderly c w d job (is, opened) free next = at (station_at w d) refl
  where
    here : (s : Of) → station_at w d ≡ Some s → (refusal : Option PutWhy) → put_refusal s job ≡ refusal → OrderlyOn c (put_by w d job (put_unless s job refusal))
    here s there None none =
        let on = (is.held).on d s there in
        let same : job.key.channel ≡ channel_of w = next.channel ∙ sym (channel_open w c opened) in
        let goes = came AnyJob (channel_of w) s on job tt (may_put (channel_of w) s job.key on same (next.above d s there)) same none in
        let fresh : (key : Key) → key ≡ job.key → IsGiven w.channels (w.client).asked key × IsRead d key w.deeds =
        λ key e. subst (λ (k : Key). IsGiven w.channels (w.client).asked k × IsRead d k w.deeds) (sym e)
        (inr (next.channel, next.index), (next.request, ap (λ (n : ℕ). request_at (client_read n w.deeds) job.key.index) next.channel ∙ next.read, sym next.device_is)) in
        (goes_orderly (λ k. k ≡ job.key) w d s (put_unless s job None).0 is there goes fresh (λ k some key e. cc (free, some)), opened)
    here s there (Some why.Gone) none = answers_orderly c w d job (if is_device_told w d then insufficient_resources else no_such_device) (is, opened)
    here s there (Some (why.Full count)) none = (while_open is opened (λ k some. subst (λ (x : Kept). IsNext w.stations w.channels (w.client).asked w.deeds x.device x.job) (let same : Some (record { device = d; job = job }) ≡ Some k = some in cc) next), opened)
    here s there (Some (why.Worn count)) none = answers_orderly c w d job insufficient_resources (is, opened)
    here s there (Some (why.Duplicate key)) none = (is, opened)
    here s there (Some why.Memory) none = (is, opened)

    at : (o : Option Of) → station_at w d ≡ o → OrderlyOn c (put_at w d job o)
    at None there = answers_orderly c w d job no_such_device (is, opened)
    at (Some s) there = here s there (put_refusal s job) refl

-- ---- a message is heard

pub announced_orderly : (w : WorldState) (d : ℕ) (o : Option Of) → station_at w d ≡ o → Orderly w → Orderly (announced_by w d o)
announced_orderly w d None there is = is
announced_orderly w d (Some s) there is = still_orderly w d s (station.announce s).0 is there (announced AnyJob (channel_of w) s ((is.held).on d s there))

pub announcing_orderly : (w : WorldState) (d : ℕ) → Orderly w → Orderly (announcing w d)
announcing_orderly w d is = announced_orderly w d (station_at w d) refl is

pub announcing_open : (c : ℕ) (w : WorldState) (d : ℕ) → OrderlyOn c w → OrderlyOn c (announcing w d)
announcing_open c w d (is, opened) = (announcing_orderly w d is, by (station_at w d))
  where
    by : (o : Option Of) → let x = option_map_or (λ (s : Of). with_station w d (station.announce s).0) o w in ((x.side).table).channel ≡ Some c
    by None = opened
    by (Some s) = opened

all_announced : (c : ℕ) (devices : List Announce) (w : WorldState) → OrderlyOn c w → OrderlyOn c (fold (λ x (a : Announce). announcing x a.id) w devices)
all_announced c [] w is = is
all_announced c (a ∷ devices) w is = all_announced c devices (announcing w a.id) (announcing_open c w a.id is)

module _ (c : ℕ) (w : WorldState) (m : List ℕ) (is : Orderly w) (opened : ((w.side).table).channel ≡ Some c) (free : w.kept ≡ None) where
  -- the client is this one, and has read the message
  abbrev pub read_by : ClientCoreState → WorldState
  read_by x = with_deed (with_client w x) (client_reads w.channels m)

  own_read : client_read w.channels (client_reads w.channels m ∷ w.deeds) ≡ m ∷ client_read w.channels w.deeds
  own_read = ap (λ (b : Bool). cons_option (cond b (Some m) None) (client_read w.channels w.deeds)) (eq-eqb w.channels w.channels refl)

  other_read : (x : ℕ) → w.channels < x → client_read x (client_reads w.channels m ∷ w.deeds) ≡ client_read x w.deeds
  other_read x above = let apart : (w.channels == x) ≡ false = grind (arith, above) in ap (λ (b : Bool). cons_option (cond b (Some m) None) (client_read x w.deeds)) apart

  grown : (asked more : ℕ) (key : Key) → asked < more + 1 → IsGiven w.channels asked key → IsGiven w.channels more key
  grown asked more key less (inl earlier) = inl earlier
  grown asked more key less (inr here) = inr (here.0, omega (arith, less, here.1))

  pub read_orderly : (x : ClientCoreState) → x.channel ≡ (w.client).channel → (w.client).asked < x.asked + 1 → ((x.core).fault ≡ None → length (filter is_request (m ∷ client_read w.channels w.deeds)) ≡ x.asked) → OrderlyOn c (read_by x)
  read_orderly x same less counts = (
    record {
      held = record {
        tied = (is.held).tied;
        on = (is.held).on;
        named = λ d s has key names. grown (w.client).asked x.asked key less ((is.held).named d s has key names);
        none = (is.held).none;
        reads = (tt, (is.held).reads);
      };
      counted = λ fine. ap (λ (ms : List (List ℕ)). length (filter is_request ms)) own_read ∙ counts fine;
      unread = λ y above. other_read y above ∙ is.unread y above;
      same_channel = same ∙ is.same_channel;
      same_opened = is.same_opened;
      kept_next = λ k some. absurd (cc (free, some));
      shut = λ none. absurd (cc (none, opened));
    },
    opened,
  )

  pub counted_other : is_request m ≡ false → ((w.client).core).fault ≡ None → length (filter is_request (m ∷ client_read w.channels w.deeds)) ≡ (w.client).asked
  counted_other other fine = ap (λ (b : Bool). length (cond b (m ∷ filter is_request (client_read w.channels w.deeds)) (filter is_request (client_read w.channels w.deeds)))) other ∙ is.counted fine

  pub counted_one : is_request m ≡ true → ((w.client).core).fault ≡ None → length (filter is_request (m ∷ client_read w.channels w.deeds)) ≡ (w.client).asked + 1
  counted_one one fine = ap (λ (b : Bool). length (cond b (m ∷ filter is_request (client_read w.channels w.deeds)) (filter is_request (client_read w.channels w.deeds)))) one ∙ omega (arith, is.counted fine)

  pub next_job : (x : ClientCoreState) (r : Request) → x.asked ≡ (w.client).asked + 1 → request_in m ≡ Some r → is_request m ≡ true → ((w.client).core).fault ≡ None
      → IsNext w.stations w.channels x.asked (client_reads w.channels m ∷ w.deeds) r.device (job_of r (w.client).channel (w.client).asked)
  next_job x r one spelled is_one fine = record {
    channel = is.same_channel;
    index = omega (arith, one);
    above = λ d s has key names. elim ((is.held).named d s has key names) [
      | inl less ↦ inl (omega (arith, less, is.same_channel))
      | inr here ↦ inr (here.0 ∙ sym is.same_channel, here.1)
    ];
    request = r;
    read = ap (λ (ms : List (List ℕ)). request_at ms (w.client).asked) own_read
        ∙ ap (λ (b : Bool). cond b (request_in m) (request_at (client_read w.channels w.deeds) (w.client).asked)) both ∙ spelled;
    device_is = refl;
    job_is = ap (λ (n : ℕ). job_of r n (w.client).asked) is.same_channel;
  }
    where
      both : (is_request m && length (filter is_request (client_read w.channels w.deeds)) == (w.client).asked) ≡ true
      both = ap (λ (b : Bool). b && length (filter is_request (client_read w.channels w.deeds)) == (w.client).asked) is_one ∙ eq-eqb _ _ (is.counted fine)

  pub hears_orderly : OrderlyOn c (client_hears w m)
  hears_orderly = by (client_hear w.client m) (hears w.client m)
    where
      opening : (shake : ClientState) (x : WorldState) → OrderlyOn c x → OrderlyOn c (after_opening shake x)
      opening shake x so = go (client.becomes_ready shake ((x.client).core).shake)
        where
          go : (b : Bool) → OrderlyOn c (if b then fold (λ y (a : Announce). announcing y a.id) x (listed x.client) else x)
          go true = all_announced c (listed x.client) x so
          go false = so

      by : (r : ClientCoreState × Result Heard EndFault) → HeardAs w.client m r → OrderlyOn c (heard_by_client ((w.client).core).shake (read_by r.0) r.1)
      by (x, Err fault) (same, asked, wrong) = read_orderly x same (omega (arith, asked)) (λ fine. absurd (cc (wrong, ap is_some fine)))
      by (x, Ok heard.Nothing) (same, asked, other, fault) =
          opening ((w.client).core).shake (read_by x) (read_orderly x same (omega (arith, asked)) (λ fine. counted_other other (sym fault ∙ fine) ∙ sym asked))
      by (x, Ok (heard.Print n)) (same, asked, other, fault) = read_orderly x same (omega (arith, asked)) (λ fine. counted_other other (sym fault ∙ fine) ∙ sym asked)
      by (x, Ok (heard.Ask device job)) (same, asked, one, fault, fine, r, spelled, named, is_job) =
          let so = read_orderly x same (omega (arith, asked)) (λ f. counted_one one fine ∙ sym asked) in
          let next : IsNext w.stations w.channels x.asked (client_reads w.channels m ∷ w.deeds) device job =
          subst (λ (y : ℕ × Job). IsNext w.stations w.channels x.asked (client_reads w.channels m ∷ w.deeds) y.0 y.1) (λ i. (sym named i, sym is_job i)) (next_job x r asked spelled one fine) in
          putting_orderly c (read_by x) device job so free next

-- ---- a job that was kept back is tried again, which is so only while a channel is open

pub open_or_shut : (o : Option ℕ) → (o ≡ None → ⊥) → (c : ℕ) × (o ≡ Some c)
open_or_shut None never = absurd (never refl)
open_or_shut (Some c) never = (c, refl)

pub tries_orderly : (w : WorldState) (k : Kept) → w.kept ≡ Some k → Orderly w → Orderly (putting (record w { kept = None }) k.device k.job)
tries_orderly w k some is =
    let (c, opened) = open_or_shut ((w.side).table).channel (λ none. cc ((is.shut none).kept_none, some)) in
    (putting_orderly c (record w { kept = None }) k.device k.job (while_open is opened (λ l none. absurd (cc (none))), opened) refl (is.kept_next k some)).0

-- ---- a completion is collected

pub collects_orderly : (w : WorldState) (d : ℕ) (s after : Of) (x : Completion) → station_at w d ≡ Some s → station.collect s ≡ (after, Some x) → Orderly w
    → Orderly (client_sends (with_station w d after) (completes x.key (completion_message d x)) (completion_message d x))
collects_orderly w d s after x there made is =
    let (c, opened) = open_or_shut ((w.side).table).channel (λ none. some s.ready refl made none) in
    beside_open (still_orderly w d s after is there (subst (λ (r : Of × Option Completion). Goes NoKey AnyJob (channel_of w) s r.0) made (collected AnyJob (channel_of w) s ((is.held).on d s there)))) opened
    (completes x.key (completion_message d x)) (λ q. refl) (λ q. refl) tt
  where
    some : (cs : List Completion) → s.ready ≡ cs → collect_first s cs ≡ (after, Some x) → ((w.side).table).channel ≡ None → ⊥
    some [] e made none = let nothing : None ≡ Some x = ap (λ (r : Of × Option Completion). r.1) made in cc (nothing)
    some (y ∷ ys) e made none = ready_open w d s is there y ys e none

-- ---- a hand takes a job, and gives it back

pub takes_orderly : (w : WorldState) (d : ℕ) (s after : Of) (answer : Given) → station_at w d ≡ Some s → station.take s ≡ (after, answer) → Orderly w → Orderly (with_station w d after)
takes_orderly w d s after answer there made is =
    still_orderly w d s after is there (subst (λ (r : Of × Given). Goes NoKey AnyJob (channel_of w) s r.0) made (taken AnyJob (channel_of w) s ((is.held).on d s there)))

-- what a station makes of a job that comes back
spared : (b : Bool) (o : Op) → o ≡ op.Close → (b && not (is_close o)) ≡ false
spared b o same = ap (λ (x : Op). b && not (is_close x)) same ∙ and_false b
  where
    and_false : (x : Bool) → (x && false) ≡ false
    and_false true = refl
    and_false false = refl

pub given_back : (J : Job → Type 0) (starves : Key → Bool) (w : WorldState) (s : Of) (job : Job) → J job → IsOn (channel_of w) s → Goes NoKey J (channel_of w) s (station.apply s job w.moment (came_of starves w job s.device)).0
given_back J starves w s job own on =
    let starved : Bool = starves job.key && not (is_close job.op) in
    let planned : Planned = record { job = job; starved = starved } in
    applied_back J (channel_of w) s on planned own w.moment (came_of starves w job s.device) (comes s.device job w.moment starved on.fit (spared (starves job.key) job.op)) (ran_fits s.device job w.moment starved on.fit)

pub applies_orderly : (starves : Key → Bool) (w : WorldState) (hand d : ℕ) (job : Job) (o : Option Of) → station_at w d ≡ o → Orderly w → Orderly (applies_at starves w hand d job o)
applies_orderly starves w hand d job None there is = is
applies_orderly starves w hand d job (Some s) there is = still_orderly w d s (station.apply s job w.moment (came_of starves w job s.device)).0 is there (given_back AnyJob starves w s job tt ((is.held).on d s there))
