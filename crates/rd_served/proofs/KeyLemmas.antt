-- The keys of the jobs that come to desks rise, so no job is unfit.
use Rattle.std.proofs.Common.{◌≡◌, ◌≢◌, ◌⊎◌, ◌∙◌, refl, sym, ap, subst, inl, inr, ℕ, zero, suc, ◌<◌, ◌≤◌, ◌+◌, Bool, true, false, ◌&&◌, List, [], ◌∷◌, Option, Some, None, slice_get, slice_set, arith}
use Rattle.std.specs.Prelude.{All, Result, Ok, Err, is_none}
use Rattle.std.specs.declared.alloc.AllocError.{AllocError}
use Rattle.std.specs.List.{AllByRecursion}
use Rattle.std.specs.Map.{lookup}
use Rattle.std.specs.Option.{option_map_or}
use Rattle.std.specs.Ordering.{nat_cmp}
use Rattle.std.specs.BTreeMap.{is_at}
use Rattle.std.proofs.lemmas.List.Elements.{All-cons, All-nil}
use Rattle.rd_base.specs.Lawful.{IsBelow, IsLawful}
use Rattle.rd_base.specs.declared.journal.Item.{Item}
use Rattle.rd_base.specs.declared.journal.Key.{Key}
use Rattle.rd_client.specs.Core as client
use Rattle.rd_client.specs.Core.{ClientCoreState, Outgoing, client_hear, client_side, may_be_asked}
use Rattle.rd_client.specs.declared.heard.Heard.{Heard}
use Rattle.rd_client.specs.declared.heard.Heard.TheVariants.{Nothing, Ask, Print}
use Rattle.rd_core.specs.Core as core
use Rattle.rd_core.specs.Hearing as hearing
use Rattle.rd_desk.specs.declared.calls.DeskCall.{DeskCall}
use Rattle.rd_desk.specs.declared.calls.DeskCall.TheVariants as desk
use Rattle.rd_desk.specs.declared.calls.DeskReply.{DeskReply}
use Rattle.rd_desk.specs.declared.calls.DeskReply.TheVariants as replied
use Rattle.rd_drive.specs.declared.plan.Job.{Job}
use Rattle.rd_front.specs.Front.{end_call, is_front_ready, most_written, with_new_data}
use Rattle.rd_front.specs.State.{DeviceDeskState, FrontState, SessionDeskStep, SessionStation}
use Rattle.rd_front.specs.declared.calls.FrontCall.{FrontCall}
use Rattle.rd_front.specs.declared.calls.FrontReply.{FrontReply}
use Rattle.rd_front.specs.declared.calls.FrontReply.TheVariants as reply
use Rattle.rd_hello.specs.declared.end_fault.EndFault.{EndFault}
use Rattle.rd_hello.specs.declared.end_fault.EndFault.TheVariants as fault
use Rattle.rd_station.specs.Memory.{NamesKey}
use Rattle.rd_station.specs.Station as station
use Rattle.rd_station.specs.Station.{MayPut, new_station, puts, puts_unfit}
use Rattle.rd_turn.specs.declared.object.Entry.{Entry}
use Rattle.rd_turn.specs.History.{Leads}
use Rattle.rd_declared.specs.Devices.{PrinterNames, printer_data}
use Rattle.rd_station.proofs.Calls.{reached_kept}
use Rattle.rd_deeds.specs.Talk.{Has}
use Rattle.rd_world.specs.World.{Kept}
use Rattle.rd_journals.specs.Reads.{IsGiven}
use Rattle.rd_journals.proofs.AskingLemmas.{HeardAs, hears}
use Rattle.rd_journals.proofs.CallLemmas.{NoKey}
use Rattle.rd_served.specs.Histories.{Among, AreStationed, HistoryGoes, IsNewDesk, IsNewFront}
use Rattle.rd_served.specs.OnChannel.{IsServedOn}
use Rattle.rd_served.specs.Parts.{CallsAt, Comes, EndsEach, IsOpenCall, FrontPart, PartGoes, PartsGo, asking_by, begins, calls, directs, ended_front, ends, forgets, is_unfit, keeps, learns, misplaces, refreshes, sends, tells_gone, tells_there, tries, unwritten, writes}
use Rattle.rd_served.specs.Parts as part
use Rattle.rd_served.specs.Served.{Asking, CallsDesk, IsStationed, Served, asks, hands, idle, refused}
use Rattle.rd_served.proofs.AskedLemmas.{asked_may}
use Rattle.rd_served.proofs.CallLemmas.{may_put, new_on}
use Rattle.rd_served.proofs.StationLemmas.{Stays, drop_stays, end_stays, put_stays, step_stays, work_stays}
use Rattle.rd_served_devices.specs.ServedDevices.{served_cuts, served_parked, served_runs}

abbrev Of : Type 0
Of = SessionStation

-- the channel that stations are on, or else one that begins next
abbrev pub current : Bool → ℕ → ℕ
current true c = c
current false c = suc c

-- the job that is under way
abbrev pub IsUnder : Asking → Kept → Type 0
IsUnder idle k = ⊥
IsUnder (asks other) k = other ≡ k
IsUnder (refused other cause) k = other ≡ k
IsUnder (hands device c) k = ⊥

-- A job that may come next: its key is above all that are named, of the channel that is on, where the client may be asked.
pub record IsNextJob (s : FrontState) (stations : List Of) (k : Kept) : Type 0 where
  pub on : s.on ≡ true
  pub channel : k.job.key.channel ≡ s.channel
  pub index : k.job.key.index < (s.client).asked
  pub above : (x : Of) → Has x stations → (key : Key) → NamesKey x.journal key → IsBelow key k.job.key
  pub may : may_be_asked ((s.client).core).shake ≡ true

-- Each station is on the channel, its keys were given, and a job that is under way or kept back may come next.
pub record IsKeyed (p : Served) : Type 0 where
  pub on : (x : Of) → Has x p.stations → IsServedOn (current (p.front).on (p.front).channel) x
  pub named : (x : Of) → Has x p.stations → (key : Key) → NamesKey x.journal key → IsGiven (p.front).channel ((p.front).client).asked key
  pub same : (p.front).on ≡ true → ((p.front).client).channel ≡ (p.front).channel
  pub kept : (k : Kept) → (p.front).kept ≡ Some k → IsNextJob p.front p.stations k
  pub asking : (k : Kept) → IsUnder p.asking k → IsNextJob p.front p.stations k
  pub alone : (k : Kept) → IsUnder p.asking k → (p.front).kept ≡ None

-- ---- lists of stations

pub has_at : (xs : List Of) (place : ℕ) (x : Of) → slice_get xs place ≡ Some x → Has x xs
has_at [] place x is = absurd (cc (is))
has_at (y ∷ ys) zero x is = inl (let same : y ≡ x = cc (is) in sym same)
has_at (y ∷ ys) (suc place) x is = inr (has_at ys place x is)

pub has_set : (xs : List Of) (place : ℕ) (y x : Of) → Has x (slice_set xs place y) → (x ≡ y) ⊎ Has x xs
has_set [] place y x has = absurd has
has_set (z ∷ zs) zero y x (inl here) = inl here
has_set (z ∷ zs) zero y x (inr later) = inr (inr later)
has_set (z ∷ zs) (suc place) y x (inl here) = inr (inl here)
has_set (z ∷ zs) (suc place) y x (inr later) = elim (has_set zs place y x later) [ inl new ↦ inl new | inr was ↦ inr (inr was) ]

-- Each station is on the channel still, and names only keys that were named.
pub record StationsStay (p : Served) (after : List Of) : Type 0 where
  pub each : (x : Of) → Has x after → IsServedOn (current (p.front).on (p.front).channel) x
  pub names : (x : Of) → Has x after → (key : Key) → NamesKey x.journal key → (y : Of) × Has y p.stations × NamesKey y.journal key

stations_same : (p : Served) (after : List Of) → after ≡ p.stations → IsKeyed p → StationsStay p after
stations_same p after is keyed = record {
  each = λ x has. keyed.on x (subst (Has x) is has);
  names = λ x has key names. (x, subst (Has x) is has, names);
}

-- ---- what leaves keys alone

-- The channel and the count of its requests stay the same, and the client may be asked where it might before.
pub record IsCalm (s t : FrontState) : Type 0 where
  pub on : t.on ≡ s.on
  pub channel : t.channel ≡ s.channel
  pub client_channel : (t.client).channel ≡ (s.client).channel
  pub asked : (t.client).asked ≡ (s.client).asked
  pub may : may_be_asked ((s.client).core).shake ≡ true → may_be_asked ((t.client).core).shake ≡ true

calm_same : (s : FrontState) → IsCalm s s
calm_same s = record { on = refl; channel = refl; client_channel = refl; asked = refl; may = λ may. may }

next_calm : (p q : Served) (k : Kept) → IsCalm p.front q.front → StationsStay p q.stations → IsNextJob p.front p.stations k → IsNextJob q.front q.stations k
next_calm p q k calm stay next = record {
  on = calm.on ∙ next.on;
  channel = next.channel ∙ sym calm.channel;
  index = subst (λ (n : ℕ). k.job.key.index < n) (sym calm.asked) next.index;
  above = λ x has key names. let (y, was, named) = stay.names x has key names in next.above y was key named;
  may = calm.may next.may;
}

keyed_calm : (p q : Served) → IsKeyed p → IsCalm p.front q.front → StationsStay p q.stations → ((k : Kept) → (q.front).kept ≡ Some k → IsNextJob p.front p.stations k)
    → ((k : Kept) → IsUnder q.asking k → IsNextJob p.front p.stations k) → ((k : Kept) → IsUnder q.asking k → (q.front).kept ≡ None) → IsKeyed q
keyed_calm p q keyed calm stay kept asking alone = record {
  on = λ x has. subst (λ (n : ℕ). IsServedOn n x) (λ i. current (sym calm.on i) (sym calm.channel i)) (stay.each x has);
  named = λ x has key names.
      let (y, was, named) = stay.names x has key names in
      subst (λ (n : ℕ). IsGiven (q.front).channel n key) (sym calm.asked) (subst (λ (n : ℕ). IsGiven n ((p.front).client).asked key) (sym calm.channel) (keyed.named y was key named));
  same = λ on. calm.client_channel ∙ keyed.same (sym calm.on ∙ on) ∙ sym calm.channel;
  kept = λ k is. next_calm p q k calm stay (kept k is);
  asking = λ k under. next_calm p q k calm stay (asking k under);
  alone = alone;
}

-- where the job under way and the one that is kept back stay too
keyed_beside : (p q : Served) → IsKeyed p → IsCalm p.front q.front → StationsStay p q.stations → (q.front).kept ≡ (p.front).kept → q.asking ≡ p.asking → IsKeyed q
keyed_beside p q keyed calm stay kept asking =
    keyed_calm p q keyed calm stay (λ k is. keyed.kept k (sym kept ∙ is)) (λ k under. keyed.asking k (subst (λ (a : Asking). IsUnder a k) asking under))
    (λ k under. kept ∙ keyed.alone k (subst (λ (a : Asking). IsUnder a k) asking under))

-- where nothing is under way then
keyed_idle : (p q : Served) → IsKeyed p → IsCalm p.front q.front → StationsStay p q.stations → (q.front).kept ≡ (p.front).kept → q.asking ≡ idle → IsKeyed q
keyed_idle p q keyed calm stay kept asking =
    keyed_calm p q keyed calm stay (λ k is. keyed.kept k (sym kept ∙ is)) (λ k under. absurd (subst (λ (a : Asking). IsUnder a k) asking under)) (λ k under. absurd (subst (λ (a : Asking). IsUnder a k) asking under))

-- ---- what the core does

pub did_calm : (answer : Result (Unit {0}) AllocError) (done old new : ClientCoreState) → core.Did answer done old new → done.channel ≡ old.channel → done.asked ≡ old.asked → (done.core).shake ≡ (old.core).shake
    → (new.channel ≡ old.channel) × (new.asked ≡ old.asked) × ((new.core).shake ≡ (old.core).shake)
did_calm (Ok fine) done old new is channel asked shake = (ap (λ (c : ClientCoreState). c.channel) is ∙ channel, ap (λ (c : ClientCoreState). c.asked) is ∙ asked, ap (λ (c : ClientCoreState). (c.core).shake) is ∙ shake)
did_calm (Err error) done old new is channel asked shake = (ap (λ (c : ClientCoreState). c.channel) is, ap (λ (c : ClientCoreState). c.asked) is, ap (λ (c : ClientCoreState). (c.core).shake) is)

client_calm : (s t : FrontState) (unsent : ℕ) → t ≡ record s { client = t.client; unsent = unsent } → ((t.client).channel ≡ (s.client).channel) × ((t.client).asked ≡ (s.client).asked) × (((t.client).core).shake ≡ ((s.client).core).shake)
    → IsCalm s t × (t.kept ≡ s.kept)
client_calm s t unsent is same = (
  record {
    on = ap (λ (x : FrontState). x.on) is;
    channel = ap (λ (x : FrontState). x.channel) is;
    client_channel = same.0;
    asked = same.1;
    may = λ may. ap may_be_asked same.2 ∙ may;
  },
  ap (λ (x : FrontState). x.kept) is,
)

pub sent_calm : (c new : ClientCoreState) (sent : Option Outgoing) → client.client_send c ≡ (new, sent) → (new.channel ≡ c.channel) × (new.asked ≡ c.asked) × ((new.core).shake ≡ (c.core).shake)
sent_calm c new sent is = by (c.core).outbox (ap (λ (r : ClientCoreState × Option Outgoing). r.0) is)
  where
    by : (outbox : List Outgoing) → (let r = core.send_from c.core outbox in record c { core = r.0 }) ≡ new → (new.channel ≡ c.channel) × (new.asked ≡ c.asked) × ((new.core).shake ≡ (c.core).shake)
    by [] e = (sym (ap (λ (x : ClientCoreState). x.channel) e), sym (ap (λ (x : ClientCoreState). x.asked) e), sym (ap (λ (x : ClientCoreState). (x.core).shake) e))
    by (o ∷ os) e = (sym (ap (λ (x : ClientCoreState). x.channel) e), sym (ap (λ (x : ClientCoreState). x.asked) e), sym (ap (λ (x : ClientCoreState). (x.core).shake) e))

pub refreshed_calm : (s : FrontState) (device : ℕ) → IsCalm s (with_new_data s device) × ((with_new_data s device).kept ≡ s.kept)
refreshed_calm s device = go (lookup (is_at (nat_cmp device)) s.printers)
  where
    go : (o : Option PrinterNames) → let t = option_map_or (λ (names : PrinterNames). record s { client = client.refresh s.client device (printer_data s.cache names) }) o s in IsCalm s t × (t.kept ≡ s.kept)
    go None = (calm_same s, refl)
    go (Some names) = (record { on = refl; channel = refl; client_channel = refl; asked = refl; may = λ may. may }, refl)

-- ---- a message is heard

-- what an answer says of the job that is asked for
abbrev pub AskedAs : ClientCoreState → ClientCoreState → Result Heard EndFault → Type 0
AskedAs old new (Ok (Ask device job)) = (new.asked ≡ old.asked + 1) × (job.key.channel ≡ old.channel) × (job.key.index ≡ old.asked) × (may_be_asked (new.core).shake ≡ true)
AskedAs old new _ = Unit {0}

abbrev pub HeardFacts : ClientCoreState → ClientCoreState → Result Heard EndFault → Type 0
HeardFacts old new answer = (new.channel ≡ old.channel) × (old.asked ≤ new.asked) × AskedAs old new answer

heard_in : (old new : ClientCoreState) (m : List ℕ) (answer : Result Heard EndFault) → client_hear old m ≡ (new, answer) → HeardFacts old new answer
heard_in old new m answer is = by answer is (subst (HeardAs old m) is (hears old m))
  where
    by : (a : Result Heard EndFault) → client_hear old m ≡ (new, a) → HeardAs old m (new, a) → HeardFacts old new a
    by (Err cause) e (channel, asked, wrong) = (channel, omega (arith, asked), tt)
    by (Ok Nothing) e (channel, asked, other, same) = (channel, omega (arith, asked), tt)
    by (Ok (Print n)) e (channel, asked, other, same) = (channel, omega (arith, asked), tt)
    by (Ok (Ask device job)) e (channel, asked, one, same, fine, r, spelled, named, is_job) =
        (channel, omega (arith, asked), (asked, ap (λ (j : Job). j.key.channel) is_job, ap (λ (j : Job). j.key.index) is_job, asked_may old new m device job e))

pub heard_facts : (old new : ClientCoreState) (m : List ℕ) (answer : Result Heard EndFault) → hearing.Hears client_side (λ (c : ClientCoreState). c.core) client_hear old m answer new → HeardFacts old new answer
heard_facts old new m (Err fault.Memory) did = (ap (λ (c : ClientCoreState). c.channel) did.1, (let e = ap (λ (c : ClientCoreState). c.asked) did.1 in omega (arith, e)), tt)
heard_facts old new m (Err (fault.Order state packet)) did = heard_in old new m _ did
heard_facts old new m (Err (fault.Grammar bad)) did = heard_in old new m _ did
heard_facts old new m (Ok h) did = heard_in old new m _ did

pub both_true : (a b : Bool) → (a && b) ≡ true → (a ≡ true) × (b ≡ true)
both_true true b is = (refl, is)
both_true false b is = absurd (cc (is))

pub none_of : {A : Type 0} (o : Option A) → is_none o ≡ true → o ≡ None
none_of None is = refl
none_of (Some a) is = absurd (cc (is))

pub given_more : (channel asked more : ℕ) (key : Key) → asked ≤ more → IsGiven channel asked key → IsGiven channel more key
given_more channel asked more key less (inl earlier) = inl earlier
given_more channel asked more key less (inr here) = inr (here.0, omega (arith, less, here.1))

pub hears_keyed : (p q : Served) (channel : ℕ) (m : List ℕ) (answer : Result Heard EndFault) → PartGoes p (part.hears channel m answer) q → IsKeyed p → IsKeyed q
hears_keyed p q channel m answer goes keyed = record {
  on = λ x has. subst (λ (n : ℕ). IsServedOn n x) (λ i. current (sym on_same i) (sym channel_same i)) (keyed.on x (subst (Has x) stations has));
  named = λ x has key names. subst (λ (n : ℕ). IsGiven n ((q.front).client).asked key) (sym channel_same) (given_more (p.front).channel ((p.front).client).asked ((q.front).client).asked key facts.1 (keyed.named x (subst (Has x) stations has) key names));
  same = λ is. facts.0 ∙ keyed.same on ∙ sym channel_same;
  kept = λ k is. absurd (cc (kept_none, is));
  asking = λ k under. asked answer facts.2 k (subst (λ (a : Asking). IsUnder a k) (goes.4) under);
  alone = λ k under. kept_none;
}
  where
    is_front : q.front ≡ record p.front { client = (q.front).client; unsent = (p.front).unsent + most_written (is_front_ready p.front) }
    is_front = (goes.3).1

    on_same : (q.front).on ≡ (p.front).on
    on_same = ap (λ (s : FrontState). s.on) is_front

    channel_same : (q.front).channel ≡ (p.front).channel
    channel_same = ap (λ (s : FrontState). s.channel) is_front

    stations : q.stations ≡ p.stations
    stations = goes.5

    on : (p.front).on ≡ true
    on = (both_true (p.front).on _ goes.2).0

    kept_none : (q.front).kept ≡ None
    kept_none = ap (λ (s : FrontState). s.kept) is_front ∙ none_of (p.front).kept (both_true _ _ (both_true (p.front).on _ goes.2).1).0

    facts : HeardFacts (p.front).client (q.front).client answer
    facts = heard_facts (p.front).client (q.front).client m answer ((goes.3).0).1

    next : (device : ℕ) (job : Job) → AskedAs (p.front).client (q.front).client (Ok (Ask device job)) → IsNextJob q.front q.stations (record { device = device; job = job })
    next device job is = record {
      on = on_same ∙ on;
      channel = is.1 ∙ keyed.same on ∙ sym channel_same;
      index = omega (arith, is.0, is.2);
      above = λ x has key names. elim (keyed.named x (subst (Has x) stations has) key names) [
        | inl less ↦ inl (omega (arith, less, is.1, keyed.same on))
        | inr here ↦ inr (here.0 ∙ sym (keyed.same on) ∙ sym is.1, omega (arith, here.1, is.2))
      ];
      may = is.3;
    }

    asked : (a : Result Heard EndFault) → AskedAs (p.front).client (q.front).client a → (k : Kept) → IsUnder (asking_by a) k → IsNextJob q.front q.stations k
    asked (Ok (Ask device job)) is k under = subst (IsNextJob q.front q.stations) under (next device job is)
    asked (Ok Nothing) is k under = absurd under
    asked (Ok (Print n)) is k under = absurd under
    asked (Err cause) is k under = absurd under

-- ---- a desk is called

-- what a call of a desk stores, where no job comes by it
pub desk_stays : (c : ℕ) (middle last : Of) (does : DeskCall) (back : DeskReply) → IsOpenCall does → ((job : Job) → does ≡ desk.Put job → back ≡ replied.Put (Ok tt) → ⊥) → IsServedOn c middle → SessionDeskStep middle does back last → Stays NoKey c middle last
desk_stays c middle last desk.Announce (replied.Announced answer) own other on step =
    let one = step_stays c middle (step.0).0 on (station.announces answer) tt (step.0).1 in subst (Stays NoKey c middle) (sym (step.0).2) one
desk_stays c middle last desk.Announce (replied.Put answer) own other on step = absurd step.1
desk_stays c middle last desk.Announce (replied.Unfit job) own other on step = absurd step.1
desk_stays c middle last desk.Announce (replied.Worked w) own other on step = absurd step.1
desk_stays c middle last desk.Announce (replied.Collected answer) own other on step = absurd step.1
desk_stays c middle last desk.Announce (replied.Removed answer) own other on step = absurd step.1
desk_stays c middle last desk.Announce replied.Dropped own other on step = absurd step.1
desk_stays c middle last desk.Announce replied.Ended own other on step = absurd step.1
desk_stays c middle last (desk.Put job) (replied.Put (Ok done)) own other on step = absurd (other job refl refl)
desk_stays c middle last (desk.Put job) (replied.Put (Err refusal)) own other on step =
    let one = step_stays c middle (step.0).0 on (puts job (Some refusal)) tt (step.0).1 in subst (Stays NoKey c middle) (sym (step.0).2) one
desk_stays c middle last (desk.Put job) (replied.Unfit back) own other on step =
    let one = step_stays c middle (step.0).0 on (puts_unfit job back) tt (step.0).1 in subst (Stays NoKey c middle) (sym (step.0).2) one
desk_stays c middle last (desk.Put job) (replied.Announced answer) own other on step = absurd step.1
desk_stays c middle last (desk.Put job) (replied.Worked w) own other on step = absurd step.1
desk_stays c middle last (desk.Put job) (replied.Collected answer) own other on step = absurd step.1
desk_stays c middle last (desk.Put job) (replied.Removed answer) own other on step = absurd step.1
desk_stays c middle last (desk.Put job) replied.Dropped own other on step = absurd step.1
desk_stays c middle last (desk.Put job) replied.Ended own other on step = absurd step.1
desk_stays c middle last desk.Collect (replied.Collected answer) own other on step =
    let one = step_stays c middle (step.0).0 on (station.collects answer) tt (step.0).1 in subst (Stays NoKey c middle) (sym (step.0).2) one
desk_stays c middle last desk.Collect (replied.Announced answer) own other on step = absurd step.1
desk_stays c middle last desk.Collect (replied.Put answer) own other on step = absurd step.1
desk_stays c middle last desk.Collect (replied.Unfit job) own other on step = absurd step.1
desk_stays c middle last desk.Collect (replied.Worked w) own other on step = absurd step.1
desk_stays c middle last desk.Collect (replied.Removed answer) own other on step = absurd step.1
desk_stays c middle last desk.Collect replied.Dropped own other on step = absurd step.1
desk_stays c middle last desk.Collect replied.Ended own other on step = absurd step.1
desk_stays c middle last desk.Remove (replied.Removed answer) own other on step =
    let one = step_stays c middle (step.0).0 on (station.removes answer) tt (step.0).1 in subst (Stays NoKey c middle) (sym (step.0).2) one
desk_stays c middle last desk.Remove (replied.Announced answer) own other on step = absurd step.1
desk_stays c middle last desk.Remove (replied.Put answer) own other on step = absurd step.1
desk_stays c middle last desk.Remove (replied.Unfit job) own other on step = absurd step.1
desk_stays c middle last desk.Remove (replied.Worked w) own other on step = absurd step.1
desk_stays c middle last desk.Remove (replied.Collected answer) own other on step = absurd step.1
desk_stays c middle last desk.Remove replied.Dropped own other on step = absurd step.1
desk_stays c middle last desk.Remove replied.Ended own other on step = absurd step.1
desk_stays c middle last (desk.Work runs) back own other on step = absurd own
desk_stays c middle last desk.DropChannel back own other on step = absurd own
desk_stays c middle last desk.End back own other on step = absurd own

desks_calm : (s t : FrontState) (desks : List DeviceDeskState) → t ≡ record s { desks = desks } → IsCalm s t × (t.kept ≡ s.kept)
desks_calm s t desks is = (
  record {
    on = ap (λ (x : FrontState). x.on) is;
    channel = ap (λ (x : FrontState). x.channel) is;
    client_channel = ap (λ (x : FrontState). (x.client).channel) is;
    asked = ap (λ (x : FrontState). (x.client).asked) is;
    may = λ may. ap (λ (x : FrontState). may_be_asked ((x.client).core).shake) is ∙ may;
  },
  ap (λ (x : FrontState). x.kept) is,
)

module _ (p q : Served) (place id : ℕ) (does : DeskCall) (back : DeskReply) (items : List Item) (keyed : IsKeyed p) (at : CallsAt p place id does back items q) where
  abbrev present : ℕ
  present = current (p.front).on (p.front).channel

  first_has : Has at.first p.stations
  first_has = has_at p.stations place at.first at.has

  pub worked : Stays NoKey present at.first (at.called).middle
  worked = work_stays present at.first (at.called).middle (at.called).works (keyed.on at.first first_has)

  -- what the desk's station names was named before
  pub middle_named : (key : Key) → NamesKey ((at.called).middle).journal key → NamesKey (at.first).journal key
  middle_named key names = elim (worked.names key names) [ inl before ↦ before | inr none ↦ absurd none ]

  quiet_stations : Stays NoKey present (at.called).middle at.last → StationsStay p q.stations
  quiet_stations then = record {
    each = λ x has. elim (has_set p.stations place at.last x (subst (Has x) at.stations_are has)) [ inl new ↦ subst (IsServedOn present) (sym new) then.on | inr was ↦ keyed.on x was ];
    names = λ x has key names. elim (has_set p.stations place at.last x (subst (Has x) at.stations_are has)) [
      | inl new ↦ (at.first, first_has, elim (then.names key (subst (λ (s : Of). NamesKey s.journal key) new names)) [ inl before ↦ middle_named key before | inr none ↦ absurd none ])
      | inr was ↦ (x, was, names)
    ];
  }

  calm : IsCalm p.front q.front × ((q.front).kept ≡ (p.front).kept)
  calm = desks_calm p.front q.front _ at.front_is

  -- no job comes
  quiet_called : Stays NoKey present (at.called).middle at.last → ((k : Kept) → IsUnder q.asking k → IsUnder p.asking k) → IsKeyed q
  quiet_called then under =
      keyed_calm p q keyed calm.0 (quiet_stations then) (λ k is. keyed.kept k (sym calm.1 ∙ is)) (λ k is. keyed.asking k (under k is)) (λ k is. calm.1 ∙ keyed.alone k (under k is))

  -- one comes
  came_keyed : (job : Job) (c : Comes p place job) → (between : Of) → MayPut (at.called).middle job.key × (station.put (at.called).middle job ≡ (between, None)) → at.last ≡ between → q.asking ≡ idle → IsKeyed q
  came_keyed job c between step is none =
      let next = keyed.asking c.kept (subst (λ (a : Asking). IsUnder a c.kept) (sym c.asked) refl) in
      let key_is : job.key ≡ c.kept.job.key = ap (λ (j : Job). j.key) c.job_is in
      let here : job.key.channel ≡ present = ap (λ (k : Key). k.channel) key_is ∙ next.channel ∙ sym (ap (λ (b : Bool). current b (p.front).channel) next.on) in
      let put = put_stays present (at.called).middle between worked.on job step.0 here step.1 in
      let given : IsGiven (p.front).channel ((p.front).client).asked job.key = subst (IsGiven (p.front).channel ((p.front).client).asked) (sym key_is) (inr (next.channel, next.index)) in
      let old_kept = keyed.alone c.kept (subst (λ (a : Asking). IsUnder a c.kept) (sym c.asked) refl) in
      record {
        on = λ x has. subst (λ (n : ℕ). IsServedOn n x) (λ i. current (sym calm.0.on i) (sym calm.0.channel i))
            (elim (has_set p.stations place at.last x (subst (Has x) at.stations_are has)) [ inl new ↦ subst (IsServedOn present) (sym (new ∙ is)) put.on | inr was ↦ keyed.on x was ]);
        named = λ x has key names.
            subst (λ (n : ℕ). IsGiven (q.front).channel n key) (sym calm.0.asked) (subst (λ (n : ℕ). IsGiven n ((p.front).client).asked key) (sym calm.0.channel)
            (elim (has_set p.stations place at.last x (subst (Has x) at.stations_are has)) [
              | inl new ↦ elim (put.names key (subst (λ (s : Of). NamesKey s.journal key) (new ∙ is) names)) [
                | inl before ↦ keyed.named at.first first_has key (middle_named key before)
                | inr fresh ↦ subst (IsGiven (p.front).channel ((p.front).client).asked) (sym fresh) given
              ]
              | inr was ↦ keyed.named x was key names
            ]));
        same = λ on. calm.0.client_channel ∙ keyed.same (sym calm.0.on ∙ on) ∙ sym calm.0.channel;
        kept = λ k some. absurd (cc (calm.1, old_kept, some));
        asking = λ k under. absurd (subst (λ (a : Asking). IsUnder a k) none under);
        alone = λ k under. absurd (subst (λ (a : Asking). IsUnder a k) none under);
      }

called_keyed : (p q : Served) (place id : ℕ) (does : DeskCall) (back : DeskReply) (items : List Item) → CallsAt p place id does back items q → IsKeyed p → IsKeyed q
called_keyed p q place id desk.Announce back items at keyed =
    quiet_called p q place id desk.Announce back items keyed at (desk_stays _ (at.called).middle at.last desk.Announce back tt (λ job e f. cc (e)) (worked p q place id desk.Announce back items keyed at).on (at.called).step) (λ k. subst (λ (a : Asking). IsUnder a k) at.asking_is)
called_keyed p q place id desk.Collect (replied.Collected None) items at keyed =
    quiet_called p q place id desk.Collect (replied.Collected None) items keyed at (desk_stays _ (at.called).middle at.last desk.Collect (replied.Collected None) tt (λ job e f. cc (e)) (worked p q place id desk.Collect (replied.Collected None) items keyed at).on (at.called).step) (λ k. subst (λ (a : Asking). IsUnder a k) at.asking_is)
called_keyed p q place id desk.Collect (replied.Collected (Some c)) items at keyed =
    quiet_called p q place id desk.Collect (replied.Collected (Some c)) items keyed at (desk_stays _ (at.called).middle at.last desk.Collect (replied.Collected (Some c)) tt (λ job e f. cc (e)) (worked p q place id desk.Collect (replied.Collected (Some c)) items keyed at).on (at.called).step) (λ k under. absurd (subst (λ (a : Asking). IsUnder a k) (at.asking_is).1 under))
called_keyed p q place id desk.Collect (replied.Announced answer) items at keyed = absurd ((at.called).step).1
called_keyed p q place id desk.Collect (replied.Put answer) items at keyed = absurd ((at.called).step).1
called_keyed p q place id desk.Collect (replied.Unfit job) items at keyed = absurd ((at.called).step).1
called_keyed p q place id desk.Collect (replied.Worked w) items at keyed = absurd ((at.called).step).1
called_keyed p q place id desk.Collect (replied.Removed answer) items at keyed = absurd ((at.called).step).1
called_keyed p q place id desk.Collect replied.Dropped items at keyed = absurd ((at.called).step).1
called_keyed p q place id desk.Collect replied.Ended items at keyed = absurd ((at.called).step).1
called_keyed p q place id desk.Remove back items at keyed =
    quiet_called p q place id desk.Remove back items keyed at (desk_stays _ (at.called).middle at.last desk.Remove back tt (λ job e f. cc (e)) (worked p q place id desk.Remove back items keyed at).on (at.called).step) (λ k. subst (λ (a : Asking). IsUnder a k) at.asking_is)
called_keyed p q place id (desk.Put job) (replied.Put (Ok done)) items at keyed =
    came_keyed p q place id (desk.Put job) (replied.Put (Ok done)) items keyed at job (at.asking_is).0 (((at.called).step).0).0 (((at.called).step).0).1 (((at.called).step).0).2 (at.asking_is).1
called_keyed p q place id (desk.Put job) (replied.Put (Err refusal)) items at keyed =
    quiet_called p q place id (desk.Put job) (replied.Put (Err refusal)) items keyed at (desk_stays _ (at.called).middle at.last (desk.Put job) (replied.Put (Err refusal)) tt (λ j e f. cc (f)) (worked p q place id (desk.Put job) (replied.Put (Err refusal)) items keyed at).on (at.called).step)
    (λ k under. subst (λ (a : Asking). IsUnder a k) (sym ((at.asking_is).0).asked) (subst (λ (a : Asking). IsUnder a k) (at.asking_is).1 under))
called_keyed p q place id (desk.Put job) (replied.Unfit back) items at keyed =
    quiet_called p q place id (desk.Put job) (replied.Unfit back) items keyed at (desk_stays _ (at.called).middle at.last (desk.Put job) (replied.Unfit back) tt (λ j e f. cc (f)) (worked p q place id (desk.Put job) (replied.Unfit back) items keyed at).on (at.called).step)
    (λ k under. absurd (subst (λ (a : Asking). IsUnder a k) (at.asking_is).1 under))
called_keyed p q place id (desk.Put job) (replied.Announced answer) items at keyed = absurd (at.asking_is).1
called_keyed p q place id (desk.Put job) (replied.Worked w) items at keyed = absurd (at.asking_is).1
called_keyed p q place id (desk.Put job) (replied.Collected answer) items at keyed = absurd (at.asking_is).1
called_keyed p q place id (desk.Put job) (replied.Removed answer) items at keyed = absurd (at.asking_is).1
called_keyed p q place id (desk.Put job) replied.Dropped items at keyed = absurd (at.asking_is).1
called_keyed p q place id (desk.Put job) replied.Ended items at keyed = absurd (at.asking_is).1
called_keyed p q place id (desk.Work runs) back items at keyed = absurd at.own
called_keyed p q place id desk.DropChannel back items at keyed = absurd at.own
called_keyed p q place id desk.End back items at keyed = absurd at.own

-- ---- a channel ends, and begins

-- each station is on the channel after this one
abbrev AreOver : ℕ → ℕ → List Of → Type 0
AreOver channel asked stations = (x : Of) → Has x stations → IsServedOn (suc channel) x × ((key : Key) → NamesKey x.journal key → IsGiven channel asked key)

given_below : (channel asked : ℕ) (key : Key) → IsGiven channel asked key → key.channel < suc channel
given_below channel asked key (inl less) = omega (arith, less)
given_below channel asked key (inr here) = omega (arith, here.0)

pub one_over : (over : Bool) (now channel asked : ℕ) (d e : DeviceDeskState) (first last : Of) (back : DeskReply) (items : List Item) → now ≤ suc channel → IsServedOn now first → ((key : Key) → NamesKey first.journal key → IsGiven channel asked key)
    → CallsDesk d e first (end_call over) back items last → Stays NoKey (suc channel) first last
one_over over now channel asked d e first last back items later on given called = record { on = then.on; names = λ key names. elim (then.names key names) [ inl before ↦ work.names key before | inr none ↦ inr none ] }
  where
    work : Stays NoKey now first called.middle
    work = work_stays now first called.middle called.works on

    middle_given : (key : Key) → NamesKey (called.middle).journal key → IsGiven channel asked key
    middle_given key names = elim (work.names key names) [ inl before ↦ given key before | inr none ↦ absurd none ]

    below : (key : Key) → NamesKey (called.middle).journal key → key.channel < suc channel
    below key names = given_below channel asked key (middle_given key names)

    by : (b : Bool) (r : DeskReply) → SessionDeskStep called.middle (end_call b) r last → Stays NoKey (suc channel) called.middle last
    by true replied.Ended step = subst (Stays NoKey (suc channel) called.middle) (sym (step.0).2) (end_stays now called.middle (step.0).0 work.on (suc channel) later below (step.0).1)
    by true (replied.Announced answer) step = absurd step.1
    by true (replied.Put answer) step = absurd step.1
    by true (replied.Unfit job) step = absurd step.1
    by true (replied.Worked w) step = absurd step.1
    by true (replied.Collected answer) step = absurd step.1
    by true (replied.Removed answer) step = absurd step.1
    by true replied.Dropped step = absurd step.1
    by false replied.Dropped step = subst (Stays NoKey (suc channel) called.middle) (sym (step.0).2) (drop_stays now called.middle (step.0).0 work.on (suc channel) later below (step.0).1)
    by false (replied.Announced answer) step = absurd step.1
    by false (replied.Put answer) step = absurd step.1
    by false (replied.Unfit job) step = absurd step.1
    by false (replied.Worked w) step = absurd step.1
    by false (replied.Collected answer) step = absurd step.1
    by false (replied.Removed answer) step = absurd step.1
    by false replied.Ended step = absurd step.1

    then : Stays NoKey (suc channel) called.middle last
    then = by over back called.step

pub all_over : (over : Bool) (now channel asked : ℕ) → now ≤ suc channel → (ds : List DeviceDeskState) (ss : List Of) (ts : List (ℕ × List Item)) (es : List DeviceDeskState) (us : List Of)
    → ((x : Of) → Has x ss → IsServedOn now x) → ((x : Of) → Has x ss → (key : Key) → NamesKey x.journal key → IsGiven channel asked key) → EndsEach over ds ss ts es us → AreOver channel asked us
all_over over now channel asked later [] [] [] [] [] on given ended x has = absurd has
all_over over now channel asked later (d ∷ ds) (s ∷ ss) (t ∷ ts) (e ∷ es) (u ∷ us) on given ended x (inl here) =
    let one = one_over over now channel asked d e s u ended.0 t.1 later (on s (inl refl)) (given s (inl refl)) ended.2 in
    subst (λ (y : Of). IsServedOn (suc channel) y × ((key : Key) → NamesKey y.journal key → IsGiven channel asked key)) (sym here)
    (one.on, λ key names. elim (one.names key names) [ inl before ↦ given s (inl refl) key before | inr none ↦ absurd none ])
all_over over now channel asked later (d ∷ ds) (s ∷ ss) (t ∷ ts) (e ∷ es) (u ∷ us) on given ended x (inr there) =
    all_over over now channel asked later ds ss ts es us (λ y has. on y (inr has)) (λ y has. given y (inr has)) ended.3 x there
all_over over now channel asked later ds ss ts es us on given ended x has = absurd ended

current_low : (on : Bool) (channel : ℕ) → current on channel ≤ suc channel
current_low true channel = omega arith
current_low false channel = omega arith

pub ended_is : (over : Bool) (s : FrontState) (desks : List DeviceDeskState) → let t = ended_front over s desks in (t.on ≡ false) × (t.channel ≡ s.channel) × ((t.client).asked ≡ (s.client).asked) × (t.kept ≡ None)
ended_is true s desks = (refl, refl, refl, refl)
ended_is false s desks = (refl, refl, refl, refl)

ends_keyed : (p q : Served) (over : Bool) (told : List (ℕ × List Item)) → PartGoes p (ends over told) q → IsKeyed p → IsKeyed q
ends_keyed p q over told goes keyed =
    let is = ended_is over p.front (q.front).desks in
    let off : (q.front).on ≡ false = ap (λ (s : FrontState). s.on) goes.2 ∙ is.0 in
    let channel : (q.front).channel ≡ (p.front).channel = ap (λ (s : FrontState). s.channel) goes.2 ∙ is.1 in
    let asked : ((q.front).client).asked ≡ ((p.front).client).asked = ap (λ (s : FrontState). (s.client).asked) goes.2 ∙ is.2 in
    let kept : (q.front).kept ≡ None = ap (λ (s : FrontState). s.kept) goes.2 ∙ is.3 in
    let ended = all_over over (current (p.front).on (p.front).channel) (p.front).channel ((p.front).client).asked (current_low (p.front).on (p.front).channel) (p.front).desks p.stations told (q.front).desks q.stations keyed.on keyed.named goes.1 in
    record {
      on = λ x has. subst (λ (n : ℕ). IsServedOn n x) (λ i. current (sym off i) (sym channel i)) (ended x has).0;
      named = λ x has key names. subst (λ (n : ℕ). IsGiven (q.front).channel n key) (sym asked) (subst (λ (n : ℕ). IsGiven n ((p.front).client).asked key) (sym channel) ((ended x has).1 key names));
      same = λ on. absurd (cc (off, on));
      kept = λ k some. absurd (cc (kept, some));
      asking = λ k under. absurd (subst (λ (a : Asking). IsUnder a k) goes.3 under);
      alone = λ k under. kept;
    }

-- what is on a channel that hasn't begun is on each later one
later_on : (channel asked then : ℕ) (s : Of) → channel < then → IsServedOn (suc channel) s → ((key : Key) → NamesKey s.journal key → IsGiven channel asked key) → IsServedOn then s
later_on channel asked then s later on given = record {
  keys = on.keys;
  spare = on.spare;
  memory = on.memory;
  sound = on.sound;
  last = λ key is. elim (on.last key is) [
    | inl at ↦ absurd (let low = given_below channel asked key (given key (on.sound.remembers.named key is)) in omega (arith, low, at))
    | inr nothing ↦ inr nothing
  ];
  forgotten = λ f is. let low = on.forgotten f is in omega (arith, low, later);
}

begins_keyed : (p q : Served) (channel : ℕ) → PartGoes p (begins channel) q → IsKeyed p → IsKeyed q
begins_keyed p q channel goes keyed = subst IsKeyed (sym goes.3) (record {
  on = λ x has. later_on (p.front).channel ((p.front).client).asked channel x goes.2 (subst (λ (b : Bool). IsServedOn (current b (p.front).channel) x) goes.1 (keyed.on x has)) (keyed.named x has);
  named = λ x has key names. inl (let low = given_below (p.front).channel ((p.front).client).asked key (keyed.named x has key names) in omega (arith, low, goes.2));
  same = λ on. refl;
  kept = λ k some. absurd (let on = (keyed.kept k some).on in cc (on, goes.1));
  asking = λ k under. absurd (let on = (keyed.asking k under).on in cc (on, goes.1));
  alone = λ k under. absurd (let on = (keyed.asking k under).on in cc (on, goes.1));
})

-- ---- each part

pub part_keyed : (p q : Served) (x : FrontPart) → PartGoes p x q → IsKeyed p → IsKeyed q
part_keyed p q (part.hears channel m answer) goes keyed = hears_keyed p q channel m answer goes keyed
part_keyed p q tries goes keyed = subst IsKeyed (sym goes.4) (keyed_calm p (record p { front = record p.front { kept = None }; asking = asks goes.0 }) keyed
    (record { on = refl; channel = refl; client_channel = refl; asked = refl; may = λ may. may }) (stations_same p p.stations refl keyed)
    (λ k some. absurd (cc (some))) (λ k same. subst (IsNextJob p.front p.stations) same (keyed.kept goes.0 goes.1)) (λ k same. refl))
part_keyed p q keeps goes keyed = subst IsKeyed (sym goes.3) (keyed_calm p (record p { front = record p.front { kept = Some goes.0 }; asking = idle }) keyed
    (record { on = refl; channel = refl; client_channel = refl; asked = refl; may = λ may. may }) (stations_same p p.stations refl keyed)
    (λ k some. keyed.asking k (subst (λ (a : Asking). IsUnder a k) (sym goes.2) (let same : goes.0 ≡ k = cc (some) in same))) (λ k none. absurd none) (λ k none. absurd none))
part_keyed p q forgets goes keyed = subst IsKeyed (sym goes.4) (keyed_idle p (record p { asking = idle }) keyed (calm_same p.front) (stations_same p p.stations refl keyed) refl refl)
part_keyed p q misplaces goes keyed = subst IsKeyed (sym goes.3) (keyed_idle p (record p { asking = idle }) keyed (calm_same p.front) (stations_same p p.stations refl keyed) refl refl)
part_keyed p q (directs st answer) goes keyed =
    let k : Kept = goes.0 in
    let same = did_calm answer (client.direct (p.front).client k.job k.device st) (p.front).client (q.front).client ((goes.2).0).1 refl refl refl in
    let calm = client_calm p.front q.front _ (goes.2).1 same in
    keyed_idle p q keyed calm.0 (stations_same p q.stations goes.4 keyed) calm.1 goes.3
part_keyed p q (calls place id does back items) goes keyed = called_keyed p q place id does back items goes keyed
part_keyed p q (tells_gone device answer) goes keyed =
    let same = did_calm answer (client.tell_removed (p.front).client device) (p.front).client (q.front).client ((goes.0).0).1 refl refl refl in
    let calm = client_calm p.front q.front _ (goes.0).1 same in
    keyed_beside p q keyed calm.0 (stations_same p q.stations goes.2 keyed) calm.1 goes.1
part_keyed p q (tells_there device answer) goes keyed =
    let same = did_calm answer (client.tell_added (p.front).client device) (p.front).client (q.front).client ((goes.0).0).1 refl refl refl in
    let calm = client_calm p.front q.front _ (goes.0).1 same in
    keyed_beside p q keyed calm.0 (stations_same p q.stations goes.2 keyed) calm.1 goes.1
part_keyed p q (sends channel sent) goes keyed =
    let calm = client_calm p.front q.front _ (goes.1).1 (sent_calm (p.front).client (q.front).client sent (goes.1).0) in
    keyed_beside p q keyed calm.0 (stations_same p q.stations goes.3 keyed) calm.1 goes.2
part_keyed p q (writes device c) goes keyed = subst IsKeyed (sym goes.1) (keyed_idle p (record p { asking = idle }) keyed (calm_same p.front) (stations_same p p.stations refl keyed) refl refl)
part_keyed p q (unwritten device c) goes keyed = subst IsKeyed (sym goes.1) (keyed_idle p (record p { asking = idle }) keyed (calm_same p.front) (stations_same p p.stations refl keyed) refl refl)
part_keyed p q (learns n answer) goes keyed = subst IsKeyed (sym goes.1)
    (keyed_beside p (record p { front = record p.front { cache = (q.front).cache } }) keyed (record { on = refl; channel = refl; client_channel = refl; asked = refl; may = λ may. may }) (stations_same p p.stations refl keyed) refl refl)
part_keyed p q (refreshes device) goes keyed =
    let calm = refreshed_calm p.front device in
    subst IsKeyed (sym goes) (keyed_beside p (record p { front = with_new_data p.front device }) keyed calm.0 (stations_same p p.stations refl keyed) calm.1 refl)
part_keyed p q (begins channel) goes keyed = begins_keyed p q channel goes keyed
part_keyed p q (ends over told) goes keyed = ends_keyed p q over told goes keyed

pub parts_keyed : (ps : List FrontPart) (p q : Served) → PartsGo p ps q → IsKeyed p → IsKeyed q
parts_keyed [] p q is keyed = subst IsKeyed (sym is) keyed
parts_keyed (x ∷ ps) p q goes keyed = parts_keyed ps goes.0 q goes.2 (part_keyed p goes.0 x goes.1 keyed)

-- ---- so no part is unfit

unfit_at : (p q : Served) (place id : ℕ) (does : DeskCall) (job : Job) (items : List Item) → CallsAt p place id does (replied.Unfit job) items q → IsKeyed p → ⊥
unfit_at p q place id (desk.Put job) back items at keyed =
    let c = (at.asking_is).0 in
    let next = keyed.asking c.kept (subst (λ (a : Asking). IsUnder a c.kept) (sym c.asked) refl) in
    let key_is : job.key ≡ c.kept.job.key = ap (λ (j : Job). j.key) c.job_is in
    let here : job.key.channel ≡ current (p.front).on (p.front).channel = ap (λ (k : Key). k.channel) key_is ∙ next.channel ∙ sym (ap (λ (b : Bool). current b (p.front).channel) next.on) in
    let work = worked p q place id (desk.Put job) (replied.Unfit back) items keyed at in
    (((at.called).step).0).1.0 (may_put served_runs served_parked served_cuts (current (p.front).on (p.front).channel) (at.called).middle job.key work.on here
    (λ earlier names. subst (IsBelow earlier) (sym key_is) (next.above at.first (has_at p.stations place at.first at.has) earlier (middle_named p q place id (desk.Put job) (replied.Unfit back) items keyed at earlier names))))
unfit_at p q place id desk.Announce back items at keyed = absurd ((at.called).step).1
unfit_at p q place id desk.Collect back items at keyed = absurd ((at.called).step).1
unfit_at p q place id desk.Remove back items at keyed = absurd ((at.called).step).1
unfit_at p q place id (desk.Work runs) back items at keyed = absurd at.own
unfit_at p q place id desk.DropChannel back items at keyed = absurd at.own
unfit_at p q place id desk.End back items at keyed = absurd at.own

unfit_never : (p q : Served) (x : FrontPart) → PartGoes p x q → IsKeyed p → is_unfit x ≡ true → ⊥
unfit_never p q misplaces goes keyed unfit =
    let may = (keyed.asking goes.0 (subst (λ (a : Asking). IsUnder a goes.0) (sym goes.1) refl)).may in cc (may, goes.2)
unfit_never p q (calls place id does (replied.Unfit job) items) goes keyed unfit = unfit_at p q place id does job items goes keyed
unfit_never p q (calls place id does (replied.Put answer) items) goes keyed unfit = cc (unfit)
unfit_never p q (calls place id does (replied.Announced answer) items) goes keyed unfit = cc (unfit)
unfit_never p q (calls place id does (replied.Worked w) items) goes keyed unfit = cc (unfit)
unfit_never p q (calls place id does (replied.Collected answer) items) goes keyed unfit = cc (unfit)
unfit_never p q (calls place id does (replied.Removed answer) items) goes keyed unfit = cc (unfit)
unfit_never p q (calls place id does replied.Dropped items) goes keyed unfit = cc (unfit)
unfit_never p q (calls place id does replied.Ended items) goes keyed unfit = cc (unfit)
unfit_never p q (part.hears channel m answer) goes keyed unfit = cc (unfit)
unfit_never p q tries goes keyed unfit = cc (unfit)
unfit_never p q keeps goes keyed unfit = cc (unfit)
unfit_never p q forgets goes keyed unfit = cc (unfit)
unfit_never p q (directs st answer) goes keyed unfit = cc (unfit)
unfit_never p q (tells_gone device answer) goes keyed unfit = cc (unfit)
unfit_never p q (tells_there device answer) goes keyed unfit = cc (unfit)
unfit_never p q (sends channel sent) goes keyed unfit = cc (unfit)
unfit_never p q (writes device c) goes keyed unfit = cc (unfit)
unfit_never p q (unwritten device c) goes keyed unfit = cc (unfit)
unfit_never p q (learns n answer) goes keyed unfit = cc (unfit)
unfit_never p q (refreshes device) goes keyed unfit = cc (unfit)
unfit_never p q (begins channel) goes keyed unfit = cc (unfit)
unfit_never p q (ends over told) goes keyed unfit = cc (unfit)

none_unfit : (ps : List FrontPart) (p q : Served) → PartsGo p ps q → IsKeyed p → Among (λ x. is_unfit x ≡ true) ps → ⊥
none_unfit [] p q goes keyed none = none
none_unfit (x ∷ ps) p q goes keyed (inl here) = unfit_never p goes.0 x goes.1 keyed here
none_unfit (x ∷ ps) p q goes keyed (inr later) = none_unfit ps goes.0 q goes.2 (part_keyed p goes.0 x goes.1 keyed) later

pub history_fits : (entries : List (Entry FrontCall FrontReply)) (parts : List (List FrontPart)) (p q : Served) → HistoryGoes p entries parts q → IsKeyed p → All (λ (e : Entry FrontCall FrontReply). e.reply ≢ reply.Unfit) entries
history_fits [] [] p q goes keyed = All-nil (λ (e : Entry FrontCall FrontReply). e.reply ≢ reply.Unfit)
history_fits [] (ps ∷ parts) p q goes keyed = absurd goes
history_fits (e ∷ entries) [] p q goes keyed = absurd goes
history_fits (e ∷ entries) (ps ∷ parts) p q goes keyed =
    All-cons (λ (x : Entry FrontCall FrontReply). x.reply ≢ reply.Unfit) e entries (λ is. none_unfit ps p goes.0 (goes.1).goes keyed ((goes.1).tells.unfit is))
    (history_fits entries parts goes.0 q goes.2 (parts_keyed ps p goes.0 (goes.1).goes keyed))

-- ---- the beginning

pub new_one : (d : DeviceDeskState) (s : Of) (is : IsNewDesk d) → IsStationed d s → s ≡ new_station is.device
new_one d s is at = sym leads ∙ is.opening
  where
    leads : (d.turn).opening ≡ s
    leads = subst (λ (es : List (Entry DeskCall DeskReply)). Leads SessionDeskStep (d.turn).opening es s) is.unseen at.leads

all_new : (c : ℕ) (ds : List DeviceDeskState) (ss : List Of) → AllByRecursion IsNewDesk ds → AreStationed ds ss → (x : Of) → Has x ss → IsServedOn c x × ((key : Key) → NamesKey x.journal key → ⊥)
all_new c [] [] is at x has = absurd has
all_new c [] (s ∷ ss) is at x has = absurd at
all_new c (d ∷ ds) [] is at x has = absurd at
all_new c (d ∷ ds) (s ∷ ss) is at x (inl here) =
    let same : x ≡ new_station (is.0).device = here ∙ new_one d s is.0 at.0 in
    subst (λ (y : Of). IsServedOn c y × ((key : Key) → NamesKey y.journal key → ⊥)) (sym same) (new_on served_runs served_parked served_cuts c (is.0).device (is.0).nothing, λ key names. omega (arith, names.2))
all_new c (d ∷ ds) (s ∷ ss) is at x (inr later) = all_new c ds ss is.1 at.1 x later

pub begins_at : (p : Served) → IsNewFront p.front → AreStationed (p.front).desks p.stations → p.asking ≡ idle → IsKeyed p
begins_at p is at none = record {
  on = λ x has. (all_new (current (p.front).on (p.front).channel) (p.front).desks p.stations is.desks at x has).0;
  named = λ x has key names. absurd ((all_new (current (p.front).on (p.front).channel) (p.front).desks p.stations is.desks at x has).1 key names);
  same = λ on. absurd (let off = is.off in cc (on, off));
  kept = λ k some. absurd (let nothing = is.kept in cc (some, nothing));
  asking = λ k under. absurd (subst (λ (a : Asking). IsUnder a k) none under);
  alone = λ k under. absurd (subst (λ (a : Asking). IsUnder a k) none under);
}

pub begins_well : (s : FrontState) (stations : List Of) → IsNewFront s → AreStationed s.desks stations → IsKeyed (record { front = s; asking = idle; stations = stations })
begins_well s stations is at = begins_at (record { front = s; asking = idle; stations = stations }) is at refl

pub history_keyed : (entries : List (Entry FrontCall FrontReply)) (parts : List (List FrontPart)) (p q : Served) → HistoryGoes p entries parts q → IsKeyed p → IsKeyed q
history_keyed [] [] p q goes keyed = subst IsKeyed (sym goes) keyed
history_keyed [] (ps ∷ parts) p q goes keyed = absurd goes
history_keyed (e ∷ entries) [] p q goes keyed = absurd goes
history_keyed (e ∷ entries) (ps ∷ parts) p q goes keyed = history_keyed entries parts goes.0 q goes.2 (parts_keyed ps p goes.0 (goes.1).goes keyed)

pub keyed_lawful : (p : Served) → IsKeyed p → (place : ℕ) (s : Of) → slice_get p.stations place ≡ Some s → IsLawful s.journal
keyed_lawful p keyed place s there = (reached_kept served_runs served_parked served_cuts s (keyed.on s (has_at p.stations place s there)).sound.reached).lawful
