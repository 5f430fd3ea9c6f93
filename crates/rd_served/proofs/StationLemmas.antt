-- What each call of a desk keeps of its station, on a channel.
use Rattle.std.proofs.Common.{◌≡◌, ◌⊎◌, refl, sym, ap, subst, inl, inr, ℕ, ◌<◌, ◌≤◌, Bool, true, List, [], ◌∷◌}
use Rattle.std.specs.Prelude.{Err, None, Ok, Option, Result, Some}
use Rattle.std.specs.List.{AllByRecursion}
use Rattle.rd_base.specs.declared.journal.Key.{Key}
use Rattle.rd_drive.specs.Planned.{Planned}
use Rattle.rd_drive.specs.Promise.{CutsOff}
use Rattle.rd_drive.specs.Stepped.{Stepped}
use Rattle.rd_drive.specs.declared.plan.Job.{Job}
use Rattle.rd_front.specs.State.{SessionStation}
use Rattle.rd_station.specs.Memory.{NamesKey}
use Rattle.rd_station.specs.Station as station
use Rattle.rd_station.specs.Station.{CameOf, DidRun, MayPut, PutRefused, StationCall, StationStep, announces, applies, collects, drop_channel, drops, ends, put_refusal, put_unless, puts, puts_unfit, removes, takes}
use Rattle.rd_station.specs.declared.answers.Applied.{Applied}
use Rattle.rd_station.specs.declared.answers.Completion.{Completion}
use Rattle.rd_station.specs.declared.answers.Given.{Given}
use Rattle.rd_station.specs.declared.refusals.AnnounceNo.{AnnounceNo}
use Rattle.rd_station.specs.declared.refusals.AnnounceNo.TheVariants as unannounced
use Rattle.rd_station.specs.declared.refusals.PutWhy.{PutWhy}
use Rattle.rd_station.specs.declared.refusals.PutWhy.TheVariants as why
use Rattle.rd_station.proofs.Calls.{reached_step}
use Rattle.rd_journals.proofs.CallLemmas.{AnyJob, NoKey}
use Rattle.rd_served.specs.OnChannel.{IsServedOn}
use Rattle.rd_served.specs.Served.{IsWork, Works}
use Rattle.rd_served.proofs.CallLemmas as call_lemmas
use Rattle.rd_served.proofs.CallLemmas.{Goes, announced, applied_back, collected, dropped, removed, taken}
use Rattle.rd_served.proofs.WorkLemmas.{Steps}
use Rattle.rd_served_devices.specs.ServedDevices.{ServedDeviceState, served_cuts, served_parked, served_runs}

abbrev Of : Type 0
Of = SessionStation

abbrev pub Step : Of → StationCall → Of → Type 0
Step old call new = StationStep served_runs served_parked served_cuts old call new

-- A station is on a channel still, and its journal names no key that it didn't name, but for new ones.
pub record Stays (New : Key → Type 0) (c : ℕ) (old new : Of) : Type 0 where
  pub on : IsServedOn c new
  pub names : (key : Key) → NamesKey new.journal key → NamesKey old.journal key ⊎ New key

-- where it goes on
abbrev Went : (Key → Type 0) → ℕ → Of → Of → Type 0
Went New c old new = Goes served_runs served_parked served_cuts New AnyJob c old new

goes_stays : (New : Key → Type 0) (c : ℕ) (old new : Of) → Went New c old new → Stays New c old new
goes_stays New c old new goes = record { on = goes.on; names = goes.names }

pub stays_same : (New : Key → Type 0) (c : ℕ) (old new : Of) → new ≡ old → IsServedOn c old → Stays New c old new
stays_same New c old new is on = record { on = subst (IsServedOn c) (sym is) on; names = λ key names. inl (subst (λ (s : Of). NamesKey s.journal key) is names) }

pub stays_on : (New : Key → Type 0) (c : ℕ) (a b d : Of) → Stays New c a b → Stays New c b d → Stays New c a d
stays_on New c a b d first second = record { on = second.on; names = λ key names. elim (second.names key names) [ inl before ↦ first.names key before | inr new ↦ inr new ] }

-- a job that a station refuses changes nothing
module _ (old new : Of) where
  put_none : (job : Job) (found : Option PutWhy) (cause : PutWhy) → put_unless old job found ≡ (new, Some cause) → new ≡ old
  put_none job None cause e = absurd (let f : None ≡ Some cause = ap (λ (r : Of × Option PutWhy). r.1) e in cc (f))
  put_none job (Some found) cause e = sym (ap (λ (r : Of × Option PutWhy). r.0) e)

  pub put_refused : (job : Job) (cause : PutWhy) → PutRefused old job cause new → new ≡ old
  put_refused job why.Memory e = e.1
  put_refused job why.Gone e = put_none job (put_refusal old job) why.Gone e
  put_refused job (why.Duplicate key) e = put_none job (put_refusal old job) (why.Duplicate key) e
  put_refused job (why.Full count) e = put_none job (put_refusal old job) (why.Full count) e
  put_refused job (why.Worn count) e = put_none job (put_refusal old job) (why.Worn count) e

-- a call that names no new key, while the channel goes on
abbrev pub IsBeside : StationCall → Type 0
IsBeside (puts job None) = ⊥
IsBeside drops = ⊥
IsBeside ends = ⊥
IsBeside _ = Unit {0}

module _ (c : ℕ) (old new : Of) (on : IsServedOn c old) where
  announced_stays : (answer : Result (Unit {0}) AnnounceNo) → station.announce old ≡ (new, answer) → Stays NoKey c old new
  announced_stays answer e = goes_stays NoKey c old new (subst (λ (r : Of × Result (Unit {0}) AnnounceNo). Went NoKey c old r.0) e (announced served_runs served_parked served_cuts AnyJob c old on))

  taken_stays : (answer : Given) → station.take old ≡ (new, answer) → Stays NoKey c old new
  taken_stays answer e = goes_stays NoKey c old new (subst (λ (r : Of × Given). Went NoKey c old r.0) e (taken served_runs served_parked served_cuts AnyJob c old on))

  collected_stays : (answer : Option Completion) → station.collect old ≡ (new, answer) → Stays NoKey c old new
  collected_stays answer e = goes_stays NoKey c old new (subst (λ (r : Of × Option Completion). Went NoKey c old r.0) e (collected served_runs served_parked served_cuts AnyJob c old on))

  -- a job comes back, whether it was run or not
  applied_stays : (planned : Planned) (moment : ℕ) (came : Stepped ServedDeviceState) (answer : Applied) → (DidRun answer → CameOf served_runs served_parked served_cuts old.device planned moment came) → station.apply old planned.job moment came ≡ (new, answer) → Stays NoKey c old new
  applied_stays planned moment came answer promise e = goes_stays NoKey c old new (applied_back served_runs served_parked served_cuts AnyJob c old on new planned tt moment came answer e promise)

  removed_stays : (cut : ServedDeviceState) (answer : Bool) → station.remove old cut ≡ (new, answer) → (answer ≡ true → CutsOff served_cuts served_parked old.device cut) → Stays NoKey c old new
  removed_stays cut answer e off = goes_stays NoKey c old new (removed served_runs served_parked served_cuts AnyJob c old on new cut answer e off)

  pub put_stays : (job : Job) → MayPut old job.key → job.key.channel ≡ c → station.put old job ≡ (new, None) → Stays (λ key. key ≡ job.key) c old new
  put_stays job may here e = by (put_refusal old job) refl e
    where
      by : (found : Option PutWhy) → put_refusal old job ≡ found → put_unless old job found ≡ (new, None) → Stays (λ key. key ≡ job.key) c old new
      by None free e = goes_stays (λ key. key ≡ job.key) c old new (subst (λ (r : Of × Option PutWhy). Went (λ key. key ≡ job.key) c old r.0) e (call_lemmas.came served_runs served_parked served_cuts AnyJob c old on job tt may here free))
      by (Some cause) free e = absurd (let f : Some cause ≡ None = ap (λ (r : Of × Option PutWhy). r.1) e in cc (f))

  pub step_stays : (call : StationCall) → IsBeside call → Step old call new → Stays NoKey c old new
  step_stays (announces (Ok done)) own e = announced_stays (Ok done) e
  step_stays (announces (Err unannounced.Memory)) own e = stays_same NoKey c old new e.1 on
  step_stays (announces (Err unannounced.Live)) own e = announced_stays (Err unannounced.Live) e
  step_stays (announces (Err (unannounced.Worn count))) own e = announced_stays (Err (unannounced.Worn count)) e
  step_stays (puts job None) own e = absurd own
  step_stays (puts job (Some refusal)) own e = stays_same NoKey c old new (put_refused old new job refusal.why e.1) on
  step_stays (puts_unfit job back) own e = stays_same NoKey c old new e.1 on
  step_stays (takes answer) own e = taken_stays answer e
  step_stays (applies planned moment answer) own e = applied_stays planned moment e.0 answer e.2 e.1
  step_stays (collects answer) own e = collected_stays answer e
  step_stays (removes answer) own e = removed_stays e.0 answer e.1 e.2
  step_stays drops own e = absurd own
  step_stays ends own e = absurd own

  -- ---- the channel ends

  -- whose keys are all of earlier channels than the one that begins then
  module _ (then : ℕ) (later : c ≤ then) (above : (key : Key) → NamesKey old.journal key → key.channel < then) where
    drop_goes : (cut : ServedDeviceState) → (old.live ≡ true → CutsOff served_cuts served_parked old.device cut) → Stays NoKey then old (drop_channel old cut)
    drop_goes cut off = goes_stays NoKey then old (drop_channel old cut) (dropped served_runs served_parked served_cuts AnyJob c old on then later above cut off)

    pub drop_stays : Step old drops new → Stays NoKey then old new
    drop_stays e = subst (Stays NoKey then old) e.1 (drop_goes e.0 e.2)

    pub end_stays : Step old ends new → Stays NoKey then old new
    end_stays e =
        let s : Of = drop_channel old e.0 in
        let so = drop_goes e.0 e.2 in
        let step : Step old ends (record s { ended = true }) = (e.0, refl, e.2) in
        let memory = so.on.sound.remembers in
        subst (λ (x : Of). Stays NoKey then old x) e.1 (record {
          on = record {
            keys = so.on.keys;
            spare = so.on.spare;
            memory = so.on.memory;
            sound = record {
              reached = reached_step served_runs served_parked served_cuts old (record s { ended = true }) ends on.sound.reached step;
              keys_found = so.on.sound.keys_found;
              rising = so.on.sound.rising;
              room = so.on.sound.room;
              remembers = record { none = memory.none; named = memory.named; greatest = memory.greatest; channel = memory.channel; known = memory.known; forgot = memory.forgot };
            };
            last = so.on.last;
            forgotten = so.on.forgotten;
          };
          names = so.names;
        })

-- ---- what hands do

pub works_stay : (c : ℕ) (calls : List StationCall) (old new : Of) → AllByRecursion IsWork calls → Steps old calls new → IsServedOn c old → Stays NoKey c old new
works_stay c [] old new work is on = stays_same NoKey c old new is on
works_stay c (call ∷ calls) old new work steps on =
    let first = step_stays c old steps.0 on call (beside call work.0) steps.1 in
    stays_on NoKey c old steps.0 new first (works_stay c calls steps.0 new work.1 steps.2 first.on)
  where
    beside : (call : StationCall) → IsWork call → IsBeside call
    beside (takes answer) work = tt
    beside (applies planned moment answer) work = tt
    beside (announces answer) work = absurd work
    beside (puts job answer) work = absurd work
    beside (puts_unfit job back) work = absurd work
    beside (collects answer) work = absurd work
    beside (removes answer) work = absurd work
    beside drops work = absurd work
    beside ends work = absurd work

pub work_stays : (c : ℕ) (old new : Of) → Works old new → IsServedOn c old → Stays NoKey c old new
work_stays c old new works on = works_stay c works.calls old new works.work works.steps on
