-- A station to which a history of its desk leads, in which each job that comes is of a request that was read: it is tied to its journal where it is known what its device does, and what is ready there
-- is of its request.
use Rattle.std.proofs.Common.{◌≡◌, ◌∙◌, refl, sym, ap, subst, ℕ, List, [], ◌∷◌}
use Rattle.std.specs.Prelude.{Option, Some}
use Rattle.std.specs.List.{AllByRecursion}
use Rattle.std.specs.Option.{unwrap_or}
use Rattle.rd_base.specs.declared.journal.Key.{Key}
use Rattle.rd_desk.specs.Desk.{told_calls}
use Rattle.rd_desk.specs.declared.calls.DeskCall.{DeskCall}
use Rattle.rd_desk.specs.declared.calls.DeskReply.{DeskReply}
use Rattle.rd_desk.proofs.StepLemmas.{led_steps}
use Rattle.rd_drive.proofs.AllLemmas.{all_weaker}
use Rattle.rd_drive.proofs.BoundedLemmas.{cut_cancels}
use Rattle.rd_drive.specs.Promise.{Cancels}
use Rattle.rd_drive.specs.declared.plan.Job.{Job}
use Rattle.rd_front.specs.State.{SessionDeskStep, SessionStation}
use Rattle.rd_irp.specs.Fits.{kind_of}
use Rattle.rd_irp.specs.declared.completion.Kind.{Kind}
use Rattle.rd_irp.specs.declared.completion.Reply.{Reply}
use Rattle.rd_irp.specs.declared.request.Request.{Request}
use Rattle.rd_refused.specs.JournalsJobs.{IsIdOf, IsJobOf, IsKindOf, OwnsAll}
use Rattle.rd_refused.proofs.JournalsCallLemmas.{OfJob}
use Rattle.rd_refused.proofs.JournalsWorkLemmas.{Grown}
use Rattle.rd_station.specs.Station.{StationCall, announces, applies, collects, drops, ends, new_station, puts, puts_unfit, removes, takes}
use Rattle.rd_station.specs.Tied.{IsRunBy, RunsOwn}
use Rattle.rd_station.specs.declared.answers.Completion.{Completion}
use Rattle.rd_station.proofs.Members.{Has}
use Rattle.rd_station.proofs.Tying.{all_tied}
use Rattle.rd_turn.specs.declared.object.Entry.{Entry}
use Rattle.rd_turn.specs.History.{Leads}
use Rattle.rd_declared.specs.Devices.{device_cut, device_cuts, device_parked, device_runs, device_step}
use Rattle.rd_declared.specs.Replies.{no_request, request_read}
use Rattle.rd_deeds.specs.Talk.{Deed, client_read, request_at}
use Rattle.rd_declared.specs.declared.device.SessionDevice.{SessionDevice}
use Rattle.rd_declared.specs.declared.device.SessionDevice.TheVariants as session
use Rattle.rd_served.specs.ServedDevices.{ServedDeviceState, served_cuts, served_parked, served_runs}
use Rattle.rd_served.proofs.CauseLemmas.{AnyRequest}
use Rattle.rd_served.proofs.OwnsLemmas.{owns_call}
use Rattle.rd_served.proofs.WorkLemmas.{Steps}
use Rattle.rd_served_replies.specs.Given.{HadNoFault, IsTiedAs, with_device}
use Rattle.rd_served_replies.specs.Premises.{GivesOwn}
use Rattle.rd_served_replies.proofs.GivenLemmas.{PutOf, WaitsOf, history_of, waits_then}
use Rattle.rd_served_replies.proofs.KnownLemmas.{Plays, plays_known, plays_parked, steps_as}

abbrev Of : Type 0
Of = SessionStation

abbrev E : Type 0
E = Entry DeskCall DeskReply

pub by_step : IsRunBy device_step device_cut device_runs device_parked device_cuts
by_step = record { runs = λ old planned moment answer ends new did. did; cuts = λ old new did. did; cancels = cancels }
  where
    cancels : (s : SessionDevice) → Cancels device_step device_cut device_parked s
    cancels (session.Drive s) = let is = cut_cancels s in record { ends = is.ends; none = is.none }
    cancels (session.Printer s) = record { ends = refl; none = refl }

pub one_request : (deeds : List Deed) (c k : ℕ) (r q : Request) → request_at (client_read c deeds) k ≡ Some r → request_at (client_read c deeds) k ≡ Some q → r ≡ q
one_request deeds c k r q one other = let both : Some r ≡ Some q = sym one ∙ other in cc (both)

-- What is ready is of the request of its key, which was read and names the device: it has the request's completion id and layout.
pub record IsRequestOf (deeds : List Deed) (device : ℕ) (c : Completion) : Type 0 where
  pub request : Request
  pub read : request_at (client_read c.key.channel deeds) c.key.index ≡ Some request
  pub device_is : request.device ≡ device
  pub id : c.completion ≡ request.completion
  pub layout : c.kind ≡ kind_of request.op

-- what it holds is of its requests
module _ (deeds : List Deed) (device : ℕ) where
  abbrev J : Job → Type 0
  J = IsJobOf AnyRequest deeds device

  abbrev T : Key → ℕ → Type 0
  T = IsIdOf AnyRequest deeds device

  abbrev K : Key → ℕ → Kind → Type 0
  K = IsKindOf AnyRequest deeds device

  -- whatever the reply
  abbrev Any : Reply → Type 0
  Any reply = Unit {0}

  kinds : (job : Job) (completion : ℕ) → IsJobOf AnyRequest deeds device job → IsIdOf AnyRequest deeds device job.key completion → IsKindOf AnyRequest deeds device job.key completion (kind_of job.op)
  kinds job completion own id = record {
    of = id;
    layout = ap (λ (j : Job). kind_of j.op) own.job_is ∙ ap (λ (r : Request). kind_of r.op) (one_request deeds job.key.channel job.key.index own.request id.request own.read id.read);
  }

  waits : (job : Job) → IsJobOf AnyRequest deeds device job → IsIdOf AnyRequest deeds device job.key job.completion
  waits job own = record { request = own.request; read = own.read; device = own.device; id = ap (λ (j : Job). j.completion) own.job_is; fine = own.fine }

  owns_steps : (calls : List StationCall) (old new : Of) → Steps old calls new → WaitsOf (IsJobOf AnyRequest deeds device) old → OwnsAll T K Any old.taken old.parked old.ready
      → AllByRecursion (PutOf (IsJobOf AnyRequest deeds device)) calls → AllByRecursion (OfJob (IsJobOf AnyRequest deeds device)) calls → OwnsAll T K Any new.taken new.parked new.ready
  owns_steps [] old new e own is put of = subst (λ (s : Of). OwnsAll T K Any s.taken s.parked s.ready) (sym e) is
  owns_steps (c ∷ calls) old new e own is put of =
      owns_steps calls e.0 new e.2 (waits_then (IsJobOf AnyRequest deeds device) old e.0 c e.1 own put.0)
      (owns_call served_runs served_parked served_cuts (IsIdOf AnyRequest deeds device) (IsKindOf AnyRequest deeds device) Any (IsJobOf AnyRequest deeds device) tt kinds waits
      (λ s planned moment came own runs. record { answer = λ reply e. tt; ends = λ e has. tt }) old e.0 own is c e.1 of.0) put.1 of.1

-- each run is of its key's request, as more is read
run_own : (Fine : Request → Type 0) (final deeds : List Deed) → Grown deeds final → (device : ℕ) (c : StationCall) → OfJob (IsJobOf Fine deeds device) c → RunsOwn (request_read final) c
run_own Fine final deeds grown device (applies planned moment answer) own = λ did.
    let read = grown planned.job.key.channel planned.job.key.index own.request own.read in
    let same : request_read final planned.job.key ≡ own.request = ap (λ (o : Option Request). unwrap_or o no_request) read in
    (ap (λ (j : Job). j.file) own.job_is ∙ ap (λ (r : Request). r.file) (sym same), ap (λ (j : Job). j.op) own.job_is ∙ ap (λ (r : Request). r.op) (sym same))
run_own Fine final deeds grown device (announces r) own = tt
run_own Fine final deeds grown device (puts j r) own = tt
run_own Fine final deeds grown device (puts_unfit j back) own = tt
run_own Fine final deeds grown device (takes r) own = tt
run_own Fine final deeds grown device (collects r) own = tt
run_own Fine final deeds grown device (removes r) own = tt
run_own Fine final deeds grown device drops own = tt
run_own Fine final deeds grown device ends own = tt

module _ (Fine : Request → Type 0) (final deeds : List Deed) (grown : Grown deeds final) (device : ℕ) (opening : ServedDeviceState) (entries : List E) (s : Of) (leads : Leads SessionDeskStep (new_station opening) entries s) (gives : GivesOwn entries)
    (put : AllByRecursion (PutOf (IsJobOf Fine deeds device)) (told_calls entries)) where
  led_of : AllByRecursion (OfJob (IsJobOf Fine deeds device)) (told_calls entries)
  led_of = history_of (IsJobOf Fine deeds device) (new_station opening) s entries leads gives (λ job none. absurd none) put

  pub led_by : Steps (new_station opening) (told_calls entries) s
  led_by = led_steps served_runs served_parked served_cuts (new_station opening) s entries leads

  pub led_runs : AllByRecursion (RunsOwn (request_read final)) (told_calls entries)
  led_runs = all_weaker (OfJob (IsJobOf Fine deeds device)) (RunsOwn (request_read final)) (run_own Fine final deeds grown device) (told_calls entries) led_of

  -- where it is known what its device does, and no fault was counted
  pub led_tied : (other : SessionDevice) → Plays opening other → served_parked opening ≡ [] → HadNoFault s.device → IsTiedAs (request_read final) other s
  led_tied other plays nothing calm =
      let (after, plays_on, so) = steps_as (told_calls entries) (new_station opening) s other led_by plays calm in
      record {
        last = after;
        known = plays_known s.device after plays_on;
        tied = all_tied device_step device_cut (request_read final) device_runs device_parked device_cuts by_step other (told_calls entries) (with_device s after) (sym (plays_parked opening other plays) ∙ nothing) led_runs so;
      }

-- what is ready is of its request
module _ (deeds : List Deed) (device : ℕ) (opening : ServedDeviceState) (entries : List E) (s : Of) (leads : Leads SessionDeskStep (new_station opening) entries s) (gives : GivesOwn entries)
    (put : AllByRecursion (PutOf (IsJobOf AnyRequest deeds device)) (told_calls entries)) where
  owned : OwnsAll (T deeds device) (K deeds device) (Any deeds device) s.taken s.parked s.ready
  owned = owns_steps deeds device (told_calls entries) (new_station opening) s (led_steps served_runs served_parked served_cuts (new_station opening) s entries leads) (λ job none. absurd none)
      (record { taken = λ t none. absurd none; parked = λ p none. absurd none; ready = λ x none. absurd none })
      put (history_of (IsJobOf AnyRequest deeds device) (new_station opening) s entries leads gives (λ job none. absurd none) put)

  pub led_request : (c : Completion) → Has c s.ready → IsRequestOf deeds device c
  led_request c has = let k = (owned.ready c has).0 in record { request = k.of.request; read = k.of.read; device_is = k.of.device; id = k.of.id; layout = k.layout }
