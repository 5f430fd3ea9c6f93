-- What devices answer fits a message: so does each completion that a station has ready.
use Rattle.std.proofs.Common.{◌≡◌, ◌∙◌, refl, sym, ap, subst, inl, inr, ℕ, arith, Bool, true, false, cond, not, List, [], ◌∷◌, ◌++◌, map, Some, None, Option, Result, Ok, Err}
use Rattle.std.specs.Prelude.{find, if◌then◌else◌, nat_le}
use Rattle.std.specs.List.{AllByRecursion, flat_map}
use Rattle.std.specs.Option.{option_map_or}
use Rattle.rd_base.specs.declared.journal.Cause.TheVariants.{Dropped, Removed}
use Rattle.rd_base.specs.declared.journal.Item.TheVariants.{Cancelled, Cut, Sent}
use Rattle.rd_base.specs.declared.journal.Key.{Key}
use Rattle.rd_chunk.specs.Carrier.{IsMessage}
use Rattle.rd_client.proofs.KeptLemmas.{fault_short}
use Rattle.rd_drive.proofs.AllLemmas.{all_append}
use Rattle.rd_drive.proofs.BoundedLemmas.{bounded_devices}
use Rattle.rd_drive.proofs.OperationLemmas.{outcome_answered}
use Rattle.rd_drive.specs.Answered.{IsAnsweredBy}
use Rattle.rd_runs.specs.Premises.{DeviceFits}
use Rattle.rd_drive.specs.declared.plan.Job.{Job}
use Rattle.rd_drive.specs.declared.step.End.{End}
use Rattle.rd_drive.specs.declared.step.Step.{Step}
use Rattle.rd_drive.specs.declared.step.Step.TheVariants as step
use Rattle.rd_drive.specs.Device.{AreEnded, Parked, is_parked}
use Rattle.rd_drive.specs.DriveState.{DriveState}
use Rattle.rd_drive.specs.DriveStep.{drive_step}
use Rattle.rd_drive.specs.Stepped.{Stepped, ran_step}
use Rattle.rd_irp.specs.declared.completion.Body.{Body}
use Rattle.rd_irp.specs.declared.completion.Body.TheVariants as body
use Rattle.rd_irp.specs.declared.completion.Head.{Head}
use Rattle.rd_irp.specs.declared.completion.Kind.{Kind}
use Rattle.rd_irp.specs.declared.op.Op.{Op}
use Rattle.rd_irp.specs.Fits.{IsSendable, kind_of}
use Rattle.rd_irp.specs.Written.{completion_bytes}
use Rattle.rd_printer.proofs.PrinterLemmas.{is_printed}
use Rattle.rd_station.specs.declared.answers.Applied.{Applied}
use Rattle.rd_station.specs.declared.answers.Applied.TheVariants as applied
use Rattle.rd_station.specs.declared.answers.Completion.{Completion}
use Rattle.rd_station.specs.declared.answers.Given.{Given}
use Rattle.rd_station.specs.declared.answers.Given.TheVariants as given
use Rattle.rd_station.specs.declared.held.InHand.{InHand}
use Rattle.rd_station.specs.declared.held.ParkedJob.{ParkedJob}
use Rattle.rd_station.specs.declared.refusals.AnnounceNo.{AnnounceNo}
use Rattle.rd_station.specs.declared.refusals.AnnounceNo.TheVariants as refused
use Rattle.rd_station.specs.declared.refusals.PutWhy.{PutWhy}
use Rattle.rd_station.specs.Station as station
use Rattle.rd_station.specs.Station.{StationState, apply_from, cancelled_in_hand, cancelled_parked, cancelled_waiting, emptied, ended_completion, entry_count, is_key, marked_removed, max_entries, own_completion, put_unless, ran}
use Rattle.rd_declared.specs.declared.device.SessionDevice.{SessionDevice}
use Rattle.rd_declared.specs.declared.device.SessionDevice.TheVariants as session
use Rattle.rd_declared.specs.Devices.{device_cut, device_step}

-- ---- devices

abbrev AnswerSends : Step → Type 0
AnswerSends (step.Reply reply) = IsSendable reply.body
AnswerSends step.Parked = Unit {0}

abbrev EndSends : End → Type 0
EndSends e = IsSendable (e.reply).body

-- what a job comes to leaves such a device, and what it ends can be sent
pub record StepSends (came : Stepped SessionDevice) : Type 0 where
  pub state : DeviceFits came.state
  pub answer : AnswerSends came.answer
  pub ends : AllByRecursion EndSends came.ends

answered_sends : (s : DriveState) (key : Key) (o : Op) (answer : Step) (new : DriveState) → IsAnsweredBy s key o answer new → AnswerSends answer
answered_sends s key o (step.Reply reply) new is = (is.0).1
answered_sends s key o step.Parked new is = tt

ended_sends : (before : List Parked) (ends : List End) (left : List Parked) → AreEnded before ends left → AllByRecursion EndSends ends
ended_sends [] ends left is = subst (AllByRecursion EndSends) (sym is.0) tt
ended_sends (p ∷ before) ends left (inl (first, further, same, (key, fits), rest)) =
    subst (AllByRecursion EndSends) (sym same) (fits.1, ended_sends before further left rest)
ended_sends (p ∷ before) ends left (inr (rest, same, others)) = ended_sends before ends rest others

device_sends : (d : SessionDevice) (key : Key) (file : ℕ) (o : Op) (moment : ℕ) → DeviceFits d → StepSends (device_step d key file o moment)
device_sends (session.Drive s) key file o moment fits =
    let job : Job = record { key = key; file = file; completion = 0; op = o } in
    let parks = bounded_devices.parks s job moment fits in
    record {
      state = bounded_devices.stays s key file o moment fits;
      answer = answered_sends s key o _ _ (outcome_answered s key fits.fitting file o moment).by;
      ends = ended_sends _ (drive_step s key file o moment).ends parks.left parks.ended;
    }
device_sends (session.Printer s) key file o moment fits =
    let is = is_printed s key file o moment in
    record { state = tt; answer = subst AnswerSends (sym is.answer) (is.suits).1; ends = subst (AllByRecursion EndSends) (sym is.ends) tt }

pub came_sends : (d : SessionDevice) (key : Key) (file : ℕ) (o : Op) (moment : ℕ) (starved : Bool) → DeviceFits d → StepSends (ran_step device_step d key file o moment starved)
came_sends d key file o moment true fits = record { state = fits; answer = tt; ends = tt }
came_sends d key file o moment false fits = device_sends d key file o moment fits

cut_fits : (d : SessionDevice) → DeviceFits d → DeviceFits (device_cut d).state
cut_fits (session.Drive s) fits = bounded_devices.cut_stays s fits
cut_fits (session.Printer s) fits = tt

-- ---- stations

abbrev Sendable : Completion → Type 0
Sendable c = IsSendable (c.reply).body

pub record StationSends (s : StationState SessionDevice) : Type 0 where
  pub device : DeviceFits s.device
  pub ready : AllByRecursion Sendable s.ready

all_flat_of : {A B : Type 0} (P : A → Type 0) (Q : B → Type 0) (f : B → List A) → ((x : B) → Q x → AllByRecursion P (f x)) → (xs : List B) → AllByRecursion Q xs → AllByRecursion P (flat_map f xs)
all_flat_of P Q f one [] all = tt
all_flat_of P Q f one (x ∷ xs) all = all_append P (f x) (flat_map f xs) (one x all.0) (all_flat_of P Q f one xs all.1)

each_mapped : {B : Type 0} (f : B → Completion) → ((x : B) → Sendable (f x)) → (xs : List B) → AllByRecursion Sendable (map f xs)
each_mapped f one [] = tt
each_mapped f one (x ∷ xs) = (one x, each_mapped f one xs)

module _ (s : StationState SessionDevice) (h : StationSends s) where
  pub announced_sends : StationSends (station.announce s).0
  announced_sends = by s.live (nat_le max_entries (entry_count s))
    where
      by : (live worn : Bool)
          → StationSends (cond {A = StationState SessionDevice × Result (Unit {0}) AnnounceNo} live (s, Err refused.Live)
          (cond worn (s, Err (refused.Worn (entry_count s))) (record s { live = true }, Ok tt))).0
      by true worn = h
      by false true = h
      by false false = record { device = h.device; ready = h.ready }

  pub put_sends : (job : Job) (o : Option PutWhy) → StationSends (put_unless s job o).0
  put_sends job None = record { device = h.device; ready = h.ready }
  put_sends job (Some cause) = h

  pub took_sends : (after : StationState SessionDevice) (job : Job) → station.take s ≡ (after, given.Job job) → StationSends after
  took_sends after job made = subst StationSends (ap (λ (r : StationState SessionDevice × Given). r.0) made) (by s.ended s.waiting)
    where
      by : (ended : Bool) (jobs : List Job) → StationSends (if ended then (s, given.Over) else station.take_first s jobs).0
      by true jobs = h
      by false [] = h
      by false (first ∷ jobs) = record { device = h.device; ready = h.ready }

  ended_one : (e : End) → EndSends e → AllByRecursion Sendable (ended_completion s.parked e)
  ended_one e own = by (find (λ (p : ParkedJob). is_key p.key e.key) s.parked)
    where
      by : (o : Option ParkedJob) → AllByRecursion Sendable (option_map_or (λ (p : ParkedJob). station.completion_of p.key p.completion p.kind e.reply ∷ []) o [])
      by None = tt
      by (Some p) = (own, tt)

  own_one : (t : InHand) (k : Kind) (answer : Step) → AnswerSends answer → AllByRecursion Sendable (own_completion t k answer)
  own_one t k (step.Reply reply) own = (own, tt)
  own_one t k step.Parked own = tt

  pub applied_sends : (job : Job) (moment : ℕ) (came : Stepped SessionDevice) → StepSends came → StationSends (station.apply s job moment came).0
  applied_sends job moment came sends = by (find (λ (t : InHand). is_key t.key job.key) s.taken)
    where
      by : (o : Option InHand) → StationSends (apply_from s job moment came o).0
      by None = h
      by (Some t) = hand t.removed
        where
          hand : (removed : Bool)
              → StationSends (cond {A = StationState SessionDevice × Applied} removed (cancelled_in_hand s t (kind_of job.op), applied.Cancelled)
              (ran s t (kind_of job.op) moment came, cond (is_parked came.answer) applied.Parked applied.Ran)).0
          hand true = record { device = h.device; ready = all_append Sendable s.ready (_ ∷ []) h.ready (tt, tt) }
          hand false = record {
            device = sends.state;
            ready = all_append Sendable (s.ready ++ own_completion t (kind_of job.op) came.answer) (flat_map (ended_completion s.parked) came.ends)
                (all_append Sendable s.ready (own_completion t (kind_of job.op) came.answer) h.ready (own_one t (kind_of job.op) came.answer sends.answer))
                (all_flat_of Sendable EndSends (ended_completion s.parked) ended_one came.ends sends.ends);
          }

  pub collected_sends : (after : StationState SessionDevice) (c : Completion) → station.collect s ≡ (after, Some c) → Sendable c × StationSends after
  collected_sends after c made = by s.ready refl
    where
      by : (cs : List Completion) → s.ready ≡ cs → Sendable c × StationSends after
      by [] is = let none : station.collect s ≡ (s, None) = rw is refl in absurd (cc (ap (λ r. r.1) none, ap (λ r. r.1) made))
      by (first ∷ cs) is =
          let now : StationState SessionDevice = record s { ready = cs; journal = s.journal ++ Sent first.key ∷ [] } in
          let one : station.collect s ≡ (now, Some first) = rw is refl in
          let all = subst (AllByRecursion Sendable) is h.ready in
          let same : first ≡ c = (let both : Some first ≡ Some c = ap (λ (r : StationState SessionDevice × Option Completion). r.1) (sym one ∙ made) in cc) in (
            subst Sendable same all.0,
            subst StationSends (ap (λ (r : StationState SessionDevice × Option Completion). r.0) (sym one ∙ made)) (record { device = h.device; ready = all.1 }),
          )

  pub removed_sends : StationSends (station.remove s (device_cut s.device).state).0
  removed_sends = by s.live
    where
      gone : StationState SessionDevice
      gone = record s {
        device = (device_cut s.device).state;
        live = false;
        waiting = [];
        taken = map marked_removed s.taken;
        parked = [];
        ready = s.ready ++ map cancelled_parked s.parked ++ map cancelled_waiting s.waiting;
        journal = s.journal ++ Cut Removed ∷ map (λ (job : Job). Cancelled job.key) s.waiting;
      }

      by : (live : Bool) → StationSends (cond {A = StationState SessionDevice × Bool} (not live) (s, false) (gone, true)).0
      by false = h
      by true = record {
        device = cut_fits s.device h.device;
        ready = all_append Sendable (s.ready ++ map cancelled_parked s.parked) (map cancelled_waiting s.waiting)
            (all_append Sendable s.ready (map cancelled_parked s.parked) h.ready (each_mapped cancelled_parked (λ p. tt) s.parked)) (each_mapped cancelled_waiting (λ job. tt) s.waiting);
      }

  pub dropped_sends : StationSends (station.drop_channel s (device_cut s.device).state)
  dropped_sends = by s.live
    where
      by : (b : Bool) → StationSends (if b then record (emptied s) { device = (device_cut s.device).state; live = false; journal = s.journal ++ Cut Dropped ∷ [] } else emptied s)
      by true = record { device = cut_fits s.device h.device; ready = tt }
      by false = record { device = h.device; ready = tt }

-- ---- the size of a completion

pub sendable_fits : (k : Kind) (head : Head) (b : Body) → IsSendable b → IsMessage (completion_bytes k head b)
sendable_fits k head (body.Created file information) own = (omega arith, omega arith)
sendable_fits k head body.Closed own = (omega arith, omega arith)
sendable_fits k head (body.Count count) own = (omega arith, omega arith)
sendable_fits k head (body.Buffer bytes) own = (omega arith, omega (arith, own))
sendable_fits k head body.Locked own = (omega arith, omega arith)
sendable_fits k head body.Fault own = fault_short k head
