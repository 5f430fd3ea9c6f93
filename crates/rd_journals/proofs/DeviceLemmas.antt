-- What the devices of a session do is what every device promises, and leaves them fit.
use Rattle.std.proofs.Common.{◌≡◌, ◌∙◌, refl, sym, ap, subst, ℕ, ◌≤◌, length, arith, Bool, true, false, []}
use Rattle.rd_base.specs.Statuses.{no_memory}
use Rattle.rd_base.specs.declared.journal.Key.{Key}
use Rattle.rd_drive.specs.Answered.{IsAnsweredBy, parked_of}
use Rattle.rd_drive.specs.Device.{IsAnswerTo, Parks, is_starved}
use Rattle.rd_drive.specs.DriveState.{DriveState}
use Rattle.rd_drive.specs.DriveStep.{outcome_of}
use Rattle.rd_drive.specs.Promise.{CutsOff}
use Rattle.rd_drive.specs.Stepped.{Stepped, ran_step}
use Rattle.rd_drive.specs.declared.plan.Job.{Job}
use Rattle.rd_drive.specs.declared.step.Step.{Step}
use Rattle.rd_drive.specs.declared.step.Step.TheVariants as step
use Rattle.rd_drive.proofs.AnswerLemmas.{fault_answers}
use Rattle.rd_drive.proofs.BoundedLemmas.{bounded_devices}
use Rattle.rd_drive.proofs.ComesLemmas.{none_ended}
use Rattle.rd_drive.proofs.OperationLemmas.{outcome_answered}
use Rattle.std.proofs.lemmas.List.{append-nil, length-map}
use Rattle.rd_irp.specs.declared.op.Op.{Op}
use Rattle.rd_irp.specs.declared.op.Op.TheVariants as op
use Rattle.rd_printer.proofs.PrinterLemmas.{is_printed, printers_step}
use Rattle.rd_station.specs.Station.{CameOf}
use Rattle.rd_declared.specs.Devices.{device_cut, device_cuts, device_parked, device_runs, device_step}
use Rattle.rd_declared.specs.declared.device.SessionDevice.{SessionDevice}
use Rattle.rd_declared.specs.declared.device.SessionDevice.TheVariants as session
use Rattle.rd_journals.specs.Stations.{IsFit}

pub step_fits : (s : SessionDevice) (key : Key) (file : ℕ) (o : Op) (moment : ℕ) → IsFit s → IsFit (device_step s key file o moment).state
step_fits (session.Drive s) key file o moment fit = bounded_devices.stays s key file o moment fit
step_fits (session.Printer s) key file o moment fit = tt

pub cut_fits : (s : SessionDevice) → IsFit s → IsFit (device_cut s).state
cut_fits (session.Drive s) fit = bounded_devices.cut_stays s fit
cut_fits (session.Printer s) fit = tt

none_after : (s : SessionDevice) → IsFit s → device_parked (device_cut s).state ≡ []
none_after (session.Drive s) fit = (bounded_devices.cancels s fit).none
none_after (session.Printer s) fit = refl

pub cuts_off : (s : SessionDevice) → IsFit s → CutsOff device_cuts device_parked s (device_cut s).state
cuts_off s fit = record { cuts = refl; none = none_after s fit }

-- what a step comes to answers its job, and not for want of memory
abbrev IsServed : SessionDevice → Job → Stepped SessionDevice → Type 0
IsServed s job came = IsAnswerTo job.op came.answer × (is_starved came.answer ≡ false) × Parks job (device_parked s) came.answer came.ends (device_parked came.state)

drive_answers : (s : DriveState) (key : Key) (o : Op) (answer : Step) (new : DriveState) → IsAnsweredBy s key o answer new → IsAnswerTo o answer × (is_starved answer ≡ false)
drive_answers s key o (step.Reply reply) new is = (is.0, is.1)
drive_answers s key o step.Parked new is = (is.3, refl)

served : (s : SessionDevice) (job : Job) (moment : ℕ) → IsFit s → IsServed s job (device_step s job.key job.file job.op moment)
served (session.Drive s) job moment fit =
    let comes = outcome_of s job.key job.file job.op moment in
    let is = drive_answers s job.key job.op comes.answer comes.state (outcome_answered s job.key fit.fitting job.file job.op moment).by in
    (is.0, is.1, bounded_devices.parks s job moment fit)
served (session.Printer s) job moment fit =
    let is = is_printed s job.key job.file job.op moment in
    (subst (IsAnswerTo job.op) (sym is.answer) is.suits, ap is_starved is.answer ∙ is.fed, printers_step.parks s job moment tt)

few_wait : (s : SessionDevice) → IsFit s → length (device_parked s) ≤ 64
few_wait (session.Drive s) fit = subst (λ n. n ≤ 64) (sym (length-map s.waiting parked_of)) fit.few
few_wait (session.Printer s) fit = omega arith

-- a job that a device runs, or finds no memory for
pub comes : (s : SessionDevice) (job : Job) (moment : ℕ) (starved : Bool) → IsFit s → (job.op ≡ op.Close → starved ≡ false)
    → CameOf device_runs device_parked device_cuts s (record { job = job; starved = starved }) moment (ran_step device_step s job.key job.file job.op moment starved)
comes s job moment true fit close = record {
  runs = refl;
  answers = fault_answers job.op no_memory refl;
  parks = record {
    left = device_parked s;
    ended = none_ended (device_parked s);
    waits = sym (append-nil (device_parked s));
    few = few_wait s fit;
  };
  starved = λ starved. refl;
  close = λ same. absurd (cc (close same));
}
comes s job moment false fit close =
    let is = served s job moment fit in record {
      runs = ap (λ (b : Bool). ran_step device_step s job.key job.file job.op moment b) is.1;
      answers = is.0;
      parks = is.2;
      starved = λ none. absurd (cc (none));
      close = λ same. is.1;
    }

pub ran_fits : (s : SessionDevice) (job : Job) (moment : ℕ) (starved : Bool) → IsFit s → IsFit (ran_step device_step s job.key job.file job.op moment starved).state
ran_fits s job moment true fit = fit
ran_fits s job moment false fit = step_fits s job.key job.file job.op moment fit
