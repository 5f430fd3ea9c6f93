-- What a session's devices keep, and what their replies have, whatever they are asked.
use Rattle.std.proofs.Common.{◌≡◌, refl, sym, ap, subst, ℕ, ◌≤◌, ◌&&◌, Bool, true, false, [], length, lit<, arith}
use Rattle.std.specs.Prelude.{not}
use Rattle.std.proofs.lemmas.List.{append-nil, length-map}
use Rattle.rd_base.specs.declared.journal.Key.{Key}
use Rattle.rd_base.specs.Statuses.{no_memory}
use Rattle.rd_drive.proofs.AnswerLemmas.{fault_answers}
use Rattle.rd_drive.proofs.ComesLemmas.{none_ended}
use Rattle.rd_drive.proofs.BoundedLemmas.{bounded_devices, cut_ranged, step_ranged}
use Rattle.rd_drive.proofs.OperationLemmas.{outcome_answered}
use Rattle.rd_drive.specs.Answered.{IsAnsweredBy, parked_of}
use Rattle.rd_drive.specs.Device.{IsAnswerTo, Parks, is_starved}
use Rattle.rd_drive.specs.DriveStep.{outcome_of}
use Rattle.rd_drive.specs.Outcome.{fault}
use Rattle.rd_drive.specs.Promise.{Cancels, CutsOff, IsDevice}
use Rattle.rd_drive.specs.Ranged.{AreEndsInRange, IsSteppedInRange, SetsFew}
use Rattle.rd_drive.specs.Stepped.{ran_step}
use Rattle.rd_drive.specs.declared.plan.Job.{Job}
use Rattle.rd_drive.specs.declared.step.Step.{Step}
use Rattle.rd_drive.specs.declared.step.Step.TheVariants as step
use Rattle.rd_irp.specs.declared.op.Op.{Op}
use Rattle.rd_printer.proofs.PrinterLemmas.{is_printed, printed_range, printers_step}
use Rattle.rd_ranges.specs.Ranges.{IsFitDevice, RunsAs}
use Rattle.rd_declared.specs.Devices.{device_cut, device_cuts, device_parked, device_step}
use Rattle.rd_world.specs.Events.{is_close}
use Rattle.rd_declared.specs.declared.device.SessionDevice.{SessionDevice}
use Rattle.rd_declared.specs.declared.device.SessionDevice.TheVariants as session

-- ---- ranges

pub any_in_range : (s : SessionDevice) (key : Key) (file : ℕ) (o : Op) (moment : ℕ) → SetsFew o → IsSteppedInRange (device_step s key file o moment)
any_in_range (session.Drive s) key file o moment few = step_ranged s key file o moment few
any_in_range (session.Printer s) key file o moment few = printed_range s key file o moment few

pub run_in_range : (s : SessionDevice) (key : Key) (file : ℕ) (o : Op) (moment : ℕ) (starved : Bool) → SetsFew o → IsSteppedInRange (ran_step device_step s key file o moment starved)
run_in_range s key file o moment true few = ((lit< tt, tt), tt)
run_in_range s key file o moment false few = any_in_range s key file o moment few

pub cut_in_range : (s : SessionDevice) → AreEndsInRange (device_cut s).ends
cut_in_range (session.Drive s) = cut_ranged s
cut_in_range (session.Printer s) = tt

-- ---- devices

pub any_devices : IsDevice device_step device_cut device_parked IsFitDevice
any_devices = record { stays = stays; parks = parks; cut_stays = cut_stays; cancels = cancels }
  where
    stays : (s : SessionDevice) (key : Key) (file : ℕ) (o : Op) (moment : ℕ) → IsFitDevice s → IsFitDevice (device_step s key file o moment).state
    stays (session.Drive s) key file o moment fit = bounded_devices.stays s key file o moment fit
    stays (session.Printer s) key file o moment fit = tt

    parks : (s : SessionDevice) (job : Job) (moment : ℕ) → IsFitDevice s
        → Parks job (device_parked s) (device_step s job.key job.file job.op moment).answer (device_step s job.key job.file job.op moment).ends (device_parked (device_step s job.key job.file job.op moment).state)
    parks (session.Drive s) job moment fit = bounded_devices.parks s job moment fit
    parks (session.Printer s) job moment fit = printers_step.parks s job moment tt

    cut_stays : (s : SessionDevice) → IsFitDevice s → IsFitDevice (device_cut s).state
    cut_stays (session.Drive s) fit = bounded_devices.cut_stays s fit
    cut_stays (session.Printer s) fit = tt

    cancels : (s : SessionDevice) → IsFitDevice s → Cancels device_step device_cut device_parked s
    cancels (session.Drive s) fit = let c = bounded_devices.cancels s fit in record { ends = c.ends; none = c.none }
    cancels (session.Printer s) fit = record { ends = refl; none = refl }

-- what it is asked it answers by a reply to the operation, not for want of memory; or the operation may wait
abbrev IsServedBy : Op → Step → Type 0
IsServedBy o answer = IsAnswerTo o answer × (is_starved answer ≡ false)

pub any_answer : (s : SessionDevice) (key : Key) (file : ℕ) (o : Op) (moment : ℕ) → IsFitDevice s → IsServedBy o (device_step s key file o moment).answer
any_answer (session.Drive s) key file o moment fit = by (outcome_of s key file o moment).answer (outcome_answered s key fit.fitting file o moment).by
  where
    by : (answer : Step) → IsAnsweredBy s key o answer (outcome_of s key file o moment).state → IsServedBy o answer
    by (step.Reply reply) is = (is.0, is.1)
    by step.Parked is = (is.3, refl)
any_answer (session.Printer s) key file o moment fit =
    let is = is_printed s key file o moment in subst (IsServedBy o) (sym is.answer) (is.suits, is.fed)

-- ---- runs

few_parked : (s : SessionDevice) → IsFitDevice s → length (device_parked s) ≤ 64
few_parked (session.Drive s) fit = subst (λ n. n ≤ 64) (sym (length-map s.waiting parked_of)) fit.few
few_parked (session.Printer s) fit = omega arith

starved_parks : (s : SessionDevice) (job : Job) → IsFitDevice s → Parks job (device_parked s) (step.Reply (fault no_memory)) [] (device_parked s)
starved_parks s job fit =
    record { left = device_parked s; ended = none_ended (device_parked s); waits = sym (append-nil (device_parked s)); few = few_parked s fit }

no_close : (starved close : Bool) → close ≡ true → (starved && not close) ≡ true → ⊥
no_close true true is e = cc
no_close true false is e = cc
no_close false close is e = cc

-- What a job comes to at a fit device, a Close never for want of memory, is what a device promises, and leaves it fit.
pub run_applies : (s : SessionDevice) (job : Job) (moment : ℕ) (starved : Bool) → IsFitDevice s → RunsAs s job moment (starved && not (is_close job.op))
run_applies s job moment starved fit = by (starved && not (is_close job.op)) refl
  where
    served : IsServedBy job.op (device_step s job.key job.file job.op moment).answer
    served = any_answer s job.key job.file job.op moment fit

    by : (b : Bool) → (starved && not (is_close job.op)) ≡ b → RunsAs s job moment b
    by true e = record {
      applies = record {
        runs = refl;
        answers = fault_answers job.op no_memory refl;
        parks = starved_parks s job fit;
        starved = λ holds. refl;
        close = λ is. absurd (no_close starved (is_close job.op) (ap is_close is) e);
      };
      fit = fit;
    }
    by false e = record {
      applies = record {
        runs = ap (λ (b : Bool). ran_step device_step s job.key job.file job.op moment b) served.1;
        answers = served.0;
        parks = any_devices.parks s job moment fit;
        starved = λ (holds : false ≡ true). absurd cc;
        close = λ is. served.1;
      };
      fit = any_devices.stays s job.key job.file job.op moment fit;
    }

pub cut_applies : (s : SessionDevice) → IsFitDevice s → CutsOff device_cuts device_parked s (device_cut s).state
cut_applies s fit = record { cuts = refl; none = (any_devices.cancels s fit).none }
