-- A job that a store served: what its drive ran, what it answered, and what becomes of the requests that wait.
use Rattle.std.proofs.Common.{◌≡◌, ◌∙◌, refl, sym, ap, subst, ℕ, ◌≤◌, ◌⊎◌, inl, inr, cond, List, [], length, None}
use Rattle.std.proofs.lemmas.List.{append-nil, length-map}
use Rattle.rd_base.specs.declared.status.Status.{Status}
use Rattle.rd_irp.specs.declared.completion.Body.{Body}
use Rattle.rd_irp.specs.declared.completion.Reply.{Reply}
use Rattle.rd_drive.specs.declared.plan.Job.{Job}
use Rattle.rd_drive.specs.declared.step.Step.{Step}
use Rattle.rd_drive.specs.declared.step.Step.TheVariants as step
use Rattle.rd_drive.specs.declared.step.End.{End}
use Rattle.rd_drive.specs.declared.news.News as told_news
use Rattle.rd_drive.specs.declared.store.Store.{Store}
use Rattle.rd_drive.specs.DriveState.{DriveState}
use Rattle.rd_drive.specs.Outcome.{Outcome, done, fault, no_news, refused}
use Rattle.rd_drive.specs.Stepped.{starved_step}
use Rattle.rd_drive.specs.DriveStep.{drive_step, outcome_of}
use Rattle.rd_drive.specs.Waiting.{settled}
use Rattle.rd_base.specs.Statuses.{no_memory}
use Rattle.rd_drive.specs.Device.{Parks}
use Rattle.rd_drive.specs.Answered.{drive_parked, parked_of, IsServed}
use Rattle.rd_drive.specs.Store.{drive_of, news_of, waiting_of, IsHeard, IsSound, IsSoundBut}
use Rattle.rd_drive.proofs.AnswerLemmas.{fault_answers}
use Rattle.rd_drive.proofs.ComesLemmas.{came_parked, came_refused, came_replied, none_ended, Came}
use Rattle.rd_drive.proofs.FittingLemmas.{drive_fits, news_fits}

pub few_wait : (s : Store) → IsSound s → length (drive_of s).waiting ≤ 64
few_wait s sound = subst (λ n. n ≤ 64) (sym (length-map s.waiting.items waiting_of)) sound.few.1

-- a job that isn't run ends none of those that wait
pub parks_none : (s : Store) → IsSound s → (job : Job) (reply : Reply) → Parks job (drive_parked (drive_of s)) (step.Reply reply) [] (drive_parked (drive_of s))
parks_none s sound job reply = record {
  left = drive_parked (drive_of s);
  ended = none_ended (drive_parked (drive_of s));
  waits = sym (append-nil (drive_parked (drive_of s)));
  few = subst (λ n. n ≤ 64) (sym (length-map (drive_of s).waiting parked_of)) (few_wait s sound);
}

module _ (old : Store) (sound : IsSound old) (job : Job) (moment : ℕ) where
  came : (answer : Step) (ends : List End) (new : DriveState) → Came (drive_of old) (drive_fits old None sound) job moment answer ends new → IsServed (drive_of old) job moment answer ends new
  came answer ends new c = record {
    runs = ap (λ b. cond b (starved_step (drive_of old)) (drive_step (drive_of old) job.key job.file job.op moment)) c.fed ∙ c.runs;
    answers = c.answers;
    parks = c.parks;
  }

  abbrev pub comes : Outcome
  comes = outcome_of (drive_of old) job.key job.file job.op moment

  pub served_reply : (middle new : Store) (body : Body) (news : told_news.News) → IsSoundBut news.closed middle → IsHeard middle.tree news
      → comes ≡ record { state = drive_of middle; answer = step.Reply (done body); news = news_of middle.tree news }
      → (ends : List End) → settled (drive_of middle) (news_of middle.tree news) ≡ record { state = drive_of new; ends = ends } → IsSound new
      → (reply : Reply) → reply ≡ done body → IsServed (drive_of old) job moment (step.Reply reply) ends (drive_of new)
  served_reply middle new body news sound_middle heard is ends settles sound_new reply same =
      subst (λ (r : Reply). IsServed (drive_of old) job moment (step.Reply r) ends (drive_of new)) (sym same)
      (came (step.Reply (done body)) ends (drive_of new)
      (came_replied (drive_of old) (drive_fits old None sound) job moment (drive_of middle) (drive_of new) (news_of middle.tree news) (done body) ends is
      (news_fits middle news.closed sound_middle news heard) settles (few_wait new sound_new)))

  pub served_parked : (new : Store) → IsSound new → comes ≡ record { state = drive_of new; answer = step.Parked; news = no_news } → (ends : List End) → ends ≡ [] → IsServed (drive_of old) job moment step.Parked ends (drive_of new)
  served_parked new sound_new is ends none =
      subst (λ (es : List End). IsServed (drive_of old) job moment step.Parked es (drive_of new)) (sym none)
      (came step.Parked [] (drive_of new) (came_parked (drive_of old) (drive_fits old None sound) job moment (drive_of new) is (few_wait new sound_new)))

  starved : IsServed (drive_of old) job moment (step.Reply (fault no_memory)) [] (drive_of old)
  starved = record {
    runs = refl;
    answers = fault_answers job.op no_memory refl;
    parks = parks_none old sound job (fault no_memory);
  }

  pub served_refused : (new : Store) → IsSound new → (status : Status) → (comes ≡ refused (drive_of new) status) ⊎ ((status ≡ no_memory) × (drive_of new ≡ drive_of old))
      → (ends : List End) → ends ≡ [] → (reply : Reply) → reply ≡ fault status → IsServed (drive_of old) job moment (step.Reply reply) ends (drive_of new)
  served_refused new sound_new status comes_to ends none reply same =
      subst (λ (r : Reply). IsServed (drive_of old) job moment (step.Reply r) ends (drive_of new)) (sym same)
      (subst (λ (es : List End). IsServed (drive_of old) job moment (step.Reply (fault status)) es (drive_of new)) (sym none) (by comes_to))
    where
      by : (comes ≡ refused (drive_of new) status) ⊎ ((status ≡ no_memory) × (drive_of new ≡ drive_of old)) → IsServed (drive_of old) job moment (step.Reply (fault status)) [] (drive_of new)
      by (inl is) = came (step.Reply (fault status)) [] (drive_of new) (came_refused (drive_of old) (drive_fits old None sound) job moment (drive_of new) status is (few_wait new sound_new))
      by (inr e) =
          subst (λ (st : Status). IsServed (drive_of old) job moment (step.Reply (fault st)) [] (drive_of new)) (sym e.0)
          (subst (λ (d : DriveState). IsServed (drive_of old) job moment (step.Reply (fault no_memory)) [] d) (sym e.1) starved)
