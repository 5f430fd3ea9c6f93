-- What an operation comes to, once the requests that wait were looked at: what the drive runs, and what becomes of those that wait.
use Rattle.std.proofs.Common.{◌≡◌, ◌∙◌, refl, sym, ap, subst, ℕ, ◌≤◌, inr, true, false, List, [], ◌∷◌, ◌++◌, map, fold, length}
use Rattle.std.specs.List.{AllByRecursion}
use Rattle.std.proofs.lemmas.List.{append_assoc, append-nil, length-map, map-append}
use Rattle.rd_base.specs.declared.status.Status.{Status}
use Rattle.rd_irp.specs.declared.completion.Reply.{Reply}
use Rattle.rd_dirinfo.specs.Paths.{is_within_limits}
use Rattle.rd_drive.specs.declared.plan.Job.{Job}
use Rattle.rd_drive.specs.declared.step.Step.{Step}
use Rattle.rd_drive.specs.declared.step.Step.TheVariants as step
use Rattle.rd_drive.specs.declared.step.End.{End}
use Rattle.rd_drive.specs.DriveState.{DriveState, Waiting, Wish, Ranges, Notice}
use Rattle.rd_drive.specs.Outcome.{Change, News, Outcome, done, fault, no_news, refused}
use Rattle.rd_drive.specs.DriveStep.{outcome_of, step_of, drive_step}
use Rattle.rd_drive.specs.Stepped.{Settled}
use Rattle.rd_drive.specs.Waiting.{settled, settles}
use Rattle.rd_drive.specs.Device.{AreEnded, IsAnswerTo, Parked, Parks, is_starved}
use Rattle.rd_drive.specs.Answered.{drive_parked, parked_of, IsAnswered, IsAnsweredBy, IsFitting}
use Rattle.rd_drive.proofs.EndLemmas.{settled_ends}
use Rattle.rd_drive.proofs.OperationLemmas.{outcome_answered}

-- ---- nothing to tell

abbrev waited : DriveState → List Waiting → Settled DriveState
waited s ws = record { state = record s { waiting = ws }; ends = [] }

quiet_from : (s : DriveState) (done : List Waiting) (ws : List Waiting) → fold (settles no_news) (waited s done) ws ≡ waited s (done ++ ws)
quiet_from s done [] = ap (waited s) (sym (append-nil done))
quiet_from s done (w ∷ ws) = ap (λ (x : Settled DriveState). fold (settles no_news) x ws) (waits w.wish) ∙ quiet_from s (done ++ w ∷ []) ws ∙ ap (waited s) (append_assoc done (w ∷ []) ws)
  where
    waits : (wish : Wish) → settles no_news (waited s done) (record { key = w.key; file = w.file; wish = wish }) ≡ waited s (done ++ record { key = w.key; file = w.file; wish = wish } ∷ [])
    waits (Ranges exclusive ranges) = refl
    waits (Notice deep filter) = refl

pub settled_quiet : (s : DriveState) → settled s no_news ≡ record { state = s; ends = [] }
settled_quiet s = quiet_from s [] s.waiting

pub none_ended : (ps : List Parked) → AreEnded ps [] ps
none_ended [] = (refl, refl)
none_ended (p ∷ ps) = inr (ps, refl, none_ended ps)

-- ---- what comes of a job

module _ (old : DriveState) (fitting : IsFitting old) (job : Job) (moment : ℕ) where
  abbrev pub comes : Outcome
  comes = outcome_of old job.key job.file job.op moment

  answered : IsAnswered old job.key job.op comes
  answered = outcome_answered old job.key fitting job.file job.op moment

  -- what a device promises of a job that isn't for want of memory
  pub record Came (answer : Step) (ends : List End) (new : DriveState) : Type 0 where
    pub fed : is_starved answer ≡ false
    pub runs : drive_step old job.key job.file job.op moment ≡ record { state = new; answer = answer; ends = ends }
    pub answers : IsAnswerTo job.op answer
    pub parks : Parks job (drive_parked old) answer ends (drive_parked new)

  few_parked : (new : DriveState) → length new.waiting ≤ 64 → length (drive_parked new) ≤ 64
  few_parked new few = subst (λ n. n ≤ 64) (sym (length-map new.waiting parked_of)) few

  module _ (middle new : DriveState) (news : News) (answer : Step) (is : comes ≡ record { state = middle; answer = answer; news = news }) where
    by : IsAnsweredBy old job.key job.op answer middle
    by = subst (λ (o : Outcome). IsAnsweredBy old job.key job.op o.answer o.state) is answered.by

    stepped : (ends : List End) → settled middle news ≡ record { state = new; ends = ends } → drive_step old job.key job.file job.op moment ≡ record { state = new; answer = answer; ends = ends }
    stepped ends settles = ap step_of is ∙ (λ i. record { state = (settles i).state; answer = answer; ends = (settles i).ends })

  -- it is answered, and the news ends some of those that wait
  pub came_replied : (middle new : DriveState) (news : News) (reply : Reply) (ends : List End) → comes ≡ record { state = middle; answer = step.Reply reply; news = news }
      → AllByRecursion (λ (c : Change). is_within_limits c.path ≡ true) news.changes → settled middle news ≡ record { state = new; ends = ends } → length new.waiting ≤ 64 → Came (step.Reply reply) ends new
  came_replied middle new news reply ends is fits settles few =
      let answer = by middle new news (step.Reply reply) is in
      record {
        fed = answer.1;
        runs = stepped middle new news (step.Reply reply) is ends settles;
        answers = answer.0;
        parks = record {
          left = drive_parked new;
          ended = subst (λ (x : Settled DriveState). AreEnded (drive_parked old) x.ends (drive_parked x.state)) settles
              (subst (λ (ws : List Waiting). AreEnded (map parked_of ws) (settled middle news).ends (drive_parked (settled middle news).state)) answer.2 (settled_ends news fits middle));
          waits = sym (append-nil (drive_parked new));
          few = few_parked new few;
        };
      }

  -- it waits
  pub came_parked : (new : DriveState) → comes ≡ record { state = new; answer = step.Parked; news = no_news } → length new.waiting ≤ 64 → Came step.Parked [] new
  came_parked new is few =
      let answer = by new new no_news step.Parked is in
      record {
        fed = refl;
        runs = stepped new new no_news step.Parked is [] (settled_quiet new);
        answers = answer.3;
        parks = record {
          left = drive_parked old;
          ended = none_ended (drive_parked old);
          waits = ap (map parked_of) answer.2 ∙ map-append parked_of old.waiting (answer.0 ∷ []) ∙ ap (λ (p : Parked). drive_parked old ++ p ∷ []) answer.1;
          few = few_parked new few;
        };
      }

  -- it is refused
  pub came_refused : (new : DriveState) (status : Status) → comes ≡ refused new status → length new.waiting ≤ 64 → Came (step.Reply (fault status)) [] new
  came_refused new status is few = came_replied new new no_news (fault status) [] is tt (settled_quiet new) few
