-- A job that was served over a folder: what its drive ran or the folder refused, what it was answered, and what becomes of the requests that wait.
use Rattle.std.proofs.Common.{◌≡◌, ◌∙◌, refl, sym, ap, subst, ℕ, ◌≤◌, ◌==◌, ◌||◌, ◌⊎◌, inl, inr, Bool, true, false, cond, List, [], ◌∷◌, ◌++◌, map, length, Option, Some, None, Result, Ok, Err, Vec, Global, IsTrue}
use Rattle.std.specs.Map.{keys_of}
use Rattle.std.specs.Option.{option_map, unwrap_or}
use Rattle.std.proofs.lemmas.List.{append-nil, length-map}
use Rattle.rd_base.specs.declared.status.Status.{Status}
use Rattle.rd_base.specs.Statuses.{no_memory}
use Rattle.rd_irp.specs.declared.op.Op.{Op}
use Rattle.rd_irp.specs.declared.op.Op.TheVariants as op
use Rattle.rd_irp.specs.declared.completion.Body.{Body}
use Rattle.rd_irp.specs.declared.completion.Body.TheVariants.{Closed}
use Rattle.rd_irp.specs.declared.completion.Reply.{Reply}
use Rattle.rd_drive.specs.declared.plan.Job.{Job}
use Rattle.rd_drive.specs.declared.step.Step.{Step}
use Rattle.rd_drive.specs.declared.step.Step.TheVariants as step
use Rattle.rd_drive.specs.declared.step.End.{End}
use Rattle.rd_drive.specs.declared.waiting.Waiting as kept_waiting
use Rattle.rd_drive.specs.Store.{waiting_of}
use Rattle.rd_drive.specs.Answered.{drive_parked, drive_ran, parked_of}
use Rattle.rd_drive.specs.Device.{AreEnded, IsAnswerTo, Parked, Parks, is_starved}
use Rattle.rd_drive.specs.DriveState.{DriveState, Node}
use Rattle.rd_drive.specs.DriveStep.{outcome_of, step_of}
use Rattle.rd_drive.specs.Outcome.{Outcome, News, done, fault, no_news, refused}
use Rattle.rd_drive.specs.Planned.{Planned}
use Rattle.rd_drive.specs.Promise.{Applies}
use Rattle.rd_drive.specs.Stepped.{starved_step}
use Rattle.rd_drive.specs.Waiting.{settled}
use Rattle.rd_drive.proofs.AnswerLemmas.{fault_answers}
use Rattle.rd_drive.proofs.ComesLemmas.{none_ended, settled_quiet}
use Rattle.rd_folder.specs.declared.folder.FolderNo.{FolderNo}
use Rattle.rd_folder.specs.declared.folder.FolderNo.TheVariants as no
use Rattle.rd_folder.specs.Told.{drive_over}
use Rattle.rd_folder_drive.specs.declared.news.News as told_news
use Rattle.rd_folder_drive.specs.declared.table.Table.{Table}
use Rattle.rd_folder_drive.specs.declared.table.Done.{Done}
use Rattle.rd_folder_drive.specs.declared.table.Done.TheVariants as done
use Rattle.rd_folder_drive.specs.Cutting.{Cuts}
use Rattle.rd_folder_drive.specs.FolderDrive.{AreBlameless, ClosesAll, DoesJob, FolderCuts, FolderDriveState, FolderRuns, ChangesFiles, IsAccounted, is_success, nodes_open, new_drive, own_drive, state_over}
use Rattle.rd_folder_drive.specs.Served.{IsCalm, IsCalmClose, IsHeard, IsOver, IsOwnStatus, IsRefusedBy, IsUnchanged, Leaves, Seen, Serves, ServesClose, folder_status, io_device_error, keeping_node, news_of}
use Rattle.rd_folder_drive.specs.Serving.{ServesClosing, ServesOther, parked_job}
use Rattle.rd_folder_drive.specs.Table.{IsSound, IsSoundBut, drive_of, handles_of, marked}
use Rattle.rd_folder_drive.specs.Waits.{StaysWaiting, WaitsBy, parked_in}
use Rattle.rd_folder_drive.proofs.BlameLemmas.{settled_blameless}
use Rattle.rd_folder_drive.proofs.CutLemmas.{calm_told, keys_seen, told_so}
use Rattle.rd_folder_drive.proofs.FilesLemmas.{none_changed}

-- ---- operations

-- an operation is a Close, or it isn't
pub close_or_not : (o : Op) → (o ≡ op.Close) ⊎ (o ≡ op.Close → ⊥)
close_or_not (op.Malformed major minor bad) = inr (λ e. absurd (cc))
close_or_not (op.Unknown major minor) = inr (λ e. absurd (cc))
close_or_not (op.Create access allocation attributes share disposition options path) = inr (λ e. absurd (cc))
close_or_not op.Close = inl refl
close_or_not (op.Read offset count) = inr (λ e. absurd (cc))
close_or_not (op.Write offset bytes) = inr (λ e. absurd (cc))
close_or_not (op.QueryFile class) = inr (λ e. absurd (cc))
close_or_not (op.SetFile class bytes) = inr (λ e. absurd (cc))
close_or_not (op.QueryVolume class) = inr (λ e. absurd (cc))
close_or_not (op.SetVolume class bytes) = inr (λ e. absurd (cc))
close_or_not (op.QueryDir class initial path) = inr (λ e. absurd (cc))
close_or_not (op.Notify deep filter) = inr (λ e. absurd (cc))
close_or_not (op.Control output code bytes) = inr (λ e. absurd (cc))
close_or_not (op.Lock operation wait ranges) = inr (λ e. absurd (cc))

-- what isn't left waiting waits for no job
pub stays_waits : (old new : Table) (last : Parked) (may : Bool) (result : Result Done Status) → StaysWaiting old new result → WaitsBy old new last may result
stays_waits old new last may (Ok (done.Replied body news)) stays = stays
stays_waits old new last may (Ok done.Parked) stays = absurd stays
stays_waits old new last may (Ok (done.Kept status news)) stays = stays
stays_waits old new last may (Err status) stays = stays

-- ---- statuses

refused_status : (before after : Seen) (status : Status) → IsRefusedBy before after status → (status.0 == 0) ≡ false
refused_status before after status (inl (starved, same)) = ap (λ (s : Status). s.0 == 0) starved
refused_status before after status (inr (why, is, some, untold, counted)) = ap (λ (s : Status). s.0 == 0) is ∙ by why
  where
    by : (why : FolderNo) → ((folder_status why).0 == 0) ≡ false
    by no.Failed = refl
    by no.Full = refl
    by no.Denied = refl
    by no.Missing = refl
    by no.Memory = refl

-- a status is the same with its number
answer_status : (reply other : Reply) → step.Reply reply ≡ step.Reply other → reply ≡ other
answer_status reply other e = ap (λ (s : Step). own s) e
  where
    own : Step → Reply
    own (step.Reply r) = r
    own step.Parked = reply

or_parts : (a b : Bool) → (a || b) ≡ false → (a ≡ false) × (b ≡ false)
or_parts false b none = (refl, none)
or_parts true b none = absurd (cc)

-- no success is a failure
not_done : (body : Body) (status : Status) → (status.0 == 0) ≡ false → step.Reply (done body) ≡ step.Reply (fault status) → ⊥
not_done body status failed e = absurd (let clash : true ≡ false = ap (λ (r : Reply). (r.status).0 == 0) (answer_status (done body) (fault status) e) ∙ failed in cc)

-- a status that isn't another one
not_fault : (status other : Status) → (status.0 == other.0) ≡ false → (other.0 == other.0) ≡ true → step.Reply (fault status) ≡ step.Reply (fault other) → ⊥
not_fault status other apart own e = absurd (let clash : true ≡ false = sym own ∙ sym (ap (λ (r : Reply). (r.status).0 == other.0) (answer_status (fault status) (fault other) e)) ∙ apart in cc)

-- what is kept beside a folder is as it was
own_same : (old new : Table) → IsUnchanged old new → own_drive new ≡ own_drive old
own_same old new same = same (nodes_open (handles_of new)) ∙ ap (λ (s : DriveState). drive_of old (nodes_open s.handles)) (same [])

-- ---- what a job comes to

module _ (old : Table) (before : Seen) (job : Job) (moment : ℕ) where
  abbrev planned : Planned
  planned = record { job = job; starved = false }

  abbrev Told : Table → Seen → Step → List End → Type 0
  Told new after answer ends =
      (nodes : List Node) → before.told ≡ Some nodes → (left : List Node) × (after.told ≡ Some left) × DoesJob (drive_of old nodes) planned moment answer ends (drive_of new left) before.faults after.faults

  -- what the folder's nodes say, what is said without them, and the file ids that are open
  runs_so : (new : Table) (after : Seen) (answer : Step) (ends : List End) → Told new after answer ends → (before.told ≡ None → after.told ≡ None) → IsAccounted (state_over old before) planned answer ends (state_over new after) → AreBlameless ends
      → ChangesFiles (state_over old before) job.op job.file answer (state_over new after) → FolderRuns (state_over old before) planned moment answer ends (state_over new after)
  runs_so new after answer ends told untold accounted blameless closed = (by before.told refl, (λ none. still before.told refl none), accounted, blameless, closed)
    where
      Ran : DriveState → Type 0
      Ran s =
          (left : DriveState) × (option_map (drive_of new) after.told ≡ Some left) × (keys_of new.handles.entries ≡ keys_of left.handles) × (parked_in new ≡ drive_parked left) × DoesJob s planned moment answer ends left before.faults after.faults

      by : (found : Option (List Node)) → before.told ≡ found → (s : DriveState) → option_map (drive_of old) found ≡ Some s → Ran s
      by None is s e = absurd (cc)
      by (Some nodes) is s e =
          let there = told nodes is in
          subst Ran (ap (λ (d : Option DriveState). unwrap_or d s) e) (drive_of new there.0, ap (option_map (drive_of new)) there.1, sym (keys_seen new new.handles.entries), refl, there.2)

      still : (found : Option (List Node)) → before.told ≡ found → option_map (drive_of old) found ≡ None → option_map (drive_of new) after.told ≡ None
      still None is e = ap (option_map (drive_of new)) (untold is)
      still (Some nodes) is e = absurd (cc)

  -- ---- what is answered, by what is returned

  abbrev comes : DriveState → Outcome
  comes s = outcome_of s job.key job.file job.op moment

  -- the news has done what it does to those that wait
  stepped : (outcome : Outcome) (middle new : DriveState) (news : News) (answer : Step) (ends : List End) → outcome ≡ record { state = middle; answer = answer; news = news } → settled middle news ≡ record { state = new; ends = ends }
      → step_of outcome ≡ record { state = new; answer = answer; ends = ends }
  stepped outcome middle new news answer ends is settles = ap step_of is ∙ (λ i. record { state = (settles i).state; answer = answer; ends = (settles i).ends })

  -- a job for which memory was found comes to what its step does
  ran : (s new : DriveState) (answer : Step) (ends : List End) → is_starved answer ≡ false → step_of (comes s) ≡ record { state = new; answer = answer; ends = ends }
      → drive_ran s job moment (is_starved answer) ≡ record { state = new; answer = answer; ends = ends }
  ran s new answer ends fed is = ap (λ b. cond b (starved_step s) (step_of (comes s))) fed ∙ is

  module _ (middle new : Table) (after : Seen) (body : Body) (news : told_news.News) (ends : List End)
      (settles : (nodes : List Node) → settled (drive_of middle nodes) (news_of middle news) ≡ record { state = drive_of new nodes; ends = ends }) where
    blameless : AreBlameless ends
    blameless = subst AreBlameless (ap (λ s. s.ends) (settles [])) (settled_blameless (news_of middle news) (drive_of middle []))

    module _ (closed : ChangesFiles (state_over old before) job.op job.file (step.Reply (done body)) (state_over new after)) where
      -- it is done
      runs_replied : ((nodes : List Node) → before.told ≡ Some nodes → after.faults ≡ before.faults) → IsAccounted (state_over old before) planned (step.Reply (done body)) ends (state_over new after) → Leaves old before middle after (λ s left. comes s ≡ record { state = left; answer = step.Reply (done body); news = news_of middle news })
          → FolderRuns (state_over old before) planned moment (step.Reply (done body)) ends (state_over new after)
      runs_replied still accounted leaves =
          runs_so new after (step.Reply (done body)) ends
          (λ nodes told. let l = leaves.2 nodes told in (
            l.0,
            l.1,
            inl (record {
              comes = ran (drive_of old nodes) (drive_of new l.0) (step.Reply (done body)) ends refl (stepped (comes (drive_of old nodes)) (drive_of middle l.0) (drive_of new l.0) (news_of middle news) (step.Reply (done body)) ends l.2 (settles l.0));
              calm = still nodes told;
            }),
          ))
          leaves.1 accounted blameless closed

  module _ (new : Table) (after : Seen) (closed : (answer : Step) → is_success answer ≡ false → ChangesFiles (state_over old before) job.op job.file answer (state_over new after)) where
    -- it is left waiting
    runs_parked : IsCalm before after → Leaves old before new after (λ s left. comes s ≡ record { state = left; answer = step.Parked; news = no_news }) → FolderRuns (state_over old before) planned moment step.Parked [] (state_over new after)
    runs_parked still leaves =
        runs_so new after step.Parked []
        (λ nodes told. let l = leaves.2 nodes told in (
          l.0,
          l.1,
          inl (record {
            comes = ran (drive_of old nodes) (drive_of new l.0) step.Parked [] refl (stepped (comes (drive_of old nodes)) (drive_of new l.0) (drive_of new l.0) no_news step.Parked [] l.2 (settled_quiet (drive_of new l.0)));
            calm = still;
          }),
        ))
        leaves.1 (inl (record { calm = still; blameless = λ e. absurd (cc); starved = λ e. absurd (cc) })) tt (closed step.Parked refl)

    -- it is refused
    runs_refused : (status : Status) → IsOwnStatus status → IsCalm before after → Leaves old before new after (λ s left. comes s ≡ refused left status)
        → FolderRuns (state_over old before) planned moment (step.Reply (fault status)) [] (state_over new after)
    runs_refused status own still leaves =
        let parts = or_parts (status.0 == io_device_error.0) (status.0 == no_memory.0) own.1 in
        runs_so new after (step.Reply (fault status)) []
        (λ nodes told. let l = leaves.2 nodes told in (
          l.0,
          l.1,
          inl (record {
            comes = ran (drive_of old nodes) (drive_of new l.0) (step.Reply (fault status)) [] parts.1
                (stepped (comes (drive_of old nodes)) (drive_of new l.0) (drive_of new l.0) no_news (step.Reply (fault status)) [] l.2 (settled_quiet (drive_of new l.0)));
            calm = still;
          }),
        ))
        leaves.1
        (inl (record {
          calm = still;
          blameless = λ e. not_fault status io_device_error parts.0 refl e;
          starved = λ e. absurd (let clash : true ≡ false = sym e ∙ parts.1 in cc);
        }))
        tt (closed (step.Reply (fault status)) own.0)

    -- the folder refuses it, or no memory was found
    runs_failed : (job.op ≡ op.Close → ⊥) → (status : Status) → IsRefusedBy before after status → IsUnchanged old new → Leaves old before new after (λ s left. left ≡ s)
        → FolderRuns (state_over old before) planned moment (step.Reply (fault status)) [] (state_over new after)
    runs_failed other status (inl (starved, same)) unchanged leaves =
        subst (λ (st : Status). FolderRuns (state_over old before) planned moment (step.Reply (fault st)) [] (state_over new after)) (sym starved) (
        runs_so new after (step.Reply (fault no_memory)) []
        (λ nodes told. let l = leaves.2 nodes told in (
          l.0,
          l.1,
          inl (record {
            comes = ap (λ (d : DriveState). record { state = d; answer = step.Reply (fault no_memory); ends = [] }) (sym l.2);
            calm = same;
          }),
        ))
        leaves.1 (inl (record { calm = same; blameless = λ e. not_fault no_memory io_device_error refl refl e; starved = λ e. (refl, own_same old new unchanged) })) tt (closed (step.Reply (fault no_memory)) refl)
        )
    runs_failed other status (inr (why, is, some, untold, counted)) unchanged leaves =
        runs_so new after (step.Reply (fault status)) []
        (λ nodes told. let l = leaves.2 nodes told in (
          l.0,
          l.1,
          inr (inl (
            other,
            record {
              no = why;
              some = some;
              found = λ e. absurd (told_so before nodes told (untold e));
              answered = ap (λ (st : Status). step.Reply (fault st)) is;
              none = refl;
              same = l.2;
              counted = counted;
            },
          )),
        ))
        leaves.1
        (inr (inl (record {
          no = why;
          some = some;
          found = λ e. ap (option_map (drive_of old)) (untold e);
          answered = ap (λ (st : Status). step.Reply (fault st)) is;
          counted = counted;
          same = λ away. (refl, own_same old new unchanged);
        })))
        tt (closed (step.Reply (fault status)) (refused_status before after status (inr (why, is, some, untold, counted))))

  module _ (middle new : Table) (after : Seen) (news : told_news.News) (ends : List End)
      (settles : (nodes : List Node) → settled (drive_of middle nodes) (news_of middle news) ≡ record { state = drive_of new nodes; ends = ends }) where
    -- the folder keeps the node of a Close
    runs_kept : (status : Status) → ChangesFiles (state_over old before) job.op job.file (step.Reply (fault status)) (state_over new after) → job.op ≡ op.Close → ServesClose old before middle after job.file (Ok (done.Kept status news)) → FolderRuns (state_over old before) planned moment (step.Reply (fault status)) ends (state_over new after)
    runs_kept status closed is (sound, names, heard, kept, leaves) =
        runs_so new after (step.Reply (fault status)) ends
        (λ nodes told. let l = leaves.2 nodes told in (
          l.0,
          l.1,
          inr (inr (
            is,
            record {
              no = kept.0;
              some = kept.2;
              found = λ e. absurd (told_so before nodes told (kept.3 e));
              handle = l.2.0;
              node = l.2.1;
              opened = l.2.2;
              there = l.2.3;
              takes = l.2.4;
              comes = ap (λ (st : Status). step_of (keeping_node (drive_of old nodes) job.file st l.2.0 l.2.1)) (sym kept.1)
                  ∙ stepped (keeping_node (drive_of old nodes) job.file status l.2.0 l.2.1) (drive_of middle l.0) (drive_of new l.0) (news_of middle news) (step.Reply (fault status)) ends l.2.5 (settles l.0);
              counted = kept.4;
            },
          )),
        ))
        leaves.1
        (inr (inl (record {
          no = kept.0;
          some = kept.2;
          found = λ e. ap (option_map (drive_of old)) (kept.3 e);
          answered = ap (λ (st : Status). step.Reply (fault st)) kept.1;
          counted = kept.4;
          same = λ away. absurd (away is);
        })))
        (subst AreBlameless (ap (λ s. s.ends) (settles [])) (settled_blameless (news_of middle news) (drive_of middle []))) closed

    pub serve_kept : (status : Status) → ChangesFiles (state_over old before) job.op job.file (step.Reply (fault status)) (state_over new after) → ServesOther old before middle after job moment (Ok (done.Kept status news)) → ServesClosing old before middle after job (Ok (done.Kept status news))
        → (reply : Reply) → reply ≡ fault status → FolderRuns (state_over old before) planned moment (step.Reply reply) ends (state_over new after)
    serve_kept status closed other closing reply same =
        subst (λ (r : Reply). FolderRuns (state_over old before) planned moment (step.Reply r) ends (state_over new after)) (sym same) (by (close_or_not job.op))
      where
        by : (job.op ≡ op.Close) ⊎ (job.op ≡ op.Close → ⊥) → FolderRuns (state_over old before) planned moment (step.Reply (fault status)) ends (state_over new after)
        by (inl is) = runs_kept status closed is (closing is)
        by (inr isn't) = absurd (other isn't)

    pub serve_replied : (body : Body) → ChangesFiles (state_over old before) job.op job.file (step.Reply (done body)) (state_over new after) → ServesOther old before middle after job moment (Ok (done.Replied body news)) → ServesClosing old before middle after job (Ok (done.Replied body news))
        → (reply : Reply) → reply ≡ done body → FolderRuns (state_over old before) planned moment (step.Reply reply) ends (state_over new after)
    serve_replied body closed other closing reply same =
        let serves = by (close_or_not job.op) in
        subst (λ (r : Reply). FolderRuns (state_over old before) planned moment (step.Reply r) ends (state_over new after)) (sym same)
        (runs_replied middle new after body news ends settles closed serves.0 serves.1 serves.2)
      where
        calmly : IsCalm before after → IsAccounted (state_over old before) planned (step.Reply (done body)) ends (state_over new after)
        calmly calm = inl (record { calm = calm; blameless = λ e. not_done body io_device_error refl e; starved = λ e. absurd (cc) })

        closes : job.op ≡ op.Close → body ≡ Closed → IsCalmClose before after → IsAccounted (state_over old before) planned (step.Reply (done body)) ends (state_over new after)
        closes is own (inl calm) = calmly calm
        closes is own (inr (none, counted)) = inr (inr (is, ap (λ (b : Body). step.Reply (done b)) own, ap (option_map (drive_of old)) none, counted))

        by : (job.op ≡ op.Close) ⊎ (job.op ≡ op.Close → ⊥)
            → ((nodes : List Node) → before.told ≡ Some nodes → after.faults ≡ before.faults)
            × IsAccounted (state_over old before) planned (step.Reply (done body)) ends (state_over new after)
            × Leaves old before middle after (λ s left. comes s ≡ record { state = left; answer = step.Reply (done body); news = news_of middle news })
        by (inl is) =
            let c = closing is in (
              (λ nodes told. calm_told before after c.2 nodes told),
              closes is c.4 c.2,
              subst (λ (o : Op). Leaves old before middle after (λ s left. outcome_of s job.key job.file o moment ≡ record { state = left; answer = step.Reply (done body); news = news_of middle news })) (sym is) c.3,
            )
        by (inr isn't) = let s = other isn't in ((λ nodes told. s.2), calmly s.2, s.3)

  module _ (new : Table) (after : Seen) (closed : (answer : Step) → is_success answer ≡ false → ChangesFiles (state_over old before) job.op job.file answer (state_over new after)) where
    pub serve_parked : ServesOther old before new after job moment (Ok done.Parked) → ServesClosing old before new after job (Ok done.Parked) → (ends : List End) → ends ≡ []
        → FolderRuns (state_over old before) planned moment step.Parked ends (state_over new after)
    serve_parked other closing ends none =
        let serves = by (close_or_not job.op) in
        subst (λ (es : List End). FolderRuns (state_over old before) planned moment step.Parked es (state_over new after)) (sym none) (runs_parked new after closed serves.1 serves.2)
      where
        by : (job.op ≡ op.Close) ⊎ (job.op ≡ op.Close → ⊥) → Serves old before new after comes (Ok done.Parked)
        by (inl is) = subst (λ (o : Op). Serves old before new after (λ s. outcome_of s job.key job.file o moment) (Ok done.Parked)) (sym is) (closing is)
        by (inr isn't) = other isn't

    pub serve_refused : (status : Status) → ServesOther old before new after job moment (Err status) → ServesClosing old before new after job (Err status) → (ends : List End) → ends ≡ [] → (reply : Reply) → reply ≡ fault status
        → FolderRuns (state_over old before) planned moment (step.Reply reply) ends (state_over new after)
    serve_refused status other closing ends none reply same =
        subst (λ (r : Reply). FolderRuns (state_over old before) planned moment (step.Reply r) ends (state_over new after)) (sym same)
        (subst (λ (es : List End). FolderRuns (state_over old before) planned moment (step.Reply (fault status)) es (state_over new after)) (sym none) (by (close_or_not job.op)))
      where
        goes : (job.op ≡ op.Close → ⊥) → Serves old before new after comes (Err status) → FolderRuns (state_over old before) planned moment (step.Reply (fault status)) [] (state_over new after)
        goes isn't (sound, inl (own, still, leaves)) = runs_refused new after closed status own still leaves
        goes isn't (sound, inr (failed, unchanged, leaves)) = runs_failed new after closed isn't status failed unchanged leaves

        by : (job.op ≡ op.Close) ⊎ (job.op ≡ op.Close → ⊥) → FolderRuns (state_over old before) planned moment (step.Reply (fault status)) [] (state_over new after)
        by (inl is) =
            let c = closing is in
            runs_refused new after closed status c.1 c.2
            (subst (λ (o : Op). Leaves old before new after (λ s left. outcome_of s job.key job.file o moment ≡ refused left status)) (sym is) c.3)
        by (inr isn't) = goes isn't (other isn't)

-- ---- what is left afterwards

-- a sound table, over what the folder tells
pub over_after : (old new : Table) (before after : Seen) (job : Job) (moment : ℕ) (result : Result Done Status) → ServesOther old before new after job moment result → ServesClosing old before new after job result → IsOver new after
over_after old new before after job moment result other closing = by (close_or_not job.op)
  where
    of_serves : (comes : DriveState → Outcome) (given : Result Done Status) → Serves old before new after comes given → IsOver new after
    of_serves comes (Ok (done.Replied body news)) s = s.3.0
    of_serves comes (Ok done.Parked) s = s.2.0
    of_serves comes (Ok (done.Kept status news)) s = absurd s
    of_serves comes (Err status) (sound, inl s) = s.2.0
    of_serves comes (Err status) (sound, inr s) = s.2.0

    of_closing : (given : Result Done Status) → ServesClose old before new after job.file given → IsOver new after
    of_closing (Ok (done.Replied body news)) s = s.3.0
    of_closing (Ok done.Parked) s = s.2.0
    of_closing (Ok (done.Kept status news)) s = s.4.0
    of_closing (Err status) s = s.3.0

    by : (job.op ≡ op.Close) ⊎ (job.op ≡ op.Close → ⊥) → IsOver new after
    by (inl is) = of_closing result (closing is)
    by (inr isn't) = of_serves (λ s. outcome_of s job.key job.file job.op moment) result (other isn't)

few_parked : (t : Table) → IsSound t → length (parked_in t) ≤ 64
few_parked t sound = subst (λ n. n ≤ 64) (sym (length-map (map waiting_of t.waiting.items) parked_of ∙ length-map t.waiting.items waiting_of)) sound.few.1

parked_same : (old new : Table) → new.waiting ≡ old.waiting → parked_in new ≡ parked_in old
parked_same old new same = ap (λ (w : Vec kept_waiting.Waiting Global). map parked_of (map waiting_of w.items)) same

-- none of them did
pub parks_on : (old new : Table) (job : Job) (reply : Reply) (ends : List End) → ends ≡ [] → IsSound old → new.waiting ≡ old.waiting → Parks job (parked_in old) (step.Reply reply) ends (parked_in new)
parks_on old new job reply ends none sound same =
    subst (λ (es : List End). Parks job (parked_in old) (step.Reply reply) es (parked_in new)) (sym none)
    (subst (λ (ps : List Parked). Parks job (parked_in old) (step.Reply reply) [] ps) (sym (parked_same old new same)) (record {
      left = parked_in old;
      ended = none_ended (parked_in old);
      waits = sym (append-nil (parked_in old));
      few = few_parked old sound;
    }))

-- the request itself waits
pub parks_last : (old new : Table) (job : Job) (ends : List End) → ends ≡ [] → IsSound new → parked_in new ≡ parked_in old ++ parked_job job ∷ [] → Parks job (parked_in old) step.Parked ends (parked_in new)
parks_last old new job ends none sound last = subst (λ (es : List End). Parks job (parked_in old) step.Parked es (parked_in new)) (sym none) (record {
  left = parked_in old;
  ended = none_ended (parked_in old);
  waits = last;
  few = few_parked new sound;
})

-- ---- the answer

sound_of : (old new : Table) (before after : Seen) (job : Job) (moment : ℕ) (status : Status) → ServesOther old before new after job moment (Err status) → ServesClosing old before new after job (Err status)
    → IsSound new × ((status.0 == 0) ≡ false)
sound_of old new before after job moment status other closing = by (close_or_not job.op)
  where
    goes : Serves old before new after (λ s. outcome_of s job.key job.file job.op moment) (Err status) → IsSound new × ((status.0 == 0) ≡ false)
    goes (sound, inl s) = (sound, s.0.0)
    goes (sound, inr s) = (sound, refused_status before after status s.0)

    by : (job.op ≡ op.Close) ⊎ (job.op ≡ op.Close → ⊥) → IsSound new × ((status.0 == 0) ≡ false)
    by (inl is) = let c = closing is in (c.0, c.1.0)
    by (inr isn't) = goes (other isn't)

module _ (old new : Table) (before after : Seen) (job : Job) (moment : ℕ) where
  -- a refusal leaves a sound table
  pub refusal_sound : (status : Status) → ServesOther old before new after job moment (Err status) → ServesClosing old before new after job (Err status) → IsSound new
  refusal_sound status other closing = (sound_of old new before after job moment status other closing).0

  -- what is settled after it
  pub replied_settles : (body : Body) (news : told_news.News) → ServesOther old before new after job moment (Ok (done.Replied body news)) → ServesClosing old before new after job (Ok (done.Replied body news))
      → IsSoundBut news.closed new × IsHeard new news
  replied_settles body news other closing = by (close_or_not job.op)
    where
      by : (job.op ≡ op.Close) ⊎ (job.op ≡ op.Close → ⊥) → IsSoundBut news.closed new × IsHeard new news
      by (inl is) = let c = closing is in (c.0, c.1)
      by (inr isn't) = let s = other isn't in (s.0, s.1)

  pub kept_settles : (status : Status) (news : told_news.News) → ServesOther old before new after job moment (Ok (done.Kept status news)) → ServesClosing old before new after job (Ok (done.Kept status news))
      → IsSoundBut news.closed new × IsHeard new news
  kept_settles status news other closing = by (close_or_not job.op)
    where
      by : (job.op ≡ op.Close) ⊎ (job.op ≡ op.Close → ⊥) → IsSoundBut news.closed new × IsHeard new news
      by (inl is) = let c = closing is in (subst (λ (closed : Option ℕ). IsSoundBut closed new) (sym c.1) c.0, c.2)
      by (inr isn't) = absurd (other isn't)

  pub parked_sound : ServesOther old before new after job moment (Ok done.Parked) → ServesClosing old before new after job (Ok done.Parked) → IsSound new
  parked_sound other closing = by (close_or_not job.op)
    where
      by : (job.op ≡ op.Close) ⊎ (job.op ≡ op.Close → ⊥) → IsSound new
      by (inl is) = (closing is).0
      by (inr isn't) = (other isn't).0

-- ---- a device

-- no memory was found for a job: nothing comes of it
pub runs_starved : (t : Table) (before : Seen) (planned : Planned) (moment : ℕ) → (planned.job.op ≡ op.Close → ⊥) → FolderRuns (state_over t before) planned moment (step.Reply (fault no_memory)) [] (state_over t before)
runs_starved t before planned moment other =
    (by before.told, (λ none. none), inl (record { calm = refl; blameless = λ e. not_fault no_memory io_device_error refl refl e; starved = λ e. (refl, refl) }), tt, none_changed (state_over t before) planned.job.op other planned.job.file (step.Reply (fault no_memory)) refl)
  where
    by : (found : Option (List Node)) → (s : DriveState) → option_map (drive_of t) found ≡ Some s → (left : DriveState) × (option_map (drive_of t) found ≡ Some left) × (keys_of t.handles.entries ≡ keys_of left.handles) × (parked_in t ≡ drive_parked left)
        × DoesJob s planned moment (step.Reply (fault no_memory)) [] left before.faults before.faults
    by None s e = absurd (cc)
    by (Some nodes) s e =
        subst (λ (d : DriveState). (left : DriveState) × (Some (drive_of t nodes) ≡ Some left) × (keys_of t.handles.entries ≡ keys_of left.handles) × (parked_in t ≡ drive_parked left) × DoesJob d planned moment (step.Reply (fault no_memory)) [] left before.faults before.faults)
        (ap (λ (d : Option DriveState). unwrap_or d s) e) (drive_of t nodes, refl, sym (keys_seen t t.handles.entries), refl, inl (record { comes = refl; calm = refl }))

-- what a device promises of such a job
pub applies_starved : (t : Table) (before : Seen) (planned : Planned) (moment : ℕ) (answer : Step) (ends : List End) → answer ≡ step.Reply (fault no_memory) → ends ≡ [] → (planned.job.op ≡ op.Close → ⊥)
    → Parks planned.job (parked_in t) answer [] (parked_in t) → Applies FolderRuns (λ (d : FolderDriveState). d.parked) (state_over t before) planned moment answer ends (state_over t before)
applies_starved t before planned moment answer ends is none other parks =
    subst (λ (es : List End). Applies FolderRuns (λ (d : FolderDriveState). d.parked) (state_over t before) planned moment answer es (state_over t before)) (sym none) (record {
      runs = subst (λ (a : Step). FolderRuns (state_over t before) planned moment a [] (state_over t before)) (sym is) (runs_starved t before planned moment other);
      answers = subst (IsAnswerTo planned.job.op) (sym is) (fault_answers planned.job.op no_memory refl);
      parks = parks;
      starved = λ starved. subst (λ (a : Step). IsTrue (is_starved a)) (sym is) refl;
      close = λ e. absurd (other e);
    })

-- the drive is cut off
pub cuts_over : (old new : Table) (before after : Seen) → Cuts old before new after → (before.told ≡ None → after.told ≡ None) → new.waiting.items ≡ [] → new.handles.entries ≡ [] → FolderCuts (state_over old before) (state_over new after)
cuts_over old new before after cuts untold none shut =
    (by before.told refl, (λ e. still before.told refl e), ap keys_of shut, ap (λ (ws : List kept_waiting.Waiting). map parked_of (map waiting_of ws)) none)
  where
    Cut : DriveState → Type 0
    Cut s = (left : DriveState) × (option_map (drive_of new) after.told ≡ Some left) × ClosesAll (record s { waiting = [] }) (keys_of s.handles) left before.faults after.faults

    by : (found : Option (List Node)) → before.told ≡ found → (s : DriveState) → option_map (drive_of old) found ≡ Some s → Cut s
    by None is s e = absurd (cc)
    by (Some nodes) is s e =
        let there = cuts nodes is in
        subst Cut (ap (λ (d : Option DriveState). unwrap_or d s) e) (drive_of new there.0, ap (option_map (drive_of new)) there.1, there.2)

    still : (found : Option (List Node)) → before.told ≡ found → option_map (drive_of old) found ≡ None → option_map (drive_of new) after.told ≡ None
    still None is e = ap (option_map (drive_of new)) (untold is)
    still (Some nodes) is e = absurd (cc)

-- ---- the folder again

-- marks that are taken away leave what was there without them
unmarked : (t : Table) (nodes : List Node) → map (λ (node : Node). record node { pending = false }) nodes ≡ map (λ (node : Node). record node { pending = false }) (map (marked t.opens.entries) nodes)
unmarked t [] = refl
unmarked t (node ∷ nodes) = ap (λ (others : List Node). record node { pending = false } ∷ others) (unmarked t nodes)

-- what a folder tells is what the drive over it has, but for marks
pub told_back : (t : Table) (told : Option (List Node)) → option_map (new_drive []) told ≡ option_map (λ (s : DriveState). new_drive [] s.nodes) (option_map (drive_of t) told)
told_back t None = refl
told_back t (Some nodes) = λ i. Some (record (drive_over (unmarked t nodes i)) { label = [] })
