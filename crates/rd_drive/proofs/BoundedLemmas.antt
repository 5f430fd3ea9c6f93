-- What drives promise: a request and a cut leave a drive within its bounds, their replies are in range, and they end requests as every device does.
use Rattle.std.proofs.Common.{◌≡◌, ◌∙◌, refl, sym, ap, subst, ℕ, suc, ◌+◌, ◌≤◌, inl, inr, ◌&&◌, Bool, true, false, not, cond, List, [], ◌∷◌, ◌++◌, fold, map, length, Option, Some, None, find, lit<, arith}
use Rattle.std.specs.Map.{keys_of}
use Rattle.std.specs.Option.{option_map_or, unwrap_or}
use Rattle.std.proofs.lemmas.List.{length-append, length-map}
use Rattle.rd_base.specs.declared.journal.Key.{Key}
use Rattle.rd_irp.specs.declared.op.Op.{Op}
use Rattle.rd_irp.specs.declared.op.Op.TheVariants as op
use Rattle.rd_irp.specs.declared.op.Range.{Range}
use Rattle.rd_irp.specs.declared.completion.Reply.{Reply}
use Rattle.rd_irp.specs.declared.completion.Body.TheVariants.{Buffer, Locked}
use Rattle.rd_dirinfo.specs.Paths.{Names}
use Rattle.rd_drive.specs.declared.plan.Job.{Job}
use Rattle.rd_drive.specs.declared.step.Step.{Step}
use Rattle.rd_drive.specs.declared.step.Step.TheVariants as step
use Rattle.rd_drive.specs.declared.step.End.{End}
use Rattle.rd_drive.specs.DriveState.{DriveState, Handle, Node, Notice, Ranges, Waiting, Wish, handle_at, node_of_path, open_path}
use Rattle.rd_drive.specs.Outcome.{Change, News, Outcome, done, given, no_news}
use Rattle.rd_drive.specs.Close.{close}
use Rattle.rd_drive.specs.DriveStep.{cancelled_end, drive_cut, drive_step, outcome_of, with_closed}
use Rattle.rd_drive.specs.Locking.{asked_locks, conflicts, locks_on, with_locks}
use Rattle.rd_drive.specs.Stepped.{Settled, Stepped}
use Rattle.rd_drive.specs.Waiting.{change_bytes, closing_reply, ends_with, is_closed, is_told, is_tried, settled, settles, settles_open, waits_on}
use Rattle.rd_drive.specs.Device.{AreEnded, Parked, Parks}
use Rattle.rd_drive.specs.Answered.{IsAnsweredBy, IsFitting, drive_parked, parked_of}
use Rattle.rd_drive.specs.Ranged.{AreEndsInRange, IsReplyInRange, IsSteppedInRange, SetsFew}
use Rattle.rd_drive.specs.Promise.{Cancels, IsDevice, cut_end}
use Rattle.rd_drive.specs.Bounded.{IsBounded}
use Rattle.rd_base.specs.Statuses.{invalid_handle}
use Rattle.rd_drive.proofs.AllLemmas.{all_append}
use Rattle.rd_drive.proofs.ComesLemmas.{came_parked, came_replied}
use Rattle.rd_drive.proofs.EndLemmas.{settled_ends}
use Rattle.rd_drive.proofs.OperationLemmas.{close_answered, outcome_answered}
use Rattle.rd_drive.proofs.StayLemmas.{Stays, outcome_stays, same_fits}

-- ---- what the news ends

module _ (news : News) where
  -- label and nodes stay, and the ends are in range
  abbrev Keeps : Settled DriveState → Settled DriveState → Type 0
  Keeps old new = (IsFitting old.state → IsFitting new.state) × (AreEndsInRange old.ends → AreEndsInRange new.ends)

  ends_range : (old : Settled DriveState) (s : DriveState) (w : Waiting) (reply : Reply) → IsReplyInRange reply → AreEndsInRange old.ends → AreEndsInRange (ends_with old s w reply).ends
  ends_range old s w reply range all = all_append (λ (ended : End). IsReplyInRange ended.reply) old.ends (record { key = w.key; reply = reply } ∷ []) all (range, tt)

  closes : (wish : Wish) → IsReplyInRange (closing_reply wish)
  closes (Ranges exclusive ranges) = (lit< tt, tt)
  closes (Notice deep filter) = (lit< tt, tt)

  keeps : (old : Settled DriveState) (w : Waiting) → Keeps old (settles news old w)
  keeps old w = by (is_closed news w)
    where
      path : Names
      path = unwrap_or (open_path old.state w.file) []

      ranges_keep : (v : Waiting) (exclusive : Bool) (ranges : List Range) (b : Bool) → Keeps old (cond b (ends_with old (with_locks old.state (asked_locks v.file exclusive ranges)) v (done Locked)) (waits_on old v))
      ranges_keep v exclusive ranges true = (
        same_fits old.state (with_locks old.state (asked_locks v.file exclusive ranges)) refl refl refl,
        ends_range old (with_locks old.state (asked_locks v.file exclusive ranges)) v (done Locked) (lit< tt, tt),
      )
      ranges_keep v exclusive ranges false = (same_fits old.state (waits_on old v).state refl refl refl, λ all. all)

      change_keeps : (v : Waiting) (found : Option Change) → Keeps old (option_map_or (λ (change : Change). ends_with old old.state v (done (Buffer (change_bytes path change)))) found (waits_on old v))
      change_keeps v None = (same_fits old.state (waits_on old v).state refl refl refl, λ all. all)
      change_keeps v (Some change) = ((λ fitting. fitting), ends_range old old.state v (done (Buffer (change_bytes path change))) (lit< tt, tt))

      open_keeps : (v : Waiting) (wish : Wish) → Keeps old (settles_open news old v path wish)
      open_keeps v (Ranges exclusive ranges) = ranges_keep v exclusive ranges (is_tried old.state news path && not (conflicts (locks_on old.state path) (asked_locks v.file exclusive ranges)))
      open_keeps v (Notice deep filter) = change_keeps v (find (is_told old.state path deep filter) news.changes)

      by : (b : Bool) → Keeps old (cond b (ends_with old old.state w (closing_reply w.wish)) (settles_open news old w path w.wish))
      by true = ((λ fitting. fitting), ends_range old old.state w (closing_reply w.wish) (closes w.wish))
      by false = open_keeps w w.wish

  all_keep : (ws : List Waiting) (old : Settled DriveState) → Keeps old (fold (settles news) old ws)
  all_keep [] old = ((λ fitting. fitting), λ all. all)
  all_keep (w ∷ ws) old = let first = keeps old w in let others = all_keep ws (settles news old w) in ((λ fitting. others.0 (first.0 fitting)), λ all. others.1 (first.1 all))

  pub settled_keeps : (s : DriveState) → (IsFitting s → IsFitting (settled s news).state) × AreEndsInRange (settled s news).ends
  settled_keeps s = let all = all_keep s.waiting (record { state = record s { waiting = [] }; ends = [] }) in ((λ fitting. all.0 (same_fits s _ refl refl refl fitting)), all.1 tt)

-- ---- a request

pub step_fits : (s : DriveState) (key : Key) (file : ℕ) (o : Op) (moment : ℕ) → IsFitting s → IsFitting (drive_step s key file o moment).state
step_fits s key file o moment fitting =
    let outcome = outcome_of s key file o moment in
    (settled_keeps outcome.news outcome.state).0 ((outcome_stays s key file o moment).fits fitting).0

pub step_ranged : (s : DriveState) (key : Key) (file : ℕ) (o : Op) (moment : ℕ) → SetsFew o → IsSteppedInRange (drive_step s key file o moment)
step_ranged s key file o moment few =
    let outcome = outcome_of s key file o moment in
    ((outcome_stays s key file o moment).ranged few, (settled_keeps outcome.news outcome.state).1)

ended_fewer : (ps : List Parked) (ends : List End) (left : List Parked) → AreEnded ps ends left → length left ≤ length ps
ended_fewer [] ends left are = let none : length left ≡ 0 = ap (length {A = Parked}) are.1 in omega (arith, none)
ended_fewer (p ∷ ps) ends left (inl one) = let few = ended_fewer ps one.1 left one.4 in omega (arith, few)
ended_fewer (p ∷ ps) ends left (inr on) =
    let few = ended_fewer ps ends on.0 on.2 in
    let is : length left ≡ suc (length on.0) = ap (length {A = Parked}) on.1 in
    omega (arith, few, is)

module _ (old : DriveState) (bounded : IsBounded old) (job : Job) (moment : ℕ) where
  abbrev came : Stepped DriveState
  came = drive_step old job.key job.file job.op moment

  abbrev outcome : Outcome
  outcome = outcome_of old job.key job.file job.op moment

  stays : Stays old job.op outcome
  stays = outcome_stays old job.key job.file job.op moment

  abbrev Parking : Step → List End → DriveState → Type 0
  Parking answer ends new = Parks job (drive_parked old) answer ends (drive_parked new)

  -- those that wait after a reply are some of those that waited
  few_left : outcome.state.waiting ≡ old.waiting → length came.state.waiting ≤ 64
  few_left same =
      let fewer = ended_fewer _ _ _ (settled_ends outcome.news (stays.fits bounded.fitting).1 outcome.state) in
      let was : length (drive_parked outcome.state) ≡ length outcome.state.waiting = length-map outcome.state.waiting parked_of in
      let is : length (drive_parked came.state) ≡ length came.state.waiting = length-map came.state.waiting parked_of in
      let some : length outcome.state.waiting ≡ length old.waiting = ap (length {A = Waiting}) same in
      omega (arith, fewer, was, is, some, bounded.few)

  parks_by : (answer : Step) → outcome.answer ≡ answer → IsAnsweredBy old job.key job.op answer outcome.state → Parking came.answer came.ends came.state
  parks_by (step.Reply reply) e by =
      let is : outcome ≡ record { state = outcome.state; answer = step.Reply reply; news = outcome.news } = λ i. record { state = outcome.state; answer = e i; news = outcome.news } in
      subst (λ (a : Step). Parks job (drive_parked old) a came.ends (drive_parked came.state)) (sym e)
      (came_replied old bounded.fitting job moment outcome.state came.state outcome.news reply came.ends is (stays.fits bounded.fitting).1 refl (few_left by.2)).parks
  parks_by step.Parked e by =
      let quiet = stays.quiet e in
      let is : outcome ≡ record { state = outcome.state; answer = step.Parked; news = no_news } = λ i. record { state = outcome.state; answer = e i; news = quiet.0 i } in
      let more : length outcome.state.waiting ≡ length (old.waiting ++ by.0 ∷ []) = ap (length {A = Waiting}) by.2 in
      let one : length (old.waiting ++ by.0 ∷ []) ≡ length old.waiting + 1 = length-append old.waiting (by.0 ∷ []) in
      let c = came_parked old bounded.fitting job moment outcome.state is (omega (arith, more, one, quiet.1)) in
      subst (λ (x : Stepped DriveState). Parks job (drive_parked old) x.answer x.ends (drive_parked x.state)) (sym c.runs) c.parks

  pub step_parks : Parks job (drive_parked old) (drive_step old job.key job.file job.op moment).answer (drive_step old job.key job.file job.op moment).ends (drive_parked (drive_step old job.key job.file job.op moment).state)
  step_parks = parks_by outcome.answer refl (outcome_answered old job.key bounded.fitting job.file job.op moment).by

-- ---- a cut

closed_waiting : (s : DriveState) (file : ℕ) → (with_closed s file).waiting ≡ s.waiting
unfolding given
closed_waiting s file = on (handle_at s file)
  where
    by : (x : Outcome) → (answer : Step) → IsAnsweredBy s (record { channel = 0; index = 0 }) op.Close answer x.state → (x.state).waiting ≡ s.waiting
    by x (step.Reply reply) is = is.2
    by x step.Parked is = absurd (cc (is.3))

    node : (h : Handle) (found : Option Node) → (given s found invalid_handle (close s file h)).state.waiting ≡ s.waiting
    node h None = refl
    node h (Some n) = let is = close_answered s (record { channel = 0; index = 0 }) file h n in by (close s file h n) (close s file h n).answer is.by

    on : (found : Option Handle) → (given s found invalid_handle (λ h. given s (node_of_path s h.path) invalid_handle (close s file h))).state.waiting ≡ s.waiting
    on None = refl
    on (Some h) = node h (node_of_path s h.path)

all_closed : (files : List ℕ) (s : DriveState) → (fold with_closed s files).waiting ≡ s.waiting
all_closed [] s = refl
all_closed (file ∷ files) s = all_closed files (with_closed s file) ∙ closed_waiting s file

closed_fits : (files : List ℕ) (s : DriveState) → IsFitting s → IsFitting (fold with_closed s files)
closed_fits [] s fitting = fitting
closed_fits (file ∷ files) s fitting = closed_fits files (with_closed s file) ((outcome_stays s (record { channel = 0; index = 0 }) file op.Close 0).fits fitting).0

pub cut_fits : (s : DriveState) → IsFitting s → IsFitting (drive_cut s).state
cut_fits s fitting = closed_fits (keys_of s.handles) (record s { waiting = [] }) (record { limited = fitting.limited; label = fitting.label; paths = fitting.paths })

none_waits : (s : DriveState) → (drive_cut s).state.waiting ≡ []
none_waits s = all_closed (keys_of s.handles) (record s { waiting = [] })

ends_alike : (ws : List Waiting) → map cancelled_end ws ≡ map cut_end (map parked_of ws)
ends_alike [] = refl
ends_alike (w ∷ ws) = ap (λ (es : List End). cancelled_end w ∷ es) (ends_alike ws)

pub cut_cancels : (s : DriveState) → Cancels drive_step drive_cut drive_parked s
cut_cancels s = record { ends = ends_alike s.waiting; none = ap (map parked_of) (none_waits s) }

cancelled_ranged : (ws : List Waiting) → AreEndsInRange (map cancelled_end ws)
cancelled_ranged [] = tt
cancelled_ranged (w ∷ ws) = ((lit< tt, tt), cancelled_ranged ws)

pub cut_ranged : (s : DriveState) → AreEndsInRange (drive_cut s).ends
cut_ranged s = cancelled_ranged s.waiting

-- ---- all of it

pub bounded_devices : IsDevice drive_step drive_cut drive_parked IsBounded
bounded_devices = record {
  stays = λ s key file o moment bounded. record {
    fitting = step_fits s key file o moment bounded.fitting;
    few = few_parked (record { key = key; file = file; completion = 0; op = o }) s moment bounded;
  };
  parks = λ s job moment bounded. step_parks s bounded job moment;
  cut_stays = λ s bounded. record { fitting = cut_fits s bounded.fitting; few = none_few s };
  cancels = λ s bounded. cut_cancels s;
}
  where
    few_parked : (job : Job) (s : DriveState) (moment : ℕ) → IsBounded s → length (drive_step s job.key job.file job.op moment).state.waiting ≤ 64
    few_parked job s moment bounded =
        let parks = step_parks s bounded job moment in
        let is = length-map (drive_step s job.key job.file job.op moment).state.waiting parked_of in
        subst (λ n. n ≤ 64) is parks.few

    none_few : (s : DriveState) → length (drive_cut s).state.waiting ≤ 64
    none_few s = subst (λ (ws : List Waiting). length ws ≤ 64) (sym (none_waits s)) (omega arith)
