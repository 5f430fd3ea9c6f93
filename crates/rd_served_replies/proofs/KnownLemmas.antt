-- A station over a device that is known to do what another does goes on as a station over that; and what had no fault had none before.
use Rattle.std.proofs.Common.{◌≡◌, ◌⊎◌, ◌∙◌, refl, sym, ap, subst, inl, inr, ℕ, Bool, true, false, cond, not, arith, List, [], ◌∷◌, Some, None, Option}
use Rattle.std.specs.Prelude.{Err, IfSome, Ok, Result, find, fold, nat_le}
use Rattle.std.specs.Map.{keys_of}
use Rattle.std.specs.Option.{option_map}
use Rattle.rd_base.specs.Faults.{one_more}
use Rattle.rd_drive.specs.Answered.{drive_parked, drive_ran}
use Rattle.rd_drive.specs.Device.{Parked, Parks, is_parked, is_starved}
use Rattle.rd_drive.specs.DriveState.{DriveState}
use Rattle.rd_drive.specs.DriveStep.{with_closed}
use Rattle.rd_drive.specs.Planned.{Planned}
use Rattle.rd_drive.specs.Promise.{CutsOff}
use Rattle.rd_drive.specs.Stepped.{ran_step}
use Rattle.rd_drive.specs.declared.plan.Job.{Job}
use Rattle.rd_drive.specs.declared.step.End.{End}
use Rattle.rd_drive.specs.declared.step.Step.{Step}
use Rattle.rd_drive.proofs.BoundedLemmas.{cut_cancels}
use Rattle.rd_folder.specs.FolderLaws.{FolderFaults, one_fault}
use Rattle.rd_folder.specs.declared.folder.FolderNo.{FolderNo}
use Rattle.rd_folder_drive.specs.FolderDrive.{ClosesAll, DoesJob, IsDriveStep}
use Rattle.rd_front.specs.State.{SessionStation}
use Rattle.rd_irp.specs.Fits.{kind_of}
use Rattle.rd_station.specs.Station as station
use Rattle.rd_station.specs.Station.{DidRun, StationCall, StationState, StationStep, StationSteps, announces, applies, apply_from, cancelled_in_hand, collect_first, collects, drop_channel, drops, emptied, ends, entry_count, is_key, max_entries, new_station, put_refusal, put_unless, puts, puts_unfit, ran, removes, take_first, takes}
use Rattle.rd_station.specs.declared.answers.Applied.{Applied}
use Rattle.rd_station.specs.declared.answers.Applied.TheVariants as applied
use Rattle.rd_station.specs.declared.answers.Completion.{Completion}
use Rattle.rd_station.specs.declared.answers.Given.{Given}
use Rattle.rd_station.specs.declared.answers.Given.TheVariants as given
use Rattle.rd_station.specs.declared.held.InHand.{InHand}
use Rattle.rd_station.specs.declared.refusals.AnnounceNo.{AnnounceNo}
use Rattle.rd_station.specs.declared.refusals.AnnounceNo.TheVariants as refused
use Rattle.rd_station.specs.declared.refusals.PutWhy.{PutWhy}
use Rattle.rd_station.proofs.Calls.{did_run}
use Rattle.rd_declared.specs.Devices.{device_cuts, device_parked, device_runs, device_step, of_drive}
use Rattle.rd_declared.specs.declared.device.SessionDevice.{SessionDevice}
use Rattle.rd_declared.specs.declared.device.SessionDevice.TheVariants as session
use Rattle.rd_served.specs.ServedDevices.{ServedDeviceState, made, over, served_cuts, served_parked, served_runs}
use Rattle.rd_served.proofs.StationLemmas.{Step as ServedStep, put_refused}
use Rattle.rd_served.proofs.WorkLemmas.{Steps}
use Rattle.rd_served_replies.specs.Given.{HadNoFault, known_as, with_device}
use Rattle.rd_served_replies.specs.Premises.{IsFitServed}
use Rattle.rd_served_replies.proofs.WithLemmas.{announce_with, apply_with, came_with, cancel_with, collect_with, drop_with, drop_without, made_with, may_with, may_without, put_with, refused_with, remove_with, remove_without, take_with}

abbrev Of : Type 0
Of = SessionStation

-- ---- a device that does what another does

-- They are the same, or the one is over a folder that tells its nodes, and the other is the drive that has them.
abbrev pub Plays : ServedDeviceState → SessionDevice → Type 0
Plays (made device) other = other ≡ device
Plays (over drive) other = (s : DriveState) × (drive.drive ≡ Some s) × (drive.parked ≡ drive_parked s) × (other ≡ session.Drive s)

pub plays_parked : (d : ServedDeviceState) (other : SessionDevice) → Plays d other → served_parked d ≡ device_parked other
plays_parked (made device) other same = ap device_parked (sym same)
plays_parked (over drive) other (s, told, waits, same) = waits ∙ ap device_parked (sym same)

-- a device that is known does so
pub known_plays : (calm : Bool) (d : ServedDeviceState) (other : SessionDevice) → known_as calm d ≡ Some other → IsFitServed d → Plays d other
known_plays calm (made device) other e fit = let same : device ≡ other = cc (e) in sym same
known_plays false (over drive) other e fit = absurd (cc (e))
known_plays true (over drive) other e fit = by drive.drive refl e fit
  where
    by : (o : Option DriveState) → drive.drive ≡ o → option_map (λ (s : DriveState). session.Drive s) o ≡ Some other → IfSome o (λ (s : DriveState). drive.parked ≡ drive_parked s) → Plays (over drive) other
    by None told e fit = absurd (cc (e))
    by (Some s) told e fit = let same : session.Drive s ≡ other = cc (e) in (s, told, fit, sym same)

pub plays_known : (d : ServedDeviceState) (other : SessionDevice) → Plays d other → known_as true d ≡ Some other
plays_known (made device) other same = ap (λ (x : SessionDevice). Some x) (sym same)
plays_known (over drive) other (s, told, waits, same) = ap (option_map (λ (x : DriveState). session.Drive x)) told ∙ ap (λ (x : SessionDevice). Some x) (sym same)

-- ---- where no fault is counted

counted : (why : FolderNo) (before after : FolderFaults) → after ≡ one_fault why before → after.count ≡ 0 → ⊥
counted why before after is none = let e : one_more before.count ≡ 0 = ap (λ (f : FolderFaults). f.count) (sym is) ∙ none in omega (arith, e)

none_counted : (s : DriveState) (o : Option DriveState) (n : ℕ) → o ≡ Some s → IfSome o (λ (x : DriveState). n ≡ 0) → n ≡ 0
none_counted s o n is none = subst (λ (x : Option DriveState). IfSome x (λ (y : DriveState). n ≡ 0)) is none

run_calm : (s left : DriveState) (planned : Planned) (moment : ℕ) (answer : Step) (es : List End) (before after : FolderFaults) → DoesJob s planned moment answer es left before after → after.count ≡ 0
    → IsDriveStep s planned moment answer es left before after
run_calm s left planned moment answer es before after (inl step) none = step
run_calm s left planned moment answer es before after (inr (inl refusal)) none = absurd (counted (refusal.1).no before after (refusal.1).counted none)
run_calm s left planned moment answer es before after (inr (inr keeps)) none = absurd (counted (keeps.1).no before after (keeps.1).counted none)

closes_calm : (files : List ℕ) (old new : DriveState) (before after : FolderFaults) → ClosesAll old files new before after → after.count ≡ 0 → (fold with_closed old files ≡ new) × (before.count ≡ 0)
closes_calm [] old new before after is none = (sym is.0, ap (λ (f : FolderFaults). f.count) (sym is.1) ∙ none)
closes_calm (file ∷ files) old new before after (mid, midway, one, rest) none =
    let later = closes_calm files mid new midway after rest none in
    elim one [
      | inl (same, calm) ↦ (ap (λ (d : DriveState). fold with_closed d files) same ∙ later.0, ap (λ (f : FolderFaults). f.count) (sym calm) ∙ later.1)
      | inr (answer, keeps) ↦ absurd (counted keeps.no before midway keeps.counted later.1)
    ]

-- what a drive runs is what it runs as a device of a session
session_ran : (s left : DriveState) (job : Job) (moment : ℕ) (answer : Step) (es : List End) (b : Bool) → drive_ran s job moment b ≡ record { state = left; answer = answer; ends = es }
    → ran_step device_step (session.Drive s) job.key job.file job.op moment b ≡ record { state = session.Drive left; answer = answer; ends = es }
session_ran s left job moment answer es true e = ap of_drive e
session_ran s left job moment answer es false e = ap of_drive e

-- so the device that is left by a run does what the other's does, and so by a cut
plays_run : (old new : ServedDeviceState) (other : SessionDevice) (planned : Planned) (moment : ℕ) (answer : Step) (es : List End) → Plays old other → HadNoFault new → served_runs old planned moment answer es new
    → (after : SessionDevice) × Plays new after × device_runs other planned moment answer es after
plays_run (made old) (made new) other planned moment answer es same calm runs = (new, refl, subst (λ (d : SessionDevice). device_runs d planned moment answer es new) (sym same) runs)
plays_run (made old) (over new) other planned moment answer es same calm runs = absurd runs
plays_run (over old) (made new) other planned moment answer es is calm runs = absurd runs
plays_run (over old) (over new) other planned moment answer es (s, told, waits, same) calm runs =
    let (left, goes, files, parked, does) = runs.0 s told in
    let step = run_calm s left planned moment answer es old.faults new.faults does (none_counted left new.drive (new.faults).count goes calm) in
    (session.Drive left, (left, goes, parked, refl), subst (λ (d : SessionDevice). device_runs d planned moment answer es (session.Drive left)) (sym same) (session_ran s left planned.job moment answer es (is_starved answer) step.comes))

plays_cut : (old new : ServedDeviceState) (other : SessionDevice) → Plays old other → HadNoFault new → CutsOff served_cuts served_parked old new → (after : SessionDevice) × Plays new after × CutsOff device_cuts device_parked other after
plays_cut (made old) (made new) other same calm off = (new, refl, record { cuts = subst (λ (d : SessionDevice). device_cuts d new) (sym same) off.cuts; none = off.none })
plays_cut (made old) (over new) other same calm off = absurd off.cuts
plays_cut (over old) (made new) other is calm off = absurd off.cuts
plays_cut (over old) (over new) other (s, told, waits, same) calm off =
    let (left, goes, closes) = (off.cuts).0 s told in
    let (closed, none) = closes_calm (keys_of s.handles) (record s { waiting = [] }) left old.faults new.faults closes (none_counted left new.drive (new.faults).count goes calm) in
    let empty : drive_parked left ≡ [] = subst (λ (d : DriveState). drive_parked d ≡ []) closed (cut_cancels s).none in
    (session.Drive left, (left, goes, off.none ∙ sym empty, refl), record { cuts = subst (λ (d : SessionDevice). device_cuts d (session.Drive left)) (sym same) (ap (λ (d : DriveState). session.Drive d) closed); none = empty })

-- ---- what a call does to the device of a station

-- nothing, or it runs a job, or is cut off
abbrev Changes : ServedDeviceState → ServedDeviceState → Type 0
Changes old new = (new ≡ old) ⊎ (((planned : Planned) × (moment : ℕ) × (answer : Step) × (es : List End) × served_runs old planned moment answer es new) ⊎ served_cuts old new)

run_before : (old new : ServedDeviceState) (planned : Planned) (moment : ℕ) (answer : Step) (es : List End) → served_runs old planned moment answer es new → HadNoFault new → HadNoFault old
run_before (made old) new planned moment answer es runs calm = tt
run_before (over old) (made new) planned moment answer es runs calm = absurd runs
run_before (over old) (over new) planned moment answer es runs calm = by old.drive refl
  where
    by : (o : Option DriveState) → old.drive ≡ o → IfSome o (λ (s : DriveState). (old.faults).count ≡ 0)
    by None told = tt
    by (Some s) told =
        let (left, goes, files, parked, does) = runs.0 s told in
        let none = none_counted left new.drive (new.faults).count goes calm in
        ap (λ (f : FolderFaults). f.count) (sym (run_calm s left planned moment answer es old.faults new.faults does none).calm) ∙ none

cut_before : (old new : ServedDeviceState) → served_cuts old new → HadNoFault new → HadNoFault old
cut_before (made old) new cuts calm = tt
cut_before (over old) (made new) cuts calm = absurd cuts
cut_before (over old) (over new) cuts calm = by old.drive refl
  where
    by : (o : Option DriveState) → old.drive ≡ o → IfSome o (λ (s : DriveState). (old.faults).count ≡ 0)
    by None told = tt
    by (Some s) told =
        let (left, goes, closes) = cuts.0 s told in
        (closes_calm (keys_of s.handles) (record s { waiting = [] }) left old.faults new.faults closes (none_counted left new.drive (new.faults).count goes calm)).1

fault_before : (old new : ServedDeviceState) → Changes old new → HadNoFault new → HadNoFault old
fault_before old new (inl same) calm = subst HadNoFault same calm
fault_before old new (inr (inl (planned, moment, answer, es, runs))) calm = run_before old new planned moment answer es runs calm
fault_before old new (inr (inr cuts)) calm = cut_before old new cuts calm

-- a device that a script made up stays one
abbrev IsMade : ServedDeviceState → Type 0
IsMade (made device) = Unit {0}
IsMade (over drive) = ⊥

made_on : (old new : ServedDeviceState) → Changes old new → IsMade old → IsMade new
made_on old (made new) change is = tt
made_on (over old) (over new) change is = is
made_on (made old) (over new) (inl same) is = subst IsMade (sym same) tt
made_on (made old) (over new) (inr (inl (planned, moment, answer, es, runs))) is = runs
made_on (made old) (over new) (inr (inr cuts)) is = cuts

made_calm : (d : ServedDeviceState) → IsMade d → HadNoFault d
made_calm (made device) is = tt
made_calm (over drive) is = absurd is

-- ---- each call

announce_device : (s : Of) → let r = station.announce s in (r.0).device ≡ s.device
announce_device s = by s.live (nat_le max_entries (entry_count s))
  where
    by : (a b : Bool) → let r = cond {A = Of × Result (Unit {0}) AnnounceNo} a (s, Err refused.Live) (cond b (s, Err (refused.Worn (entry_count s))) (record s { live = true }, Ok tt)) in (r.0).device ≡ s.device
    by true b = refl
    by false true = refl
    by false false = refl

put_device : (s : Of) (job : Job) (found : Option PutWhy) → let r = put_unless s job found in (r.0).device ≡ s.device
put_device s job None = refl
put_device s job (Some cause) = refl

take_device : (s : Of) → let r = station.take s in (r.0).device ≡ s.device
take_device s = by s.ended s.waiting
  where
    by : (b : Bool) (jobs : List Job) → let r = cond {A = Of × Given} b (s, given.Over) (take_first s jobs) in (r.0).device ≡ s.device
    by true jobs = refl
    by false [] = refl
    by false (job ∷ jobs) = refl

collect_device : (s : Of) (cs : List Completion) → let r = collect_first s cs in (r.0).device ≡ s.device
collect_device s [] = refl
collect_device s (c ∷ cs) = refl

-- the device where a call leaves it
stays : {A : Type 0} (s new : Of) (left : Of × A) (answer : A) → left ≡ (new, answer) → (left.0).device ≡ s.device → new.device ≡ s.device
stays {A} s new left answer e same = ap (λ (r : Of × A). (r.0).device) (sym e) ∙ same

drop_device : (s : Of) (cut : ServedDeviceState) (b : Bool) → s.live ≡ b → (let left = drop_channel s cut in left.device) ≡ cond b cut s.device
drop_device s cut b e = ap (λ (x : Bool). let left = cond x (drop_channel (record s { live = true }) cut) (emptied s) in left.device) e ∙ by b
  where
    by : (x : Bool) → (let left = cond x (drop_channel (record s { live = true }) cut) (emptied s) in left.device) ≡ cond x cut s.device
    by true = refl
    by false = refl

drop_changes : (s : Of) (cut : ServedDeviceState) → (s.live ≡ true → CutsOff served_cuts served_parked s.device cut) → Changes s.device (let left = drop_channel s cut in left.device)
drop_changes s cut off = by s.live refl
  where
    by : (b : Bool) → s.live ≡ b → Changes s.device (let left = drop_channel s cut in left.device)
    by true live = inr (inr (subst (λ (d : ServedDeviceState). served_cuts s.device d) (sym (drop_device s cut true live)) (off live).cuts))
    by false dead = inl (drop_device s cut false dead)

step_changes : (old new : Of) (call : StationCall) → ServedStep old call new → Changes old.device new.device
step_changes old new (announces (Ok done)) e = inl (stays old new (station.announce old) (Ok done) e (announce_device old))
step_changes old new (announces (Err refused.Memory)) e = inl (ap (λ (s : Of). s.device) e.1)
step_changes old new (announces (Err refused.Live)) e = inl (stays old new (station.announce old) (Err refused.Live) e (announce_device old))
step_changes old new (announces (Err (refused.Worn count))) e = inl (stays old new (station.announce old) (Err (refused.Worn count)) e (announce_device old))
step_changes old new (puts job None) e = inl (stays old new (station.put old job) None e.1 (put_device old job (put_refusal old job)))
step_changes old new (puts job (Some refusal)) e = inl (ap (λ (s : Of). s.device) (put_refused old new job refusal.why e.1))
step_changes old new (puts_unfit job back) e = inl (ap (λ (s : Of). s.device) e.1)
step_changes old new (takes answer) e = inl (stays old new (station.take old) answer e (take_device old))
step_changes old new (applies planned moment answer) (came, is, promise) = by (find (λ (h : InHand). is_key h.key planned.job.key) old.taken) is
  where
    hand : (h : InHand) (b : Bool)
        → cond {A = Of × Applied} b (cancelled_in_hand old h (kind_of planned.job.op), applied.Cancelled) (ran old h (kind_of planned.job.op) moment came, cond (is_parked came.answer) applied.Parked applied.Ran) ≡ (new, answer) → Changes old.device new.device
    hand h true f = inl (ap (λ (r : Of × Applied). (r.0).device) (sym f))
    hand h false f =
        let so = promise (subst DidRun (ap (λ (r : Of × Applied). r.1) f) (did_run (is_parked came.answer))) in
        inr (inl (planned, moment, came.answer, came.ends, subst (λ (d : ServedDeviceState). served_runs old.device planned moment came.answer came.ends d) (ap (λ (r : Of × Applied). (r.0).device) f) so.runs))

    by : (found : Option InHand) → apply_from old planned.job moment came found ≡ (new, answer) → Changes old.device new.device
    by None f = inl (ap (λ (r : Of × Applied). (r.0).device) (sym f))
    by (Some h) f = hand h h.removed f
step_changes old new (collects answer) e = inl (stays old new (station.collect old) answer e (collect_device old old.ready))
step_changes old new (removes answer) (cut, is, off) = by old.live is
  where
    by : (b : Bool) → cond {A = Of × Bool} (not b) (old, false) ((station.remove (record old { live = true }) cut).0, true) ≡ (new, answer) → Changes old.device new.device
    by false f = inl (ap (λ (r : Of × Bool). (r.0).device) (sym f))
    by true f = inr (inr (subst (λ (d : ServedDeviceState). served_cuts old.device d) (ap (λ (r : Of × Bool). (r.0).device) f) (off (sym (ap (λ (r : Of × Bool). r.1) f))).cuts))
step_changes old new drops (cut, is, off) = subst (λ (s : Of). Changes old.device s.device) is (drop_changes old cut off)
step_changes old new ends (cut, is, off) = subst (λ (s : Of). Changes old.device s.device) is (drop_changes old cut off)

-- by calls, one after the other
pub steps_fault : (calls : List StationCall) (old new : Of) → Steps old calls new → HadNoFault new.device → HadNoFault old.device
steps_fault [] old new e calm = subst (λ (s : Of). HadNoFault s.device) e calm
steps_fault (call ∷ calls) old new e calm = fault_before old.device (e.0).device (step_changes old e.0 call e.1) (steps_fault calls e.0 new e.2 calm)

steps_made : (calls : List StationCall) (old new : Of) → Steps old calls new → IsMade old.device → IsMade new.device
steps_made [] old new e is = subst (λ (s : Of). IsMade s.device) (sym e) is
steps_made (call ∷ calls) old new e is = steps_made calls e.0 new e.2 (made_on old.device (e.0).device (step_changes old e.0 call e.1) is)

-- a station over a device that is known had no fault, where no folder had one
pub known_calm : (calm : Bool) (x : ServedDeviceState) (other : SessionDevice) (calls : List StationCall) (s : Of) → known_as calm x ≡ Some other → Steps (new_station x) calls s → (calm ≡ true → HadNoFault s.device) → HadNoFault s.device
known_calm calm (made device) other calls s e steps if_calm = made_calm s.device (steps_made calls (new_station (made device)) s steps tt)
known_calm true (over drive) other calls s e steps if_calm = if_calm refl
known_calm false (over drive) other calls s e steps if_calm = absurd (cc (e))

-- ---- the same over the other device

-- a call of a station over a device of a session, and more of them
abbrev SessionStep : StationState SessionDevice → StationCall → StationState SessionDevice → Type 0
SessionStep old call new = StationStep device_runs device_parked device_cuts old call new

abbrev pub SessionSteps : StationState SessionDevice → List StationCall → StationState SessionDevice → Type 0
SessionSteps old calls new = StationSteps device_runs device_parked device_cuts old calls new

-- A station goes on over the other device too.
record GoesAs (old new : Of) (other : SessionDevice) (call : StationCall) : Type 0 where
  after : SessionDevice
  plays : Plays new.device after
  step : SessionStep (with_device old other) call (with_device new after)

module _ (old new : Of) (other : SessionDevice) (plays : Plays old.device other) where
  goes_same : (call : StationCall) → new.device ≡ old.device → SessionStep (with_device old other) call (with_device new other) → GoesAs old new other call
  goes_same call same step = record { after = other; plays = subst (λ (d : ServedDeviceState). Plays d other) (sym same) plays; step = step }

  -- where a call makes the same of the station over the other device
  called : {A : Type 0} (call : StationCall) (left : Of × A) (answer : A) → left ≡ (new, answer) → (left.0).device ≡ old.device → SessionStep (with_device old other) call (with_device new other) → GoesAs old new other call
  called {A} call left answer e same step = goes_same call (stays old new left answer e same) step

  applied_as : (planned : Planned) (moment : ℕ) (answer : Applied) → HadNoFault new.device → ServedStep old (applies planned moment answer) new → GoesAs old new other (applies planned moment answer)
  applied_as planned moment answer calm (came, is, promise) = by (find (λ (h : InHand). is_key h.key planned.job.key) old.taken) refl is
    where
      not_run : (end : Applied) → end ≡ answer → (DidRun end → ⊥) → DidRun answer → ⊥
      not_run end same never did = never (subst DidRun (sym same) did)

      by : (found : Option InHand) → find (λ (h : InHand). is_key h.key planned.job.key) old.taken ≡ found → apply_from old planned.job moment came found ≡ (new, answer) → GoesAs old new other (applies planned moment answer)
      by None f e = goes_same (applies planned moment answer) (ap (λ (r : Of × Applied). (r.0).device) (sym e))
          (came_with came other, ap (λ (o : Option InHand). apply_from (with_device old other) planned.job moment (came_with came other) o) f ∙ ap (made_with other) e, λ did. absurd (not_run applied.Stale (ap (λ (r : Of × Applied). r.1) e) (λ none. none) did))
      by (Some h) f e = hand h.removed refl e
        where
          hand : (b : Bool) → h.removed ≡ b
              → cond {A = Of × Applied} b (cancelled_in_hand old h (kind_of planned.job.op), applied.Cancelled) (ran old h (kind_of planned.job.op) moment came, cond (is_parked came.answer) applied.Parked applied.Ran) ≡ (new, answer)
              → GoesAs old new other (applies planned moment answer)
          hand true gone g = goes_same (applies planned moment answer) (ap (λ (r : Of × Applied). (r.0).device) (sym g)) (
            came_with came other,
            ap (λ (o : Option InHand). apply_from (with_device old other) planned.job moment (came_with came other) o) f ∙ cancel_with old other planned.job moment came other h gone ∙ ap (made_with other) e,
            λ did. absurd (not_run applied.Cancelled (ap (λ (r : Of × Applied). r.1) g) (λ none. none) did),
          )
          hand false fresh g =
              let so = promise (subst DidRun (ap (λ (r : Of × Applied). r.1) g) (did_run (is_parked came.answer))) in
              let left : came.state ≡ new.device = ap (λ (r : Of × Applied). (r.0).device) g in
              let (after, plays_on, runs) = plays_run old.device came.state other planned moment came.answer came.ends plays (subst HadNoFault (sym left) calm) so.runs in
              record {
                after = after;
                plays = subst (λ (d : ServedDeviceState). Plays d after) left plays_on;
                step = (
                  came_with came after,
                  ap (λ (o : Option InHand). apply_from (with_device old other) planned.job moment (came_with came after) o) f ∙ apply_with old other planned.job moment came after h fresh ∙ ap (made_with after) e,
                  λ did. record {
                    runs = runs;
                    answers = so.answers;
                    parks = subst (λ (ps : List Parked × List Parked). Parks planned.job ps.0 came.answer came.ends ps.1) (λ i. (plays_parked old.device other plays i, plays_parked came.state after plays_on i)) so.parks;
                    starved = so.starved;
                    close = so.close;
                  },
                );
              }

  removed_as : (answer : Bool) → HadNoFault new.device → ServedStep old (removes answer) new → GoesAs old new other (removes answer)
  removed_as answer calm (cut, is, off) = by old.live refl is
    where
      by : (b : Bool) → old.live ≡ b → cond {A = Of × Bool} (not b) (old, false) ((station.remove (record old { live = true }) cut).0, true) ≡ (new, answer) → GoesAs old new other (removes answer)
      by false dead e = goes_same (removes answer) (ap (λ (r : Of × Bool). (r.0).device) (sym e))
          (other, remove_without old other cut other dead ∙ ap (made_with other) is, λ yes. absurd (let no : false ≡ true = ap (λ (r : Of × Bool). r.1) e ∙ yes in cc (no)))
      by true live e =
          let left : cut ≡ new.device = ap (λ (r : Of × Bool). (r.0).device) e in
          let (after, plays_on, cuts) = plays_cut old.device cut other plays (subst HadNoFault (sym left) calm) (off (sym (ap (λ (r : Of × Bool). r.1) e))) in
          record {
            after = after;
            plays = subst (λ (d : ServedDeviceState). Plays d after) left plays_on;
            step = (after, remove_with old other cut after live ∙ ap (made_with after) is, λ yes. cuts);
          }

  -- the channel ends
  record DropsAs (cut : ServedDeviceState) : Type 0 where
    after : SessionDevice
    plays_on : Plays (let left = drop_channel old cut in left.device) after
    same : drop_channel (with_device old other) after ≡ with_device (drop_channel old cut) after
    off : old.live ≡ true → CutsOff device_cuts device_parked other after

  dropped_as : (cut : ServedDeviceState) → HadNoFault (let left = drop_channel old cut in left.device) → (old.live ≡ true → CutsOff served_cuts served_parked old.device cut) → DropsAs cut
  dropped_as cut calm off = by old.live refl
    where
      by : (b : Bool) → old.live ≡ b → DropsAs cut
      by false dead = record {
        after = other;
        plays_on = subst (λ (d : ServedDeviceState). Plays d other) (sym (drop_device old cut false dead)) plays;
        same = drop_without old other cut other dead;
        off = λ live. absurd (cc (dead, live));
      }
      by true live =
          let left = drop_device old cut true live in
          let (after, plays_on, cuts) = plays_cut old.device cut other plays (subst HadNoFault left calm) (off live) in
          record { after = after; plays_on = subst (λ (d : ServedDeviceState). Plays d after) (sym left) plays_on; same = drop_with old other cut after live; off = λ yes. cuts }

  goes_as : (call : StationCall) → HadNoFault new.device → ServedStep old call new → GoesAs old new other call
  goes_as (announces (Ok done)) calm e = called (announces (Ok done)) (station.announce old) (Ok done) e (announce_device old) (announce_with old other ∙ ap (made_with other) e)
  goes_as (announces (Err refused.Memory)) calm e = goes_same (announces (Err refused.Memory)) (ap (λ (s : Of). s.device) e.1)
      (ap (λ (r : StationState SessionDevice × Result (Unit {0}) AnnounceNo). r.1) (announce_with old other) ∙ e.0, ap (λ (s : Of). with_device s other) e.1)
  goes_as (announces (Err refused.Live)) calm e = called (announces (Err refused.Live)) (station.announce old) (Err refused.Live) e (announce_device old) (announce_with old other ∙ ap (made_with other) e)
  goes_as (announces (Err (refused.Worn count))) calm e = called (announces (Err (refused.Worn count))) (station.announce old) (Err (refused.Worn count)) e (announce_device old) (announce_with old other ∙ ap (made_with other) e)
  goes_as (puts job None) calm e = called (puts job None) (station.put old job) None e.1 (put_device old job (put_refusal old job)) (may_with old other job.key e.0, put_with old other job (put_refusal old job) ∙ ap (made_with other) e.1)
  goes_as (puts job (Some refusal)) calm e = goes_same (puts job (Some refusal)) (ap (λ (s : Of). s.device) (put_refused old new job refusal.why e.1)) (may_with old other job.key e.0, refused_with old other new job refusal.why e.1, e.2)
  goes_as (puts_unfit job back) calm e = goes_same (puts_unfit job back) (ap (λ (s : Of). s.device) e.1) (λ may. e.0 (may_without old other job.key may), ap (λ (s : Of). with_device s other) e.1, e.2)
  goes_as (takes answer) calm e = called (takes answer) (station.take old) answer e (take_device old) (take_with old other ∙ ap (made_with other) e)
  goes_as (applies planned moment answer) calm e = applied_as planned moment answer calm e
  goes_as (collects answer) calm e = called (collects answer) (station.collect old) answer e (collect_device old old.ready) (collect_with old other old.ready ∙ ap (made_with other) e)
  goes_as (removes answer) calm e = removed_as answer calm e
  goes_as drops calm (cut, is, off) =
      let so = dropped_as cut (subst (λ (s : Of). HadNoFault s.device) (sym is) calm) off in
      record { after = so.after; plays = subst (λ (s : Of). Plays s.device so.after) is so.plays_on; step = (so.after, so.same ∙ ap (λ (s : Of). with_device s so.after) is, so.off) }
  goes_as ends calm (cut, is, off) =
      let so = dropped_as cut (subst (λ (s : Of). HadNoFault s.device) (sym is) calm) off in
      record {
        after = so.after;
        plays = subst (λ (s : Of). Plays s.device so.after) is so.plays_on;
        step = (so.after, ap (λ (s : StationState SessionDevice). record s { ended = true }) so.same ∙ ap (λ (s : Of). with_device s so.after) is, so.off);
      }

-- A station that went on without a fault did so over the other device.
pub steps_as : (calls : List StationCall) (old new : Of) (other : SessionDevice) → Steps old calls new → Plays old.device other → HadNoFault new.device
    → (after : SessionDevice) × Plays new.device after × SessionSteps (with_device old other) calls (with_device new after)
steps_as [] old new other e plays calm = (other, subst (λ (s : Of). Plays s.device other) (sym e) plays, ap (λ (s : Of). with_device s other) e)
steps_as (call ∷ calls) old new other e plays calm =
    let one = goes_as old e.0 other plays call (steps_fault calls e.0 new e.2 calm) e.1 in
    let (after, plays_on, steps) = steps_as calls e.0 new one.after e.2 one.plays calm in
    (after, plays_on, (with_device e.0 one.after, one.step, steps))
