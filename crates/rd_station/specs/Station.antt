-- A station: the requests of one device, from the moment when they come until their completions are handed out, and what the device did. No public
-- standard has one: these are this project's own rules.
use Rattle.std.specs.Prelude.{◌≡◌, ℕ, ◌+◌, ◌-◌, ◌*◌, ◌<◌, ◌⊎◌, ◌==◌, ◌&&◌, Bool, true, false, not, nat_le, nat_lt, if◌then◌else◌, List, [], ◌∷◌, ◌++◌, length, map, filter, find, Option, Some, None, IfSome, Result, Ok, Err, All, Any, Contains}
use Rattle.std.specs.List.{flat_map, list_any}
use Rattle.std.specs.Option.{option_map_or}
use Rattle.rd_base.specs.declared.journal.Key.{Key}
use Rattle.rd_base.specs.declared.journal.Cause.TheVariants.{Removed, Dropped}
use Rattle.rd_base.specs.declared.journal.Item.{Item}
use Rattle.rd_base.specs.declared.journal.Item.TheVariants.{Came, Ran, Cancelled, Sent, Cut}
use Rattle.rd_base.specs.Lawful.{IsBelow, named_key}
use Rattle.rd_irp.specs.declared.completion.Kind.{Kind}
use Rattle.rd_irp.specs.declared.completion.Reply.{Reply}
use Rattle.rd_irp.specs.Fits.{kind_of}
use Rattle.rd_drive.specs.declared.plan.Job.{Job}
use Rattle.rd_drive.specs.declared.step.Step.{Step}
use Rattle.rd_drive.specs.declared.step.Step.TheVariants as step
use Rattle.rd_drive.specs.declared.step.End.{End}
use Rattle.rd_drive.specs.Planned.{Planned}
use Rattle.rd_drive.specs.Device.{Parked, is_parked, is_starved}
use Rattle.rd_drive.specs.Promise.{Applies, CutsOff}
use Rattle.rd_drive.specs.Stepped.{Stepped}
use Rattle.rd_drive.specs.Replies.{cancellation}
use Rattle.rd_station.specs.declared.refusals.PutNo.{PutNo}
use Rattle.rd_station.specs.declared.refusals.StationNo.{StationNo}
use Rattle.rd_station.specs.declared.refusals.PutWhy.{PutWhy}
use Rattle.rd_station.specs.declared.refusals.PutWhy.TheVariants as why
use Rattle.rd_station.specs.declared.refusals.AnnounceNo.{AnnounceNo}
use Rattle.rd_station.specs.declared.refusals.AnnounceNo.TheVariants as no
use Rattle.rd_station.specs.declared.answers.Given.{Given}
use Rattle.rd_station.specs.declared.answers.Given.TheVariants as given
use Rattle.rd_station.specs.declared.answers.Applied.{Applied}
use Rattle.rd_station.specs.declared.answers.Applied.TheVariants as applied
use Rattle.rd_station.specs.declared.answers.Completion.{Completion}
use Rattle.rd_station.specs.declared.held.InHand.{InHand}
use Rattle.rd_station.specs.declared.held.ParkedJob.{ParkedJob}

-- the most jobs that a station holds
abbrev pub max_held : ℕ
max_held = 128

-- the most entries of a journal, reserved places among them
abbrev pub max_entries : ℕ
max_entries = 16777216

-- A station over a device with states of the type S.
pub record StationState (S : Type 0) : Type 0 where
  pub device : S
  -- whether jobs may come: it was announced, with room in the journal, and is neither removed nor dropped since
  pub live : Bool
  -- whether the session is over
  pub ended : Bool
  -- the jobs that no hand took yet, in the order in which they came
  pub waiting : List Job
  pub taken : List InHand
  -- in the order in which they began to wait
  pub parked : List ParkedJob
  -- what can be handed out, in the order in which it became ready
  pub ready : List Completion
  pub journal : List Item

-- whether two keys are the same
abbrev pub is_key : Key → Key → Bool
is_key a b = a.channel == b.channel && a.index == b.index

-- A device's completion as it is handed out: the request's key, its completion id and its layout, and the reply.
abbrev pub completion_of : Key → ℕ → Kind → Reply → Completion
completion_of key completion kind reply = record { key = key; completion = completion; kind = kind; reply = reply }

-- the jobs in hands but the one with this key
abbrev pub without_taken : Key → List InHand → List InHand
without_taken key ts = filter (λ (t : InHand). not (is_key t.key key)) ts

-- the completion that a job which waited inside the device becomes by its end
abbrev pub ended_completion : List ParkedJob → End → List Completion
ended_completion parked ended =
    option_map_or (λ (p : ParkedJob). completion_of p.key p.completion p.kind ended.reply ∷ []) (find (λ (p : ParkedJob). is_key p.key ended.key) parked) []

-- whether one of these ends is the job's
abbrev pub is_ended : List End → ParkedJob → Bool
is_ended ends p = list_any (λ (ended : End). is_key ended.key p.key) ends

-- The jobs that are left inside the device after a run: those that didn't end, and then the job itself where it isn't answered.
abbrev pub parked_after : List ParkedJob → InHand → Kind → Step → List End → List ParkedJob
parked_after parked t kind answer ends =
    filter (λ p. not (is_ended ends p)) parked
    ++ (if is_parked answer then record { key = t.key; completion = t.completion; kind = kind } ∷ [] else [])

-- the job's own completion, where it is answered
abbrev pub own_completion : InHand → Kind → Step → List Completion
own_completion t kind (step.Reply reply) = completion_of t.key t.completion kind reply ∷ []
own_completion t kind step.Parked = []

abbrev pub cancelled_parked : ParkedJob → Completion
cancelled_parked p = completion_of p.key p.completion p.kind cancellation

abbrev pub cancelled_waiting : Job → Completion
cancelled_waiting job = completion_of job.key job.completion (kind_of job.op) cancellation

abbrev pub marked_removed : InHand → InHand
marked_removed t = record t { removed = true }

module _ {S : Type 0} where
  -- a station before its first channel
  abbrev pub new_station : S → StationState S
  new_station device = record { device = device; live = false; ended = false; waiting = []; taken = []; parked = []; ready = []; journal = [] }

  -- ---- what is held

  -- the key and the completion id of each job that is held
  abbrev pub held : StationState S → List (Key × ℕ)
  held s =
      map (λ (job : Job). (job.key, job.completion)) s.waiting
      ++ map (λ (t : InHand). (t.key, t.completion)) s.taken
      ++ map (λ (p : ParkedJob). (p.key, p.completion)) s.parked
      ++ map (λ (c : Completion). (c.key, c.completion)) s.ready

  -- The places of the journal that are spoken for: two for each job that hasn't run, one for each other, and one for the next cut.
  abbrev pub reserved : StationState S → ℕ
  reserved s = 2 * (length s.waiting + length s.taken) + length s.parked + length s.ready + (if s.live then 1 else 0)

  -- the entries of the journal with these places
  abbrev pub entry_count : StationState S → ℕ
  entry_count s = length s.journal + reserved s

  -- ---- the calls

  -- The host is told of the device, so that jobs may come, where there is room in the journal.
  abbrev pub announce : StationState S → StationState S × Result (Unit {0}) AnnounceNo
  announce s =
      if s.live then (s, Err no.Live)
      else (if nat_le max_entries (entry_count s) then (s, Err (no.Worn (entry_count s)))
      else (record s { live = true }, Ok tt))

  -- why a job can't come, if it can't: the first cause that there is
  abbrev pub put_refusal : StationState S → Job → Option PutWhy
  put_refusal s job =
      if not s.live then Some why.Gone
      else option_map_or (λ (other : Key × ℕ). Some (why.Duplicate other.0)) (find (λ (other : Key × ℕ). other.1 == job.completion) (held s))
      (if nat_le max_held (length (held s)) then Some (why.Full (length (held s)))
      else (if nat_lt (max_entries - 3) (entry_count s) then Some (why.Worn (entry_count s))
      else None))

  -- a job comes last, unless there is a cause why it can't
  abbrev pub put_unless : StationState S → Job → Option PutWhy → StationState S × Option PutWhy
  put_unless s job None = (record s { waiting = s.waiting ++ job ∷ []; journal = s.journal ++ Came job.key ∷ [] }, None)
  put_unless s job (Some cause) = (s, Some cause)

  -- a job comes
  abbrev pub put : StationState S → Job → StationState S × Option PutWhy
  put s job = put_unless s job (put_refusal s job)

  -- the job of a key is held, or its completion was handed out
  abbrev pub IsKnown : StationState S → Key → Type 0
  IsKnown s key = Any (λ (other : Key × ℕ). other.0 ≡ key) (held s) ⊎ Contains s.journal (Sent key)

  -- A job may come where its key is above every key of the journal, where all jobs that are held came on its channel, and where what isn't known of
  -- any more came on an earlier one.
  pub record MayPut (s : StationState S) (key : Key) : Type 0 where
    pub above : All (λ entry. IfSome (named_key entry) (λ earlier. IsBelow earlier key)) s.journal
    pub same_channel : All (λ (other : Key × ℕ). (other.0).channel ≡ key.channel) (held s)
    pub forgotten : All (λ entry. IfSome (named_key entry) (λ earlier. IsKnown s earlier ⊎ (earlier.channel < key.channel))) s.journal

  -- the first of the jobs that no hand took, if there is one, goes into a hand
  abbrev pub take_first : StationState S → List Job → StationState S × Given
  take_first s [] = (s, given.Nothing)
  take_first s (job ∷ jobs) = (record s { waiting = jobs; taken = s.taken ++ record { key = job.key; completion = job.completion; removed = false } ∷ [] }, given.Job job)

  -- the job that came first is taken
  abbrev pub take : StationState S → StationState S × Given
  take s = if s.ended then (s, given.Over) else take_first s s.waiting

  -- The job in a hand was run at a moment, and this came of it: its own completion is made ready first, and then that of each end, in order.
  abbrev pub ran : StationState S → InHand → Kind → ℕ → Stepped S → StationState S
  ran s t kind moment came = record s {
    device = came.state;
    taken = without_taken t.key s.taken;
    parked = parked_after s.parked t kind came.answer came.ends;
    ready = s.ready ++ own_completion t kind came.answer ++ flat_map (ended_completion s.parked) came.ends;
    journal = s.journal ++ Ran t.key moment (is_starved came.answer) (is_parked came.answer) ∷ [];
  }

  -- The job in a hand isn't run, since its device was removed after it came.
  abbrev pub cancelled_in_hand : StationState S → InHand → Kind → StationState S
  cancelled_in_hand s t kind = record s {
    taken = without_taken t.key s.taken;
    ready = s.ready ++ completion_of t.key t.completion kind cancellation ∷ [];
    journal = s.journal ++ Cancelled t.key ∷ [];
  }

  -- A job comes back from the hand in which it is, if it is in one: it is run, unless its device was removed.
  abbrev pub apply_from : StationState S → Job → ℕ → Stepped S → Option InHand → StationState S × Applied
  apply_from s job moment came None = (s, applied.Stale)
  apply_from s job moment came (Some t) =
      if t.removed then (cancelled_in_hand s t (kind_of job.op), applied.Cancelled)
      else (ran s t (kind_of job.op) moment came, if is_parked came.answer then applied.Parked else applied.Ran)

  -- A hand gives back the job of a plan. What the device does with it is used only where the job is run.
  abbrev pub apply : StationState S → Job → ℕ → Stepped S → StationState S × Applied
  apply s job moment came = apply_from s job moment came (find (λ (t : InHand). is_key t.key job.key) s.taken)

  -- the first of the completions that are ready, if there is one, is handed out
  abbrev pub collect_first : StationState S → List Completion → StationState S × Option Completion
  collect_first s [] = (s, None)
  collect_first s (c ∷ cs) = (record s { ready = cs; journal = s.journal ++ Sent c.key ∷ [] }, Some c)

  -- what was ready first is handed out
  abbrev pub collect : StationState S → StationState S × Option Completion
  collect s = collect_first s s.ready

  -- ---- the ends of a device and of a channel

  -- The host is told that the device is gone. It is cut off and left in this state; what waits inside it is cancelled by that, and then what no hand
  -- took; what is in hands is cancelled when it comes back.
  abbrev pub remove : StationState S → S → StationState S × Bool
  remove s cut =
      if not s.live then (s, false)
      else (
        record s {
          device = cut;
          live = false;
          waiting = [];
          taken = map marked_removed s.taken;
          parked = [];
          ready = s.ready ++ map cancelled_parked s.parked ++ map cancelled_waiting s.waiting;
          journal = s.journal ++ Cut Removed ∷ map (λ (job : Job). Cancelled job.key) s.waiting;
        },
        true,
      )

  -- nothing is held
  abbrev pub emptied : StationState S → StationState S
  emptied s = record s { waiting = []; taken = []; parked = []; ready = [] }

  -- The channel ended: all that is held is forgotten, and the device of a live station is cut off and left in this state.
  abbrev pub drop_channel : StationState S → S → StationState S
  drop_channel s cut =
      if s.live then record (emptied s) { device = cut; live = false; journal = s.journal ++ Cut Dropped ∷ [] }
      else emptied s

  -- the session is over
  abbrev pub end : StationState S → S → StationState S
  end s cut = record (drop_channel s cut) { ended = true }

-- ---- the calls, with what they answer

-- a call of a station, and its answer
pub data StationCall : Type 0 where
  announces : Result (Unit {0}) AnnounceNo → StationCall
  -- a job that doesn't come is given back
  puts : Job → Option PutNo → StationCall
  -- a job that may not come is given back: the second is the one that is
  puts_unfit : Job → Job → StationCall
  takes : Given → StationCall
  applies : Planned → ℕ → Applied → StationCall
  collects : Option Completion → StationCall
  removes : Bool → StationCall
  drops ends : StationCall

-- whether a job was run
abbrev pub DidRun : Applied → Type 0
DidRun applied.Ran = Unit {0}
DidRun applied.Parked = Unit {0}
DidRun applied.Cancelled = ⊥
DidRun applied.Stale = ⊥

module _ {S : Type 0} where
  -- A station is made over a device. Where no memory was found for it, the device is given back as it was.
  abbrev pub StationMade : S → Result (StationState S) (StationNo S) → Type 0
  StationMade device (Ok made) = made ≡ new_station device
  StationMade device (Err refusal) = refusal.device ≡ device

  -- A job doesn't come for this cause, and nothing changes.
  abbrev pub PutRefused : StationState S → Job → PutWhy → StationState S → Type 0
  PutRefused old job why.Memory new = (put_refusal old job ≡ None) × (new ≡ old)
  PutRefused old job cause new = put old job ≡ (new, Some cause)

-- A device with states of the type S: what a run of it relates, the requests that wait in it, and what a cut relates.
module _ {S : Type 0} (Runs : S → Planned → ℕ → Step → List End → S → Type 0) (parked : S → List Parked) (Cuts : S → S → Type 0) where
  -- the device ran the job as it promises, and this came of it
  abbrev pub CameOf : S → Planned → ℕ → Stepped S → Type 0
  CameOf device planned moment came = Applies Runs parked device planned moment came.answer came.ends came.state

  -- The station before a call, and after it. Where memory runs out nothing changes.
  abbrev pub StationStep : StationState S → StationCall → StationState S → Type 0
  StationStep old (announces (Err no.Memory)) new = ((announce old).1 ≡ Ok tt) × (new ≡ old)
  StationStep old (announces answer) new = announce old ≡ (new, answer)
  StationStep old (puts job None) new = MayPut old job.key × (put old job ≡ (new, None))
  StationStep old (puts job (Some refusal)) new = MayPut old job.key × PutRefused old job refusal.why new × (refusal.job ≡ job)
  StationStep old (puts_unfit job back) new = (¬ (MayPut old job.key)) × (new ≡ old) × (back ≡ job)
  StationStep old (takes answer) new = take old ≡ (new, answer)
  StationStep old (applies planned moment answer) new =
      (came : Stepped S) × (apply old planned.job moment came ≡ (new, answer)) × (DidRun answer → CameOf old.device planned moment came)
  StationStep old (collects answer) new = collect old ≡ (new, answer)
  StationStep old (removes answer) new = (cut : S) × (remove old cut ≡ (new, answer)) × (answer ≡ true → CutsOff Cuts parked old.device cut)
  StationStep old drops new = (cut : S) × (drop_channel old cut ≡ new) × (old.live ≡ true → CutsOff Cuts parked old.device cut)
  StationStep old ends new = (cut : S) × (end old cut ≡ new) × (old.live ≡ true → CutsOff Cuts parked old.device cut)

  -- The station before calls, and after the last.
  abbrev pub StationSteps : StationState S → List StationCall → StationState S → Type 0
  StationSteps old [] new = new ≡ old
  StationSteps old (call ∷ calls) new = (between : StationState S) × StationStep old call between × StationSteps between calls new
