-- A station over a device that only counts its turns, for worked cases.
use Rattle.std.specs.Prelude.{◌≡◌, ℕ, zero, suc, ◌+◌, ◌==◌, if◌then◌else◌, false, List, [], ◌∷◌, map}
use Rattle.std.specs.List.{range_with_len}
use Rattle.rd_base.specs.declared.journal.Key.{Key}
use Rattle.rd_irp.specs.declared.op.Op.{Op}
use Rattle.rd_irp.specs.declared.op.Op.TheVariants as op
use Rattle.rd_irp.specs.declared.request.Request.{Request}
use Rattle.rd_irp.specs.declared.completion.Kind.{Kind}
use Rattle.rd_irp.specs.declared.completion.Kind.TheVariants as kind
use Rattle.rd_irp.specs.declared.completion.Body.TheVariants as body
use Rattle.rd_drive.specs.declared.plan.Job.{Job}
use Rattle.rd_drive.specs.declared.step.Step.{Step}
use Rattle.rd_drive.specs.declared.step.Step.TheVariants as step
use Rattle.rd_drive.specs.declared.step.End.{End}
use Rattle.rd_drive.specs.Device.{Parked}
use Rattle.rd_drive.specs.Outcome.{done}
use Rattle.rd_drive.specs.Planned.{Planned}
use Rattle.rd_drive.specs.Stepped.{Settled, Stepped}
use Rattle.rd_drive.specs.Replies.{cancellation}
use Rattle.rd_station.specs.declared.answers.Completion.{Completion}
use Rattle.rd_station.specs.Station.{StationState, announce, apply, completion_of, new_station, put, remove, take}

-- the key of the request at a place of the first channel
abbrev pub key : ℕ → Key
key n = record { channel = 1; index = n }

-- a close, and a notification, under a key and a completion id
abbrev pub close : ℕ → ℕ → Job
close n id = record { key = key n; file = 1; completion = id; op = op.Close }

abbrev pub notification : ℕ → ℕ → Job
notification n id = record { key = key n; file = 1; completion = id; op = op.Notify false 1 }

-- what a turn of the device comes to: the reply to a close and these ends, or that the request waits
abbrev pub closes : ℕ → List End → Stepped ℕ
closes turns ends = record { state = turns; answer = step.Reply (done body.Closed); ends = ends }

abbrev pub waits : ℕ → Stepped ℕ
waits turns = record { state = turns; answer = step.Parked; ends = [] }

-- the same device as a relation: a run and a cut each count one turn, and nothing waits in it
abbrev pub counts_run : ℕ → Planned → ℕ → Step → List End → ℕ → Type 0
counts_run turns planned moment answer ends new = new ≡ suc turns

abbrev pub counts_parked : ℕ → List Parked
counts_parked turns = []

abbrev pub counts_cut : ℕ → ℕ → Type 0
counts_cut turns new = new ≡ suc turns

-- the end of a notification, with no bytes
abbrev pub ended : ℕ → End
ended n = record { key = key n; reply = done (body.Buffer []) }

-- A device that counts its turns by a step and a cut: a notification waits in it, and what else is run ends that of the first key.
abbrev pub counts_step : ℕ → Key → ℕ → Op → ℕ → Stepped ℕ
counts_step turns k file (op.Notify deep filter) moment = waits (suc turns)
counts_step turns k file _ moment = closes (suc turns) (ended 0 ∷ [])

abbrev pub counts_settled : ℕ → Settled ℕ
counts_settled turns = record { state = suc turns; ends = [] }

-- the first key's request is a notification, and each other is a close
abbrev pub request_at : Key → Request
request_at k = record { device = 1; file = 1; completion = 7 + k.index; op = if k.index == 0 then op.Notify false 1 else op.Close }

-- a completion of a close, done or given up, and of a notification
abbrev pub closed : ℕ → ℕ → Completion
closed n id = completion_of (key n) id kind.Close (done body.Closed)

abbrev pub notified : ℕ → ℕ → Completion
notified n id = completion_of (key n) id kind.Buffer (done (body.Buffer []))

abbrev pub given_up : ℕ → ℕ → Kind → Completion
given_up n id k = completion_of (key n) id k cancellation

-- a station that the host wasn't told of, and one that it was
abbrev pub untold : StationState ℕ
untold = new_station 0

abbrev pub told : StationState ℕ
told = (announce untold).0

-- where these jobs came
abbrev pub with_jobs : StationState ℕ → List Job → StationState ℕ
with_jobs s [] = s
with_jobs s (job ∷ jobs) = with_jobs (put s job).0 jobs

-- that many closes
abbrev pub closes_to : ℕ → List Job
closes_to count = map (λ n. close n n) (range_with_len 0 count)

-- where so many jobs were taken
abbrev pub with_taken : ℕ → StationState ℕ → StationState ℕ
with_taken zero s = s
with_taken (suc count) s = with_taken count (take s).0

-- a close and a notification came and were taken, and the notification waits in the device
abbrev pub waiting : StationState ℕ
waiting = (apply (with_taken 2 (with_jobs told (notification 0 7 ∷ close 1 8 ∷ []))) (notification 0 7) 5 (waits 1)).0

-- then the close was run, and ended it
abbrev pub both_ready : StationState ℕ
both_ready = (apply waiting (close 1 8) 6 (closes 2 (ended 0 ∷ []))).0

-- a job in a hand, one that no hand took, and one that waits in the device, when the device is removed
abbrev pub removed : StationState ℕ
removed =
    let one_waits = (apply (with_taken 2 (with_jobs told (notification 0 7 ∷ close 1 8 ∷ close 2 9 ∷ []))) (notification 0 7) 5 (waits 1)).0 in
    (remove one_waits 10).0
