-- What a request does to those that wait in a device, whatever the device is.
use Rattle.std.specs.Prelude.{◌≡◌, ◌≤◌, ◌==◌, ◌⊎◌, Bool, true, false, List, [], ◌∷◌, ◌++◌, length}
use Rattle.rd_base.specs.declared.journal.Key.{Key}
use Rattle.rd_irp.specs.declared.op.Op.{Op}
use Rattle.rd_irp.specs.declared.op.Op.TheVariants as op
use Rattle.rd_irp.specs.declared.completion.Kind.{Kind}
use Rattle.rd_irp.specs.declared.completion.Reply.{Reply}
use Rattle.rd_irp.specs.Fits.{kind_of, BodyFits, IsReplyTo, IsSendable}
use Rattle.rd_drive.specs.declared.plan.Job.{Job}
use Rattle.rd_drive.specs.declared.step.Step.{Step}
use Rattle.rd_drive.specs.declared.step.Step.TheVariants as step
use Rattle.rd_drive.specs.declared.step.End.{End}
use Rattle.rd_base.specs.Statuses.{no_memory}

-- a request that waits: its key, and the layout of its completion
pub record Parked : Type 0 where
  pub key : Key
  pub kind : Kind

-- a reply with which a request of this layout may be completed, and that can be sent
abbrev pub CompletesKind : Kind → Reply → Type 0
CompletesKind kind reply = BodyFits kind reply.status reply.body × IsSendable reply.body

-- An end is a waiting request's: it has its key, and a reply of its layout.
abbrev pub IsEndOf : Parked → End → Type 0
IsEndOf waiting ended = (ended.key ≡ waiting.key) × CompletesKind waiting.kind ended.reply

-- Some of the requests that wait end, and the others wait on: both in the order in which they began to wait.
abbrev pub AreEnded : List Parked → List End → List Parked → Type 0
AreEnded [] ends left = (ends ≡ []) × (left ≡ [])
AreEnded (waiting ∷ others) ends left =
    ((first : End) × (further : List End) × (ends ≡ first ∷ further) × IsEndOf waiting first × AreEnded others further left)
    ⊎ ((rest : List Parked) × (left ≡ waiting ∷ rest) × AreEnded others ends rest)

-- the request itself, where it waits
abbrev pub parked_by : Job → Step → List Parked
parked_by job step.Parked = record { key = job.key; kind = kind_of job.op } ∷ []
parked_by job (step.Reply reply) = []

-- whether an operation may wait: it asks to be told of a change (MS-RDPEFS 2.2.3.3.11), or for locks as soon as it can get them (2.2.3.3.12)
abbrev pub may_wait : Op → Bool
may_wait (op.Notify deep filter) = true
may_wait (op.Lock operation wait ranges) = wait
may_wait _ = false

-- an answer that is a reply is one to the operation; only one that may wait is left waiting
abbrev pub IsAnswerTo : Op → Step → Type 0
IsAnswerTo op step.Parked = may_wait op ≡ true
IsAnswerTo op (step.Reply reply) = IsReplyTo op reply

-- What a job does to the requests that wait: some end, and where it isn't answered it waits after the others. At most 64 wait.
pub record Parks (job : Job) (before : List Parked) (answer : Step) (ends : List End) (after : List Parked) : Type 0 where
  pub left : List Parked
  pub ended : AreEnded before ends left
  pub waits : after ≡ left ++ parked_by job answer
  pub few : length after ≤ 64

-- whether an answer says that no memory was found
abbrev pub is_starved : Step → Bool
is_starved step.Parked = false
is_starved (step.Reply reply) = reply.status.0 == no_memory.0

-- whether an answer says that the request waits
abbrev pub is_parked : Step → Bool
is_parked step.Parked = true
is_parked (step.Reply reply) = false
