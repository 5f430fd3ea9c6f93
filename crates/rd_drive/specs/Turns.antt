-- What is done to a device, one thing after another.
use Rattle.std.specs.Prelude.{◌≡◌, ℕ, List, [], ◌∷◌, ◌++◌, map, IsFalse}
use Rattle.std.specs.List.{flat_map}
use Rattle.rd_base.specs.declared.journal.Key.{Key}
use Rattle.rd_base.specs.declared.journal.Cause.{Cause}
use Rattle.rd_base.specs.declared.journal.Item.{Item}
use Rattle.rd_base.specs.declared.journal.Item.TheVariants.{Ran, Cut}
use Rattle.rd_irp.specs.declared.op.Op.TheVariants.{Close}
use Rattle.rd_irp.specs.declared.request.Request.{Request}
use Rattle.rd_drive.specs.declared.step.Step.{Step}
use Rattle.rd_drive.specs.declared.step.End.{End}
use Rattle.rd_drive.specs.Planned.{Planned}
use Rattle.rd_drive.specs.Device.{Parked, is_parked, is_starved}
use Rattle.rd_drive.specs.Outcome.{fault}
use Rattle.rd_drive.specs.DriveState.{DriveState}
use Rattle.rd_drive.specs.Replies.{KeyedReply, AreTold, end_reply, last_state, own_reply, replies_of}
use Rattle.rd_base.specs.Statuses.{cancelled}

-- A job is run at a moment, with this answer and these ends; or the device is cut off while these requests wait.
pub data Turn : Type 0 where
  runs : Planned → ℕ → Step → List End → Turn
  cuts : Cause → List Parked → Turn

-- A device with states of the type S: what a run of it relates, the requests that wait, and what a cut relates.
module _ {S : Type 0} (Runs : S → Planned → ℕ → Step → List End → S → Type 0) (parked : S → List Parked) (Cuts : S → S → Type 0) where
  -- the device before a turn, and after it
  abbrev pub Takes : S → Turn → S → Type 0
  Takes old (runs planned moment answer ends) new =
      Runs old planned moment answer ends new × (planned.job.op ≡ Close → IsFalse (is_starved answer))
  Takes old (cuts cause waiting) new = (waiting ≡ parked old) × Cuts old new

  -- the device before turns, and after the last
  abbrev pub TakesAll : S → List Turn → S → Type 0
  TakesAll old [] new = new ≡ old
  TakesAll old (turn ∷ turns) new = (between : S) × Takes old turn between × TakesAll between turns new

-- the entry of a journal that tells of a turn
abbrev pub item_of : Turn → Item
item_of (runs planned moment answer ends) = Ran planned.job.key moment (is_starved answer) (is_parked answer)
item_of (cuts cause waiting) = Cut cause

-- a request that waited is cancelled
abbrev pub cancelled_reply : Parked → KeyedReply
cancelled_reply waiting = (waiting.key, fault cancelled)

-- the replies that a turn gives
abbrev pub turn_replies : Turn → List KeyedReply
turn_replies (runs planned moment answer ends) = own_reply planned.job.key answer ++ map end_reply ends
turn_replies (cuts cause waiting) = map cancelled_reply waiting

-- what a run runs is the request of its key
abbrev pub RunsItsRequest : (Key → Request) → Turn → Type 0
RunsItsRequest requests (runs planned moment answer ends) =
    let request = requests planned.job.key in
    (request.file ≡ planned.job.file) × (request.op ≡ planned.job.op)
RunsItsRequest requests (cuts cause waiting) = Unit {0}

-- A journal tells turns of a drive: it leaves the drive as they do, gives the same replies, and its marks are right.
pub record TellsTurns (old new : DriveState) (requests : Key → Request) (turns : List Turn) : Type 0 where
  pub state : last_state old requests (map item_of turns) ≡ new
  pub replies : replies_of old requests (map item_of turns) ≡ flat_map turn_replies turns
  pub marks : AreTold old requests (map item_of turns)
