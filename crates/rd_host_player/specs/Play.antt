-- What the calling thread of a host does: it comes to the lines of the script, has the applications issue theirs, and looks at channels and ends them. No public standard has one: these are
-- this project's own rules.
use Rattle.std.specs.Prelude.{◌≡◌, ◌⊎◌, ◌≤◌, ◌+◌, ◌==◌, ℕ, zero, suc, Bool, true, false, List, [], ◌∷◌, length, slice_get, slice_set, All, Option, Some, None}
use Rattle.rd_host_channel.specs.Calls.{HostPass}
use Rattle.rd_host_front.specs.declared.calls.Came.{Came}
use Rattle.rd_host_front.specs.declared.calls.Came.TheVariants as came
use Rattle.rd_host_front.specs.declared.calls.HostFrontCall.{HostFrontCall}
use Rattle.rd_host_front.specs.declared.calls.HostFrontCall.TheVariants as call
use Rattle.rd_host_front.specs.declared.calls.HostFrontReply.{HostFrontReply}
use Rattle.rd_host_front.specs.declared.calls.HostFrontReply.TheVariants as reply
use Rattle.rd_host_front.specs.Kept.{IsHandedBack}
use Rattle.rd_host_front.specs.State.{PassCalls, PassOfTable, TurnOfTable}
use Rattle.rd_issuer.specs.Issues.{HasAllOutcomes}
use Rattle.rd_issuer.specs.SideBySide.{RanSideBySide}
use Rattle.rd_issuer.specs.declared.issuer.Issuer.{Issuer}
use Rattle.rd_pending.specs.declared.calls.Stage.{Stage}
use Rattle.rd_script.specs.declared.line.Line.{Line}
use Rattle.rd_script.specs.declared.line.NumberedLine.{NumberedLine}
use Rattle.rd_table.specs.declared.calls.PendingCall.TheVariants as ask
use Rattle.rd_table.specs.declared.calls.PendingReply.TheVariants as answer
use Rattle.rd_turn.specs.History.{calls_of}
use Rattle.rd_turn.specs.Pass.{Called, GoesOn, IsLongerOf, IsSamePass, TurnId}
use Rattle.rd_world.specs.Run.{asked_by}
use Rattle.rd_world.specs.World.{Asked}
use Rattle.rd_host_player.specs.Plan.{acted_by}
use Rattle.rd_host_player.specs.declared.plan.Control.{Control}
use Rattle.rd_host_player.specs.declared.plan.Control.TheVariants as control
use Rattle.rd_host_player.specs.declared.player.Stop.{Stop}
use Rattle.rd_host_player.specs.declared.player.Stop.TheVariants as stop

-- ---- passes of the front

-- Another pass of the front was joined to the calling thread's.
pub record JoinsFront {F W : Type 0} (old other new : HostPass F W) : Type 0 where
  pub number : new.number ≡ 0
  pub made : new.made ≡ old.made
  pub out : suc new.out ≡ old.out
  pub joined : new.joined ≡ (other.number, length (calls_of other.number other.seen)) ∷ old.joined
  pub longer : IsLongerOf old.seen other.seen new.seen
  pub other_calls : calls_of other.number new.seen ≡ calls_of other.number other.seen
  pub goes_on : GoesOn old new

-- ---- lines

-- an application to one more of whose lines the script came
abbrev pub queued : Issuer → Issuer
queued i = record i { application = record i.application { queued = (i.application).queued + 1 } }

-- The script came to one more line of the application with this number.
abbrev pub QueuedAt : ℕ → List Issuer → List Issuer → Type 0
QueuedAt a old new = (place : ℕ) × (i : Issuer) × (slice_get old place ≡ Some i) × (i.number ≡ a) × (new ≡ slice_set old place (queued i))

-- The script comes to a line: where it is an application's, that may issue it.
abbrev pub HasCome : Line → List Issuer → List Issuer → Type 0
HasCome line old new = by (asked_by line)
  where
    by : Option (ℕ × Asked) → Type 0
    by None = new ≡ old
    by (Some asked) = QueuedAt asked.0 old new

-- Of each application all lines that the script came to have their outcomes.
abbrev pub HaveAllOutcomes : List Issuer → Type 0
HaveAllOutcomes issuers = All (λ (i : Issuer). HasAllOutcomes i.application) issuers

-- ---- what the calling thread keeps

-- The lines that are left, the applications, pass 0 of the table, and the front's turn with the thread's pass of it.
pub record PlayState (F W : Type 0) : Type 0 where
  pub lines : List NumberedLine
  pub issuers : List Issuer
  pub first : PassOfTable
  pub at : TurnId F
  pub front : HostPass F W

-- the same, of a front whose calls have these types
abbrev pub play_state : (F W : Type 0) → List NumberedLine → List Issuer → PassOfTable → TurnId F → HostPass F W → PlayState F W
play_state F W lines issuers first at front = record { lines = lines; issuers = issuers; first = first; at = at; front = front }

-- before lines of which no application is the next
abbrev pub AtControl : List NumberedLine → Type 0
AtControl [] = Unit {0}
AtControl (l ∷ lines) = (c : Control) × (acted_by l.line ≡ Some c)

-- as many devices are there as are waited for, or the channel is over
abbrev pub IsReady : ℕ → Stage → Type 0
IsReady devices stage = (stage.channel ≡ false) ⊎ (devices ≤ stage.lives)

module _ {F W : Type 0} where
  -- ---- one thing

  -- A pass calls the front.
  abbrev pub CallsFront : HostFrontCall W → HostFrontReply W → HostPass F W → HostPass F W → Type 0
  CallsFront does back old new = IsSamePass old new × Called old does back new

  -- It comes to the next line.
  abbrev pub ComesTo : NumberedLine → PlayState F W → PlayState F W → Type 0
  ComesTo l old new = (old.lines ≡ l ∷ new.lines) × HasCome l.line old.issuers new.issuers × (new ≡ record old { lines = new.lines; issuers = new.issuers })

  -- It comes to a line that it acts itself.
  abbrev pub ComesToControl : Control → PlayState F W → PlayState F W → Type 0
  ComesToControl c old new = (l : NumberedLine) × ComesTo l old new × (acted_by l.line ≡ Some c)

  -- The applications issue what they may beside each other, each with a pass of its own that is split from pass 0 and joined to it again.
  abbrev pub Runs : PlayState F W → PlayState F W → Type 0
  Runs old new = RanSideBySide old.first new.first old.issuers new.issuers × GoesOn old.first new.first × (new ≡ record old { issuers = new.issuers; first = new.first })

  -- It looks how far the channel got, by pass 0 of this turn of the table.
  abbrev pub Looks : TurnOfTable → Stage → PlayState F W → PlayState F W → Type 0
  Looks turn stage old new = PassCalls turn old.first ask.Stage (answer.Stands stage) new.first × (new ≡ record old { first = new.first })

  -- It asks the front to end the channel once all was sent. Pass 0 of the table comes back with what came of it.
  abbrev pub TriesToEnd : Bool → Came → PlayState F W → PlayState F W → Type 0
  TriesToEnd anew what old new =
      CallsFront (call.DropSent old.first anew) (reply.First new.first what) old.front new.front
      × IsHandedBack old.first new.first × (new ≡ record old { first = new.first; front = new.front })

  -- It asks the front to begin a channel of this number.
  abbrev pub Begins : ℕ → Came → PlayState F W → PlayState F W → Type 0
  Begins channel what old new =
      CallsFront (call.Begin channel old.first) (reply.First new.first what) old.front new.front
      × IsHandedBack old.first new.first × (new ≡ record old { first = new.first; front = new.front })

  -- ---- one after the other

  -- so many lines that it doesn't act itself
  abbrev pub CameTo : ℕ → PlayState F W → PlayState F W → Type 0
  CameTo zero old new = new ≡ old
  CameTo (suc n) old new = (here : PlayState F W) × (l : NumberedLine) × CameTo n old here × (acted_by l.line ≡ None) × ComesTo l here new

  abbrev pub Ran : ℕ → PlayState F W → PlayState F W → Type 0
  Ran zero old new = new ≡ old
  Ran (suc n) old new = (here : PlayState F W) × Ran n old here × Runs here new

  -- It comes to all lines before the next one that it acts itself, and has the applications issue them, once or more often.
  abbrev pub Issued : PlayState F W → PlayState F W → Type 0
  Issued old new = (lines : ℕ) × (times : ℕ) × (here : PlayState F W) × CameTo lines old here × AtControl here.lines × Ran (suc times) here new

  abbrev pub Looked : TurnOfTable → ℕ → PlayState F W → PlayState F W → Type 0
  Looked turn zero old new = new ≡ old
  Looked turn (suc n) old new = (here : PlayState F W) × (stage : Stage) × Looked turn n old here × Looks turn stage here new

  -- It looks until as many devices are there, or the channel is over.
  abbrev pub Waited : TurnOfTable → ℕ → PlayState F W → PlayState F W → Type 0
  Waited turn devices old new = (times : ℕ) × (here : PlayState F W) × (stage : Stage) × Looked turn times old here × Looks turn stage here new × IsReady devices stage

  -- so many tries in vain to end the channel; at the first one the front's pass is renewed
  abbrev pub Tried : ℕ → PlayState F W → PlayState F W → Type 0
  Tried zero old new = new ≡ old
  Tried (suc n) old new = (here : PlayState F W) × Tried n old here × TriesToEnd (n == 0) came.NotYet here new

  -- and one by which it ended
  abbrev pub Ended : PlayState F W → PlayState F W → Type 0
  Ended old new = (times : ℕ) × (here : PlayState F W) × Tried times old here × TriesToEnd (times == 0) came.Done here new

  -- ---- the script

  -- Lines are issued, and then one is acted: the channel ends; or it goes on, where one is to begin and this is open still.
  abbrev pub Acts : TurnOfTable → PlayState F W → PlayState F W → Type 0
  Acts turn old new =
      (here : PlayState F W) × (next : PlayState F W) × Issued old here
      × ((ComesToControl control.Drop here next × Ended next new) ⊎ ((stage : Stage) × ComesToControl control.Connect here next × Looks turn stage next new × (stage.channel ≡ true)))

  abbrev pub Acted : TurnOfTable → ℕ → PlayState F W → PlayState F W → Type 0
  Acted turn zero old new = new ≡ old
  Acted turn (suc n) old new = (here : PlayState F W) × Acted turn n old here × Acts turn here new

  -- Lines are issued, and then a channel is to begin where none is open; or the script is at its end, with which the channel ends, and what is left then is issued: each line has its outcome.
  abbrev pub Stops : TurnOfTable → Stop → PlayState F W → PlayState F W → Type 0
  Stops turn stop.Connect old new =
      (here : PlayState F W) × (next : PlayState F W) × (stage : Stage) × Issued old here × ComesToControl control.Connect here next × Looks turn stage next new × (stage.channel ≡ false)
  Stops turn stop.End old new = (here : PlayState F W) × (next : PlayState F W) × Issued old here × (here.lines ≡ []) × Ended here next × Issued next new × HaveAllOutcomes new.issuers

  -- What it does on a channel that began.
  abbrev pub Plays : TurnOfTable → ℕ → Stop → PlayState F W → PlayState F W → Type 0
  Plays turn devices why old new =
      (here : PlayState F W) × (times : ℕ) × (next : PlayState F W) × Waited turn devices old here × Acted turn times here next × Stops turn why next new

  -- so many lines that are only passed over, where no channel is to begin or to end any more, each behind those that were issued
  abbrev pub Passed : ℕ → PlayState F W → PlayState F W → Type 0
  Passed zero old new = new ≡ old
  Passed (suc n) old new =
      (here : PlayState F W) × (next : PlayState F W) × (c : Control) × Passed n old here × Issued here next × ComesToControl c next new

  -- It issues all lines that are left: each has its outcome.
  abbrev pub PlaysOut : PlayState F W → PlayState F W → Type 0
  PlaysOut old new = (times : ℕ) × (here : PlayState F W) × Passed times old here × Issued here new × (new.lines ≡ []) × HaveAllOutcomes new.issuers
