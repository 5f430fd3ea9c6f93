-- What an operation comes to, before it is seen which requests that wait it ends.
use Rattle.std.specs.Prelude.{ℕ, Bool, if◌then◌else◌, List, [], ◌∷◌, Option, Some, None}
use Rattle.rd_base.specs.declared.status.Status.{Status}
use Rattle.rd_irp.specs.declared.completion.Body.{Body}
use Rattle.rd_irp.specs.declared.completion.Body.TheVariants.{Fault}
use Rattle.rd_irp.specs.declared.completion.Reply.{Reply}
use Rattle.rd_dirinfo.specs.Paths.{Names}
use Rattle.rd_drive.specs.declared.step.Step.{Step}
use Rattle.rd_drive.specs.declared.step.Step.TheVariants as step
use Rattle.rd_drive.specs.DriveState.{DriveState, Handle, Node, handle_at, node_of_path}
use Rattle.rd_base.specs.Statuses.{success, invalid_handle}

-- a change, as those are told who watch a folder: what happened, to the node at which path, and the bits of the filters that ask for it
pub record Change : Type 0 where
  pub action : ℕ
  pub path : Names
  pub bits : ℕ

-- What the requests that wait have to know: the file id that was closed, the path of the file that may have fewer locks, and what changed, in
-- order.
pub record News : Type 0 where
  pub closed : Option ℕ
  pub unlocked : Option Names
  pub changes : List Change

-- the state after the operation, the answer to it, and its news
pub record Outcome : Type 0 where
  pub state : DriveState
  pub answer : Step
  pub news : News

abbrev pub no_news : News
no_news = record { closed = None; unlocked = None; changes = [] }

-- the news that something changed
abbrev pub changed : List Change → News
changed changes = record { closed = None; unlocked = None; changes = changes }

-- done, with this body
abbrev pub done : Body → Reply
done body = record { status = success; body = body }

-- not done
abbrev pub fault : Status → Reply
fault status = record { status = status; body = Fault }

-- the operation is answered, and changes nothing
abbrev pub outcome_with_reply : DriveState → Reply → Outcome
outcome_with_reply s reply = record { state = s; answer = step.Reply reply; news = no_news }

-- the operation is refused, and changes nothing
abbrev pub refused : DriveState → Status → Outcome
refused s status = outcome_with_reply s (fault status)

-- the operation is done: the state after it, the body of the reply, and the news
abbrev pub succeeded : DriveState → Body → News → Outcome
succeeded s body news = record { state = s; answer = step.Reply (done body); news = news }

-- The first check that applies answers the operation. Where none does, this comes of it.
unfoldable pub checked : DriveState → List (Bool × Reply) → Outcome → Outcome
checked s [] outcome = outcome
checked s (check ∷ checks) outcome = if check.0 then outcome_with_reply s check.1 else checked s checks outcome

-- the first outcome where the test holds, else the second
unfoldable pub one_of : Bool → Outcome → Outcome → Outcome
one_of test outcome other = if test then outcome else other

-- what there is goes on; where there is none the operation is refused
unfoldable pub given : {X : Type 0} → DriveState → Option X → Status → (X → Outcome) → Outcome
given s None status outcome = refused s status
given s (Some x) status outcome = outcome x

-- An operation on what a file id has open: its handle and the node. In a drive as requests make it each handle has its node.
abbrev pub on_handle : DriveState → ℕ → (Handle → Node → Outcome) → Outcome
on_handle s file outcome =
    given s (handle_at s file) invalid_handle (λ handle. given s (node_of_path s handle.path) invalid_handle (outcome handle))
