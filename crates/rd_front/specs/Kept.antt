-- What the calls of a front keep.
use Rattle.std.specs.Prelude.{◌≡◌, ◌≤◌, List, [], ◌∷◌, length, All}
use Rattle.std.specs.List.{AllZip}
use Rattle.rd_desk.specs.declared.calls.DeskCall.{DeskCall}
use Rattle.rd_desk.specs.declared.calls.DeskCall.TheVariants as desk
use Rattle.rd_desk.specs.declared.calls.DeskReply.{DeskReply}
use Rattle.rd_turn.specs.Pass.{Called, IsSamePass}
use Rattle.rd_front.specs.State.{SessionPass, DeviceDeskState, FrontState}

-- no more messages stand in the core's outbox than are counted
abbrev pub IsCounted : FrontState → Type 0
IsCounted s = length ((s.client).core).outbox ≤ s.unsent

-- a call that a front makes of a desk: it takes no jobs, and gives none back
abbrev pub IsFrontCall : DeskCall → Type 0
IsFrontCall (desk.Work runs) = ⊥
IsFrontCall _ = Unit {0}

-- A pass makes these calls, each with its reply, one after the other.
abbrev pub GoesBy : SessionPass → List (DeskCall × DeskReply) → SessionPass → Type 0
GoesBy old [] new = new ≡ old
GoesBy old (c ∷ calls) new = (next : SessionPass) × IsSamePass old next × Called old c.0 c.1 next × GoesBy next calls new

-- A device keeps its id and its turn, and the front's pass its numbers; it goes on by calls that a front makes.
pub record DeskGoesOn (old new : DeviceDeskState) : Type 0 where
  pub id : new.id ≡ old.id
  pub turn : new.turn ≡ old.turn
  pub same : IsSamePass old.pass new.pass
  pub calls : List (DeskCall × DeskReply)
  pub fit : All (λ (c : DeskCall × DeskReply). IsFrontCall c.0) calls
  pub goes : GoesBy old.pass calls new.pass

-- the same of each device
abbrev pub DesksGoOn : FrontState → FrontState → Type 0
DesksGoOn old new = AllZip DeskGoesOn old.desks new.desks
