-- What the calls of a client's threads leave as it is, so that all passes come home at the end.
use Rattle.std.specs.Prelude.{◌≡◌, ℕ, Bool, List, [], All, Option}
use Rattle.rd_carry.specs.Outgoing.{OutgoingState}
use Rattle.rd_front.specs.Calls.{FrontEntry}
use Rattle.rd_front.specs.State.{DeviceDeskState, SessionPass}
use Rattle.rd_pool.specs.Desks.{DeskPass, DeskTurn}
use Rattle.rd_served_devices.specs.ServedDevices.{ServedDeviceState}
use Rattle.rd_turn.specs.Pass.{Belongs, PassState, TurnId}
use Rattle.rd_workers.specs.Logs.{WriterLog}

-- a turn and a pass of it: the pass's number, how many passes were split from it, and how many of these weren't joined
pub record CallerId (O : Type 0) : Type 0 where
  pub turn : TurnId O
  pub number : ℕ
  pub made : ℕ
  pub out : ℕ

abbrev pub caller_id : {O C R : Type 0} → TurnId O → PassState O C R → CallerId O
caller_id turn p = record { turn = turn; number = p.number; made = p.made; out = p.out }

-- A writer: what it calls the front by, and its own calls of it; the channel that began last, the half of it that is written to while it is on, and whether no memory was
-- found for a message of it.
pub record WriterState (F : Type 0) : Type 0 where
  pub front : CallerId F
  pub own : List FrontEntry
  pub channel : ℕ
  pub half : Option OutgoingState
  pub starved : Bool

-- A reader: what it calls the front and the writer by, its own calls of the front, what those of the writer tell, the turns of the desks that it has hands at, and the moment at which
-- these run jobs, where it is told.
pub record ReaderState (F : Type 0) : Type 0 where
  pub front : CallerId F
  pub own : List FrontEntry
  pub writer : CallerId (WriterState F)
  pub written : WriterLog
  pub desks : List (DeskTurn ServedDeviceState)
  pub moment : Option ℕ

-- no passes were split from these, and they have seen no call
abbrev pub AreNew : {S : Type 0} → List (DeskPass S) → Type 0
AreNew passes = All (λ p. (p.made ≡ 0) × (p.out ≡ 0) × (p.seen ≡ [])) passes

-- a pass 0 from which none was split, and which has seen no call
abbrev pub IsUnused : {O C R : Type 0} → PassState O C R → Type 0
IsUnused p = (p.number ≡ 0) × (p.made ≡ 0) × (p.out ≡ 0) × (p.seen ≡ [])

-- a pass 0 to which all others were joined
abbrev pub IsRejoined : {O C R : Type 0} → PassState O C R → Type 0
IsRejoined p = (p.number ≡ 0) × (p.out ≡ 0)

-- A pass of a turn comes back from whoever called by it.
pub record ComesBack {O C R : Type 0} (turn : TurnId O) (old new : PassState O C R) : Type 0 where
  pub own : Belongs turn new
  pub number : new.number ≡ old.number
  pub made : new.made ≡ old.made
  pub out : new.out ≡ old.out

-- a pass is that of a desk, and belongs to its turn
abbrev pub IsPassOf : DeviceDeskState → SessionPass → Type 0
IsPassOf d p = Belongs d.turn p × (p ≡ d.pass)
