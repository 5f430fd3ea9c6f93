-- What a front keeps: the client's core, what is kept for printers, the desks with its passes of them, and the job that is kept back.
use Rattle.std.specs.Prelude.{◌≡◌, ℕ, Bool, List, Option}
use Rattle.rd_client.specs.Core.{ClientCoreState}
use Rattle.rd_desk.specs.declared.calls.DeskCall.{DeskCall}
use Rattle.rd_desk.specs.declared.calls.DeskReply.{DeskReply}
use Rattle.rd_desk.specs.Desk.{DeskStep}
use Rattle.rd_printer.specs.Cache.{CacheState}
use Rattle.rd_served_devices.specs.ServedDevices.{IsServedReached, ServedDeviceState, served_cuts, served_parked, served_runs}
use Rattle.rd_station.specs.Station.{StationState}
use Rattle.rd_turn.specs.History.{IsLegal}
use Rattle.rd_turn.specs.Pass.{Belongs, Called, IsSamePass, PassState, TurnId}
use Rattle.rd_declared.specs.Devices.{PrinterNames}
use Rattle.rd_world.specs.World.{Kept}

-- the station of a device of a session
abbrev pub SessionStation : Type 0
SessionStation = StationState ServedDeviceState

-- a desk's step, over the devices of a session
abbrev pub SessionDeskStep : SessionStation → DeskCall → DeskReply → SessionStation → Type 0
SessionDeskStep = DeskStep served_runs served_parked served_cuts

-- the pass by which a desk is called
abbrev pub SessionPass : Type 0
SessionPass = PassState SessionStation DeskCall DeskReply

-- A device's id, the turn of its desk, and the front's pass of it.
pub record DeviceDeskState : Type 0 where
  pub id : ℕ
  pub turn : TurnId SessionStation
  pub pass : SessionPass

-- What a front keeps.
pub record FrontState : Type 0 where
  pub client : ClientCoreState
  pub printers : List (ℕ × PrinterNames)
  pub cache : CacheState
  pub desks : List DeviceDeskState
  -- the job that is kept back, since its desk is full
  pub kept : Option Kept
  -- the number of the channel that began last
  pub channel : ℕ
  -- whether it hasn't ended
  pub on : Bool
  -- whether the session is over
  pub over : Bool
  -- at most so many messages stand in the core's outbox
  pub unsent : ℕ

-- A reply is one that a desk gives to a call: its station came to be by its calls, and goes on by this one.
pub record IsDeskReply (call : DeskCall) (reply : DeskReply) : Type 0 where
  pub before : SessionStation
  pub after : SessionStation
  pub reached : IsServedReached before
  pub step : SessionDeskStep before call reply after

-- A call of a desk, made with the front's pass: what the pass has seen ends with the call and its reply, and all of it is a legal history of the desk.
pub record IsCalled (old : DeviceDeskState) (call : DeskCall) (reply : DeskReply) (new : DeviceDeskState) : Type 0 where
  pub id : new.id ≡ old.id
  pub turn : new.turn ≡ old.turn
  pub same : IsSamePass old.pass new.pass
  pub called : Called old.pass call reply new.pass
  pub legal : IsLegal SessionDeskStep (old.turn).opening (new.pass).seen
  pub replied : IsDeskReply call reply

-- The front's pass of a desk belongs to its turn, and the station that the turn was made with came to be by its calls.
pub record KeepsDesk (turn : TurnId SessionStation) (pass : SessionPass) : Type 0 where
  pub own : Belongs turn pass
  pub reached : IsServedReached turn.opening
