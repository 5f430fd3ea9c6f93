-- A hand: a worker at a desk, by its pass.
use Rattle.rd_station.specs.Station.{StationState}
use Rattle.rd_turn.specs.Pass.{PassState, TurnId}
use Rattle.rd_desk.specs.declared.calls.DeskCall.{DeskCall}
use Rattle.rd_desk.specs.declared.calls.DeskReply.{DeskReply}

-- the turn of a desk over a device with states of the type S, and a pass of it
pub record HandState (S : Type 0) : Type 0 where
  pub turn : TurnId (StationState S)
  pub pass : PassState (StationState S) DeskCall DeskReply
