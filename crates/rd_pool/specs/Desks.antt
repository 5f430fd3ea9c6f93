-- Some desks, and passes of them place by place.
use Rattle.std.specs.Prelude.{◌≡◌, ◌≢◌, ℕ, suc, ◌≤◌, List, [], ◌∷◌, length, All, Contains, Option}
use mathlib.Core.List.{IsPrefix}
use Rattle.rd_drive.specs.declared.step.Step.{Step}
use Rattle.rd_drive.specs.declared.step.End.{End}
use Rattle.rd_drive.specs.Device.{Parked}
use Rattle.rd_drive.specs.Planned.{Planned}
use Rattle.rd_station.specs.Station.{StationState}
use Rattle.rd_turn.specs.declared.object.Entry.{Entry}
use Rattle.rd_turn.specs.History.{Leads, calls_of}
use Rattle.rd_turn.specs.Pass.{Belongs, GoesOn, HasAllCalls, IsLongerOf, PassState, TurnId}
use Rattle.rd_desk.specs.declared.batch.Run.{Run}
use Rattle.rd_desk.specs.declared.calls.DeskCall.{DeskCall}
use Rattle.rd_desk.specs.declared.calls.DeskCall.TheVariants as call
use Rattle.rd_desk.specs.declared.calls.DeskReply.{DeskReply}
use Rattle.rd_desk.specs.Desk.{DeskStep, runs_of}
use Rattle.rd_desk.specs.Own.{GivesOwnBack, HasMoment}

-- the turn of a desk over a device with states of the type S, and a pass of it
abbrev pub DeskTurn : Type 0 → Type 0
DeskTurn S = TurnId (StationState S)

abbrev pub DeskPass : Type 0 → Type 0
DeskPass S = PassState (StationState S) DeskCall DeskReply

-- the turns of some desks, and the ids of their devices
pub record DesksState (S : Type 0) : Type 0 where
  pub ids : List ℕ
  pub turns : List (DeskTurn S)

-- passes that came home, and how many are still to come
pub record HomecomingState (S : Type 0) : Type 0 where
  pub home : List (DeskPass S)
  pub to_come : ℕ

-- each plan that the call gives back is to be run at the moment that was told, where one was
abbrev pub GivesThen : Option ℕ → Entry DeskCall DeskReply → Type 0
GivesThen told e = All (HasMoment told) (runs_of e.call)

-- the call is one by which a hand gives back and takes
abbrev pub IsByHand : Entry DeskCall DeskReply → Type 0
IsByHand e = (runs : List Run) × (e.call ≡ call.Work runs)

-- so it is unless the pass of this number made it
abbrev pub IsByHandBut : ℕ → Entry DeskCall DeskReply → Type 0
IsByHandBut number e = e.by ≢ number → IsByHand e

module _ {S : Type 0} where
  -- pass 0 of a turn: no call of it, nor of any pass that was joined to it, gives back a job that it wasn't given
  pub record IsFirst (turn : DeskTurn S) (p : DeskPass S) : Type 0 where
    pub own : Belongs turn p
    pub number : p.number ≡ 0
    pub gives : GivesOwnBack (calls_of 0 p.seen)
    pub joined : All (λ j. (j.0 ≢ 0) × GivesOwnBack (calls_of j.0 p.seen)) p.joined

  -- a pass that was split from it, whose calls give back what they were given
  pub record IsOther (turn : DeskTurn S) (p : DeskPass S) : Type 0 where
    pub own : Belongs turn p
    pub number : p.number ≢ 0
    pub gives : GivesOwnBack (calls_of p.number p.seen)

  -- a pass that was just split from it
  pub record IsFresh (turn : DeskTurn S) (p : DeskPass S) : Type 0 where
    pub own : Belongs turn p
    pub number : p.number ≢ 0
    pub fresh : calls_of p.number p.seen ≡ []

  -- This holds of each call of the pass, and of each that a pass made which was joined to it, if it is pass 0.
  pub record HoldsOfCalls (P : Entry DeskCall DeskReply → Type 0) (p : DeskPass S) : Type 0 where
    pub own : All P (calls_of p.number p.seen)
    pub joined : p.number ≡ 0 → All (λ j. (j.0 ≢ 0) × All P (calls_of j.0 p.seen)) p.joined

  -- what is given back so is to be run at the moment that was told
  abbrev pub KeepsMoment : Option ℕ → DeskPass S → Type 0
  KeepsMoment told p = HoldsOfCalls (GivesThen told) p

  -- each is a hand's
  abbrev pub AllByHand : DeskPass S → Type 0
  AllByHand p = HoldsOfCalls IsByHand p

  -- each is a hand's but those of the pass of this number
  abbrev pub AllByHandBut : ℕ → DeskPass S → Type 0
  AllByHandBut number p = HoldsOfCalls (IsByHandBut number) p

  -- pass 0 of the same turn, to which the other was joined: its list is the longer of both, has all calls of the other, and goes on from its own
  pub record IsJoined (both : DeskPass S × DeskPass S) (new : DeskPass S) : Type 0 where
    pub turn : (new.table ≡ both.0.table) × (new.opening ≡ both.0.opening)
    pub counts : (new.number ≡ 0) × (new.made ≡ both.0.made) × (suc new.out ≡ both.0.out)
    pub joined : new.joined ≡ (both.1.number, length (calls_of both.1.number both.1.seen)) ∷ both.0.joined
    pub longer : IsLongerOf both.0.seen both.1.seen new.seen
    pub other_calls : calls_of both.1.number new.seen ≡ calls_of both.1.number both.1.seen
    pub goes_on : GoesOn both.0 new

  -- A pass was joined to pass 0, now or before: the list of pass 0 begins with its list, and has just its calls of its number.
  pub record CameHome (p q : DeskPass S) : Type 0 where
    pub joined : Contains p.joined (q.number, length (calls_of q.number q.seen))
    pub list : IsPrefix q.seen p.seen
    pub calls : calls_of q.number p.seen ≡ calls_of q.number q.seen

  -- What a turn leaves that is closed with its pass 0: the station is where the whole history leads it. The numbers of its calls are of passes that were
  -- made, and none of these gives back a job that it wasn't given.
  pub record IsClosed (Runs : S → Planned → ℕ → Step → List End → S → Type 0) (parked : S → List Parked) (Cuts : S → S → Type 0) (both : DeskTurn S × DeskPass S) (station : StationState S) : Type 0 where
    pub number : both.1.number ≡ 0
    pub leads : Leads (DeskStep Runs parked Cuts) both.0.opening both.1.seen station
    pub all : HasAllCalls both.1
    pub numbers : All (λ e. e.by ≤ both.1.made) both.1.seen
    pub gives : (number : ℕ) → number ≤ both.1.made → GivesOwnBack (calls_of number both.1.seen)
