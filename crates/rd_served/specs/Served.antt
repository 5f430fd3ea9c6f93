-- A front with the station of each of its desks, as the front's pass saw it last.
use Rattle.std.specs.Prelude.{◌≡◌, ◌≢◌, ◌∷◌, ◌++◌, ℕ, List, [], All}
use Rattle.std.specs.List.{AllByRecursion}
use Rattle.rd_base.specs.declared.journal.Item.{Item}
use Rattle.rd_desk.specs.declared.calls.DeskCall.{DeskCall}
use Rattle.rd_desk.specs.declared.calls.DeskCall.TheVariants as desk
use Rattle.rd_desk.specs.declared.calls.DeskReply.{DeskReply}
use Rattle.rd_front.specs.State.{DeviceDeskState, FrontState, SessionDeskStep, SessionStation}
use Rattle.rd_station.specs.Station.{StationCall, StationSteps, applies, takes}
use Rattle.rd_station.specs.declared.answers.Completion.{Completion}
use Rattle.rd_station.specs.declared.refusals.PutWhy.{PutWhy}
use Rattle.rd_turn.specs.declared.object.Entry.{Entry}
use Rattle.rd_turn.specs.History.{Leads, entry}
use Rattle.rd_world.specs.World.{Kept}
use Rattle.rd_served_devices.specs.ServedDevices.{served_cuts, served_parked, served_runs}

-- ---- what others do at a desk

-- a call by which a hand gives jobs back and takes others
abbrev pub IsHandCall : DeskCall → Type 0
IsHandCall (desk.Work runs) = Unit {0}
IsHandCall _ = ⊥

-- Each call that isn't the pass's own is a hand's.
abbrev pub AreHands : ℕ → List (Entry DeskCall DeskReply) → Type 0
AreHands number entries = All (λ e. e.by ≢ number → IsHandCall e.call) entries

-- what a hand does at a station: it takes a job, or gives one back
abbrev pub IsWork : StationCall → Type 0
IsWork (takes answer) = Unit {0}
IsWork (applies planned moment answer) = Unit {0}
IsWork _ = ⊥

-- A station goes on by what hands do.
pub record Works (old new : SessionStation) : Type 0 where
  pub calls : List StationCall
  pub work : AllByRecursion IsWork calls
  pub steps : StationSteps served_runs served_parked served_cuts old calls new

-- ---- one desk

-- All that the front's pass has seen at a desk leads to this station; what others did there is what hands do.
pub record IsStationed (d : DeviceDeskState) (s : SessionStation) : Type 0 where
  pub leads : Leads SessionDeskStep (d.turn).opening (d.pass).seen s
  pub hands : AreHands (d.pass).number (d.pass).seen

-- What the front's pass of a desk sees by a call: what hands did there since its call before, which leads the station on, and then the call itself.
pub record Sees (before after : DeviceDeskState) (first : SessionStation) (does : DeskCall) (back : DeskReply) (middle : SessionStation) : Type 0 where
  pub turn : after.turn ≡ before.turn
  pub number : (after.pass).number ≡ (before.pass).number
  pub others : List (Entry DeskCall DeskReply)
  pub hands : All (λ (e : Entry DeskCall DeskReply). IsHandCall e.call) others
  pub leads : Leads SessionDeskStep first others middle
  pub seen : (after.pass).seen ≡ ((before.pass).seen ++ others) ++ entry (before.pass).number does back ∷ []

-- The front calls a desk: from what the pass saw last the station went on by what hands did, and then by this call. All in all it stored these entries.
pub record CallsDesk (before after : DeviceDeskState) (first : SessionStation) (does : DeskCall) (back : DeskReply) (items : List Item) (last : SessionStation) : Type 0 where
  pub id : after.id ≡ before.id
  pub middle : SessionStation
  pub works : Works first middle
  pub sees : Sees before after first does back middle
  pub step : SessionDeskStep middle does back last
  pub stored : last.journal ≡ first.journal ++ items

-- ---- all of it

-- What is under way within a call: a job that is to come to its desk, one that its desk refused for this cause, or a completion that the desk of a device
-- handed out.
pub data Asking : Type 0 where
  idle : Asking
  asks : Kept → Asking
  refused : Kept → PutWhy → Asking
  hands : ℕ → Completion → Asking

pub record Served : Type 0 where
  pub front : FrontState
  pub asking : Asking
  -- one of each desk, in their order
  pub stations : List SessionStation
