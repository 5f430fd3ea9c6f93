-- What holds of hands and of journals between two events.
use Rattle.std.specs.Prelude.{◌≡◌, ℕ, ◌<◌, Bool, true, List, [], ◌∷◌, ◌++◌, Some}
use Rattle.rd_base.specs.declared.journal.Cause.TheVariants.{Dropped}
use Rattle.rd_base.specs.declared.journal.Item.{Item}
use Rattle.rd_base.specs.declared.journal.Item.TheVariants.{Cut, Ran}
use Rattle.rd_base.specs.declared.journal.Key.{Key}
use Rattle.rd_drive.specs.declared.plan.Job.{Job}
use Rattle.rd_answered.specs.JournalsOrderly.{current}
use Rattle.rd_station.specs.Memory.{NamesKey}
use Rattle.rd_station.specs.Station.{StationState}
use Rattle.rd_station.specs.declared.held.InHand.{InHand}
use Rattle.rd_station.specs.declared.held.ParkedJob.{ParkedJob}
use Rattle.rd_deeds.specs.Talk.{Has, open_channel}
use Rattle.rd_world.specs.World.{WorldState, station_at}
use Rattle.rd_declared.specs.declared.device.SessionDevice.{SessionDevice}

-- each job that a station gave to a hand is in one
abbrev pub AreInHands : WorldState → Type 0
AreInHands w = (d : ℕ) (s : StationState SessionDevice) → station_at w d ≡ Some s → (t : InHand) → Has t s.taken → (job : Job) × Has (Some (d, job)) w.hands × (job.key ≡ t.key)

-- Where a device was cut off last since a channel ended, its journal names keys of channels before the one that is open, or begins next.
abbrev pub AreOver : WorldState → Type 0
AreOver w = (d : ℕ) (s : StationState SessionDevice) → station_at w d ≡ Some s → (earlier : List Item) → s.journal ≡ earlier ++ Cut Dropped ∷ []
    → (key : Key) → NamesKey s.journal key → key.channel < current (open_channel w.deeds) w.channels

-- what a station holds waits inside its device
pub record IsAtRest (s : StationState SessionDevice) : Type 0 where
  pub waiting : s.waiting ≡ []
  pub taken : s.taken ≡ []
  pub ready : s.ready ≡ []

-- what waits inside a device ran, and its journal says that it was left waiting
abbrev pub AreLeftParked : WorldState → Type 0
AreLeftParked w = (d : ℕ) (s : StationState SessionDevice) → station_at w d ≡ Some s → (p : ParkedJob) → Has p s.parked → (moment : ℕ) × (starved : Bool) × Has (Ran p.key moment starved true) s.journal
