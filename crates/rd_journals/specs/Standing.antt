-- Which keys a client's completions answer: those that a journal sent, and those that never come.
use Rattle.std.specs.Prelude.{◌≡◌, ◌≢◌, ◌⊎◌, ℕ, true, false, List, Option, Some, None}
use Rattle.std.specs.List.{list_any}
use Rattle.std.specs.Option.{option_map}
use Rattle.rd_base.specs.declared.journal.Key.{Key}
use Rattle.rd_base.specs.declared.packet.Packet.TheVariants.{IoCompletion}
use Rattle.rd_client.specs.Core.{Outgoing}
use Rattle.rd_hello.specs.Moves.{is_of}
use Rattle.rd_station.specs.Memory.{NamesKey}
use Rattle.rd_station.specs.Station.{StationState}
use Rattle.rd_deeds.specs.Joining.{Stands}
use Rattle.rd_deeds.specs.Talk.{Deed, EachAfter, Has, is_completion_of}
use Rattle.rd_world.specs.World.{Kept, WorldState}
use Rattle.rd_declared.specs.declared.device.SessionDevice.{SessionDevice}
use Rattle.rd_journals.specs.Orderly.{HasStation}
use Rattle.rd_journals.specs.Reads.{IsGiven}

-- the journal of some station names the key
abbrev pub IsNamed : List (ℕ × StationState SessionDevice) → Key → Type 0
IsNamed stations key = (d : ℕ) × (s : StationState SessionDevice) × HasStation stations d s × NamesKey s.journal key

-- The key is of a request that was read, and no journal names it; nor is it that of the job that is still to come to its station.
pub record IsUnserved (channels asked : ℕ) (stations : List (ℕ × StationState SessionDevice)) (pending : Option Key) (key : Key) : Type 0 where
  pub given : IsGiven channels asked key
  pub unnamed : ¬ (IsNamed stations key)
  pub other : pending ≢ Some key

-- A message that is to be written answers a key of which this holds, or is no completion.
abbrev pub IsOut : (Key → Type 0) → Option Key → List ℕ → Type 0
IsOut U (Some key) message = U key
IsOut U None message = is_of IoCompletion message ≡ false

-- What was written stands in its place, and what is to be written will; each key that was completed is one that a journal names, or that never comes.
pub record AreStanding (channels asked : ℕ) (stations : List (ℕ × StationState SessionDevice)) (pending : Option Key) (outbox : List Outgoing) (deeds : List Deed) : Type 0 where
  pub stand : EachAfter Stands deeds
  pub out : (o : Outgoing) → Has o outbox → IsOut (IsUnserved channels asked stations pending) o.answers o.message
  pub closed : (key : Key) → list_any (is_completion_of key) deeds ≡ true → IsUnserved channels asked stations pending key ⊎ IsNamed stations key

-- the key of the job that is kept back
abbrev pub pending_of : Option Kept → Option Key
pending_of kept = option_map (λ (k : Kept). k.job.key) kept

abbrev pub IsStanding : WorldState → Type 0
IsStanding w = AreStanding w.channels (w.client).asked w.stations (pending_of w.kept) ((w.client).core).outbox w.deeds
