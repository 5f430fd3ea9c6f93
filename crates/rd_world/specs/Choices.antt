-- What can happen by itself, as sets of places, in the order of a draw.
use Rattle.std.specs.Prelude.{◌≡◌, ℕ, Bool, true, false, if◌then◌else◌, List, [], ◌∷◌, ◌++◌, map}
use Rattle.std.specs.List.{flat_map}
use Rattle.rd_world.specs.Bits.{has, where_holds}
use Rattle.rd_world.specs.declared.choices.Choices.{Choices}
use Rattle.rd_world.specs.declared.choices.Choice.{Choice}
use Rattle.rd_world.specs.declared.choices.Choice.TheVariants as choice

-- the places of a word, rising
abbrev pub places : ℕ → List ℕ
places word = where_holds (has word) 64

-- a choice, where there is it
abbrev pub choice_where : Bool → Choice → List Choice
choice_where b c = if b then c ∷ [] else []

-- the takes, by device and then by hand
abbrev pub takes_in : Choices → List Choice
takes_in c = flat_map (λ device. map (choice.Take device) (places c.free)) (places c.waiting)

-- what can happen by itself, in its order
abbrev pub choices_in : Choices → List Choice
choices_in c =
    map choice.Issue (places c.issues)
    ++ choice_where c.host_sends choice.HostSend
    ++ choice_where c.client_reads choice.ClientRead
    ++ choice_where c.client_sends choice.ClientSend
    ++ map choice.Collect (places c.collects)
    ++ choice_where c.host_reads choice.HostRead
    ++ takes_in c
    ++ map choice.Apply (places c.full)

-- ---- a worked case

-- Application 3 may issue, both ends may send, the first device may be collected from, the host may read, jobs wait at the second and the fourth
-- device, hands 1 and 3 are free, and hand 2 is full.
pub record AreWorked (c : Choices) : Type 0 where
  pub issues : c.issues ≡ 4
  pub host_sends : c.host_sends ≡ true
  pub client_reads : c.client_reads ≡ false
  pub client_sends : c.client_sends ≡ true
  pub collects : c.collects ≡ 1
  pub host_reads : c.host_reads ≡ true
  pub waiting : c.waiting ≡ 10
  pub free : c.free ≡ 5
  pub full : c.full ≡ 2

abbrev pub worked_order : List Choice
worked_order =
    choice.Issue 2 ∷ choice.HostSend ∷ choice.ClientSend ∷ choice.Collect 0 ∷ choice.HostRead
    ∷ choice.Take 1 0 ∷ choice.Take 1 2 ∷ choice.Take 3 0 ∷ choice.Take 3 2 ∷ choice.Apply 1 ∷ []
