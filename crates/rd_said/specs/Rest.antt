-- What a client has still to say on a channel, as deeds, and what holds of it where the channel ended.
use Rattle.std.specs.Prelude.{◌≡◌, ℕ, false, List, [], ◌∷◌, ◌++◌, map, Some}
use Rattle.std.specs.List.{AllByRecursion}
use Rattle.std.specs.Option.{IfSome}
use Rattle.rd_acted.specs.Acted.{SayFirst, due_on}
use Rattle.rd_acted.specs.Waiting.{tellings_waiting}
use Rattle.rd_acted.specs.AnsweredRefusing.{AllRefuse}
use Rattle.rd_base.specs.declared.journal.Key.{Key}
use Rattle.rd_client.specs.Core.{Outgoing}
use Rattle.rd_acted.specs.DirectsTurns.{never, said}
use Rattle.rd_acted.specs.JournalsJobs.{IsAnswerOf, IsRefusalOf}
use Rattle.rd_world.specs.Acts.{Tells, tellings_on}
use Rattle.rd_declared.specs.Devices.{Declared}
use Rattle.rd_world.specs.Events.{deed_on}
use Rattle.rd_deeds.specs.Talk.{Deed, EndsWith, Has, client_read, client_wrote, journal}
use Rattle.rd_deeds.specs.Told.{came, requests_to, told, without_last}

-- what was done once all of this was written on a channel
abbrev pub deeds_then : ℕ → List Outgoing → List Deed → List Deed
deeds_then c [] deeds = deeds
deeds_then c (o ∷ os) deeds = deeds_then c os (deed_on c o ∷ deeds)

-- the message answers a request of the channel, if it answers one
abbrev pub IsAnswerOn : ℕ → Outgoing → Type 0
IsAnswerOn c o = IfSome o.answers (λ (key : Key). key.channel ≡ c)

-- a message that answers a key refuses its request, which never came
abbrev pub RefusesUnserved : ℕ → List Deed → Outgoing → Type 0
RefusesUnserved c deeds o = (key : Key) → o.answers ≡ Some key → IsAnswerOf IsRefusalOf deeds key o.message × ((device : ℕ) → came c (journal device deeds) key.index ≡ false)

-- This is what was left to be said on the channel: with it each request that never came, but for the last of all, is answered, by a refusal that is called for; and it tells
-- of devices what is due.
pub record WasLeft (devices : List (ℕ × Declared)) (c : ℕ) (os : List Outgoing) (deeds : List Deed) : Type 0 where
  pub on : AllByRecursion (IsAnswerOn c) os
  pub refuse : AllRefuse os (client_wrote c deeds)
  pub unserved : (o : Outgoing) → Has o os → RefusesUnserved c deeds o
  pub each : (device : ℕ) → EndsWith (never c (journal device deeds) (said c device os (told c device deeds))) (never c (journal device deeds) (requests_to device (without_last (client_read c deeds))))
  pub tells : SayFirst (Tells devices deeds c) (tellings_on c deeds ++ tellings_waiting os) (due_on (map (λ (d : ℕ × Declared). d.0) devices) c deeds)
