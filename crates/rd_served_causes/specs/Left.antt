-- What a client left of a channel: what was still to be written as it ended.
use Rattle.std.specs.Prelude.{ℕ, ◌==◌, ◌&&◌, Bool, if◌then◌else◌, List, [], ◌∷◌, ◌++◌}
use Rattle.rd_devices.specs.declared.list.Announce.{Announce}
use Rattle.rd_front.specs.State.{FrontState}
use Rattle.rd_front.specs.declared.calls.FrontCall.{FrontCall}
use Rattle.rd_front.specs.declared.calls.FrontReply.{FrontReply}
use Rattle.rd_turn.specs.declared.object.Entry.{Entry}
use Rattle.rd_world.specs.Acts.{tellings_on}
use Rattle.rd_world.specs.Control.{Act}
use Rattle.rd_deeds.specs.Talk.{Deed}
use Rattle.rd_deeds.specs.Told.{IsHeeded, Replies}
use Rattle.rd_served_order.specs.ServedHistories.{HistoryGoes}
use Rattle.rd_served_order.specs.ServedParts.{FrontPart, PartsGo, ends}
use Rattle.rd_served_order.specs.ServedServed.{Served}
use Rattle.rd_served_order.specs.Tellings.{TellsReady}
use Rattle.rd_served_refusals.specs.Heeding.{left_by}

-- ---- which rest each channel has

-- nothing is left of any channel
abbrev pub none_left : ℕ → List Deed
none_left c = []

-- of the channel that is on what stands in the core's outbox, of each other what was left of it before
abbrev pub rest_now : FrontState → (ℕ → List Deed) → ℕ → List Deed
rest_now s rests c = if s.on && s.channel == c then left_by s else rests c

-- It is left there as the channel ends.
abbrev pub rests_by : Served → FrontPart → (ℕ → List Deed) → ℕ → List Deed
rests_by p (ends over told) rests = rest_now p.front rests
rests_by p x rests = rests

-- by parts, and by those of the calls of a history, one after the other
abbrev pub rests_after : (old : Served) (ps : List FrontPart) (new : Served) → PartsGo old ps new → (ℕ → List Deed) → ℕ → List Deed
rests_after old [] new goes rests = rests
rests_after old (p ∷ ps) new goes rests = rests_after goes.0 ps new goes.2 (rests_by old p rests)

abbrev pub rests_calls : (old : Served) (entries : List (Entry FrontCall FrontReply)) (parts : List (List FrontPart)) (new : Served) → HistoryGoes old entries parts new → (ℕ → List Deed) → ℕ → List Deed
rests_calls old [] [] new goes rests = rests
rests_calls old (e ∷ es) (ps ∷ pss) new goes rests = rests_calls goes.0 es pss new goes.2 (rests_after old ps goes.0 (goes.1).goes rests)
rests_calls old _ _ new goes rests = rests

-- What is left of each channel after a history, the newest first: what stood in the core's outbox as it ended, or stands there while it is on.
abbrev pub rest_of : (old : Served) (entries : List (Entry FrontCall FrontReply)) (parts : List (List FrontPart)) (new : Served) → HistoryGoes old entries parts new → ℕ → List Deed
rest_of old entries parts new goes = rest_now new.front (rests_calls old entries parts new goes none_left)

-- ---- what holds of it

-- With this rest of a channel, the newest first, no request was passed over there but the last, and each completion is the answer to its key; and what was told of devices and is in the
-- rest says that the channel began, and then these acts, all of them, once the client was ready. Before, nothing was told.
pub record IsLeftOf (replies : Replies) (devices : List Announce) (gone : ℕ → Bool) (acts : List Act) (c : ℕ) (deeds rest : List Deed) : Type 0 where
  pub heeded : IsHeeded replies c deeds rest
  pub ready : Bool
  pub tells : TellsReady ready devices gone c (tellings_on c (rest ++ deeds)) acts
