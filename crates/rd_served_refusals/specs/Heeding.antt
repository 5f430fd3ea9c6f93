-- In which order a client answers requests that never come to a station, and that it passes over none but the last.
use Rattle.std.specs.Prelude.{◌≡◌, ℕ, ◌<◌, ◌^◌, ◌||◌, Bool, true, false, List, [], ◌∷◌, ◌++◌, All, Some}
use Rattle.std.specs.List.{AllByRecursion}
use Rattle.rd_client.specs.Core.{Outgoing}
use Rattle.rd_front.specs.State.{FrontState}
use Rattle.rd_front.specs.declared.calls.FrontCall.{FrontCall}
use Rattle.rd_front.specs.declared.calls.FrontCall.TheVariants as call
use Rattle.rd_front.specs.declared.calls.FrontReply.{FrontReply}
use Rattle.rd_front.specs.declared.calls.FrontReply.TheVariants as reply
use Rattle.rd_irp.specs.declared.request.Request.{Request}
use Rattle.rd_turn.specs.declared.object.Entry.{Entry}
use Rattle.rd_world.specs.Events.{deed_on}
use Rattle.rd_deeds.specs.Talk.{Deed, EndsWith, client_read, request_in}
use Rattle.rd_deeds.specs.Told.{IsLeft, requests_to, told, unserved, without_last}
use Rattle.rd_served.specs.Deeds.{deeds_after, deeds_of}
use Rattle.rd_front.specs.Calls.{hinders}
use Rattle.rd_served.specs.Histories.{HearBefore, HistoryGoes, stopped_by}
use Rattle.rd_served.specs.Parts.{FrontPart, PartsGo, ends}
use Rattle.rd_served.specs.Served.{Served}

-- ---- what is taken of a history

-- The device that a request names has room in its field; that holds of each message of bytes.
abbrev pub NamesInRoom : List ℕ → Type 0
NamesInRoom message = (r : Request) → request_in message ≡ Some r → r.device < 2 ^ 32

abbrev pub HearsInRoom : FrontCall → Type 0
HearsInRoom (call.Hear message) = NamesInRoom message
HearsInRoom _ = Unit {0}

abbrev pub HearInRoom : List (Entry FrontCall FrontReply) → Type 0
HearInRoom entries = AllByRecursion (λ (e : Entry FrontCall FrontReply). HearsInRoom e.call) entries

-- whether a reply hindered since the channel began
abbrev pub hindered_by : Bool → FrontCall → FrontReply → Bool
hindered_by was (call.Begin channel) (reply.Done at full) = false
hindered_by was does back = hinders back || was

-- A call has a message heard only before that; where the call doesn't fit, or too much stands in the outbox, it hears none.
abbrev pub HearsUnhindered : Bool → FrontCall → FrontReply → Type 0
HearsUnhindered was (call.Hear message) reply.Refused = Unit {0}
HearsUnhindered was (call.Hear message) reply.Full = Unit {0}
HearsUnhindered was (call.Hear message) back = was ≡ false
HearsUnhindered was does back = Unit {0}

abbrev pub HearUnhindered : Bool → List (Entry FrontCall FrontReply) → Type 0
HearUnhindered was [] = Unit {0}
HearUnhindered was (e ∷ es) = HearsUnhindered was e.call e.reply × HearUnhindered (hindered_by was e.call e.reply) es

-- ---- what is heard

-- whether a part stopped the channel since it began
abbrev pub stopped_after : Bool → List FrontPart → Bool
stopped_after was [] = was
stopped_after was (p ∷ ps) = stopped_after (stopped_by was p) ps

-- a message is heard only before that
abbrev pub CallsHearBefore : Bool → List (List FrontPart) → Type 0
CallsHearBefore was [] = Unit {0}
CallsHearBefore was (ps ∷ pss) = HearBefore was ps × CallsHearBefore (stopped_after was ps) pss

-- ---- direct answers

-- Of each device on each channel the answers to requests that never came to its station are in the order of reading, up to some.
abbrev pub AreDirectInOrder : List Deed → Type 0
AreDirectInOrder deeds = (c device : ℕ) → EndsWith (unserved c device deeds (requests_to device (client_read c deeds))) (unserved c device deeds (told c device deeds))

-- ---- what is left to be written

-- what was done once all that stands in an outbox is written on a channel
abbrev pub once_written : ℕ → List Outgoing → List Deed → List Deed
once_written c [] before = before
once_written c (o ∷ others) before = once_written c others (deed_on c o ∷ before)

-- what stands in the core's outbox, the newest first
abbrev pub left_by : FrontState → List Deed
left_by s = once_written s.channel ((s.client).core).outbox []

-- Each request on a channel that never came, but for the last request of all that was read there, was answered, by what was done or by this rest of it.
pub record PassesNone (c : ℕ) (deeds rest : List Deed) : Type 0 where
  pub left : All (IsLeft c) rest
  pub each : (device : ℕ) →
      EndsWith (unserved c device deeds (told c device (rest ++ deeds))) (unserved c device deeds (requests_to device (without_last (client_read c deeds))))

-- so it is where a channel ends, by what stands in the outbox before it
abbrev pub EndsHeeded : Served → List Deed → FrontPart → Type 0
EndsHeeded p deeds (ends over told) = (p.front).on ≡ true → PassesNone (p.front).channel deeds (left_by p.front)
EndsHeeded p deeds _ = Unit {0}

abbrev pub PartsEndHeeded : (old : Served) (deeds : List Deed) (ps : List FrontPart) (new : Served) → PartsGo old ps new → Type 0
PartsEndHeeded old deeds [] new goes = Unit {0}
PartsEndHeeded old deeds (p ∷ ps) new goes = EndsHeeded old deeds p × PartsEndHeeded goes.0 (deeds_of p ++ deeds) ps new goes.2

abbrev pub EachEndsHeeded : (old : Served) (deeds : List Deed) (entries : List (Entry FrontCall FrontReply)) (parts : List (List FrontPart)) (new : Served) → HistoryGoes old entries parts new → Type 0
EachEndsHeeded old deeds [] [] new goes = Unit {0}
EachEndsHeeded old deeds (e ∷ es) (ps ∷ pss) new goes = PartsEndHeeded old deeds ps goes.0 (goes.1).goes × EachEndsHeeded goes.0 (deeds_after ps deeds) es pss new goes.2
EachEndsHeeded old deeds _ _ new goes = ⊥
