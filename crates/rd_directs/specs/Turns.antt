-- Which requests are still to be answered directly, and that their answers keep the order of reading.
use Rattle.std.specs.Prelude.{◌≡◌, ℕ, ◌==◌, ◌&&◌, not, if◌then◌else◌, Bool, List, [], ◌∷◌, ◌++◌, filter, Option, Some, None}
use Rattle.std.specs.List.{cons_option}
use Rattle.rd_base.specs.declared.journal.Item.{Item}
use Rattle.rd_base.specs.declared.journal.Key.{Key}
use Rattle.rd_client.specs.Core.{Outgoing}
use Rattle.rd_hello.specs.declared.end_fault.EndFault.{EndFault}
use Rattle.rd_irp.specs.declared.request.Request.{Request}
use Rattle.rd_journals.proofs.RunsParts.{IsBehind, MayBe, Part, client_hears_one, tries_one}
use Rattle.rd_script.specs.declared.line.NumberedLine.{NumberedLine}
use Rattle.rd_station.specs.Station.{StationState, held}
use Rattle.rd_world.specs.Events.{deed_on}
use Rattle.rd_deeds.specs.Talk.{Deed, Has, client_read, journal, request_in}
use Rattle.rd_deeds.specs.Told.{came, requests_to, told, told_at}
use Rattle.rd_world.specs.World.{Kept, WorldState, station_at}
use Rattle.rd_declared.specs.declared.device.SessionDevice.{SessionDevice}

-- the index of the job that is kept back, on a channel for a device
abbrev pub kept_at : ℕ → ℕ → Option Kept → Option ℕ
kept_at c d None = None
kept_at c d (Some k) = if k.job.key.channel == c && k.device == d then Some k.job.key.index else None

-- what is told once all that is to be written was
abbrev pub said : ℕ → ℕ → List Outgoing → List ℕ → List ℕ
said c d [] line = line
said c d (o ∷ others) line = said c d others (cons_option (told_at c d (deed_on c o)) line)

-- the indices that never came, by a journal
abbrev pub never : ℕ → List Item → List ℕ → List ℕ
never c j indices = filter (λ index. not (came c j index)) indices

-- Of the requests that never came some are in line, up to a last one; and all of them while the channel is open and nothing is wrong.
pub record DirectTurn (c : ℕ) (j : List Item) (requests line : List ℕ) (fault : Option EndFault) (opened : Option ℕ) : Type 0 where
  pub others : List ℕ
  pub stands : never c j requests ≡ others ++ never c j line
  pub all : fault ≡ None → opened ≡ Some c → others ≡ []

-- the same of a channel and a device, and of all
abbrev pub TurnIn : Option Kept → List Outgoing → List Deed → Option EndFault → Option ℕ → ℕ → ℕ → Type 0
TurnIn kept outbox deeds fault opened c d = DirectTurn c (journal d deeds) (requests_to d (client_read c deeds)) (cons_option (kept_at c d kept) (said c d outbox (told c d deeds))) fault opened

pub record Turns (kept : Option Kept) (outbox : List Outgoing) (deeds : List Deed) (fault : Option EndFault) (opened : Option ℕ) : Type 0 where
  pub at : (c d : ℕ) → TurnIn kept outbox deeds fault opened c d

abbrev pub InTurn : WorldState → Type 0
InTurn w = Turns w.kept ((w.client).core).outbox w.deeds ((w.client).core).fault ((w.side).table).channel

-- no job is held at the device's station with the completion id
abbrev pub NoneHeld : WorldState → ℕ → ℕ → Type 0
NoneHeld w d id = (s : StationState SessionDevice) → station_at w d ≡ Some s → (x : Key × ℕ) → Has x (held s) → x.1 ≡ id → ⊥

-- a request that is read, or tried again, meets no job with its completion id
abbrev pub MeetsNone : WorldState → Part → Type 0
MeetsNone w (client_hears_one m rest) = (r : Request) → request_in m ≡ Some r → NoneHeld w r.device r.completion
MeetsNone w (tries_one k) = NoneHeld w k.device k.job.completion
MeetsNone w _ = Unit {0}

abbrev pub MeetNone : List NumberedLine → (Key → Bool) → Type 0
MeetNone lines starves = (w : WorldState) (p : Part) → MayBe lines starves w p → IsBehind lines starves w → MeetsNone w p
