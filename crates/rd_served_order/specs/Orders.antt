-- In which order a client reads and writes on a channel, by the parts of a front's history.
use Rattle.std.specs.Prelude.{◌≡◌, ◌⊎◌, ℕ, ◌==◌, Bool, true, false, if◌then◌else◌, List, [], ◌∷◌, ◌++◌, reverse, filter, None}
use Rattle.std.specs.List.{AllByRecursion}
use Rattle.rd_client.specs.Core.{AreDevices, new_client}
use Rattle.rd_client.specs.Events.{AreWritable}
use Rattle.rd_client.specs.Order.{ClientOrder, client_at_first, stand_after}
use Rattle.rd_devices.specs.declared.list.Announce.{Announce}
use Rattle.rd_hello.specs.Moves.{Move, reads, writes}
use Rattle.rd_declared.specs.Devices.{PrinterNames}
use Rattle.rd_world.specs.Opening.{AreShort}
use Rattle.rd_declared.specs.Printers.{AreShortNames}
use Rattle.rd_deeds.specs.Talk.{Deed, is_removed}
use Rattle.rd_served.specs.Deeds.{deeds_after, deeds_of}
use Rattle.rd_served.specs.Histories.{BeginsNew}
use Rattle.rd_served.specs.Parts.{FrontPart, begins}
use Rattle.rd_served.specs.Served.{Served}

-- ---- where a history begins

-- A new front over a new client with these devices, which are short and can be written, as are the names of its printers: what a client and its printers are made with.
pub record BeginsWith (devices : List Announce) (s : Served) : Type 0 where
  pub new : BeginsNew s
  pub client : (s.front).client ≡ new_client devices
  pub are : AreDevices devices
  pub short : AreShort devices
  pub writable : AreWritable devices
  pub names : AllByRecursion (λ (p : ℕ × PrinterNames). AreShortNames p.1) (s.front).printers

-- ---- what was done before a channel

-- What the client had done when each channel began, by a part, by parts and by the parts of calls; before them it had done that.
abbrev pub until_by : FrontPart → List Deed → (ℕ → List Deed) → ℕ → List Deed
until_by (begins channel) before until c = if channel == c then before else until c
until_by _ before until c = until c

abbrev pub until_after : List FrontPart → List Deed → (ℕ → List Deed) → ℕ → List Deed
until_after [] before until = until
until_after (p ∷ ps) before until = until_after ps (deeds_of p ++ before) (until_by p before until)

abbrev pub until_calls : List (List FrontPart) → List Deed → (ℕ → List Deed) → ℕ → List Deed
until_calls [] before until = until
until_calls (ps ∷ pss) before until = until_calls pss (deeds_after ps before) (until_after ps before until)

-- nothing was done yet
abbrev pub none_until : ℕ → List Deed
none_until c = []

-- whether a device was removed, and not added since, when a channel began
abbrev pub is_gone_until : List (List FrontPart) → ℕ → ℕ → Bool
is_gone_until parts c device = is_removed device (until_calls parts [] none_until c)

-- ---- the order

abbrev pub is_writing : Move → Bool
is_writing (writes message) = true
is_writing (reads message) = false

-- Of these moves, the newest first, one reads a message that is out of order there; what is kept of them is what was before, and what was written since.
pub record IsCutAt (devices : List Announce) (gone : ℕ → Bool) (moves kept : List Move) : Type 0 where
  pub later : List Move
  pub earlier : List Move
  pub message : List ℕ
  pub moves_are : moves ≡ later ++ reads message ∷ earlier
  pub kept_are : kept ≡ filter is_writing later ++ earlier
  pub wrong : stand_after devices gone client_at_first (reverse (reads message ∷ earlier)) ≡ None

-- Moves, the newest first, are in order; or one of them reads a message that is wrong, and the others are, but for what was read since.
pub record AreMovesInOrder (devices : List Announce) (gone : ℕ → Bool) (moves : List Move) : Type 0 where
  pub kept : List Move
  pub order : ClientOrder devices gone (reverse kept)
  pub all : (kept ≡ moves) ⊎ IsCutAt devices gone moves kept
