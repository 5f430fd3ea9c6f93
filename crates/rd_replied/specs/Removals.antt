-- Which completions come after the removal of their devices, and where that is told.
use Rattle.std.specs.Prelude.{◌≡◌, ◌⊎◌, ℕ, ◌==◌, ◌<◌, ◌^◌, true, List, [], ◌∷◌, ◌++◌, None, Some}
use Rattle.std.specs.List.{list_any}
use Rattle.rd_base.specs.declared.journal.Cause.TheVariants.{Removed}
use Rattle.rd_base.specs.declared.journal.Item.{Item}
use Rattle.rd_base.specs.declared.journal.Item.TheVariants.{Came, Cut}
use Rattle.rd_base.specs.declared.journal.Key.{Key}
use Rattle.rd_client.specs.Core.{Outgoing}
use Rattle.rd_journals.specs.Reads.{IsRead}
use Rattle.rd_deeds.specs.Talk.{Deed, EachAfter, Has, client_writes, completes, journal, open_channel, removed_in}

-- The device was cut off, since it was removed, after the key came; the newest entry stands first.
abbrev pub IsCutSince : List Item → Key → Type 0
IsCutSince [] key = ⊥
IsCutSince (Cut Removed ∷ older) key = Has (Came key) older ⊎ IsCutSince older key
IsCutSince (entry ∷ older) key = IsCutSince older key

-- That the device is gone was written on the key's channel, after its request was read.
abbrev pub IsGoneSince : ℕ → Key → List Deed → Type 0
IsGoneSince device key deeds =
    (late early : List Deed) × (message : List ℕ) × (deeds ≡ late ++ client_writes key.channel message ∷ early) × (list_any (λ id. id == device) (removed_in message) ≡ true) × IsRead device key early

-- a completion of a key after whose coming the device was cut off is written after that is told
abbrev pub TellsGone : List Deed → Deed → Type 0
TellsGone before (completes key message) = (device : ℕ) → IsCutSince (journal device before) key → IsGoneSince device key before
TellsGone before _ = Unit {0}

-- that the device is gone is still to be written
abbrev pub IsGoneSoon : ℕ → List Outgoing → Type 0
IsGoneSoon device outbox = (o : Outgoing) × Has o outbox × (o.answers ≡ None) × (device < 2 ^ 32 → list_any (λ id. id == device) (removed_in o.message) ≡ true)

-- Where a device was cut off after a key of the open channel came, that is told, or will be.
pub record AreGone (outbox : List Outgoing) (deeds : List Deed) : Type 0 where
  pub soon : (device : ℕ) (key : Key) → open_channel deeds ≡ Some key.channel → IsCutSince (journal device deeds) key → IsGoneSoon device outbox ⊎ IsGoneSince device key deeds
  pub each : EachAfter TellsGone deeds
