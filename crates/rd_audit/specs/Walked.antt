-- How far the journals were gone over, line by line.
use Rattle.std.specs.Prelude.{◌≡◌, ℕ, ◌+◌, ◌≤◌, if◌then◌else◌, List, [], ◌∷◌, Option, Some, None}
use Rattle.std.specs.List.{AllByRecursion}
use Rattle.rd_base.specs.declared.journal.Item.{Item}
use Rattle.rd_declared.specs.Devices.{Declared, device_parked}
use Rattle.rd_audit_file.specs.declared.line.JournalLine.{JournalLine}
use Rattle.rd_audit_file.specs.declared.line.JournalLine.TheVariants.{Device, Entry}
use Rattle.rd_recorded.specs.Channels.{HeardChannel}
use Rattle.rd_audit.specs.declared.journals.Walk.{Walk}
use Rattle.rd_audit.specs.declared.replay.Replay.{Replay}
use Rattle.rd_audit.specs.declared.verdict.Verdict.{Verdict}
use Rattle.rd_audit.specs.declared.verdict.Verdict.TheVariants as verdict
use Rattle.rd_audit.specs.Kept.{ReplaysAs, KeepsAccount}
use Rattle.rd_audit.specs.Replayed.{Account, DeviceSoFar, account_after, account_new, agrees, standing_after, standing_new}

-- A place among the lines: the devices that are still to come, the one whose journal is gone over, and what came of the requests so far.
pub record LinePlace : Type 0 where
  pub devices : List (ℕ × Declared)
  pub standing : Option DeviceSoFar
  pub account : Account

abbrev pub first_place : List (ℕ × Declared) → LinePlace
first_place devices = record { devices = devices; standing = None; account = account_new }

-- an entry that doesn't agree with its device
abbrev pub found_by : List HeardChannel → Option DeviceSoFar → JournalLine → Option Verdict
found_by channels standing (Device id) = None
found_by channels None (Entry entry) = None
found_by channels (Some d) (Entry entry) = if agrees channels d entry then None else Some (verdict.Mark d.device (d.count + 1))

-- behind the line of a device, which begins the journal of the next one
abbrev pub place_begun : LinePlace → LinePlace
place_begun p = by p.devices
  where
    by : List (ℕ × Declared) → LinePlace
    by [] = record p { standing = None }
    by (d ∷ devices) = record p { devices = devices; standing = Some (standing_new d) }

-- behind an entry
abbrev pub place_entered : List HeardChannel → LinePlace → Item → LinePlace
place_entered channels p entry = by p.standing
  where
    by : Option DeviceSoFar → LinePlace
    by None = p
    by (Some d) = record p { standing = Some (standing_after channels d entry); account = account_after channels d entry p.account }

abbrev pub place_after : List HeardChannel → LinePlace → JournalLine → LinePlace
place_after channels p (Device id) = place_begun p
place_after channels p (Entry entry) = place_entered channels p entry

-- the code's device stands there, if there is one, and its journal has no more entries than this
abbrev pub StandsAs : ℕ → Option Replay → Option DeviceSoFar → Type 0
StandsAs most None standing = standing ≡ None
StandsAs most (Some replay) standing = (d : DeviceSoFar) × (standing ≡ Some d) × ReplaysAs replay d × (d.count ≤ most)

-- no request waits in a device
abbrev pub HasNoneWaiting : ℕ × Declared → Type 0
HasNoneWaiting d = device_parked (d.1).state ≡ []

-- the first of devices that are left begins, if one is left
abbrev pub BeginsNext : (old new : List (ℕ × Declared)) → Option Replay → Type 0
BeginsNext [] new begun = (new ≡ []) × (begun ≡ None)
BeginsNext (d ∷ devices) new begun = (new ≡ devices) × ((replay : Replay) × (begun ≡ Some replay) × ReplaysAs replay (standing_new d))

-- the code is at a place, behind no more entries than this
pub record WalksAt (channels : List HeardChannel) (p : LinePlace) (most : ℕ) (walk : Walk) : Type 0 where
  pub devices : walk.devices.entries ≡ p.devices
  pub quiet : AllByRecursion HasNoneWaiting p.devices
  pub stands : StandsAs most walk.replay p.standing
  pub keeps : KeepsAccount channels p.account walk.replayed
