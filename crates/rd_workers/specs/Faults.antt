-- What a channel's end tells of faults, and a session's of the counts of its linker.
use Rattle.std.specs.Prelude.{◌≡◌, ℕ, ◌<◌, ◌-◌, ◌^◌, ◌⊎◌, ◌↔◌, Option, Some, Bool, true, false, IsTrue}
use Rattle.rd_base.specs.Faults.{one_more}
use Rattle.rd_carry.specs.declared.ended.Ended.{Ended}
use Rattle.rd_carry.specs.declared.ended.Ended.TheVariants as ended
use Rattle.rd_carry.specs.declared.ended.EndWhy.TheVariants as why
use Rattle.rd_carry.specs.declared.feeding.CarryNo.{CarryNo}
use Rattle.rd_carry.specs.declared.feeding.CarryNo.TheVariants as no
use Rattle.rd_link.specs.Links.{more_faults}
use Rattle.rd_workers.specs.declared.reader.Ending.{Ending}
use Rattle.rd_workers.specs.declared.reader.Ending.TheVariants as ending

-- why a channel is read no further whose input can't be
abbrev pub ending_of : CarryNo → Ending
ending_of no.Failed = ending.Unread
ending_of (no.Bad bad) = ending.Fault bad.at 0 (why.Chunk bad.why)
ending_of no.Long = ending.Long
ending_of no.Memory = ending.Memory

-- the count of a half that is read, where reading came to this, if to any end
abbrev pub faults_by : Option Ending → ℕ → ℕ
faults_by (Some ending.Unread) count = one_more count
faults_by _ count = count

-- whether a channel is read no further since a read failed
abbrev pub is_unread : Ending → Bool
is_unread ending.Unread = true
is_unread _ = false

-- a count rose, or stands at its last value
abbrev pub HasRisen : ℕ → ℕ → Type 0
HasRisen old new = (old < new) ⊎ (new ≡ 2 ^ 64 - 1)

-- So many faults more were counted: some, where a read or a write failed.
pub record Counts (troubled : Bool) (old new : ℕ) : Type 0 where
  pub more : ℕ
  pub counted : new ≡ more_faults old more
  pub some : IsTrue troubled ↔ (0 < more)

-- What a session's end tells of its linker's two counts: where it came to its end with no fault they stay, and where a fault ended it, or came on a
-- channel, one of them rose.
abbrev pub TellsFaults : Ended → (failures_before failures trouble_before trouble : ℕ) → Type 0
TellsFaults ended.Over failures_before failures trouble_before trouble = (failures ≡ failures_before) × (trouble ≡ trouble_before)
TellsFaults ended.Link failures_before failures trouble_before trouble = HasRisen failures_before failures ⊎ HasRisen trouble_before trouble
TellsFaults _ failures_before failures trouble_before trouble = Unit {0}

-- an end that is no fault of the linker's, and not the end of all channels
abbrev pub IsOtherEnd : Ended → Type 0
IsOtherEnd ended.Over = ⊥
IsOtherEnd ended.Link = ⊥
IsOtherEnd _ = Unit {0}

-- What ends a session before its last channel: where the linker does, a call of `connect` failed.
abbrev pub EndsSession : Ended → (failures_before failures : ℕ) → Type 0
EndsSession ended.Over failures_before failures = ⊥
EndsSession ended.Link failures_before failures = HasRisen failures_before failures
EndsSession _ failures_before failures = Unit {0}
