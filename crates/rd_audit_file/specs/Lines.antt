-- The lines of a journal text. No public standard has them: they are this project's own.
use Rattle.std.specs.Prelude.{◌≡◌, ℕ, ◌^◌, ◌<◌, Bool, true, false, List, ◌++◌, length, Option, Some, None, codes, decimal}
use Rattle.rd_base.specs.declared.journal.Key.{Key}
use Rattle.rd_base.specs.declared.journal.Item.{Item}
use Rattle.rd_base.specs.declared.journal.Item.TheVariants.{Came, Ran, Cancelled, Sent, Cut}
use Rattle.rd_base.specs.declared.journal.Cause.{Cause}
use Rattle.rd_base.specs.declared.journal.Cause.TheVariants.{Removed, Dropped}
use Rattle.rd_audit_file.specs.declared.line.JournalLine.{JournalLine}
use Rattle.rd_audit_file.specs.declared.line.JournalLine.TheVariants.{Device, Entry}

-- a key: its channel and its index
abbrev pub key_text : Key → List ℕ
key_text key = decimal key.channel ++ codes " " ++ decimal key.index

-- whether a mark holds
abbrev pub mark_text : Bool → List ℕ
mark_text true = codes "1"
mark_text false = codes "0"

-- why a device is gone
abbrev pub cause_text : Cause → List ℕ
cause_text Removed = codes "removed"
cause_text Dropped = codes "dropped"

-- an entry: its word, and what it says, parted by single spaces
abbrev pub entry_text : Item → List ℕ
entry_text (Came key) = codes "came " ++ key_text key
entry_text (Ran key moment starved parked) =
    codes "ran " ++ key_text key ++ codes " " ++ decimal moment ++ codes " " ++ mark_text starved ++ codes " " ++ mark_text parked
entry_text (Cancelled key) = codes "cancelled " ++ key_text key
entry_text (Sent key) = codes "sent " ++ key_text key
entry_text (Cut cause) = codes "cut " ++ cause_text cause

-- a line, with the line feed at its end
abbrev pub line_text : JournalLine → List ℕ
line_text (Device id) = codes "device " ++ decimal id ++ codes "\n"
line_text (Entry entry) = entry_text entry ++ codes "\n"

-- the channel has 32 bits, and the index 64
abbrev pub KeyFits : Key → Type 0
KeyFits key = (key.channel < 2 ^ 32) × (key.index < 2 ^ 64)

-- the numbers of an entry fit
abbrev pub EntryNumbersFit : Item → Type 0
EntryNumbersFit (Came key) = KeyFits key
EntryNumbersFit (Ran key moment starved parked) = KeyFits key × (moment < 2 ^ 64)
EntryNumbersFit (Cancelled key) = KeyFits key
EntryNumbersFit (Sent key) = KeyFits key
EntryNumbersFit (Cut cause) = Unit {0}

-- the numbers of a line fit
abbrev pub LineFits : JournalLine → Type 0
LineFits (Device id) = id < 2 ^ 32
LineFits (Entry entry) = EntryNumbersFit entry

-- the text begins with this line, and then comes the rest
pub record BeginsWithLine (text : List ℕ) (line : JournalLine) (rest : List ℕ) : Type 0 where
  pub parts : text ≡ line_text line ++ rest
  pub fits : LineFits line

-- the text begins with no line in form
abbrev pub BeginsWithNoLine : List ℕ → Type 0
BeginsWithNoLine text = (line : JournalLine) (rest : List ℕ) → ¬ (BeginsWithLine text line rest)

-- the first line of a text and its length, unless the text begins with none
abbrev pub TakesLine : List ℕ → Option (JournalLine × ℕ) → Type 0
TakesLine text (Some (line, count)) = ((rest : List ℕ) × BeginsWithLine text line rest) × (count ≡ length (line_text line))
TakesLine text None = BeginsWithNoLine text
