-- A journal text: the journals of devices, one after another.
use Rattle.std.specs.Prelude.{◌≡◌, ◌≢◌, ℕ, ◌+◌, List, [], ◌∷◌, ◌++◌, ◌⊎◌, All, length, map, Option, Some, None, Result, Ok, Err, slice_get}
use Rattle.std.specs.List.{flat_map}
use Rattle.rd_base.specs.declared.bad.Why.{Why}
use Rattle.rd_base.specs.declared.bad.Why.TheVariants.{Short, Value}
use Rattle.rd_base.specs.declared.journal.Item.{Item}
use Rattle.rd_base.specs.History.{History}
use Rattle.rd_base.specs.Position.{Position}
use Rattle.rd_audit_file.specs.declared.fault.FieldFault.{FieldFault}
use Rattle.rd_audit_file.specs.declared.line.JournalLine.{JournalLine}
use Rattle.rd_audit_file.specs.declared.line.JournalLine.TheVariants.{Device, Entry}
use Rattle.rd_audit_file.specs.Lines.{line_text, BeginsWithLine, BeginsWithNoLine, LineFits}

-- a device's lines: its own, and one for each entry
abbrev pub lines_of_journal : ℕ × List Item → List JournalLine
lines_of_journal journal = Device journal.0 ∷ map (λ entry. Entry entry) journal.1

-- the lines of devices' journals
abbrev pub journal_lines : List (ℕ × List Item) → List JournalLine
journal_lines journals = flat_map lines_of_journal journals

-- the bytes of lines
abbrev pub lines_text : List JournalLine → List ℕ
lines_text lines = flat_map line_text lines

-- The text of the journals of these devices, in order.
abbrev pub journal_text : List (ℕ × List Item) → List ℕ
journal_text journals = lines_text (journal_lines journals)

-- the devices that have journals
abbrev pub journal_ids : List (ℕ × List Item) → List ℕ
journal_ids journals = map (λ journal. journal.0) journals

-- the entries of stored journals
abbrev pub entries_of : List (ℕ × History) → List (ℕ × List Item)
entries_of books = map (λ book. (book.0, (book.1).items)) books

-- the numbers of all lines fit
abbrev pub JournalsFit : List (ℕ × List Item) → Type 0
JournalsFit journals = All LineFits (journal_lines journals)

-- The text is that of journals of these devices.
pub record IsJournalText (ids text : List ℕ) (journals : List (ℕ × List Item)) : Type 0 where
  pub of_these : journal_ids journals ≡ ids
  pub parts : text ≡ journal_text journals
  pub fit : JournalsFit journals

-- A line goes on with the journals that are there, where the devices of these ids are still to come: that of a device where it is the next of
-- them, and an entry after the line of a device.
abbrev pub LineGoesOn : List (ℕ × List Item) → List ℕ → JournalLine → Type 0
LineGoesOn journals left (Device id) = slice_get left 0 ≡ Some id
LineGoesOn journals left (Entry entry) = journals ≢ []

-- what is wrong after these journals: the text ends too early, or no line that goes on is next
abbrev pub IsWrong : List (ℕ × List Item) → (left rest : List ℕ) → Why → Type 0
IsWrong journals left rest Short = (rest ≡ []) × (left ≢ [])
IsWrong journals left rest Value = (rest ≢ []) × ((line : JournalLine) (after : List ℕ) → BeginsWithLine rest line after → ¬ (LineGoesOn journals left line))
IsWrong journals left rest _ = ⊥

-- From the first line on, this is what goes wrong first in the journal text of these devices: the lines before it are the whole journals of
-- some of them, and as much as there is of one more's. The place counts from the text's first byte.
pub record JournalFault (ids text : List ℕ) (fault : FieldFault) : Type 0 where
  pub journals : List (ℕ × List Item)
  pub left : List ℕ
  pub rest : List ℕ
  pub of_these : journal_ids journals ++ left ≡ ids
  pub parts : text ≡ journal_text journals ++ rest
  pub place : fault.at ≡ length (journal_text journals)
  pub fit : JournalsFit journals
  pub wrong : IsWrong journals left rest fault.why

-- the text is that of journals of these devices, or has this first fault
abbrev pub ChecksJournals : (ids text : List ℕ) → Result (Unit {0}) FieldFault → Type 0
ChecksJournals ids text (Ok done) = (journals : List (ℕ × List Item)) × IsJournalText ids text journals
ChecksJournals ids text (Err fault) = JournalFault ids text fault

-- the next line is read, or none is left; where no line in form is next, the fault stands at its first byte and nothing moves
abbrev pub ReadsLine : (old new : Position) → Result (Option JournalLine) FieldFault → Type 0
ReadsLine old new (Ok None) = (old.left ≡ []) × (new ≡ old)
ReadsLine old new (Ok (Some line)) = BeginsWithLine old.left line new.left × (new.at ≡ old.at + length (line_text line))
ReadsLine old new (Err fault) = (old.left ≢ []) × BeginsWithNoLine old.left × (fault ≡ record { at = old.at; why = Value }) × (new ≡ old)

-- The law of a journal text: it is that of journals of these devices or has a first fault, never both, and no two lists of journals and no two
-- faults.
pub record HasOneReading (ids text : List ℕ) : Type 0 where
  pub one_of : ((journals : List (ℕ × List Item)) × IsJournalText ids text journals) ⊎ ((fault : FieldFault) × JournalFault ids text fault)
  pub not_both : (journals : List (ℕ × List Item)) (fault : FieldFault) → IsJournalText ids text journals → JournalFault ids text fault → ⊥
  pub one_list : (journals others : List (ℕ × List Item)) → IsJournalText ids text journals → IsJournalText ids text others → journals ≡ others
  pub one_fault : (fault other : FieldFault) → JournalFault ids text fault → JournalFault ids text other → fault ≡ other
