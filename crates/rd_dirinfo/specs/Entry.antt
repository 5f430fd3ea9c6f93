-- The entries of a folder's listing (MS-FSCC 2.4).
use Rattle.std.specs.Prelude.{◌≡◌, ℕ, ◌*◌, ◌<◌, ◌^◌, ◌==◌, if◌then◌else◌, List, [], ◌++◌, All, length, replicate}
use Rattle.rd_base.specs.declared.bad.Bad.{Bad}
use Rattle.rd_base.specs.declared.bad.InfoNo.{InfoNo}
use Rattle.rd_base.specs.declared.bad.InfoNo.TheVariants as no
use Rattle.rd_base.specs.Layout.{Layout, one_byte, four_bytes, done, ◌>>=◌, ◌>>◌}
use Rattle.rd_base.specs.Fields.{number32, number64, bytes8, bytes32, bytes64, constant, zeros, length_of_units, text, text_bytes}
use Rattle.rd_base.specs.Moments.{moments, moments_bytes, MomentsFit}
use Rattle.rd_base.specs.Classes.{Classes, no_class, class, SpellsOfClass, FirstFaultOfClass}
use Rattle.rd_dirinfo.specs.declared.entry.Entry.{Entry}
use Rattle.rd_dirinfo.specs.declared.entry.Head.{Head}

-- FileDirectoryInformation
abbrev pub directory : ℕ
directory = 1

-- FileFullDirectoryInformation
abbrev pub full_directory : ℕ
full_directory = 2

-- FileBothDirectoryInformation
abbrev pub both_directory : ℕ
both_directory = 3

-- FileNamesInformation
abbrev pub names : ℕ
names = 12

-- the entry with this head and this name
abbrev pub entry_with : Head → List ℕ → Entry
entry_with h name = record { moments = h.moments; end = h.end; allocation = h.allocation; attributes = h.attributes; name = name }

-- the entry with this name, whose other fields are 0
abbrev pub entry_named : List ℕ → Entry
entry_named name = record {
  moments = record { creation = 0; access = 0; write = 0; change = 0 };
  end = 0;
  allocation = 0;
  attributes = 0;
  name = name;
}

-- NextEntryOffset and FileIndex: one entry stands alone, and has no index
unfoldable pub entry_start : Layout (Unit {0})
entry_start = do
  constant four_bytes 0
  constant four_bytes 0

-- what every class but FileNamesInformation begins with, up to FileNameLength
unfoldable pub entry_head : Layout Head
entry_head = do
  entry_start
  times ← moments
  end ← number64
  allocation ← number64
  attributes ← number32
  count ← length_of_units
  done (record { moments = times; end = end; allocation = allocation; attributes = attributes; name_len = count })

-- an entry of FileDirectoryInformation (2.4.10)
unfoldable pub directory_entry : Layout Entry
directory_entry = do
  head ← entry_head
  name ← text head.name_len
  done (entry_with head name)

-- an entry of FileFullDirectoryInformation (2.4.14), whose EaSize is 0
unfoldable pub full_directory_entry : Layout Entry
full_directory_entry = do
  head ← entry_head
  constant four_bytes 0
  name ← text head.name_len
  done (entry_with head name)

-- An entry of FileBothDirectoryInformation (2.4.8), whose EaSize, ShortNameLength and ShortName are 0, as it is sent over this
-- channel: no byte is reserved.
unfoldable pub both_directory_entry : Layout Entry
both_directory_entry = do
  head ← entry_head
  constant four_bytes 0
  constant one_byte 0
  zeros 24
  name ← text head.name_len
  done (entry_with head name)

-- an entry of FileNamesInformation (2.4.28)
unfoldable pub names_entry : Layout Entry
names_entry = do
  entry_start
  count ← length_of_units
  name ← text count
  done (entry_named name)

-- The classes that a folder is asked for.
unfoldable pub entry_classes : Classes Entry
entry_classes =
    class directory directory_entry
    (class full_directory full_directory_entry
    (class both_directory both_directory_entry
    (class names names_entry
    no_class)))

-- The bytes begin with a spelling of this entry by this class, and so many more come after it.
abbrev pub SpellsEntry : ℕ → Entry → ℕ → List ℕ → Type 0
SpellsEntry n e tail bytes = SpellsOfClass entry_classes n e tail bytes

-- what goes wrong first in bytes that are no entry of this class
abbrev pub FirstFaultOfEntry : ℕ → List ℕ → Bad → Type 0
FirstFaultOfEntry n bytes bad = FirstFaultOfClass entry_classes n bytes bad

-- what a class sends of an entry: FileNamesInformation its name alone
abbrev pub sent_entry : ℕ → Entry → Entry
sent_entry n e = if n == names then entry_named e.name else e

-- An entry can be written: the length of its name fits its field.
abbrev pub EntryFits : Entry → Type 0
EntryFits e = 2 * length e.name < 2 ^ 32

-- the bytes of the head of an entry: eight zero bytes, its numbers, and the length of its name
unfoldable pub entry_head_bytes : Entry → List ℕ
entry_head_bytes e =
    bytes32 0 ++ bytes32 0 ++ moments_bytes e.moments ++ bytes64 e.end ++ bytes64 e.allocation ++ bytes32 e.attributes
    ++ bytes32 (2 * length e.name)

-- the bytes that are written of an entry in this class
abbrev pub entry_bytes : ℕ → Entry → List ℕ
entry_bytes n e =
    if n == directory then entry_head_bytes e ++ text_bytes e.name
    else (if n == full_directory then entry_head_bytes e ++ bytes32 0 ++ text_bytes e.name
    else (if n == both_directory then entry_head_bytes e ++ bytes32 0 ++ bytes8 0 ++ replicate 24 0 ++ text_bytes e.name
    else (if n == names then bytes32 0 ++ bytes32 0 ++ bytes32 (2 * length e.name) ++ text_bytes e.name
    else [])))

-- each number fits its field, as its type says
abbrev pub IsEntryInRange : Entry → Type 0
IsEntryInRange e = MomentsFit e.moments × (e.end < 2 ^ 64) × (e.allocation < 2 ^ 64) × (e.attributes < 2 ^ 32) × All (λ unit. unit < 2 ^ 16) e.name

-- why an entry isn't written: the call doesn't have the class, or memory ran out
abbrev pub IsUnwritten : ℕ → InfoNo → Type 0
IsUnwritten n (no.Class other) = other ≡ n
IsUnwritten n (no.Bad bad) = ⊥
IsUnwritten n no.Memory = Unit {0}
