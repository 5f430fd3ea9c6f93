-- What is set of a file (MS-FSCC 2.4).
use Rattle.std.specs.Prelude.{ℕ, ◌+◌, ◌*◌, ◌<◌, ◌^◌, ◌≢◌, ◌==◌, true, List, ◌++◌, All, length}
use Rattle.rd_base.specs.declared.bad.Bad.{Bad}
use Rattle.rd_base.specs.Layout.{Layout, one_byte, done, bytes_left, ◌>>=◌, ◌>>◌, choose}
use Rattle.rd_base.specs.Fields.{number32, number64, bytes8, bytes32, bytes64, flag, flag_number, constant, length_of_units, path, path_bytes}
use Rattle.rd_base.specs.Moments.{moments, moments_bytes, MomentsFit}
use Rattle.rd_base.specs.Classes.{Classes, no_class, class, SpellsOfClass, FirstFaultOfClass}
use Rattle.rd_fileinfo.specs.declared.set_info.SetInfo.{SetInfo}
use Rattle.rd_fileinfo.specs.declared.set_info.SetInfo.TheVariants.{Basic, Rename, Disposition, Allocation, EndOfFile}
use Rattle.rd_fileinfo.specs.FileInfo.{basic}

-- FileRenameInformation
abbrev pub rename : ℕ
rename = 0x0a

-- FileDispositionInformation
abbrev pub disposition : ℕ
disposition = 0x0d

-- FileAllocationInformation
abbrev pub allocation : ℕ
allocation = 0x13

-- FileEndOfFileInformation
abbrev pub end_of_file : ℕ
end_of_file = 0x14

-- the buffer of FileBasicInformation (2.4.7)
unfoldable pub basic_set : Layout SetInfo
basic_set = do
  times ← moments
  attributes ← number32
  done (Basic times attributes)

-- The buffer of FileRenameInformation as it is sent over this channel (MS-RDPEFS 2.2.3.3.9.1): no bytes are reserved, and RootDirectory is
-- one byte.
unfoldable pub rename_set : Layout SetInfo
rename_set = do
  replace ← flag
  constant one_byte 0
  count ← length_of_units
  units ← path count
  done (Rename replace units)

-- the buffer of FileDispositionInformation (2.4.11); without a byte it asks for the deletion (MS-RDPEFS 2.2.3.3.9)
unfoldable pub disposition_set : Layout SetInfo
disposition_set = do
  left ← bytes_left
  choose (left == 0) (done (Disposition true)) (flag >>= λ deletes. done (Disposition deletes))

-- the buffer of FileAllocationInformation (2.4.4)
unfoldable pub allocation_set : Layout SetInfo
allocation_set = do
  size ← number64
  done (Allocation size)

-- the buffer of FileEndOfFileInformation (2.4.13)
unfoldable pub end_of_file_set : Layout SetInfo
end_of_file_set = do
  end ← number64
  done (EndOfFile end)

-- The classes that are set of a file.
unfoldable pub set_classes : Classes SetInfo
set_classes =
    class basic basic_set
    (class rename rename_set
    (class disposition disposition_set
    (class allocation allocation_set
    (class end_of_file end_of_file_set
    no_class))))

-- The bytes begin with a spelling of this value by this class, and so many more come after it.
abbrev pub SpellsSetInfo : ℕ → SetInfo → ℕ → List ℕ → Type 0
SpellsSetInfo n info tail bytes = SpellsOfClass set_classes n info tail bytes

-- what goes wrong first in bytes that are no value of this class
abbrev pub FirstFaultOfSetInfo : ℕ → List ℕ → Bad → Type 0
FirstFaultOfSetInfo n bytes bad = FirstFaultOfClass set_classes n bytes bad

-- the class of a value
abbrev pub set_class : SetInfo → ℕ
set_class (Basic times attributes) = basic
set_class (Rename replace units) = rename
set_class (Disposition deletes) = disposition
set_class (Allocation size) = allocation
set_class (EndOfFile end) = end_of_file

-- A value can be written: no unit of a path is zero, and the path's length fits its field.
abbrev pub SetInfoFits : SetInfo → Type 0
SetInfoFits (Rename replace units) = (2 * length units + 2 < 2 ^ 32) × All (λ unit. unit ≢ 0) units
SetInfoFits _ = Unit {0}

-- the bytes that are written
abbrev pub set_info_bytes : SetInfo → List ℕ
set_info_bytes (Basic times attributes) = moments_bytes times ++ bytes32 attributes
set_info_bytes (Rename replace units) =
    bytes8 (flag_number replace) ++ bytes8 0 ++ bytes32 (2 * length units + 2) ++ path_bytes units
set_info_bytes (Disposition deletes) = bytes8 (flag_number deletes)
set_info_bytes (Allocation size) = bytes64 size
set_info_bytes (EndOfFile end) = bytes64 end

-- each number fits its field, as its type says
abbrev pub IsSetInfoInRange : SetInfo → Type 0
IsSetInfoInRange (Basic times attributes) = MomentsFit times × (attributes < 2 ^ 32)
IsSetInfoInRange (Rename replace units) = All (λ unit. unit < 2 ^ 16) units
IsSetInfoInRange (Disposition deletes) = Unit {0}
IsSetInfoInRange (Allocation size) = size < 2 ^ 64
IsSetInfoInRange (EndOfFile end) = end < 2 ^ 64
