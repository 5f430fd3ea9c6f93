-- What a file tells of itself (MS-FSCC 2.4).
use Rattle.std.specs.Prelude.{ℕ, ◌<◌, ◌^◌, List, ◌++◌}
use Rattle.rd_base.specs.declared.bad.Bad.{Bad}
use Rattle.rd_base.specs.Layout.{Layout, done, ◌>>=◌}
use Rattle.rd_base.specs.Fields.{number8, number32, number64, bytes8, bytes32, bytes64}
use Rattle.rd_base.specs.Moments.{moments, moments_bytes, MomentsFit}
use Rattle.rd_base.specs.Classes.{Classes, no_class, class, SpellsOfClass, FirstFaultOfClass}
use Rattle.rd_fileinfo.specs.declared.file_info.FileInfo.{FileInfo}
use Rattle.rd_fileinfo.specs.declared.file_info.FileInfo.TheVariants.{Basic, Standard, Tag}

-- FileBasicInformation
abbrev pub basic : ℕ
basic = 0x04

-- FileStandardInformation
abbrev pub standard : ℕ
standard = 0x05

-- FileAttributeTagInformation
abbrev pub attribute_tag : ℕ
attribute_tag = 0x23

-- the buffer of FileBasicInformation (2.4.7)
unfoldable pub basic_info : Layout FileInfo
basic_info = do
  times ← moments
  attributes ← number32
  done (Basic times attributes)

-- the buffer of FileStandardInformation (2.4.41)
unfoldable pub standard_info : Layout FileInfo
standard_info = do
  allocation ← number64
  end ← number64
  links ← number32
  pending ← number8
  folder ← number8
  done (Standard allocation end links pending folder)

-- the buffer of FileAttributeTagInformation (2.4.6)
unfoldable pub tag_info : Layout FileInfo
tag_info = do
  attributes ← number32
  tag ← number32
  done (Tag attributes tag)

-- The classes that a file is asked for.
unfoldable pub file_classes : Classes FileInfo
file_classes =
    class basic basic_info
    (class standard standard_info
    (class attribute_tag tag_info
    no_class))

-- The bytes begin with a spelling of this value by this class, and so many more come after it.
abbrev pub SpellsFileInfo : ℕ → FileInfo → ℕ → List ℕ → Type 0
SpellsFileInfo n info tail bytes = SpellsOfClass file_classes n info tail bytes

-- what goes wrong first in bytes that are no value of this class
abbrev pub FirstFaultOfFileInfo : ℕ → List ℕ → Bad → Type 0
FirstFaultOfFileInfo n bytes bad = FirstFaultOfClass file_classes n bytes bad

-- the class of a value
abbrev pub file_class : FileInfo → ℕ
file_class (Basic times attributes) = basic
file_class (Standard allocation end links pending folder) = standard
file_class (Tag attributes tag) = attribute_tag

-- the bytes that are written
abbrev pub file_info_bytes : FileInfo → List ℕ
file_info_bytes (Basic times attributes) = moments_bytes times ++ bytes32 attributes
file_info_bytes (Standard allocation end links pending folder) =
    bytes64 allocation ++ bytes64 end ++ bytes32 links ++ bytes8 pending ++ bytes8 folder
file_info_bytes (Tag attributes tag) = bytes32 attributes ++ bytes32 tag

-- each number fits its field, as its type says
abbrev pub IsFileInfoInRange : FileInfo → Type 0
IsFileInfoInRange (Basic times attributes) = MomentsFit times × (attributes < 2 ^ 32)
IsFileInfoInRange (Standard allocation end links pending folder) =
    (allocation < 2 ^ 64) × (end < 2 ^ 64) × (links < 2 ^ 32) × (pending < 2 ^ 8) × (folder < 2 ^ 8)
IsFileInfoInRange (Tag attributes tag) = (attributes < 2 ^ 32) × (tag < 2 ^ 32)
