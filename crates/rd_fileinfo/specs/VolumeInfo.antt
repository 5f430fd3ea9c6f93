-- What a volume tells of itself (MS-FSCC 2.5).
use Rattle.std.specs.Prelude.{ℕ, ◌*◌, ◌<◌, ◌^◌, List, ◌++◌, All, length}
use Rattle.rd_base.specs.declared.bad.Bad.{Bad}
use Rattle.rd_base.specs.Layout.{Layout, done, ◌>>=◌}
use Rattle.rd_base.specs.Fields.{number8, number32, number64, bytes8, bytes32, bytes64, length_of_units, text, text_bytes}
use Rattle.rd_base.specs.Classes.{Classes, no_class, class, SpellsOfClass, FirstFaultOfClass}
use Rattle.rd_fileinfo.specs.declared.volume_info.VolumeInfo.{VolumeInfo}
use Rattle.rd_fileinfo.specs.declared.volume_info.VolumeInfo.TheVariants.{Volume, Size, Device, Attribute, FullSize}

-- FileFsVolumeInformation
abbrev pub volume : ℕ
volume = 1

-- FileFsSizeInformation
abbrev pub size : ℕ
size = 3

-- FileFsDeviceInformation
abbrev pub device : ℕ
device = 4

-- FileFsAttributeInformation
abbrev pub attribute : ℕ
attribute = 5

-- FileFsFullSizeInformation
abbrev pub full_size : ℕ
full_size = 7

-- the buffer of FileFsVolumeInformation (2.5.9), as it is sent over this channel: no byte is reserved before the label
unfoldable pub volume_info : Layout VolumeInfo
volume_info = do
  creation ← number64
  serial ← number32
  count ← length_of_units
  objects ← number8
  label ← text count
  done (Volume creation serial objects label)

-- the buffer of FileFsSizeInformation (2.5.8)
unfoldable pub size_info : Layout VolumeInfo
size_info = do
  total ← number64
  free ← number64
  sectors ← number32
  bytes ← number32
  done (Size total free sectors bytes)

-- the buffer of FileFsDeviceInformation (2.5.10)
unfoldable pub device_info : Layout VolumeInfo
device_info = do
  kind ← number32
  traits ← number32
  done (Device kind traits)

-- the buffer of FileFsAttributeInformation (2.5.1)
unfoldable pub attribute_info : Layout VolumeInfo
attribute_info = do
  flags ← number32
  longest ← number32
  count ← length_of_units
  name ← text count
  done (Attribute flags longest name)

-- the buffer of FileFsFullSizeInformation (2.5.4)
unfoldable pub full_size_info : Layout VolumeInfo
full_size_info = do
  total ← number64
  caller ← number64
  free ← number64
  sectors ← number32
  bytes ← number32
  done (FullSize total caller free sectors bytes)

-- The classes that a volume is asked for.
unfoldable pub volume_classes : Classes VolumeInfo
volume_classes =
    class volume volume_info
    (class size size_info
    (class device device_info
    (class attribute attribute_info
    (class full_size full_size_info
    no_class))))

-- The bytes begin with a spelling of this value by this class, and so many more come after it.
abbrev pub SpellsVolumeInfo : ℕ → VolumeInfo → ℕ → List ℕ → Type 0
SpellsVolumeInfo n info tail bytes = SpellsOfClass volume_classes n info tail bytes

-- what goes wrong first in bytes that are no value of this class
abbrev pub FirstFaultOfVolumeInfo : ℕ → List ℕ → Bad → Type 0
FirstFaultOfVolumeInfo n bytes bad = FirstFaultOfClass volume_classes n bytes bad

-- the class of a value
abbrev pub volume_class : VolumeInfo → ℕ
volume_class (Volume creation serial objects label) = volume
volume_class (Size total free sectors bytes) = size
volume_class (Device kind traits) = device
volume_class (Attribute flags longest name) = attribute
volume_class (FullSize total caller free sectors bytes) = full_size

-- A value can be written: the length of its label or name fits its field.
abbrev pub VolumeFits : VolumeInfo → Type 0
VolumeFits (Volume creation serial objects label) = 2 * length label < 2 ^ 32
VolumeFits (Attribute flags longest name) = 2 * length name < 2 ^ 32
VolumeFits _ = Unit {0}

-- the bytes that are written
abbrev pub volume_info_bytes : VolumeInfo → List ℕ
volume_info_bytes (Volume creation serial objects label) =
    bytes64 creation ++ bytes32 serial ++ bytes32 (2 * length label) ++ bytes8 objects ++ text_bytes label
volume_info_bytes (Size total free sectors bytes) =
    bytes64 total ++ bytes64 free ++ bytes32 sectors ++ bytes32 bytes
volume_info_bytes (Device kind traits) = bytes32 kind ++ bytes32 traits
volume_info_bytes (Attribute flags longest name) =
    bytes32 flags ++ bytes32 longest ++ bytes32 (2 * length name) ++ text_bytes name
volume_info_bytes (FullSize total caller free sectors bytes) =
    bytes64 total ++ bytes64 caller ++ bytes64 free ++ bytes32 sectors ++ bytes32 bytes

-- each number fits its field, as its type says
abbrev pub IsVolumeInfoInRange : VolumeInfo → Type 0
IsVolumeInfoInRange (Volume creation serial objects label) = (creation < 2 ^ 64) × (serial < 2 ^ 32) × (objects < 2 ^ 8) × All (λ unit. unit < 2 ^ 16) label
IsVolumeInfoInRange (Size total free sectors bytes) = (total < 2 ^ 64) × (free < 2 ^ 64) × (sectors < 2 ^ 32) × (bytes < 2 ^ 32)
IsVolumeInfoInRange (Device kind traits) = (kind < 2 ^ 32) × (traits < 2 ^ 32)
IsVolumeInfoInRange (Attribute flags longest name) = (flags < 2 ^ 32) × (longest < 2 ^ 32) × All (λ unit. unit < 2 ^ 16) name
IsVolumeInfoInRange (FullSize total caller free sectors bytes) = (total < 2 ^ 64) × (caller < 2 ^ 64) × (free < 2 ^ 64) × (sectors < 2 ^ 32) × (bytes < 2 ^ 32)
