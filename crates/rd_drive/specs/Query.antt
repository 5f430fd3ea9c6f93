-- What a file and the volume tell of themselves (MS-RDPEFS 2.2.3.3.8 and 2.2.3.3.6, MS-FSCC 2.4 and 2.5).
use Rattle.std.specs.Prelude.{ℕ, ◌==◌, List, [], ◌∷◌, length, codes, Option}
use Rattle.std.specs.Map.{lookup}
use Rattle.std.specs.Int.{next_multiple_of}
use Rattle.rd_base.specs.Fields.{flag_number}
use Rattle.rd_irp.specs.declared.completion.Body.TheVariants.{Buffer}
use Rattle.rd_dirinfo.specs.declared.naming.Naming.{Naming}
use Rattle.rd_dirinfo.specs.declared.naming.Naming.TheVariants.{Exact, Folded}
use Rattle.rd_fileinfo.specs.declared.file_info.FileInfo.{FileInfo}
use Rattle.rd_fileinfo.specs.declared.file_info.FileInfo.TheVariants as file
use Rattle.rd_fileinfo.specs.declared.volume_info.VolumeInfo.{VolumeInfo}
use Rattle.rd_fileinfo.specs.declared.volume_info.VolumeInfo.TheVariants as of_volume
use Rattle.rd_fileinfo.specs.FileInfo.{basic, standard, attribute_tag, file_info_bytes}
use Rattle.rd_fileinfo.specs.VolumeInfo.{volume, size, device, attribute, full_size, volume_info_bytes}
use Rattle.rd_drive.specs.DriveState.{DriveState, Handle, Node, is_folder_node, bytes_of}
use Rattle.rd_drive.specs.Access.{shown_attributes}
use Rattle.rd_drive.specs.Outcome.{Outcome, no_news, given, succeeded}
use Rattle.rd_base.specs.Statuses.{invalid_info_class}

-- how many bytes a file has; a folder has none
abbrev pub node_end : Node → ℕ
node_end node = length (bytes_of node)

-- how many bytes are kept for them: whole clusters of 4,096
abbrev pub allocation_of : Node → ℕ
allocation_of node = next_multiple_of (node_end node) 4096

-- what a node tells of itself, by class
abbrev pub node_infos : Node → List (ℕ × FileInfo)
node_infos node =
    (basic, file.Basic node.moments (shown_attributes node))
    ∷ (standard, file.Standard (allocation_of node) (node_end node) 1 (flag_number node.pending) (flag_number (is_folder_node node)))
    ∷ (attribute_tag, file.Tag (shown_attributes node) 0)
    ∷ []

-- what it tells in a class, if it does
abbrev pub node_info : Node → ℕ → Option FileInfo
node_info node class = lookup (◌==◌ class) (node_infos node)

-- QueryFile
abbrev pub query_file : DriveState → ℕ → Handle → Node → Outcome
query_file s class handle node =
    given s (node_info node class) invalid_info_class (λ info. succeeded s (Buffer (file_info_bytes info)) no_news)

-- ---- the volume

-- VolumeSerialNumber
abbrev pub serial_number : ℕ
serial_number = 0x5244_5231

-- the allocation units of a volume, all of which are free; one has 8 sectors of 512 bytes, and the volume is a FILE_DEVICE_DISK (7)
abbrev pub volume_units : ℕ
volume_units = 268435456

-- FILE_CASE_PRESERVED_NAMES and FILE_UNICODE_ON_DISK, and where names aren't folded FILE_CASE_SENSITIVE_SEARCH
abbrev pub volume_flags : Naming → ℕ
volume_flags Exact = 7
volume_flags Folded = 6

-- what a volume with a label and a naming tells of itself, by class
abbrev pub volume_infos : List ℕ → Naming → List (ℕ × VolumeInfo)
volume_infos label naming =
    (volume, of_volume.Volume 0 serial_number 0 label)
    ∷ (size, of_volume.Size volume_units volume_units 8 512)
    ∷ (device, of_volume.Device 7 0)
    ∷ (attribute, of_volume.Attribute (volume_flags naming) 255 (codes "RDFS"))
    ∷ (full_size, of_volume.FullSize volume_units volume_units volume_units 8 512)
    ∷ []

-- what it tells in a class, if it does
abbrev pub info_of_volume : List ℕ → Naming → ℕ → Option VolumeInfo
info_of_volume label naming class = lookup (◌==◌ class) (volume_infos label naming)

-- what a drive's volume tells in a class, if it does
abbrev pub drive_info : DriveState → ℕ → Option VolumeInfo
drive_info s class = info_of_volume s.label s.naming class

-- QueryVolume
abbrev pub query_volume : DriveState → ℕ → Handle → Node → Outcome
query_volume s class handle node =
    given s (drive_info s class) invalid_info_class (λ info. succeeded s (Buffer (volume_info_bytes info)) no_news)
