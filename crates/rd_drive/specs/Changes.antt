-- The changes that operations tell (MS-FSCC 2.7.1, MS-SMB2 2.2.35).
use Rattle.std.specs.Prelude.{ℕ, if◌then◌else◌}
use Rattle.rd_dirinfo.specs.Paths.{Names}
use Rattle.rd_drive.specs.DriveState.{Node, is_folder_node}
use Rattle.rd_drive.specs.Outcome.{Change}

-- FILE_NOTIFY_CHANGE_FILE_NAME for a file, FILE_NOTIFY_CHANGE_DIR_NAME for a folder
abbrev pub name_bit : Node → ℕ
name_bit node = if is_folder_node node then 2 else 1

-- FILE_ACTION_ADDED: the node was made
abbrev pub added : Node → Change
added node = record { action = 1; path = node.path; bits = name_bit node }

-- FILE_ACTION_REMOVED: the node went
abbrev pub removed : Node → Change
removed node = record { action = 2; path = node.path; bits = name_bit node }

-- FILE_NOTIFY_CHANGE_SIZE and FILE_NOTIFY_CHANGE_LAST_WRITE
abbrev pub content_bits : ℕ
content_bits = 0x18

-- FILE_NOTIFY_CHANGE_ATTRIBUTES
abbrev pub attribute_bits : ℕ
attribute_bits = 4

-- FILE_ACTION_MODIFIED: the bytes of a file were set
abbrev pub modified : Names → Change
modified path = record { action = 3; path = path; bits = content_bits }

-- FILE_ACTION_MODIFIED: attributes or moments were set
abbrev pub marked : Names → Change
marked path = record { action = 3; path = path; bits = attribute_bits }

-- FILE_ACTION_RENAMED_OLD_NAME: a node had this path
abbrev pub renamed_from : Names → Node → Change
renamed_from path node = record { action = 4; path = path; bits = name_bit node }

-- FILE_ACTION_RENAMED_NEW_NAME: a node has this path now
abbrev pub renamed_to : Names → Node → Change
renamed_to path node = record { action = 5; path = path; bits = name_bit node }
