-- The status values of completions and of replies to announcements (MS-ERREF 2.3).
use Rattle.rd_base.specs.declared.status.Status.{Status}

-- the operation was done
abbrev pub success : Status
success = record { 0 = 0 }

-- the handle that watched a folder is closed
abbrev pub notify_cleanup : Status
notify_cleanup = record { 0 = 0x0000_010b }

-- no further name matches
abbrev pub no_more_files : Status
no_more_files = record { 0 = 0x8000_0006 }

-- the call doesn't have the class
abbrev pub invalid_info_class : Status
invalid_info_class = record { 0 = 0xc000_0003 }

-- no open file has the file id
abbrev pub invalid_handle : Status
invalid_handle = record { 0 = 0xc000_0008 }

-- the request can't be read, or asks for what can't be
abbrev pub invalid_parameter : Status
invalid_parameter = record { 0 = 0xc000_000d }

-- there is no such device, or its journal is worn
abbrev pub no_such_device : Status
no_such_device = record { 0 = 0xc000_000e }

-- no name matches
abbrev pub no_such_file : Status
no_such_file = record { 0 = 0xc000_000f }

-- the operation isn't for a folder
abbrev pub invalid_device_request : Status
invalid_device_request = record { 0 = 0xc000_0010 }

-- nothing is left to read
abbrev pub end_of_file : Status
end_of_file = record { 0 = 0xc000_0011 }

-- no memory was found
abbrev pub no_memory : Status
no_memory = record { 0 = 0xc000_0017 }

-- the handle's access or an attribute doesn't allow it, it is the root, or what is in the way can't be replaced
abbrev pub access_denied : Status
access_denied = record { 0 = 0xc000_0022 }

-- the units are no path, or no pattern, or a moved path would be past the limits
abbrev pub object_name_invalid : Status
object_name_invalid = record { 0 = 0xc000_0033 }

-- nothing stands at the path
abbrev pub object_name_not_found : Status
object_name_not_found = record { 0 = 0xc000_0034 }

-- something stands at the path
abbrev pub object_name_collision : Status
object_name_collision = record { 0 = 0xc000_0035 }

-- no folder stands where the path leads through
abbrev pub object_path_not_found : Status
object_path_not_found = record { 0 = 0xc000_003a }

-- the handle and another one on the node don't share it so
abbrev pub sharing_violation : Status
sharing_violation = record { 0 = 0xc000_0043 }

-- a lock is in the way of the bytes
abbrev pub file_lock_conflict : Status
file_lock_conflict = record { 0 = 0xc000_0054 }

-- a lock is in the way of the lock, or the handle that waits for it is closed
abbrev pub lock_not_granted : Status
lock_not_granted = record { 0 = 0xc000_0055 }

-- the node, or the folder of a new one, goes with its last handle
abbrev pub delete_pending : Status
delete_pending = record { 0 = 0xc000_0056 }

-- the handle has no such lock
abbrev pub range_not_locked : Status
range_not_locked = record { 0 = 0xc000_007e }

-- there is no room
abbrev pub disk_full : Status
disk_full = record { 0 = 0xc000_007f }

-- too many locks stand, or too many requests wait
abbrev pub insufficient_resources : Status
insufficient_resources = record { 0 = 0xc000_009a }

-- a folder stands where a file is asked for
abbrev pub file_is_a_directory : Status
file_is_a_directory = record { 0 = 0xc000_00ba }

-- the drive doesn't serve the operation
abbrev pub not_supported : Status
not_supported = record { 0 = 0xc000_00bb }

-- something stands in the folder
abbrev pub directory_not_empty : Status
directory_not_empty = record { 0 = 0xc000_0101 }

-- a file stands where a folder is asked for
abbrev pub not_a_directory : Status
not_a_directory = record { 0 = 0xc000_0103 }

-- no file id is left, or too many are in use
abbrev pub too_many_opened_files : Status
too_many_opened_files = record { 0 = 0xc000_011f }

-- the drive was cut off while the request waited
abbrev pub cancelled : Status
cancelled = record { 0 = 0xc000_0120 }
