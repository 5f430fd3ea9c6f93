-- What a handle may do and lets others do, and the attributes of nodes (MS-RDPEFS 2.2.1.4.1, MS-SMB2 2.2.13 and 2.2.13.1, MS-FSCC 2.6).
use Rattle.std.specs.Prelude.{ℕ, ◌+◌, ◌==◌, ◌&&◌, ◌||◌, Bool, not, if◌then◌else◌, bit_and, bit_or}
use Rattle.rd_drive.specs.declared.access.Use.{Use}
use Rattle.rd_drive.specs.DriveState.{Node, is_folder_node}

-- whether a number has one of these bits
abbrev pub has_any : ℕ → ℕ → Bool
has_any bits number = not (bit_and number bits == 0)

-- GENERIC_ALL, which stands for every access
abbrev pub generic_all : ℕ
generic_all = 0x1000_0000

-- FILE_READ_DATA, GENERIC_READ, and by this project's choice GENERIC_EXECUTE
abbrev pub reads : ℕ → Bool
reads access = has_any (0x1 + 0x2000_0000 + 0x8000_0000 + generic_all) access

-- FILE_WRITE_DATA, FILE_APPEND_DATA, GENERIC_WRITE
abbrev pub writes : ℕ → Bool
writes access = has_any (0x2 + 0x4 + 0x4000_0000 + generic_all) access

-- DELETE
abbrev pub deletes : ℕ → Bool
deletes access = has_any (0x1_0000 + generic_all) access

-- FILE_WRITE_ATTRIBUTES, GENERIC_WRITE
abbrev pub marks : ℕ → Bool
marks access = has_any (0x100 + 0x4000_0000 + generic_all) access

-- FILE_SHARE_READ
abbrev pub share_read : ℕ
share_read = 1

-- FILE_SHARE_WRITE
abbrev pub share_write : ℕ
share_write = 2

-- FILE_SHARE_DELETE
abbrev pub share_delete : ℕ
share_delete = 4

-- the use that a handle with this access and share makes
abbrev pub use_of : ℕ → ℕ → Use
use_of access share = record { is_reading = reads access; is_writing = writes access; is_deleting = deletes access; share = share }

-- whether it reads, writes or deletes
abbrev pub is_using : Use → Bool
is_using u = u.is_reading || u.is_writing || u.is_deleting

-- whether the first reads, writes or deletes what the second doesn't share so
abbrev pub is_unshared : Use → Use → Bool
is_unshared u other =
    (u.is_reading && not (has_any share_read other.share))
    || (u.is_writing && not (has_any share_write other.share))
    || (u.is_deleting && not (has_any share_delete other.share))

-- Two uses clash where either isn't shared by the other. One that neither reads nor writes nor deletes clashes with none.
abbrev pub clash : Use → Use → Bool
clash u other = is_using u && is_using other && (is_unshared u other || is_unshared other u)

-- ---- attributes

-- a file with READONLY
abbrev pub is_readonly : Node → Bool
is_readonly node = not (is_folder_node node) && has_any 1 node.attributes

-- what a new file stores: READONLY, HIDDEN and SYSTEM as asked, and ARCHIVE
abbrev pub new_file_attributes : ℕ → ℕ
new_file_attributes asked = bit_or (bit_and asked 7) 0x20

-- what a new folder stores: READONLY, HIDDEN and SYSTEM as asked
abbrev pub new_folder_attributes : ℕ → ℕ
new_folder_attributes asked = bit_and asked 7

-- what a node stores of attributes that are set: READONLY, HIDDEN and SYSTEM, and for a file ARCHIVE
abbrev pub set_attributes : Node → ℕ → ℕ
set_attributes node asked = if is_folder_node node then bit_and asked 7 else bit_and asked 0x27

-- what a node shows: a folder DIRECTORY beside what it stores, and a file what it stores, or NORMAL for nothing
abbrev pub shown_attributes : Node → ℕ
shown_attributes node =
    if is_folder_node node then bit_or node.attributes 0x10
    else (if node.attributes == 0 then 0x80 else node.attributes)
