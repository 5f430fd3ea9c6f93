-- Read and Write (MS-RDPEFS 2.2.1.4.3, 2.2.1.4.4).
use Rattle.std.specs.Prelude.{ℕ, ◌+◌, ◌==◌, ◌&&◌, Bool, not, nat_le, nat_lt, min, List, [], ◌∷◌, length, Some}
use Rattle.std.specs.List.{list_any}
use Rattle.rd_irp.specs.declared.op.Range.{Range}
use Rattle.rd_irp.specs.declared.completion.Body.TheVariants.{Buffer, Count}
use Rattle.rd_dirinfo.specs.Paths.{Names}
use Rattle.rd_contents.specs.Contents.{part, written, max_len}
use Rattle.rd_locks.specs.Locks.{overlaps}
use Rattle.rd_drive.specs.DriveState.{DriveState, Handle, Node, Lock, with_node, is_folder_node, bytes_of}
use Rattle.rd_drive.specs.Access.{reads, writes}
use Rattle.rd_drive.specs.Outcome.{Outcome, changed, done, fault, checked, succeeded, no_news}
use Rattle.rd_drive.specs.Changes.{modified}
use Rattle.rd_drive.specs.Locking.{locks_on}
use Rattle.rd_base.specs.Statuses.{invalid_device_request, access_denied, file_lock_conflict, end_of_file, disk_full}

-- the most bytes that one Read gives
abbrev pub max_read : ℕ
max_read = 1048576

-- the file with other bytes, written at a moment
abbrev pub node_with_bytes : Node → ℕ → List ℕ → Node
node_with_bytes node moment bytes = record node { bytes = Some bytes; moments = record node.moments { write = moment; change = moment } }

-- whether another handle's exclusive lock overlaps the range
abbrev pub is_read_locked : DriveState → ℕ → Names → Range → Bool
is_read_locked s file path range =
    list_any (λ (lock : Lock). overlaps range lock.range && (lock.exclusive && not (lock.file == file))) (locks_on s path)

-- whether anybody's shared lock, or another handle's exclusive one, overlaps the range
abbrev pub is_write_locked : DriveState → ℕ → Names → Range → Bool
is_write_locked s file path range =
    list_any (λ (lock : Lock). overlaps range lock.range && not (lock.exclusive && lock.file == file)) (locks_on s path)

-- A Read: it gives the bytes up to the end, at most as many as are asked for.
abbrev pub read : DriveState → ℕ → ℕ → ℕ → Handle → Node → Outcome
read s file offset asked handle node =
    let count = min asked max_read in
    checked s
    ((is_folder_node node, fault invalid_device_request)
    ∷ (not (reads handle.access), fault access_denied)
    ∷ (count == 0, done (Buffer []))
    ∷ (is_read_locked s file node.path (record { offset = offset; length = count }), fault file_lock_conflict)
    ∷ (nat_le (length (bytes_of node)) offset, fault end_of_file)
    ∷ [])
    (succeeded s (Buffer (part (bytes_of node) offset count)) no_news)

-- A Write.
abbrev pub write : DriveState → ℕ → ℕ → ℕ → List ℕ → Handle → Node → Outcome
write s moment file offset bytes handle node =
    checked s
    ((is_folder_node node, fault invalid_device_request)
    ∷ (not (writes handle.access), fault access_denied)
    ∷ (length bytes == 0, done (Count 0))
    ∷ (is_write_locked s file node.path (record { offset = offset; length = length bytes }), fault file_lock_conflict)
    ∷ (nat_lt max_len (offset + length bytes), fault disk_full)
    ∷ [])
    (succeeded (with_node s (node_with_bytes node moment (written (bytes_of node) offset bytes))) (Count (length bytes)) (changed (modified node.path ∷ [])))
