-- Close (MS-RDPEFS 2.2.1.4.2).
use Rattle.std.specs.Prelude.{ℕ, ◌==◌, ◌&&◌, ◌||◌, false, not, [], ◌∷◌, filter, Some, None}
use Rattle.rd_dirinfo.specs.Paths.{Names}
use Rattle.rd_irp.specs.declared.completion.Body.TheVariants.{Closed}
use Rattle.rd_drive.specs.DriveState.{DriveState, Handle, Node, Lock, without_handle, with_node, without_node, is_open, is_folder_node, has_children}
use Rattle.rd_drive.specs.Outcome.{Outcome, News, one_of, succeeded}
use Rattle.rd_drive.specs.Changes.{removed}

-- without a handle and its locks
abbrev pub without_file : DriveState → ℕ → DriveState
without_file s file = record (without_handle s file) { locks = filter (λ (lock : Lock). not (lock.file == file)) s.locks }

-- The news of a closed file whose node stays: its locks are gone.
abbrev pub closing : ℕ → Names → News
closing file path = record { closed = Some file; unlocked = Some path; changes = [] }

-- A Close. Delete on close makes the node pending. A pending node goes with its last handle, but a folder in which something stands
-- stays, and isn't pending any more. Of a node that went no lock is left for which a request could wait.
abbrev pub close : DriveState → ℕ → Handle → Node → Outcome
close s file handle node =
    let left = without_file s file in
    let pending = node.pending || handle.delete_on_close in
    let stays = λ (after : DriveState). succeeded after Closed (closing file node.path) in
    one_of (pending && not (is_open left node.path))
    (one_of (is_folder_node node && has_children s node.path)
    (stays (with_node left (record node { pending = false })))
    (succeeded (without_node left node.path) Closed (record { closed = Some file; unlocked = None; changes = removed node ∷ [] })))
    (stays (with_node left (record node { pending = pending })))
