-- Adding what a drive begins with.
use Rattle.std.specs.Prelude.{◌≡◌, ℕ, ◌⊎◌, not, nat_le, if◌then◌else◌, List, [], ◌∷◌, length, Option, Some, None, is_some, Result, Ok, Err}
use Rattle.std.specs.Option.{unwrap_or}
use Rattle.rd_base.specs.Limits.{max_nodes}
use Rattle.rd_dirinfo.specs.Paths.{Names, parent}
use Rattle.rd_tree.specs.declared.refusal.AddNo.{AddNo}
use Rattle.rd_tree.specs.declared.refusal.AddNo.TheVariants as add
use Rattle.rd_drive.specs.DriveState.{DriveState, has_folder, holding, node_of_path}

-- why nothing can be added at a path: it is the root's; no folder is at its parent; a node is there; or there is no room for one more
abbrev pub hold_refusal : DriveState → Names → Option AddNo
hold_refusal s [] = Some add.Collision
hold_refusal s (name ∷ names) =
    if not (has_folder s (parent (name ∷ names))) then Some add.PathNotFound
    else (if is_some (node_of_path s (name ∷ names)) then Some add.Collision
    else (if nat_le max_nodes (length s.nodes) then Some add.Full
    else None))

-- What adding a folder, or a file with bytes, answers, and what it leaves. It fails by the table, or where there is no memory; a failure changes
-- nothing.
abbrev pub HoldsNode : DriveState → Names × Option (List ℕ) → Result (Unit {0}) AddNo → DriveState → Type 0
HoldsNode old first (Ok done) new = (hold_refusal old first.0 ≡ None) × (holding old first ≡ new)
HoldsNode old first (Err why) new = ((why ≡ unwrap_or (hold_refusal old first.0) add.Memory) ⊎ (why ≡ add.Memory)) × (new ≡ old)
