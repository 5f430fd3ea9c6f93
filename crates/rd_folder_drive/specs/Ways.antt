-- A path as its names are kept, and what comes of it when it gets another beginning.
use Rattle.std.specs.Prelude.{◌≡◌, ℕ, ◌+◌, ◌&&◌, Bool, true, false, not, ◌++◌, drop, length, sum_by, Option, Some, None}
use Rattle.rd_dirinfo.specs.declared.naming.Naming.TheVariants.{Exact}
use Rattle.rd_dirinfo.specs.Naming.{Name}
use Rattle.rd_dirinfo.specs.Paths.{Names, is_prefix, is_within_limits, moved_path}
use Rattle.rd_folder_drive.specs.declared.way.Held.{Held}
use Rattle.rd_folder_drive.specs.declared.way.Held.TheVariants as held

-- the names that are kept
abbrev pub held_names : Held → Names
held_names (held.Whole path) = path
held_names (held.Joined names) = names.items

-- how many units names have, with one after each
abbrev pub ended_len : Names → ℕ
ended_len names = sum_by (λ (name : Name). length name + 1) names

-- a path at or below one would be past the limits, once it has another beginning
abbrev pub goes_far : Names → Names → Names → Bool
goes_far from to path = is_prefix Exact from path && not (is_within_limits (to ++ drop (length from) path))

-- a path once what is at or below one is moved to another; none where it would be past the limits
abbrev pub IsMovedPath : Names → Names → Names → Option Names → Type 0
IsMovedPath from to path None = goes_far from to path ≡ true
IsMovedPath from to path (Some moved) = (goes_far from to path ≡ false) × (moved ≡ moved_path Exact from to path)
