-- What is open, once what is at or below one path is moved to another, and when it is.
use Rattle.std.specs.Prelude.{◌≡◌, ◌⊎◌, ℕ, ◌==◌, ◌&&◌, ◌||◌, Bool, true, false, not, if◌then◌else◌, List, [], ◌∷◌, length, map, Option, Some, None, is_some}
use Rattle.std.specs.List.{list_any}
use Rattle.std.specs.Option.{option_map_or}
use Rattle.std.specs.BTreeMap.{BTreeMap}
use Rattle.rd_base.specs.Statuses.{access_denied, object_name_collision}
use Rattle.rd_base.specs.declared.status.Status.{Status}
use Rattle.rd_dirinfo.specs.declared.naming.Naming.TheVariants.{Exact}
use Rattle.rd_dirinfo.specs.Paths.{Names, is_below, is_prefix, is_same_path, moved_path, parent}
use Rattle.rd_drive.specs.Access.{has_any}
use Rattle.rd_folder.specs.declared.look.Look.{Look}
use Rattle.rd_folder_drive.specs.declared.news.Named.TheVariants as named
use Rattle.rd_folder_drive.specs.declared.news.Change as told
use Rattle.rd_folder_drive.specs.declared.news.News as told_news
use Rattle.rd_folder_drive.specs.declared.open.Open.{Open}
use Rattle.rd_folder_drive.specs.declared.table.Table.{Table}
use Rattle.rd_folder_drive.specs.Asking.{TellsFolder}
use Rattle.rd_folder_drive.specs.Served.{Seen}
use Rattle.rd_folder_drive.specs.Setting.{OfOpen}
use Rattle.rd_folder_drive.specs.Ways.{goes_far}

-- ---- what is open

-- what is open, at the path that it has then
abbrev pub moved_open : Names → Names → Open → Open
moved_open from to o = record o { path = moved_path Exact from to o.path }

abbrev pub moved_entry : Names → Names → ℕ × Open → ℕ × Open
moved_entry from to e = (e.0, moved_open from to e.1)

-- its path would be past the limits
abbrev pub is_far : Names → Names → ℕ × Open → Bool
is_far from to e = goes_far from to (e.1).path

-- it is moved; or it isn't, since its path would be past the limits
abbrev pub IsMovedOpen : Names → Names → Open → Option Open → Type 0
IsMovedOpen from to o None = goes_far from to o.path ≡ true
IsMovedOpen from to o (Some moved) = (goes_far from to o.path ≡ false) × (moved ≡ moved_open from to o)

-- all is moved that is open, or not all can be
abbrev pub AreMoved : Names → Names → List (ℕ × Open) → Option (BTreeMap ℕ Open) → Type 0
AreMoved from to opens None = list_any (is_far from to) opens ≡ true
AreMoved from to opens (Some moved) = (list_any (is_far from to) opens ≡ false) × (moved.entries ≡ map (moved_entry from to) opens)

-- it is open at a path or below it
abbrev pub is_open_in : Names → ℕ × Open → Bool
is_open_in path e = is_prefix Exact path (e.1).path

-- ---- what is at the target

-- it can't be replaced: a folder, or a file that is read-only
abbrev pub is_kept_look : Look → Bool
is_kept_look look = look.folder || (not look.folder && has_any 1 look.attributes)

-- something is there that isn't to be replaced
abbrev pub is_covered : Bool → Option Look → Bool
is_covered replace target = is_some target && not replace

-- something is there that can't be, or something is open at it or below it
abbrev pub is_barred : List (ℕ × Open) → Names → Option Look → Bool
is_barred opens to target = option_map_or is_kept_look target false || list_any (is_open_in to) opens

abbrev pub MayReplace : Table → Names → Bool → Option Look → Type 0
MayReplace t to replace target = (is_covered replace target ≡ false) × (is_barred t.opens.entries to target ≡ false)

abbrev pub MayNotReplace : Table → Names → Bool → Option Look → Status → Type 0
MayNotReplace t to replace target status =
    ((status ≡ object_name_collision) × (is_covered replace target ≡ true))
    ⊎ ((status ≡ access_denied) × (is_covered replace target ≡ false) × (is_barred t.opens.entries to target ≡ true))

-- A path to which what a file id has open may go: it isn't the root's, its own, or one below it, and a folder is above it.
pub record IsNewPath (t : Table) (folder : Seen) (file : ℕ) (to : Names) : Type 0 where
  pub some : (length to == 0) ≡ false
  pub other : OfOpen t file (λ o. is_same_path Exact to o.path ≡ false)
  pub past : OfOpen t file (λ o. is_below Exact o.path to ≡ false)
  pub parent : TellsFolder folder (parent to) true

-- ---- the news

-- FILE_NOTIFY_CHANGE_FILE_NAME for a file, FILE_NOTIFY_CHANGE_DIR_NAME for a folder
abbrev pub kind_bit : Bool → ℕ
kind_bit folder = if folder then 2 else 1

-- what was at the target went
abbrev pub target_gone : Names → Option Look → Option told.Change
target_gone to None = None
target_gone to (Some look) = Some (record { action = 2; named = named.Gone to; bits = kind_bit look.folder })

-- what is open by a number had one path, and has another one
abbrev pub move_news : Names → Names → ℕ → Bool → Option Look → told_news.News
move_news from to n folder target = record {
  closed = None;
  unlocked = None;
  changes = target_gone to target ∷ Some (record { action = 4; named = named.Gone from; bits = kind_bit folder }) ∷ Some (record { action = 5; named = named.Node n; bits = kind_bit folder }) ∷ [];
}
