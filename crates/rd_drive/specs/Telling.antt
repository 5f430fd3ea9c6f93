-- Which changes who watches a folder is told, and the names that are told.
use Rattle.std.specs.Prelude.{◌≡◌, ℕ, ◌&&◌, ◌||◌, Bool, List, [], ◌∷◌, ◌++◌, length, drop}
use Rattle.rd_dirinfo.specs.declared.naming.Naming.{Naming}
use Rattle.rd_dirinfo.specs.Naming.{Name}
use Rattle.rd_dirinfo.specs.Paths.{Names, is_below, is_parent, joined}
use Rattle.rd_tree.specs.Places.{Places, own_path, IsLive}
use Rattle.rd_drive.specs.declared.news.Named.{Named}
use Rattle.rd_drive.specs.Access.{has_any}
use Rattle.rd_drive.specs.Outcome.{Change}
use Rattle.rd_drive.specs.Store.{named_path}

-- a path is in a folder, or with `deep` anywhere below it
abbrev pub is_watched : Naming → Names → Bool → Names → Bool
is_watched naming folder deep path = is_parent naming folder path || (deep && is_below naming folder path)

-- who watches a folder is told of a change
abbrev pub tells : Naming → Names → Bool → ℕ → Change → Bool
tells naming folder deep filter change = has_any filter change.bits && is_watched naming folder deep change.path

-- what a change is about stands in a folder, under a name
abbrev pub IsIn : Places → Named → ℕ → Name → Type 0
IsIn tree named folder name = IsLive tree folder × (named_path tree named ≡ own_path tree folder ++ name ∷ [])

-- the names from a folder on down to one in another folder
abbrev pub name_below : Places → ℕ → ℕ → Name → List ℕ
name_below tree folder parent name = joined (drop (length (own_path tree folder)) (own_path tree parent ++ name ∷ []))
