-- The folders that a path leads through, among a folder's nodes.
use Rattle.std.proofs.Common.{◌≡◌, ◌∙◌, refl, sym, ap, ◌+◌, Bool, true, false, ◌&&◌, List, [], ◌∷◌, ◌++◌, length, Option, Some, None, arith, append_assoc, length-append}
use Rattle.std.specs.List.{list_all}
use Rattle.std.specs.Option.{option_map, option_map_or}
use Rattle.std.proofs.lemmas.List.{append-nil}
use Rattle.std.proofs.lemmas.List.Folds.{list_all-map}
use Rattle.std.proofs.Math.Bool.{and-true}
use Rattle.rd_dirinfo.specs.declared.naming.Naming.TheVariants.{Exact}
use Rattle.rd_dirinfo.specs.Naming.{Name}
use Rattle.rd_dirinfo.specs.Paths.{Names, parent}
use Rattle.rd_drive.specs.Create.{folders_above}
use Rattle.rd_drive.specs.DriveState.{Node, has_folder, is_at_path, is_folder_node}
use Rattle.rd_drive.proofs.AboveLemmas.{parent_more}
use Rattle.rd_folder.specs.FolderCalls.{node_there}
use Rattle.rd_folder.specs.Told.{IsFolderMap, drive_over}
use Rattle.rd_folder.proofs.ExactLemmas.{parent_joined, same_exact}
use Rattle.rd_folder.proofs.HasLemmas.{Has, find_has}
use Rattle.rd_folder.proofs.MapLemmas.{HasFolder, at_folder, folder_at, held_by}
use Rattle.rd_folder_drive.specs.declared.table.Table.{Table}
use Rattle.rd_folder_drive.specs.Table.{drive_of, marked}
use Rattle.rd_folder_drive.proofs.TableLemmas.{node_seen}

implied : (a b : Bool) → (b ≡ true → a ≡ true) → (a && b) ≡ b
implied a true f = ap (λ c. c && true) (f refl)
implied true false f = refl
implied false false f = refl

-- a folder is one in the drive over its nodes
pub folder_seen : (t : Table) (nodes : List Node) (p : Names) → has_folder (drive_of t nodes) p ≡ has_folder (drive_over nodes) p
folder_seen t nodes p = ap (λ (o : Option Node). option_map_or is_folder_node o false) (node_seen t nodes p) ∙ by (node_there nodes p)
  where
    by : (o : Option Node) → option_map_or is_folder_node (option_map (marked t.opens.entries) o) false ≡ option_map_or is_folder_node o false
    by None = refl
    by (Some x) = refl

module _ (nodes : List Node) (is : IsFolderMap nodes) where
  abbrev folds : Names → Bool
  folds p = has_folder (drive_over nodes) p

  -- in what a node stands is a folder
  pub above_node : (p : Names) (x : Node) → node_there nodes p ≡ Some x → (p ≡ [] → ⊥) → folds (parent p) ≡ true
  above_node p x there some =
      let found : Has nodes x × (is_at_path Exact p x ≡ true) = find_has (is_at_path Exact p) nodes x there in
      let at : x.path ≡ p = same_exact x.path p found.1 in
      let folder : HasFolder nodes (parent x.path) = held_by nodes is x found.0 (λ none. some (sym at ∙ none)) in
      ap (λ (q : Names). folds (parent q)) (sym at) ∙ at_folder nodes is.rises (parent x.path) folder

  one_up : (front : Names) (y : Name) → folds (front ++ y ∷ []) ≡ true → folds front ≡ true
  one_up front y folder =
      let found : HasFolder nodes (front ++ y ∷ []) = folder_at nodes (front ++ y ∷ []) folder in
      let above : HasFolder nodes (parent found.0.path) = held_by nodes is found.0 found.1 (λ none. longer (sym found.2 ∙ none)) in
      ap folds (sym (ap parent found.2 ∙ parent_joined front y)) ∙ at_folder nodes is.rises (parent found.0.path) above
    where
      longer : front ++ y ∷ [] ≡ [] → ⊥
      longer none =
          let long : length (front ++ y ∷ []) ≡ length front + 1 = length-append front (y ∷ []) in
          let short : length (front ++ y ∷ []) ≡ 0 = ap (length {A = Name}) none in
          absurd (omega (arith, long, short))

  -- what a path leads through is a folder, where its end is one
  prefix_folder : (rest front : Names) → folds (front ++ rest) ≡ true → folds front ≡ true
  prefix_folder [] front folder = ap folds (sym (append-nil front)) ∙ folder
  prefix_folder (y ∷ rest) front folder = one_up front y (prefix_folder rest (front ++ y ∷ []) (ap folds (append_assoc front (y ∷ []) rest) ∙ folder))

  above : (front : Names) (y : Name) (ys : Names) → list_all (λ (q : Names). folds (front ++ q)) (folders_above (y ∷ ys)) ≡ folds (front ++ parent (y ∷ ys))
  above front y [] = and-true (folds (front ++ []))
  above front y (z ∷ zs) =
      ap (λ b. folds (front ++ []) && b) (
      list_all-map (λ (q : Names). folds (front ++ q)) (◌∷◌ y) (folders_above (z ∷ zs))
      ∙ ap (λ (f : Names → Bool). list_all f (folders_above (z ∷ zs))) (λ i. λ (q : Names). folds (sym (append_assoc front (y ∷ []) q) i))
      ∙ above (front ++ y ∷ []) z zs
      ∙ ap folds (append_assoc front (y ∷ []) (parent (z ∷ zs)) ∙ ap (λ (q : Names). front ++ q) (sym (parent_more y z zs))))
      ∙ implied (folds (front ++ [])) (folds (front ++ parent (y ∷ z ∷ zs))) (λ t. ap folds (append-nil front) ∙ prefix_folder (parent (y ∷ z ∷ zs)) front t)

  -- all folders above a path are there where the last is
  pub all_above : (p : Names) → (p ≡ [] → ⊥) → list_all folds (folders_above p) ≡ folds (parent p)
  all_above [] some = absurd (some refl)
  all_above (y ∷ ys) some = above [] y ys

  -- and so they are above what stands there
  pub found_above : (p : Names) (x : Node) → node_there nodes p ≡ Some x → list_all folds (folders_above p) ≡ true
  found_above [] x there = refl
  found_above (y ∷ ys) x there = all_above (y ∷ ys) (λ e. absurd (cc)) ∙ above_node (y ∷ ys) x there (λ e. absurd (cc))
