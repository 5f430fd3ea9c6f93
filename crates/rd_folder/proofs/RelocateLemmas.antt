-- Nodes that get other paths: what the code makes of their lists.
use Rattle.std.proofs.Common.{◌≡◌, ◌∙◌, refl, sym, ap, ℕ, ◌+◌, ◌-◌, List, [], ◌∷◌, ◌++◌, map, take, drop, length, get_or, set, suc, Vec, Option, Some, None, length-append, length-drop, min}
use Rattle.std.proofs.lemmas.List.{length-map, length-take, map-append, map-set, set-get_or, take-map}
use Rattle.std.specs.List.{drop-map}
use Rattle.rd_dirinfo.specs.declared.naming.Naming.TheVariants.{Exact}
use Rattle.rd_dirinfo.specs.Naming.{Name}
use Rattle.rd_dirinfo.specs.Paths.{Names, moved_path}
use Rattle.rd_drive.specs.DriveState.{Node}
use Rattle.rd_folder.specs.InMemory.{carried, relocating, left_out, paths_of}

-- what is left out of as many is as many
pub length_left : {X Y : Type 0} (xs : List X) (ys : List Y) (at : Option ℕ) → length xs ≡ length ys → length (left_out xs at) ≡ length (left_out ys at)
length_left xs ys None same = same
length_left xs ys (Some i) same =
    simp (length-append, length-take, length-drop) (ap (λ (n : ℕ). min i n + (n - suc i)) same)

pub length_paths : {A : Type 0} (paths : List (Vec Name A)) (nodes : List Node) (f : Node → Names) → paths_of paths ≡ map f nodes → length paths ≡ length nodes
length_paths {A = A} paths nodes f are = sym (length-map paths (λ (p : Vec Name A). p.items)) ∙ ap length are ∙ length-map nodes f

pub left_map : {X Y : Type 0} (f : X → Y) (xs : List X) (at : Option ℕ) → left_out (map f xs) at ≡ map f (left_out xs at)
left_map f xs None = refl
left_map f xs (Some i) = (λ k. take-map f i xs k ++ drop-map f (suc i) xs k) ∙ sym (map-append f (take i xs) (drop (suc i) xs))

carried_map : (g : Node → Names) (nodes : List Node) → carried nodes (map g nodes) ≡ map (λ (node : Node). record node { path = g node }) nodes
carried_map g [] = refl
carried_map g (node ∷ nodes) = ap (◌∷◌ (record node { path = g node })) (carried_map g nodes)

module _ (from to : Names) where
  abbrev new_path : Node → Names
  new_path node = moved_path Exact from to node.path

  -- each node gets the path of its place
  pub carried_left : {A : Type 0} (nodes : List Node) (paths : List (Vec Name A)) → paths_of paths ≡ map new_path nodes → (at : ℕ) (new d : Node) → new.path ≡ (get_or nodes at d).path → (target : Option ℕ)
      → carried (left_out (set nodes at new) target) (paths_of (left_out paths target)) ≡ map (relocating from to) (left_out (set nodes at new) target)
  carried_left {A = A} nodes paths are at new d same target =
      let still : map new_path nodes ≡ map new_path (set nodes at new) =
      sym (map-set new_path nodes at new ∙ ap (λ (p : Names). set (map new_path nodes) at p) (ap (λ (p : Names). moved_path Exact from to p) same) ∙ sym (map-set new_path nodes at (get_or nodes at d)) ∙ ap (map new_path) (set-get_or nodes at d)) in
      ap (carried (left_out (set nodes at new) target)) (sym (left_map (λ (p : Vec Name A). p.items) paths target) ∙ ap (λ (ps : List Names). left_out ps target) (are ∙ still) ∙ left_map new_path (set nodes at new) target)
      ∙ carried_map new_path (left_out (set nodes at new) target)
