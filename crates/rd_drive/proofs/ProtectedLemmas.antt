-- A node that can be replaced: nothing has it open, and it is a file. The drive without it is what is kept without it.
use Rattle.std.proofs.Common.{◌≡◌, ◌∙◌, refl, sym, ap, ℕ, ◌==◌, Bool, true, false, not, ◌&&◌, ◌||◌, cond, map, filter, Option, Some, None}
use Rattle.std.specs.Prelude.{nat_lt}
use Rattle.std.specs.List.{list_any}
use Rattle.std.specs.Option.{option_map, option_map_or, option_and_then, unwrap_or, is_some}
use Rattle.std.specs.Ordering.{nat_cmp}
use Rattle.std.specs.Map.{keys_of}
use Rattle.std.specs.List.Sorted.{IsStrictlySortedBy}
use Rattle.std.specs.BTreeMap.{is_at}
use Rattle.std.proofs.lemmas.Bool.{eqb-true}
use Rattle.rd_drive.proofs.WithoutLemmas.{nodes_without}
use Rattle.rd_dirinfo.specs.Paths.{Names}
use Rattle.rd_tree.specs.Places.{Place, Places, place, own_path, bytes_at, cleared, is_folder, node_at, without, IsLive}
use Rattle.rd_drive.specs.declared.handle.Handle as kept
use Rattle.rd_drive.specs.declared.node.NodeState.{NodeState}
use Rattle.rd_drive.specs.declared.store.Store.{Store}
use Rattle.rd_drive.specs.declared.uses.Uses.{Uses}
use Rattle.rd_drive.specs.Access.{has_any}
use Rattle.rd_drive.specs.DriveState as drive
use Rattle.rd_drive.specs.DriveState.{DriveState, Node, in_order, is_at_path, is_open, without_node}
use Rattle.rd_drive.specs.Kept.{own_node}
use Rattle.rd_drive.specs.Rename.{is_protected}
use Rattle.rd_drive.specs.Store.{state_of, node_of, nodes_of, drive_of, kept_handle, IsSound}
use Rattle.rd_drive.proofs.HandlesLemmas.{all_kept, found_passes, open_counted}
use Rattle.rd_drive.proofs.StoreLemmas.{own_is}
use Rattle.rd_drive.proofs.UsesLemmas.{any_handle}

module _ (s : Store) (sound : IsSound s) (order : IsStrictlySortedBy nat_cmp (keys_of s.handles.entries)) (t : ℕ) (live : IsLive s.tree t) where
  -- whether it is open, by the count of its handles
  open_is : is_open (drive_of s) (own_path s.tree t) ≡ nat_lt 0 (state_of s.states t).uses.handles
  open_is = open_counted s sound t live s.handles.entries (all_kept s order) ∙ ap (λ (u : Uses). nat_lt 0 u.handles) (sym (sound.uses t live))

  -- whether it can't be replaced, as the call finds it
  pub protected_is : (folder : Bool) → folder ≡ not (is_some (bytes_at s.tree t)) → (state : NodeState) → state ≡ state_of s.states t
      → (readonly : Bool) → readonly ≡ (not folder && has_any 1 state.attributes) → (folder || readonly || nat_lt 0 state.uses.handles) ≡ is_protected (drive_of s) (own_node s t)
  protected_is folder folds state kept readonly reads =
      λ i. folds i || (reads ∙ (λ j. not (folds j) && has_any 1 (kept j).attributes)) i || (ap (λ (st : NodeState). nat_lt 0 st.uses.handles) kept ∙ sym open_is) i

  module _ (free : is_protected (drive_of s) (own_node s t) ≡ false) where
    parts : (a b c : Bool) → (a || b || c) ≡ false → (a ≡ false) × (c ≡ false)
    parts true b c e = absurd (cc)
    parts false true c e = absurd (cc)
    parts false false c e = (refl, e)

    both : (drive.is_folder_node (own_node s t) ≡ false) × (is_open (drive_of s) (own_path s.tree t) ≡ false)
    both = parts (drive.is_folder_node (own_node s t)) (not (drive.is_folder_node (own_node s t)) && has_any 1 (own_node s t).attributes) (is_open (drive_of s) (own_path s.tree t)) free

    -- no handle is on it
    no_handle : list_any (λ (e : ℕ × kept.Handle). e.1.node.0 == t) s.handles.entries ≡ false
    no_handle = sym (any_handle t s.handles.entries) ∙ sym (open_counted s sound t live s.handles.entries (all_kept s order)) ∙ both.1

    pub not_opened : (file : ℕ) (h : kept.Handle) → kept_handle s file ≡ Some h → (h.node.0 == t) ≡ false
    not_opened file h is = found_passes (λ (e : kept.Handle). e.node.0 == t) (is_at (nat_cmp file)) s.handles.entries h is no_handle

    -- and it is no folder
    pub not_folder : (k : ℕ) → is_folder s.tree k ≡ Some true → (k == t) ≡ false
    not_folder k folds = by (k == t) refl
      where
        bytes : (o : Option Place) → option_map (λ (p : Place). not (is_some p.bytes)) o ≡ Some true → not (is_some (option_and_then (λ (p : Place). p.bytes) o)) ≡ true
        bytes None e = refl
        bytes (Some x) e = ap (λ (b : Option Bool). unwrap_or b true) e

        by : (b : Bool) → (k == t) ≡ b → b ≡ false
        by true e =
            let folder : not (is_some (bytes_at s.tree t)) ≡ true = bytes (place s.tree t) (ap (is_folder s.tree) (sym (eqb-true k t e)) ∙ folds) in
            absurd (let clash : true ≡ false = sym folder ∙ both.0 in cc)
        by false e = refl

-- ---- the places without one
module _ (tree : Places) (t : ℕ) where
  pub cleared_one : (n : ℕ) (to : Names) → node_at tree to ≡ Some t → (t ≡ n → ⊥) → cleared tree n to ≡ without tree t
  cleared_one n to at apart = ap (λ (o : Option ℕ). option_map_or (λ m. cond (m == n) tree (without tree m)) o tree) at ∙ ap (λ b. cond b tree (without tree t)) (by (t == n) refl)
    where
      by : (b : Bool) → (t == n) ≡ b → (t == n) ≡ false
      by true e = absurd (apart (eqb-true t n e))
      by false e = e

-- ---- the drive without one
module _ (s : Store) (sound : IsSound s) (t : ℕ) (x : Place) (here : place s.tree t ≡ Some x) where
  pub drive_without : (left : Places) → left ≡ without s.tree t → ◌≡◌ {A = DriveState} (record (drive_of s) { nodes = in_order s.tree.naming (map (node_of s.states) left.list) }) (without_node (drive_of s) (own_path s.tree t))
  drive_without left is = λ i. record (drive_of s) { nodes = nodes i }
    where
      nodes : in_order s.tree.naming (map (node_of s.states) left.list) ≡ filter (λ (node : Node). not (is_at_path s.naming (own_path s.tree t) node)) (nodes_of s.tree s.states)
      nodes =
          ap (λ (p : Places). in_order s.tree.naming (map (node_of s.states) p.list)) is
          ∙ nodes_without s.tree sound.whole t x here s.states s.states (λ k other. refl)
          ∙ (λ i. filter (λ (node : Node). not (is_at_path (sound.naming i) (sym (own_is s.tree sound.whole t x here) i) node)) (nodes_of s.tree s.states))
