-- A close of what a file id has open: its node stays, stays as a folder in which something stands, or goes.
use Rattle.std.proofs.Common.{◌≡◌, ◌∙◌, refl, sym, ap, subst, ℕ, ◌==◌, Bool, true, false, not, ◌&&◌, ◌||◌, cond, List, [], ◌∷◌, ◌++◌, map, length, Some, None, Ok}
use Rattle.std.specs.Prelude.{nat_lt, nat_eq}
use Rattle.std.specs.List.{list_any}
use Rattle.std.specs.List.Sorted.{IsStrictlySortedBy}
use Rattle.std.specs.Option.{option_map, is_some}
use Rattle.std.specs.Ordering.{nat_cmp}
use Rattle.std.specs.HashMap.{get}
use Rattle.std.specs.Map.{keys_of, lookup, remove_entry}
use Rattle.std.specs.BTreeMap.{is_at}
use Rattle.std.proofs.lemmas.Bool.{eqb-true, eq-eqb}
use Rattle.std.proofs.Math.Bool.{and-false}
use Rattle.rd_irp.specs.declared.completion.Body.TheVariants.{Closed}
use Rattle.rd_dirinfo.specs.Naming.{Name}
use Rattle.rd_dirinfo.specs.Paths.{Names, is_parent, is_same_path, is_within_limits, last_name, parent}
use Rattle.rd_locks.specs.Locks.{LockList, released}
use Rattle.rd_tree.specs.declared.node.NodeId.{NodeId}
use Rattle.rd_tree.specs.Places as places
use Rattle.rd_tree.specs.Places.{Place, Places, place, own_path, has_child, without, IsLive, IsWhole}
use Rattle.rd_tree.proofs.WayLemmas.{same_true}
use Rattle.rd_drive.specs.declared.handle.Handle as kept
use Rattle.rd_drive.specs.declared.node.NodeState.{NodeState}
use Rattle.rd_drive.specs.declared.uses.Uses.{Uses}
use Rattle.rd_drive.specs.declared.store.Store.{Store}
use Rattle.rd_drive.specs.declared.store.Done.TheVariants as done
use Rattle.rd_drive.specs.declared.news.Named.TheVariants as named
use Rattle.rd_drive.specs.Access.{use_of}
use Rattle.rd_drive.specs.DriveState.{DriveState, Node, has_open, is_open, has_children, is_folder_node, with_node, without_node}
use Rattle.rd_drive.specs.Outcome.{Outcome, on_handle, succeeded}
use Rattle.rd_drive.specs.Changes.{removed}
use Rattle.rd_drive.specs.Close as closes
use Rattle.rd_drive.specs.Close.{close, closing}
use Rattle.rd_drive.specs.Closed.{closed_on}
use Rattle.rd_drive.specs.Uses.{uses_of}
use Rattle.rd_drive.specs.UseCounts.{more}
use Rattle.rd_drive.specs.Kept.{IsKept}
use Rattle.rd_drive.specs.Store.{States, Handles, state_of, node_with, handle_of, drive_of, kept_handle, uses_on, IsSound, Serves}
use Rattle.rd_drive.proofs.AboveLemmas.{child_folder, children_seen, parent_more, path_joined}
use Rattle.rd_drive.proofs.CheckLemmas.{one_true, one_false}
use Rattle.rd_drive.proofs.ClosedLemmas.{gone_drive, gone_sound, left_drive, left_sound, own_other, place_other, without_it}
use Rattle.rd_drive.proofs.HandleLemmas.{on_open}
use Rattle.rd_drive.proofs.HandlesLemmas.{all_kept, kept_fewer, open_counted, removed_seen, seen_entry}
use Rattle.rd_drive.proofs.StoreLemmas.{own_is}
use Rattle.rd_drive.proofs.UsesLemmas.{any_handle, on_removed, use_by}

-- the parent of such a path is another
pub parent_apart : (y : Name) (ys : Names) → parent (y ∷ ys) ≡ y ∷ ys → ⊥
parent_apart y [] e = absurd (cc)
parent_apart y (z ∷ zs) e = parent_apart z zs (ap (λ (p : Names). drop_one p) (sym (parent_more y z zs) ∙ e))
  where
    drop_one : Names → Names
    drop_one [] = []
    drop_one (x ∷ xs) = xs

-- a number that isn't 0 has names
pub own_names : (tree : Places) → IsWhole tree → (n : ℕ) → IsLive tree n → (0 ≡ n → ⊥) → (y : Name) × (ys : Names) × (own_path tree n ≡ y ∷ ys)
own_names tree whole n live other = by (own_path tree n) refl
  where
    by : (p : Names) → own_path tree n ≡ p → (y : Name) × (ys : Names) × (p ≡ y ∷ ys)
    by [] e =
        let root : own_path tree 0 ≡ [] = own_is tree whole 0 (record { path = []; bytes = None }) whole.root in
        let same : is_same_path tree.naming (own_path tree 0) (own_path tree n) ≡ true = (λ i. is_same_path tree.naming (root i) (e i)) ∙ same_true tree.naming [] [] refl in
        absurd (other (whole.apart 0 n (ap is_some whole.root) live same))
    by (y ∷ ys) e = (y, ys, refl)

module _ (s : Store) (sound : IsSound s) (file : ℕ) (h : kept.Handle) (is : kept_handle s file ≡ Some h) where
  abbrev pub n : ℕ
  n = h.node.0

  abbrev pub rest : List (ℕ × kept.Handle)
  rest = remove_entry (is_at (nat_cmp file)) s.handles.entries

  abbrev pub pending : Bool
  pending = (state_of s.states n).pending || h.delete_on_close

  -- of the uses of its node this one goes
  pub uses_before : (state_of s.states n).uses ≡ more (use_by h) (uses_of (uses_on n rest))
  uses_before =
      sound.uses n (sound.opened file h is).0
      ∙ on_removed n (is_at (nat_cmp file)) s.handles.entries h is
      ∙ ap (λ b. cond b (more (use_by h) (uses_of (uses_on n rest))) (uses_of (uses_on n rest))) (eq-eqb n n refl)

  -- what is kept of the node then
  pub left_is : (was now : NodeState) → was ≡ state_of s.states n
      → ((uses : Uses) → was.uses ≡ more (use_of h.access h.share) uses → now ≡ record was { uses = uses; pending = was.pending || h.delete_on_close })
      → now ≡ record (state_of s.states n) { uses = uses_of (uses_on n rest); pending = pending }
  left_is was now e f =
      f (uses_of (uses_on n rest)) (ap (λ (st : NodeState). st.uses) e ∙ uses_before)
      ∙ ap (λ (st : NodeState). record st { uses = uses_of (uses_on n rest); pending = st.pending || h.delete_on_close }) e

  root_stays : n ≡ 0 → pending ≡ false
  root_stays z = (λ i. (state_of s.states (z i)).pending || ((sound.opened file h is).2 z) i) ∙ ap (λ b. b || false) sound.root

  pub not_root : (b : Bool) → (pending && b) ≡ true → 0 ≡ n → ⊥
  not_root b goes z = let both : true ≡ false = sym goes ∙ ap (λ c. c && b) (root_stays (sym z)) in absurd (cc)

  module _ (rising : IsStrictlySortedBy nat_cmp (keys_of s.handles.entries)) (x : Place) (here : place s.tree n ≡ Some x) where
    abbrev pub node : Node
    node = node_with (state_of s.states n) x

    abbrev pub left : DriveState
    left = closes.without_file (drive_of s) file

    abbrev pub comes : Outcome
    comes = on_handle (drive_of s) file (close (drive_of s) file)

    goes : comes ≡ close (drive_of s) file (handle_of s.tree h) node
    goes = on_open s sound file h is x here (close (drive_of s) file)

    open_left : is_open left x.path ≡ nat_lt 0 (length (uses_on n rest))
    open_left =
        ap (list_any (has_open (drive_of s) x.path)) (removed_seen s.tree (is_at (nat_cmp file)) s.handles.entries)
        ∙ ap (λ (p : Names). list_any (has_open (drive_of s) p) (map (seen_entry s.tree) rest)) (sym (own_is s.tree sound.whole n x here))
        ∙ open_counted s sound n (ap is_some here) rest (kept_fewer (kept_handle s) (is_at (nat_cmp file)) s.handles.entries (all_kept s rising))

    -- whether the node goes, if nothing stands in it
    goes_is : (b : Bool) → (pending && not (nat_lt 0 (length (uses_on n rest)))) ≡ b → (pending && not (is_open left x.path)) ≡ b
    goes_is b e = ap (λ c. pending && not c) open_left ∙ e

    filled_is : (is_folder_node node && has_children (drive_of s) x.path) ≡ has_child s.tree n
    filled_is =
        ap (λ b. not (is_some x.bytes) && b) (ap (λ naming. list_any (λ (other : Node). is_parent naming x.path other.path) (drive_of s).nodes) (sym sound.naming) ∙ children_seen s.tree sound.whole s.states n x here)
        ∙ by (has_child s.tree n) refl
      where
        by : (b : Bool) → has_child s.tree n ≡ b → (not (is_some x.bytes) && b) ≡ b
        by true e = ap (λ c. c && true) (child_folder s.tree sound.whole n x here e)
        by false e = and-false (not (is_some x.bytes))

    pub comes_staying : (pending && not (nat_lt 0 (length (uses_on n rest)))) ≡ false → comes ≡ succeeded (with_node left (record node { pending = pending })) Closed (closing file x.path)
    comes_staying e = goes ∙ one_false _ _ _ (goes_is false e)

    pub comes_filled : (pending && not (nat_lt 0 (length (uses_on n rest)))) ≡ true → has_child s.tree n ≡ true → comes ≡ succeeded (with_node left (record node { pending = false })) Closed (closing file x.path)
    comes_filled e f = goes ∙ one_true _ _ _ (goes_is true e) ∙ one_true _ _ _ (filled_is ∙ f)

    pub comes_gone : (pending && not (nat_lt 0 (length (uses_on n rest)))) ≡ true → has_child s.tree n ≡ false
        → comes ≡ succeeded (without_node left x.path) Closed (record { closed = Some file; unlocked = None; changes = removed node ∷ [] })
    comes_gone e f = goes ∙ one_true _ _ _ (goes_is true e) ∙ one_false _ _ _ (filled_is ∙ f)

    module _ (handles : Handles) (out : handles.entries ≡ rest)
        (looked : (k : ℕ) → lookup (is_at (nat_cmp k)) handles.entries ≡ cond (is_at (nat_cmp file) k) None (kept_handle s k))
        (locks : LockList) (unlocked : locks ≡ record s.locks { locks = released file s.locks.locks }) where
      -- the node stays, pending or not
      serves_staying : (stays : Bool) → (n ≡ 0 → stays ≡ false) → (states : States) → IsKept s.states states n (record (state_of s.states n) { uses = uses_of (uses_on n rest); pending = stays })
          → comes ≡ succeeded (with_node left (record node { pending = stays })) Closed (closing file x.path)
          → Serves s (record s { handles = handles; locks = locks; states = states }) comes (Ok (done.Replied Closed (closed_on file h.node)))
      serves_staying stays root states now e = (
        left_sound s sound file h is handles out looked locks unlocked stays root states now,
        (ap is_some here, (tt, (tt, (tt, tt)))),
        e ∙ (λ i. succeeded (sym (left_drive s sound file h is handles out looked locks unlocked stays root states now x here) i) Closed (closing file (sym (own_is s.tree sound.whole n x here) i))),
      )

      pub serves_stays : (states : States) → IsKept s.states states n (record (state_of s.states n) { uses = uses_of (uses_on n rest); pending = pending })
          → (pending && not (nat_lt 0 (length (uses_on n rest)))) ≡ false
          → Serves s (record s { handles = handles; locks = locks; states = states }) comes (Ok (done.Replied Closed (closed_on file h.node)))
      serves_stays states now e = serves_staying pending root_stays states now (comes_staying e)

      pub serves_filled : (states : States) → IsKept s.states states n (record (state_of s.states n) { uses = uses_of (uses_on n rest); pending = false })
          → (pending && not (nat_lt 0 (length (uses_on n rest)))) ≡ true → has_child s.tree n ≡ true
          → Serves s (record s { handles = handles; locks = locks; states = states }) comes (Ok (done.Replied Closed (closed_on file h.node)))
      serves_filled states now e f = serves_staying false (λ z. refl) states now (comes_filled e f)

      -- the node goes
      module _ (e : (pending && not (nat_lt 0 (length (uses_on n rest)))) ≡ true) (f : has_child s.tree n ≡ false)
          (states : States) (now : (k : ℕ) → get nat_eq states k ≡ cond (nat_eq n k) None (get nat_eq s.states k)) where
        other : 0 ≡ n → ⊥
        other = not_root (not (nat_lt 0 (length (uses_on n rest)))) e

        alone : list_any (λ (g : ℕ × kept.Handle). g.1.node.0 == n) rest ≡ false
        alone = sym (any_handle n rest) ∙ by (nat_lt 0 (length (uses_on n rest))) pending e
          where
            by : (b p : Bool) → (p && not b) ≡ true → b ≡ false
            by true true t = absurd (cc)
            by true false t = absurd (cc)
            by false p t = refl

        names : (y : Name) × (ys : Names) × (own_path s.tree n ≡ y ∷ ys)
        names = own_names s.tree sound.whole n (ap is_some here) other

        module _ (folder : NodeId) (name : Name) (bits : ℕ) (up : own_path s.tree folder.0 ≡ parent (own_path s.tree n)) (folds : places.is_folder s.tree folder.0 ≡ Some true)
            (last : name ≡ last_name (own_path s.tree n)) (kind : bits ≡ cond (is_folder_node node) 2 1) (tree : Places) (without_n : tree ≡ without s.tree n) (after : IsWhole tree) where
          apart : (folder.0 == n) ≡ false
          apart = by (folder.0 == n) refl
            where
              by : (b : Bool) → (folder.0 == n) ≡ b → (folder.0 == n) ≡ false
              by true t = absurd (parent_apart names.0 names.1 (sym (up ∙ ap parent names.2) ∙ ap (own_path s.tree) (eqb-true folder.0 n t) ∙ names.2))
              by false t = t

          joined : own_path (without s.tree n) folder.0 ++ name ∷ [] ≡ own_path s.tree n
          joined =
              (λ i. (own_other s sound file h is handles out looked locks unlocked other alone states now folder.0 apart ∙ up ∙ ap parent names.2) i ++ (last ∙ ap last_name names.2) i ∷ [])
              ∙ path_joined names.0 names.1 ∙ sym names.2

          serves_without : Serves s (without_it s sound file h is handles out looked locks unlocked other alone states now) comes
              (Ok (done.Replied Closed (record { closed = Some file; unlocked = None; changes = Some (record { action = 2; named = named.Gone folder name; bits = bits }) ∷ None ∷ None ∷ [] })))
          serves_without = (
            gone_sound s sound file h is handles out looked locks unlocked other alone states now (subst IsWhole without_n after),
            (
              tt,
              (
                (
                  ap (option_map (λ (p : Place). not (is_some p.bytes))) (place_other s sound file h is handles out looked locks unlocked other alone states now folder.0 apart) ∙ folds,
                  ap is_within_limits joined ∙ sound.fitting n (ap is_some here),
                ),
                (tt, (tt, tt)),
              ),
            ),
            comes_gone e f ∙ (λ i. succeeded (sym (gone_drive s sound file h is handles out looked locks unlocked other alone states now x here) i) Closed
                (record { closed = Some file; unlocked = None; changes = record { action = 2; path = sym (joined ∙ own_is s.tree sound.whole n x here) i; bits = sym kind i } ∷ [] })),
          )

          pub serves_gone : Serves s (record s { handles = handles; locks = locks; states = states; tree = tree }) comes
              (Ok (done.Replied Closed (record { closed = Some file; unlocked = None; changes = Some (record { action = 2; named = named.Gone folder name; bits = bits }) ∷ None ∷ None ∷ [] })))
          serves_gone = subst (λ (t : Places). Serves s (record s { handles = handles; locks = locks; states = states; tree = t }) comes
              (Ok (done.Replied Closed (record { closed = Some file; unlocked = None; changes = Some (record { action = 2; named = named.Gone folder name; bits = bits }) ∷ None ∷ None ∷ [] })))) (sym without_n) serves_without
