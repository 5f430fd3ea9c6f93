-- The drive over a folder of which a node was moved, and what is open with it, is the drive whose node was moved.
use Rattle.std.proofs.Common.{◌≡◌, ◌∙◌, refl, sym, ap, ℕ, inl, inr, true, false, not, cond, List, [], ◌∷◌, ◌++◌, map, Option, Some, None}
use Rattle.std.specs.List.{list_any}
use Rattle.std.specs.Option.{option_map, option_map_or}
use Rattle.std.proofs.lemmas.Bool.{not-true}
use Rattle.std.specs.BTreeMap.{BTreeMap}
use Rattle.rd_dirinfo.specs.declared.naming.Naming.TheVariants.{Exact}
use Rattle.rd_dirinfo.specs.Paths.{Names, is_prefix, last_name, moved_path, parent}
use Rattle.rd_drive.specs.DriveState as drive
use Rattle.rd_drive.specs.DriveState.{DriveState, Node, in_order, is_at_path, is_folder_node, made_path, node_of_path, without_node}
use Rattle.rd_drive.specs.Rename.{renamed, without_target}
use Rattle.rd_drive.proofs.NodeLemmas.{order_alike}
use Rattle.rd_folder.specs.FolderCalls.{node_there}
use Rattle.rd_folder.specs.InMemory.{relocating}
use Rattle.rd_folder.specs.Told.{drive_over}
use Rattle.rd_folder.proofs.ExactLemmas.{exact_same, same_exact}
use Rattle.rd_folder.proofs.HasLemmas.{Has, find_has, has_filter, none_is, there_is}
use Rattle.rd_folder_drive.specs.declared.handle.Handle as kept
use Rattle.rd_folder_drive.specs.declared.open.Open.{Open}
use Rattle.rd_folder_drive.specs.declared.table.Table.{Table}
use Rattle.rd_folder_drive.specs.Moving.{is_open_in, moved_entry}
use Rattle.rd_folder_drive.specs.Table.{HasNodes, drive_of, handle_of, handles_of, is_pending_open, marked, open_at}
use Rattle.rd_folder_drive.proofs.EntryLemmas.{entry_any}
use Rattle.rd_folder_drive.proofs.MarkLemmas.{filter_seen}
use Rattle.rd_folder_drive.proofs.MovedLemmas.{moved_own, own_prefix, path_so, pending_moved, was}
use Rattle.rd_folder_drive.proofs.MovedNodesLemmas.{moved_nodes, other_nodes, without_so, IsMove}
use Rattle.rd_folder_drive.proofs.TableLemmas.{node_seen, put_marked}

-- ---- what is left without the target

-- the drive without it
pub left_seen : (t : Table) (nodes : List Node) (o : Option Node) → without_target (drive_of t nodes) (option_map (marked t.opens.entries) o)
    ≡ record (drive_of t nodes) { nodes = map (marked t.opens.entries) (without_target (drive_over nodes) o).nodes }
left_seen t nodes None = refl
left_seen t nodes (Some x) = λ i. record (drive_of t nodes) { nodes = sym (filter_seen (marked t.opens.entries) (marked t.opens.entries) x.path nodes (λ n h off. refl) (λ n. refl)) i }

-- a node that is left was there, and isn't at the target
pub left_was : (nodes : List Node) (to : Names) (x : Node) → Has (other_nodes nodes to) x → Has nodes x × (x.path ≡ to → ⊥)
left_was nodes to x h = by (node_there nodes to) refl h
  where
    by : (o : Option Node) → node_there nodes to ≡ o → Has (without_target (drive_over nodes) o).nodes x → Has nodes x × (x.path ≡ to → ⊥)
    by None e h = (h, λ same. none_is nodes to e x h same)
    by (Some t) e h =
        let was = has_filter (λ (n : Node). not (is_at_path Exact t.path n)) nodes x h in
        (was.0, λ same. absurd (let clash : true ≡ false = sym (exact_same x.path t.path (same ∙ sym (same_exact t.path to (find_has (is_at_path Exact to) nodes t e).1))) ∙ not-true (is_at_path Exact t.path x) was.1 in cc))

-- ---- the drive

module _ (t : Table) (from to : Names) (opens : BTreeMap ℕ Open) (are : opens.entries ≡ map (moved_entry from to) t.opens.entries) (below : from ≡ [] → ⊥) (bare : list_any (is_open_in to) t.opens.entries ≡ false) where
  abbrev new : Table
  new = record t { opens = opens }

  abbrev carry : Node → Node
  carry x = relocating from to x

  -- a node is marked then as it was
  mark_so : (x : Node) → (is_prefix Exact to x.path ≡ true → ⊥) → marked opens.entries (carry x) ≡ carry (marked t.opens.entries x)
  mark_so x free = λ i. record (carry x) { pending = (ap (list_any (is_pending_open (moved_path Exact from to x.path))) are ∙ pending_moved from to x.path free t.opens.entries bare) i }

  handles_so : (es : List (ℕ × kept.Handle)) → map {B = ℕ × drive.Handle} (λ (e : ℕ × kept.Handle). (e.0, handle_of new e.1)) es
      ≡ map {B = ℕ × drive.Handle} (λ (e : ℕ × drive.Handle). (e.0, record e.1 { path = moved_path Exact from to (e.1).path })) (map {B = ℕ × drive.Handle} (λ (e : ℕ × kept.Handle). (e.0, handle_of t e.1)) es)
  handles_so [] = refl
  handles_so (e ∷ es) = λ i. (e.0, record (handle_of t e.1) { path = path_so t from to opens are below (e.1).node i }) ∷ handles_so es i

  module _ (nodes : List Node) (moment : ℕ) (node : Node) (node_path : node.path ≡ from) (move : IsMove nodes from to moment node) where
    free_left : (x : Node) → Has (other_nodes nodes to) x → is_prefix Exact to x.path ≡ true → ⊥
    free_left x h = let was = left_was nodes to x h in move.free x was.0 was.1

    abbrev arrived : Node
    arrived = record node { path = to; moments = record node.moments { change = moment } }

    abbrev own : Node
    own = marked t.opens.entries node

    abbrev own_arrived : Node
    own_arrived = record own { path = to; moments = record node.moments { change = moment } }

    -- the nodes that are left, in order at their new paths
    abbrev moved_left : List Node
    moved_left = in_order Exact (map carry (other_nodes nodes to))

    nodes_are : moved_nodes nodes to moment node ≡ map (λ (other : Node). cond (is_at_path Exact to other) arrived other) moved_left
    nodes_are =
        ap (λ (s : DriveState). (renamed s moment node (made_path (drive_over nodes) to)).nodes) (without_so nodes (node_there nodes to))
        ∙ (λ i. (renamed (drive_over (other_nodes nodes to)) moment node (move.made i)).nodes)
        ∙ ap (λ (p : Names). map (λ (other : Node). cond (is_at_path Exact to other) arrived other) (in_order Exact (map (relocating p to) (other_nodes nodes to)))) node_path

    left_marked : map (marked opens.entries) moved_left ≡ in_order Exact (map carry (map (marked t.opens.entries) (other_nodes nodes to)))
    left_marked =
        sym (order_alike Exact (marked opens.entries) (λ x. exact_same x.path x.path refl) (map carry (other_nodes nodes to)))
        ∙ ap (in_order Exact) (twice (other_nodes nodes to) (λ x h. mark_so x (free_left x h)))
      where
        twice : (l : List Node) → ((x : Node) → Has l x → marked opens.entries (carry x) ≡ carry (marked t.opens.entries x)) → map (marked opens.entries) (map carry l) ≡ map carry (map (marked t.opens.entries) l)
        twice [] same = refl
        twice (x ∷ xs) same = λ i. same x (inl refl) i ∷ twice xs (λ y h. same y (inr h)) i

    own_marked : (is_prefix Exact to from ≡ true → ⊥) → marked opens.entries arrived ≡ own_arrived
    own_marked free = λ i. record arrived {
      pending = (ap (λ (p : Names). list_any (is_pending_open p) opens.entries) (sym (moved_own from to) ∙ ap (moved_path Exact from to) (sym node_path))
          ∙ ap (list_any (is_pending_open (moved_path Exact from to node.path))) are ∙ pending_moved from to node.path (λ p. free (ap (is_prefix Exact to) (sym node_path) ∙ p)) t.opens.entries bare) i;
    }

    -- the nodes of the drive
    drive_nodes : (is_prefix Exact to from ≡ true → ⊥) → map (marked opens.entries) (moved_nodes nodes to moment node)
        ≡ map (λ (other : Node). cond (is_at_path Exact to other) own_arrived other) (in_order Exact (map carry (map (marked t.opens.entries) (other_nodes nodes to))))
    drive_nodes free =
        ap (map (marked opens.entries)) nodes_are ∙ put_marked opens.entries arrived moved_left
        ∙ (λ i. map (λ (other : Node). cond (is_at_path Exact to other) (own_marked free i) other) (left_marked i))

    pub made_seen : made_path (drive_of t nodes) to ≡ to
    made_seen = ap (λ (o : Option Node). option_map_or (λ (n : Node). n.path) o (parent to) ++ last_name to ∷ []) (node_seen t nodes (parent to)) ∙ by (node_there nodes (parent to)) ∙ move.made
      where
        by : (o : Option Node) → option_map_or (λ (n : Node). n.path) (option_map (marked t.opens.entries) o) (parent to) ++ last_name to ∷ [] ≡ option_map_or (λ (n : Node). n.path) o (parent to) ++ last_name to ∷ []
        by None = refl
        by (Some n) = refl

    -- the drive
    pub drive_moved : (is_prefix Exact to from ≡ true → ⊥) → renamed (without_target (drive_of t nodes) (node_of_path (drive_of t nodes) to)) moment own (made_path (drive_of t nodes) to) ≡ drive_of new (moved_nodes nodes to moment node)
    drive_moved free =
        (λ i. renamed ((ap (without_target (drive_of t nodes)) (node_seen t nodes to) ∙ left_seen t nodes (node_there nodes to)) i) moment own (made_seen i))
        ∙ ap (λ (p : Names). renamed_by p) node_path
        ∙ (λ i. record (drive_of t nodes) { nodes = sym (drive_nodes free) i; handles = sym (handles_so t.handles.entries) i })
      where
        renamed_by : Names → DriveState
        renamed_by p = record (drive_of t nodes) {
          nodes = map (λ (other : Node). cond (is_at_path Exact to other) own_arrived other) (in_order Exact (map (relocating p to) (map (marked t.opens.entries) (other_nodes nodes to))));
          handles = map {B = ℕ × drive.Handle} (λ (e : ℕ × drive.Handle). (e.0, record e.1 { path = moved_path Exact p to (e.1).path })) (handles_of t);
        }

    -- what is open is among the nodes
    pub holds_moved : HasNodes t nodes → HasNodes new (moved_nodes nodes to moment node)
    holds_moved holds = record {
      map = move.map;
      there = λ n o on.
          let p = was t from to opens are n o on in
          let old = holds.there n p.0 p.1 in
          let found : Has nodes old.0 × (is_at_path Exact (p.0).path old.0 ≡ true) = find_has (is_at_path Exact (p.0).path) nodes old.0 old.1 in
          let path : (old.0).path ≡ (p.0).path = same_exact (old.0).path (p.0).path found.1 in
          let gone = move.has old.0 found.0 (λ same. none_open n p.0 p.1 (sym path ∙ same)) in
          (gone.0, there_is (moved_nodes nodes to moment node) move.map.rises gone.0 gone.1 o.path (gone.2 ∙ ap (moved_path Exact from to) path ∙ sym (ap (λ (x : Open). x.path) p.2)), gone.3 ∙ old.2 ∙ sym (ap (λ (x : Open). x.folder) p.2));
    }
      where
        none_open : (n : ℕ) (o : Open) → open_at t n ≡ Some o → o.path ≡ to → ⊥
        none_open n o on same = absurd (let clash : true ≡ false = sym (entry_any (is_open_in to) t.opens.entries n o on (ap (is_prefix Exact to) same ∙ own_prefix to)) ∙ bare in cc)
