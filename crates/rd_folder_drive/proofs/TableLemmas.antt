-- What is kept, and what it means: handles, nodes, and an operation on an open file.
use Rattle.std.proofs.Common.{◌≡◌, ◌∙◌, refl, sym, ap, ℕ, Bool, true, false, ◌&&◌, cond, List, [], ◌∷◌, map, Option, Some, None, find}
use Rattle.std.specs.List.{list_any}
use Rattle.std.specs.Option.{option_map, option_map_or}
use Rattle.std.specs.Ordering.{nat_cmp}
use Rattle.std.specs.BTreeMap.{is_at}
use Rattle.std.proofs.lemmas.Bool.{and_parts}
use Rattle.std.proofs.lemmas.Map.Made.{lookup-map_values}
use Rattle.std.proofs.lemmas.Option.{same_Some}
use Rattle.rd_base.specs.Statuses.{invalid_handle}
use Rattle.rd_dirinfo.specs.Paths.{Names, is_same_path}
use Rattle.rd_dirinfo.specs.declared.naming.Naming.TheVariants.{Exact}
use Rattle.rd_drive.specs.DriveState as drive
use Rattle.rd_drive.specs.DriveState.{DriveState, Node, is_at_path, handle_at, node_of_path, with_node}
use Rattle.rd_drive.specs.Outcome.{Outcome, given, refused, on_handle}
use Rattle.rd_folder.specs.FolderCalls.{node_there, with_put}
use Rattle.rd_folder.proofs.ExactLemmas.{exact_same, same_exact}
use Rattle.rd_folder.proofs.HasLemmas.{find_has}
use Rattle.rd_drive.proofs.LockLemmas.{alike}
use Rattle.rd_folder_drive.specs.declared.handle.Handle as kept
use Rattle.rd_folder_drive.specs.declared.open.Open.{Open}
use Rattle.rd_folder_drive.specs.declared.table.Table.{Table}
use Rattle.rd_folder_drive.proofs.EntryLemmas.{any_entry, entry_any}
use Rattle.rd_folder_drive.specs.Table.{HasNodes, IsNodeOf, IsSoundBut, drive_of, handle_of, is_pending_open, kept_handle, marked, open_at, path_at}

-- ---- handles

pub handle_seen : (t : Table) (nodes : List Node) (file : ℕ) → handle_at (drive_of t nodes) file ≡ option_map (handle_of t) (kept_handle t file)
handle_seen t nodes file = lookup-map_values (handle_of t) (is_at (nat_cmp file)) t.handles.entries

-- an operation on a file id without a handle is refused
pub unopened : (t : Table) (nodes : List Node) (file : ℕ) (f : drive.Handle → Node → Outcome) → kept_handle t file ≡ None → on_handle (drive_of t nodes) file f ≡ refused (drive_of t nodes) invalid_handle
unfolding given
unopened t nodes file f none =
    ap (λ o. given (drive_of t nodes) o invalid_handle (λ handle. given (drive_of t nodes) (node_of_path (drive_of t nodes) handle.path) invalid_handle (f handle))) (handle_seen t nodes file ∙ ap (option_map (handle_of t)) none)

-- ---- nodes

-- the first node that passes, where marking doesn't change whether one passes
found_marked : (opens : List (ℕ × Open)) (path : Names) (nodes : List Node) → find (is_at_path Exact path) (map (marked opens) nodes) ≡ option_map (marked opens) (find (is_at_path Exact path) nodes)
found_marked opens path [] = refl
found_marked opens path (node ∷ nodes) = by (found_marked opens path nodes) (is_at_path Exact path node)
  where
    by : find (is_at_path Exact path) (map (marked opens) nodes) ≡ option_map (marked opens) (find (is_at_path Exact path) nodes)
        → (b : Bool) → cond b (Some (marked opens node)) (find (is_at_path Exact path) (map (marked opens) nodes)) ≡ option_map (marked opens) (cond b (Some node) (find (is_at_path Exact path) nodes))
    by later true = refl
    by later false = later

-- the node at a path is the folder's, marked
pub node_seen : (t : Table) (nodes : List Node) (path : Names) → node_of_path (drive_of t nodes) path ≡ option_map (marked t.opens.entries) (node_there nodes path)
node_seen t nodes path = found_marked t.opens.entries path nodes

-- a changed node in the place of the one at its path, marked then or before
pub put_marked : (opens : List (ℕ × Open)) (new : Node) (nodes : List Node)
    → map (marked opens) (map (λ (other : Node). cond (is_at_path Exact new.path other) new other) nodes) ≡ map (λ (other : Node). cond (is_at_path Exact new.path other) (marked opens new) other) (map (marked opens) nodes)
put_marked opens new [] = refl
put_marked opens new (node ∷ nodes) = by (is_at_path Exact new.path node) (put_marked opens new nodes)
  where
    by : (b : Bool) → map (marked opens) (map (λ (other : Node). cond (is_at_path Exact new.path other) new other) nodes) ≡ map (λ (other : Node). cond (is_at_path Exact new.path other) (marked opens new) other) (map (marked opens) nodes)
        → marked opens (cond b new node) ∷ map (marked opens) (map (λ (other : Node). cond (is_at_path Exact new.path other) new other) nodes)
        ≡ cond b (marked opens new) (marked opens node) ∷ map (λ (other : Node). cond (is_at_path Exact new.path other) (marked opens new) other) (map (marked opens) nodes)
    by true later = ap (λ l. marked opens new ∷ l) later
    by false later = ap (λ l. marked opens node ∷ l) later

-- the drive over changed nodes is the drive with the changed node
pub with_seen : (t : Table) (nodes : List Node) (new : Node) → drive_of t (with_put nodes new) ≡ with_node (drive_of t nodes) (marked t.opens.entries new)
with_seen t nodes new = λ i. record (drive_of t nodes) { nodes = put_marked t.opens.entries new nodes i }

-- ---- an open file

module _ {closed : Option ℕ} (t : Table) (sound : IsSoundBut closed t) (nodes : List Node) (holds : HasNodes t nodes) (file : ℕ) (h : kept.Handle) (o : Open) (is : kept_handle t file ≡ Some h) (on : open_at t h.node ≡ Some o) where
  -- its node, as the folder has it
  abbrev pub node : Node
  node = (holds.there h.node o on).0

  pub there : node_there nodes o.path ≡ Some node
  there = (holds.there h.node o on).1

  pub kind : IsNodeOf o node
  kind = (holds.there h.node o on).2

  pub path_is : path_at t h.node ≡ o.path
  path_is = ap (λ (found : Option Open). option_map_or (λ (p : Open). p.path) found []) on

  pub node_path : node.path ≡ o.path
  node_path = same_exact node.path o.path (find_has (is_at_path Exact o.path) nodes node there).1

  pub node_at : node.path ≡ path_at t h.node
  node_at = node_path ∙ sym path_is

  -- an operation goes on with the handle and the node
  pub on_open : (f : drive.Handle → Node → Outcome) → on_handle (drive_of t nodes) file f ≡ f (handle_of t h) (marked t.opens.entries node)
  unfolding given
  on_open f =
      ap (λ found. given (drive_of t nodes) found invalid_handle (λ handle. given (drive_of t nodes) (node_of_path (drive_of t nodes) handle.path) invalid_handle (f handle))) (handle_seen t nodes file ∙ ap (option_map (handle_of t)) is)
      ∙ ap (λ found. given (drive_of t nodes) found invalid_handle (f (handle_of t h))) (node_seen t nodes (path_at t h.node) ∙ ap (λ (p : Names). option_map (marked t.opens.entries) (node_there nodes p)) path_is ∙ ap (option_map (marked t.opens.entries)) there)

-- ---- marks

module _ {closed : Option ℕ} (t : Table) (sound : IsSoundBut closed t) where
  -- what is open is pending exactly where something pending is open at its path
  pub pending_seen : (n : ℕ) (o : Open) → open_at t n ≡ Some o → list_any (is_pending_open o.path) t.opens.entries ≡ o.pending
  pending_seen n o on = alike (list_any (is_pending_open o.path) t.opens.entries) o.pending
      (λ some. by (any_entry (is_pending_open o.path) t.opens.entries sound.rising.0 some))
      (λ pending. entry_any (is_pending_open o.path) t.opens.entries n o on (ap (λ b. b && is_same_path Exact o.path o.path) pending ∙ exact_same o.path o.path refl))
    where
      by : (m : ℕ) × (p : Open) × (open_at t m ≡ Some p) × (is_pending_open o.path (m, p) ≡ true) → o.pending ≡ true
      by (m, p, is, both) =
          let parts : (p.pending ≡ true) × (is_same_path Exact p.path o.path ≡ true) = and_parts p.pending (is_same_path Exact p.path o.path) both in
          let same : m ≡ n = sound.apart m n p o is on (same_exact p.path o.path parts.1) in
          ap (λ (q : Open). q.pending) (same_Some o p (sym on ∙ ap (open_at t) (sym same) ∙ is)) ∙ parts.0

  -- nothing is marked where nothing is open
  pub nothing_pending : (path : Names) → ((n : ℕ) (o : Open) → open_at t n ≡ Some o → o.path ≡ path → ⊥) → list_any (is_pending_open path) t.opens.entries ≡ false
  nothing_pending path none = none_true (list_any (is_pending_open path) t.opens.entries) (λ some. by (any_entry (is_pending_open path) t.opens.entries sound.rising.0 some))
    where
      none_true : (b : Bool) → (b ≡ true → ⊥) → b ≡ false
      none_true true f = absurd (f refl)
      none_true false f = refl

      by : (m : ℕ) × (p : Open) × (open_at t m ≡ Some p) × (is_pending_open path (m, p) ≡ true) → ⊥
      by (m, p, is, both) = none m p is (same_exact p.path path (and_parts p.pending (is_same_path Exact p.path path) both).1)

module _ {closed : Option ℕ} (t : Table) (sound : IsSoundBut closed t) (nodes : List Node) (holds : HasNodes t nodes) (file : ℕ) (h : kept.Handle) (o : Open) (is : kept_handle t file ≡ Some h) (on : open_at t h.node ≡ Some o) where
  -- its node, marked, is pending where what is open is
  pub marked_is : marked t.opens.entries (node t sound nodes holds file h o is on) ≡ record (node t sound nodes holds file h o is on) { pending = o.pending }
  marked_is = λ i. record (node t sound nodes holds file h o is on) {
    pending = (ap (λ (p : Names). list_any (is_pending_open p) t.opens.entries) (node_path t sound nodes holds file h o is on) ∙ pending_seen t sound h.node o on) i;
  }
