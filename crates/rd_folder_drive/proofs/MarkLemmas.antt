-- Marked nodes: what a changed mark, a node that goes and one that is made are among them.
use Rattle.std.proofs.Common.{◌≡◌, ◌∙◌, refl, sym, ap, ℕ, inl, inr, Bool, true, false, not, ◌&&◌, ◌||◌, cond, List, [], ◌∷◌, map, filter, Some}
use Rattle.std.specs.List.{list_any}
use Rattle.std.specs.Ordering.{nat_cmp}
use Rattle.std.specs.BTreeMap.{IsOrdered}
use Rattle.std.proofs.lemmas.Bool.{and_parts}
use Rattle.rd_dirinfo.specs.declared.naming.Naming.TheVariants.{Exact}
use Rattle.rd_dirinfo.specs.Paths.{Names, is_parent, is_same_path}
use Rattle.rd_drive.specs.DriveState.{Node, is_at_path}
use Rattle.rd_drive.proofs.LockLemmas.{alike}
use Rattle.rd_folder.proofs.ExactLemmas.{exact_same, same_exact}
use Rattle.rd_folder.proofs.HasLemmas.{Has}
use Rattle.rd_folder_drive.specs.declared.open.Open.{Open}
use Rattle.rd_folder_drive.specs.declared.table.Table.{Table}
use Rattle.rd_folder_drive.specs.Table.{is_pending_open, marked, open_at}
use Rattle.rd_folder_drive.proofs.EntryLemmas.{any_entry, entry_any}

-- ---- whether a path is marked, by what is open

-- something pending is open at a path
abbrev pub IsPendingAt : Table → Names → Type 0
IsPendingAt t path = (n : ℕ) × (o : Open) × (open_at t n ≡ Some o) × (o.pending ≡ true) × (o.path ≡ path)

pub pending_at : (t : Table) → IsOrdered nat_cmp t.opens → (path : Names) → list_any (is_pending_open path) t.opens.entries ≡ true → IsPendingAt t path
pending_at t rising path some = by (any_entry (is_pending_open path) t.opens.entries rising some)
  where
    by : (m : ℕ) × (p : Open) × (open_at t m ≡ Some p) × (is_pending_open path (m, p) ≡ true) → IsPendingAt t path
    by (m, p, is, both) =
        let parts : (p.pending ≡ true) × (is_same_path Exact p.path path ≡ true) = and_parts p.pending (is_same_path Exact p.path path) both in
        (m, p, is, parts.0, same_exact p.path path parts.1)

pub at_pending : (t : Table) (path : Names) → IsPendingAt t path → list_any (is_pending_open path) t.opens.entries ≡ true
at_pending t path (n, o, on, pending, at) = entry_any (is_pending_open path) t.opens.entries n o on (ap (λ b. b && is_same_path Exact o.path path) pending ∙ exact_same o.path path at)

-- a path is marked alike where something pending is open at it in both
pub marks_alike : (t other : Table) → IsOrdered nat_cmp t.opens → IsOrdered nat_cmp other.opens → (path : Names) → (IsPendingAt t path → IsPendingAt other path) → (IsPendingAt other path → IsPendingAt t path)
    → list_any (is_pending_open path) t.opens.entries ≡ list_any (is_pending_open path) other.opens.entries
marks_alike t other rising over path there back =
    alike (list_any (is_pending_open path) t.opens.entries) (list_any (is_pending_open path) other.opens.entries)
    (λ e. at_pending other path (there (pending_at t rising path e)))
    (λ e. at_pending t path (back (pending_at other over path e)))

-- ---- some nodes, marked

-- a node in the place of the one at its path
pub put_seen : (f g : Node → Node) (new : Node) (l : List Node) → ((x : Node) → Has l x → f x ≡ cond (is_at_path Exact new.path (g x)) new (g x)) → map f l ≡ map (λ (other : Node). cond (is_at_path Exact new.path other) new other) (map g l)
put_seen f g new [] same = refl
put_seen f g new (x ∷ xs) same = λ i. same x (inl refl) i ∷ put_seen f g new xs (λ y h. same y (inr h)) i

-- without the nodes at a path, where the others are marked as they were
pub filter_seen : (f g : Node → Node) (path : Names) (l : List Node) → ((x : Node) → Has l x → is_at_path Exact path x ≡ false → f x ≡ g x) → ((x : Node) → is_at_path Exact path (g x) ≡ is_at_path Exact path x)
    → map f (filter (λ (node : Node). not (is_at_path Exact path node)) l) ≡ filter (λ (node : Node). not (is_at_path Exact path node)) (map g l)
filter_seen f g path [] same at = refl
filter_seen f g path (x ∷ xs) same at =
    by (is_at_path Exact path x) refl (filter_seen f g path xs (λ y h. same y (inr h)) at)
    ∙ ap (λ (b : Bool). cond (not b) (g x ∷ rest) rest) (sym (at x))
  where
    rest : List Node
    rest = filter (λ (node : Node). not (is_at_path Exact path node)) (map g xs)

    by : (b : Bool) → is_at_path Exact path x ≡ b → map f (filter (λ (node : Node). not (is_at_path Exact path node)) xs) ≡ rest
        → map f (cond (not b) (x ∷ filter (λ (node : Node). not (is_at_path Exact path node)) xs) (filter (λ (node : Node). not (is_at_path Exact path node)) xs)) ≡ cond (not b) (g x ∷ rest) rest
    by true e later = later
    by false e later = λ i. same x (inl refl) e i ∷ later i

-- what stands in a folder, marked or not
pub children_marked : (opens : List (ℕ × Open)) (path : Names) (l : List Node) → list_any (λ (node : Node). is_parent Exact path node.path) (map (marked opens) l) ≡ list_any (λ (node : Node). is_parent Exact path node.path) l
children_marked opens path [] = refl
children_marked opens path (x ∷ xs) = ap (λ b. is_parent Exact path x.path || b) (children_marked opens path xs)
