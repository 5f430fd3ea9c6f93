-- Ways through a node, and how far down ways go.
use Rattle.std.proofs.Common.{◌≡◌, ◌∙◌, refl, sym, ap, subst, ℕ, ◌+◌, ◌≤◌, List, [], ◌∷◌, ◌++◌, length, Option, Some, None, Bool, true, false, cond, arith, Vec, Global}
use Rattle.std.specs.Map.{lookup}
use Rattle.std.specs.List.{All}
use Rattle.std.specs.BTreeMap.{is_at}
use Rattle.std.proofs.lemmas.Slice.Eq.{bytes_eq-Decides}
use Rattle.std.proofs.lemmas.Map.Text.{is_eq-slice_cmp}
use Rattle.std.proofs.lemmas.Option.{same_Some, none-some}
use Rattle.std.proofs.lemmas.List.Elements.{All-tail, All-head}
use Rattle.slab.specs.Slab.{Slab, get}
use Rattle.rd_tree.specs.declared.node.Node.{Node}
use Rattle.rd_tree.specs.Walk.{Key, Keys, Child, onward, down, LeadsThrough, FitsWithin, added_units}
use Rattle.rd_tree.specs.Nodes.{child_of, to_kept}
use Rattle.rd_tree.proofs.NodeLemmas.{child_of-at}

-- ---- ways through a node
pub through_here : (child : Child) (m : ℕ) (p : Keys) → LeadsThrough child m m p
through_here child m p = ([], p, refl, refl)

pub through_end : (child : Child) (n m : ℕ) → (n ≡ m → ⊥) → LeadsThrough child n m [] → ⊥
through_end child n m other w = by w.0 w.1 w.2 w.3
  where
    by : (front rest : Keys) → [] ≡ front ++ rest → down child n front ≡ Some m → ⊥
    by [] rest e is = other (same_Some n m is)
    by (x ∷ front) rest e is = absurd (cc)

pub through_lost : (child : Child) (n m : ℕ) (x : Key) (p : Keys) → (n ≡ m → ⊥) → child n x ≡ None → LeadsThrough child n m (x ∷ p) → ⊥
through_lost child n m x p other none w = by w.0 w.1 w.2 w.3
  where
    by : (front rest : Keys) → x ∷ p ≡ front ++ rest → down child n front ≡ Some m → ⊥
    by [] rest e is = other (same_Some n m is)
    by (y ∷ front) rest e is =
        let y_is : x ≡ y = cc in
        none-some m (sym (ap (λ z. onward (child n z) (λ k. down child k front)) (sym y_is) ∙ ap (λ o. onward o (λ k. down child k front)) none) ∙ is)

pub through_on : (child : Child) (n k m : ℕ) (x : Key) (p : Keys) → (n ≡ m → ⊥) → child n x ≡ Some k → LeadsThrough child n m (x ∷ p) → LeadsThrough child k m p
through_on child n k m x p other found w = by w.0 w.1 w.2 w.3
  where
    by : (front rest : Keys) → x ∷ p ≡ front ++ rest → down child n front ≡ Some m → LeadsThrough child k m p
    by [] rest e is = absurd (other (same_Some n m is))
    by (y ∷ front) rest e is =
        let y_is : x ≡ y = cc in let p_is : p ≡ front ++ rest = cc in
        (front, rest, p_is, sym (ap (λ z. onward (child n z) (λ j. down child j front)) (sym y_is) ∙ ap (λ o. onward o (λ j. down child j front)) found) ∙ is)

pub through_back : (child : Child) (n k m : ℕ) (x : Key) (p : Keys) → child n x ≡ Some k → LeadsThrough child k m p → LeadsThrough child n m (x ∷ p)
through_back child n k m x p found w = (x ∷ w.0, w.1, ap (λ q. x ∷ q) w.2, ap (λ o. onward o (λ j. down child j w.0)) found ∙ w.3)

-- ---- how far down ways go
-- each way down from a child at a key of a node with so much room
abbrev pub IsSmall : Child → ℕ → ℕ → Key → ℕ → Type 0
IsSmall child names units x k = (q : Keys) (j : ℕ) → down child k q ≡ Some j → (length q + 1 ≤ names) × (length x + 1 + added_units q ≤ units)

-- what holds of each child bounds the ways down
pub small_ways : (child : Child) (n names units : ℕ) → ((x : Key) (k : ℕ) → child n x ≡ Some k → IsSmall child names units x k) → FitsWithin child n names units
small_ways child n names units small [] j is = (omega arith, omega arith)
small_ways child n names units small (x ∷ q) j is = by (child n x) refl
  where
    by : (o : Option ℕ) → child n x ≡ o → (length (x ∷ q) ≤ names) × (added_units (x ∷ q) ≤ units)
    by None lost = absurd (none-some j (sym (ap (λ o. onward o (λ k. down child k q)) lost) ∙ is))
    by (Some k) found =
        let s = small x k found q j (sym (ap (λ o. onward o (λ k. down child k q)) found) ∙ is) in
        (omega (arith, s.0), s.1)

pub no_ways : (child : Child) (n names units : ℕ) → ((x : Key) → child n x ≡ None) → FitsWithin child n names units
no_ways child n names units none = small_ways child n names units (λ x k found. absurd (none-some k (sym (none x) ∙ found)))

-- what holds of each entry of a folder holds of each child
in_entries : (P : Key → ℕ → Type 0) (x : Key) (k : ℕ) (es : List (Vec ℕ Global × ℕ)) → All (λ e. P e.0.items e.1) es → lookup (is_at (to_kept x)) es ≡ Some k → P x k
in_entries P x k [] all found = absurd (none-some k found)
in_entries P x k (e ∷ es) all found = by (in_entries P x k es) (is_at (to_kept x) e.0) refl
  where
    by : (All (λ e. P e.0.items e.1) es → lookup (is_at (to_kept x)) es ≡ Some k → P x k) → (b : Bool) → is_at (to_kept x) e.0 ≡ b → P x k
    by later true t =
        let key : x ≡ e.0.items = (bytes_eq-Decides x e.0.items).0 (sym (is_eq-slice_cmp x e.0.items) ∙ t) in
        let value : e.1 ≡ k = same_Some e.1 k (sym (ap (λ b. cond b (Some e.1) (lookup (is_at (to_kept x)) es)) t) ∙ found) in
        subst (λ (y : Key). P y k) (sym key) (subst (λ (j : ℕ). P e.0.items j) value (All-head (λ (e : Vec ℕ Global × ℕ). P e.0.items e.1) e es all))
    by later false t = later (All-tail (λ (e : Vec ℕ Global × ℕ). P e.0.items e.1) e es all) (sym (ap (λ b. cond b (Some e.1) (lookup (is_at (to_kept x)) es)) t) ∙ found)

pub from_entries : (P : Key → ℕ → Type 0) (nodes : Slab Node) (n : ℕ) (node : Node) → get nodes n ≡ Some node → All (λ e. P e.0.items e.1) node.children.entries → (x : Key) (k : ℕ) → child_of nodes n x ≡ Some k → P x k
from_entries P nodes n node is all x k found = in_entries P x k node.children.entries all (sym (child_of-at nodes n node x is) ∙ found)
