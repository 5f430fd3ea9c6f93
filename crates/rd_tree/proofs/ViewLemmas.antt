-- What callers see of the nodes: the place of each number.
use Rattle.std.proofs.Common.{◌≡◌, ◌∙◌, refl, sym, ap, subst, ℕ, zero, suc, ◌+◌, ◌<◌, ◌⊎◌, inl, inr, Bool, true, false, not, ◌&&◌, List, [], ◌∷◌, map, cond, Option, Some, None, get_or, arith, zero-add}
use Rattle.std.specs.Prelude.{T}
use Rattle.std.specs.Option.{option_map}
use Rattle.std.specs.Ordering.{nat_cmp, is_lt, eq_by_cmp}
use Rattle.std.specs.FinMap.{find, is_sorted, nat_cmp-IsAntisymmetric}
use Rattle.std.specs.FinMap.Entries.{below_all, same_entries, is_sorted-put, find-put, is_sorted-where_key}
use Rattle.std.proofs.lemmas.Cmp.{nat_cmp_total}
use Rattle.std.proofs.lemmas.Bool.{cases_eq}
use Rattle.std.proofs.lemmas.Bool.Decides.{nat_tests}
use Rattle.rd_tree.proofs.WithoutLemmas.{place_without}
use Rattle.slab.specs.Slab.{Slab, get, entries_from}
use Rattle.rd_dirinfo.specs.declared.naming.Naming.{Naming}
use Rattle.rd_tree.specs.declared.node.Node.{Node}
use Rattle.rd_tree.specs.Walk.{Up}
use Rattle.rd_tree.specs.Places.{Place, Places, place, with_place, without}
use Rattle.rd_tree.specs.Nodes.{link_of, file_of, node_bytes, placed, places_of}

-- ---- numbers as keys
pub apart : (n m : ℕ) → (n ≡ m → ⊥) → eq_by_cmp nat_cmp n m ≡ false
apart n m other = grind (arith, nat_tests)

pub itself : (n : ℕ) → eq_by_cmp nat_cmp n n ≡ true
itself n = grind (arith, nat_tests)

rising : (n m : ℕ) → n < m → is_lt (nat_cmp n m) ≡ true
rising n m h = grind (arith, nat_tests)

both : (a b : Bool) → a ≡ true → T b → T (a && b)
both a b e h = subst (λ (v : Bool). T (v && b)) (sym e) h

-- ---- the slots with a value, each with its number
module _ {V : Type 0} (f : ℕ → V → Place) where
  abbrev listed : ℕ → List (Option V) → List (ℕ × Place)
  listed k slots = map (λ e. (e.0, f e.0 e.1)) (entries_from k slots)

  missing : (n k : ℕ) (slots : List (Option V)) → n < k → find nat_cmp n (listed k slots) ≡ None
  missing n k [] h = refl
  missing n k (None ∷ rest) h = missing n (k + 1) rest (omega arith)
  missing n k (Some v ∷ rest) h = ap (λ b. cond b (Some (f k v)) (find nat_cmp n (listed (k + 1) rest))) (apart n k (omega arith)) ∙ missing n (k + 1) rest (omega arith)

  found : (i k n : ℕ) (slots : List (Option V)) → n ≡ k + i → find nat_cmp n (listed k slots) ≡ option_map (f n) (get_or slots i None)
  found i k n [] e = refl
  found zero k n (None ∷ rest) e = missing n (k + 1) rest (omega arith)
  found zero k n (Some v ∷ rest) e =
      let same : k ≡ n = omega arith in
      subst (λ (m : ℕ). find nat_cmp m (listed k (Some v ∷ rest)) ≡ Some (f m v)) same (ap (λ b. cond b (Some (f k v)) (find nat_cmp k (listed (k + 1) rest))) (itself k))
  found (suc i) k n (None ∷ rest) e = found i (k + 1) n rest (omega arith)
  found (suc i) k n (Some v ∷ rest) e = ap (λ b. cond b (Some (f k v)) (find nat_cmp n (listed (k + 1) rest))) (apart n k (omega arith)) ∙ found i (k + 1) n rest (omega arith)

  below : (x k : ℕ) (slots : List (Option V)) → x < k → T (below_all nat_cmp x (listed k slots))
  below x k [] h = tt
  below x k (None ∷ rest) h = below x (k + 1) rest (omega arith)
  below x k (Some v ∷ rest) h = both _ _ (rising x k h) (below x (k + 1) rest (omega arith))

  listed_sorted : (k : ℕ) (slots : List (Option V)) → T (is_sorted nat_cmp (listed k slots))
  listed_sorted k [] = tt
  listed_sorted k (None ∷ rest) = listed_sorted (k + 1) rest
  listed_sorted k (Some v ∷ rest) = and _ _ (below k (k + 1) rest (omega arith)) (listed_sorted (k + 1) rest)
    where
      and : (a b : Bool) → T a → T b → T (a && b)
      and true b p q = q
      and false b p q = p

-- ---- places
get_seen : (links : Up) (n : ℕ) (o : Option Node) → option_map (λ node. placed links n (node_bytes node)) o ≡ option_map (placed links n) (option_map node_bytes o)
get_seen links n None = refl
get_seen links n (Some node) = refl

-- the place of a number, by the links and the bytes
pub place_seen : (naming : Naming) (nodes : Slab Node) (n : ℕ) → place (places_of naming nodes) n ≡ option_map (placed (link_of nodes) n) (file_of nodes n)
unfolding places_of file_of
place_seen naming nodes n = found (λ k node. placed (link_of nodes) k (node_bytes node)) n 0 n nodes.slots (sym (zero-add n)) ∙ get_seen (link_of nodes) n (get nodes n)

pub seen_sorted : (naming : Naming) (nodes : Slab Node) → T (is_sorted nat_cmp (places_of naming nodes).list)
unfolding places_of
seen_sorted naming nodes = listed_sorted (λ k node. placed (link_of nodes) k (node_bytes node)) 0 nodes.slots

pub naming_seen : (naming : Naming) (nodes : Slab Node) → (places_of naming nodes).naming ≡ naming
unfolding places_of
naming_seen naming nodes = refl

-- two trees in order with the same places are the same
pub same_places : (a b : Places) → T (is_sorted nat_cmp a.list) → T (is_sorted nat_cmp b.list) → a.naming ≡ b.naming → ((n : ℕ) → place a n ≡ place b n) → a ≡ b
same_places a b one two naming same =
    let list = same_entries nat_cmp nat_cmp_total nat_cmp-IsAntisymmetric a.list b.list one two same in
    λ i. record { naming = naming i; list = list i }

-- the same place everywhere
pub unchanged : (naming : Naming) (old new : Slab Node) → ((n : ℕ) → place (places_of naming new) n ≡ place (places_of naming old) n) → places_of naming new ≡ places_of naming old
unchanged naming old new same = same_places (places_of naming new) (places_of naming old) (seen_sorted naming new) (seen_sorted naming old) (naming_seen naming new ∙ sym (naming_seen naming old)) same

-- the same place everywhere but at one number
pub placed_at : (naming : Naming) (old new : Slab Node) (n : ℕ) (p : Place) → place (places_of naming new) n ≡ Some p → ((k : ℕ) → (k ≡ n → ⊥) → place (places_of naming new) k ≡ place (places_of naming old) k) → places_of naming new ≡ with_place (places_of naming old) n p
placed_at naming old new n p here others =
    same_places (places_of naming new) (with_place (places_of naming old) n p) (seen_sorted naming new) (is_sorted-put nat_cmp nat_cmp_total n p (places_of naming old).list (seen_sorted naming old))
    (naming_seen naming new ∙ sym (naming_seen naming old))
    (λ k. by k (cases_eq k n) ∙ sym (find-put nat_cmp nat_cmp_total k n p (places_of naming old).list))
  where
    by : (k : ℕ) → (k ≡ n) ⊎ (k ≡ n → ⊥) → place (places_of naming new) k ≡ cond (eq_by_cmp nat_cmp k n) (Some p) (place (places_of naming old) k)
    by k (inl e) = ap (place (places_of naming new)) e ∙ here ∙ sym (ap (λ b. cond b (Some p) (place (places_of naming old) k)) (ap (λ j. eq_by_cmp nat_cmp j n) e ∙ itself n))
    by k (inr other) = others k other ∙ sym (ap (λ b. cond b (Some p) (place (places_of naming old) k)) (apart k n other))

-- the same place everywhere, but none at one number
pub placed_without : (naming : Naming) (old new : Slab Node) (n : ℕ) → place (places_of naming new) n ≡ None → ((k : ℕ) → (k ≡ n → ⊥) → place (places_of naming new) k ≡ place (places_of naming old) k) → places_of naming new ≡ without (places_of naming old) n
placed_without naming old new n gone others =
    same_places (places_of naming new) (without (places_of naming old) n) (seen_sorted naming new) (is_sorted-where_key nat_cmp (λ k. not (eq_by_cmp nat_cmp n k)) (places_of naming old).list (seen_sorted naming old))
    (naming_seen naming new ∙ sym (naming_seen naming old))
    (λ k. by k (cases_eq k n) ∙ sym (place_without (places_of naming old) n k))
  where
    by : (k : ℕ) → (k ≡ n) ⊎ (k ≡ n → ⊥) → place (places_of naming new) k ≡ cond (not (eq_by_cmp nat_cmp n k)) (place (places_of naming old) k) None
    by k (inl e) = ap (place (places_of naming new)) e ∙ gone ∙ sym (ap (λ b. cond (not b) (place (places_of naming old) k) None) (ap (eq_by_cmp nat_cmp n) e ∙ itself n))
    by k (inr other) = others k other ∙ sym (ap (λ b. cond (not b) (place (places_of naming old) k) None) (apart n k (λ e. other (sym e))))
