-- Paths of a folder, which are the same only where their units are.
use Rattle.std.proofs.Common.{◌≡◌, ◌∙◌, refl, sym, ap, ℕ, ◌+◌, ◌-◌, true, false, [], ◌∷◌, ◌++◌, length, take, drop, arith, length-append, append_assoc}
use Rattle.std.specs.Ordering.{is_lt, is_eq, ordering_reverse}
use Rattle.std.specs.declared.cmp.Ordering.{Ordering}
use Rattle.std.specs.declared.cmp.Ordering.TheVariants.{Less, Equal, Greater}
use Rattle.std.specs.Cmp.{IsTotalOrder}
use Rattle.std.proofs.lemmas.Bool.{false_from_ne_true}
use Rattle.rd_dirinfo.specs.declared.naming.Naming.TheVariants.{Exact}
use Rattle.rd_dirinfo.specs.Naming.{Name}
use Rattle.rd_dirinfo.specs.Paths.{Names, is_parent, is_prefix, is_same_path, last_name, parent, path_cmp, seen_path}
use Rattle.rd_dirinfo.proofs.NamingLemmas.{path_order}
use Rattle.rd_tree.proofs.WayLemmas.{same_true, true_same}
use Rattle.rd_tree.proofs.RefuseLemmas.{prefix_split, split_prefix}
use Rattle.rd_tree.proofs.ParentLemmas.{same_parent}
use Rattle.rd_drive.proofs.TargetLemmas.{joined_at}

seen_exact : (p : Names) → seen_path Exact p ≡ p
seen_exact [] = refl
seen_exact (x ∷ xs) = ap (◌∷◌ x) (seen_exact xs)

pub same_exact : (p q : Names) → is_same_path Exact p q ≡ true → p ≡ q
same_exact p q t = sym (seen_exact p) ∙ true_same Exact p q t ∙ seen_exact q

pub exact_same : (p q : Names) → p ≡ q → is_same_path Exact p q ≡ true
exact_same p q e = same_true Exact p q (ap (seen_path Exact) e)

pub exact_apart : (p q : Names) → (p ≡ q → ⊥) → is_same_path Exact p q ≡ false
exact_apart p q other = false_from_ne_true (is_same_path Exact p q) (λ t. other (same_exact p q t))

-- ---- prefixes

pub prefix_exact : (p q : Names) → is_prefix Exact p q ≡ true → q ≡ p ++ drop (length p) q
prefix_exact p q t =
    sym (seen_exact q) ∙ prefix_split Exact p q t ∙ (λ i. seen_exact p i ++ seen_exact (drop (length p) q) i)

pub joined_prefix : (p r : Names) → is_prefix Exact p (p ++ r) ≡ true
joined_prefix p r = (split_prefix Exact p (p ++ r) r (seen_exact (p ++ r) ∙ ap (λ (q : Names). q ++ r) (sym (seen_exact p)))).0

pub joined_rest : (p r : Names) → drop (length p) (p ++ r) ≡ r
joined_rest p r = sym (seen_exact (drop (length p) (p ++ r))) ∙ (split_prefix Exact p (p ++ r) r (seen_exact (p ++ r) ∙ ap (λ (q : Names). q ++ r) (sym (seen_exact p)))).1

-- what is after the same beginning is the same
pub same_rest : (p r s : Names) → p ++ r ≡ p ++ s → r ≡ s
same_rest p r s e = sym (joined_rest p r) ∙ ap (drop (length p)) e ∙ joined_rest p s

pub own_beginning : (p r : Names) → p ++ r ≡ p → r ≡ []
own_beginning p r e = no_more r (omega (arith, ap (length {A = Name}) e, length-append p r))
  where
    no_more : (r : Names) → length r ≡ 0 → r ≡ []
    no_more [] e = refl
    no_more (x ∷ xs) e = absurd (omega (arith, e))

-- ---- folders above

all_but_last : (q : Names) (x : Name) → take (length q) (q ++ x ∷ []) ≡ q
all_but_last [] x = refl
all_but_last (y ∷ ys) x = ap (◌∷◌ y) (all_but_last ys x)

pub parent_joined : (q : Names) (x : Name) → parent (q ++ x ∷ []) ≡ q
parent_joined q x =
    let one : length (q ++ x ∷ []) - 1 ≡ length q = omega (arith, length-append q (x ∷ [])) in
    ap (λ (k : ℕ). take k (q ++ x ∷ [])) one ∙ all_but_last q x

pub parent_after : (p r : Names) → (r ≡ [] → ⊥) → parent (p ++ r) ≡ p ++ parent r
parent_after p r some =
    let whole : p ++ r ≡ (p ++ parent r) ++ last_name r ∷ [] = ap (λ (q : Names). p ++ q) (sym (joined_at r some)) ∙ sym (append_assoc p (parent r) (last_name r ∷ [])) in
    ap parent whole ∙ parent_joined (p ++ parent r) (last_name r)

pub parent_is : (p : Names) → (p ≡ [] → ⊥) → is_parent Exact (parent p) p ≡ true
parent_is p some = ap (is_parent Exact (parent p)) (sym (joined_at p some)) ∙ same_parent Exact (parent p) (last_name p)

pub parent_shorter : (p : Names) → (p ≡ [] → ⊥) → length p ≡ length (parent p) + 1
parent_shorter p some = ap (length {A = Name}) (sym (joined_at p some)) ∙ length-append (parent p) (last_name p ∷ [])

-- ---- the order

order : IsTotalOrder (path_cmp Exact)
order = path_order Exact

is_less : (r : Ordering) → is_lt r ≡ true → r ≡ Less
is_less Less e = refl
is_less Equal e = absurd (cc)
is_less Greater e = absurd (cc)

-- a path that comes before another one is another one
pub before_apart : (p q : Names) → is_lt (path_cmp Exact p q) ≡ true → p ≡ q → ⊥
before_apart p q t e =
    let less : path_cmp Exact p q ≡ Less = is_less (path_cmp Exact p q) t in
    let equal : is_eq (path_cmp Exact p q) ≡ true = exact_same p q e in
    absurd (let clash : is_eq Less ≡ true = ap is_eq (sym less) ∙ equal in cc)

pub before_chain : (p q r : Names) → is_lt (path_cmp Exact p q) ≡ true → is_lt (path_cmp Exact q r) ≡ true → is_lt (path_cmp Exact p r) ≡ true
before_chain p q r s t = ap is_lt (order.trans p q r (is_less (path_cmp Exact p q) s) (is_less (path_cmp Exact q r) t))

-- of two paths one comes before the other
pub other_before : (p q : Names) → is_lt (path_cmp Exact p q) ≡ false → (p ≡ q → ⊥) → is_lt (path_cmp Exact q p) ≡ true
other_before p q fails other = ap is_lt (order.antisymm q p) ∙ by (path_cmp Exact p q) fails (exact_apart p q other)
  where
    by : (r : Ordering) → is_lt r ≡ false → is_eq r ≡ false → is_lt (ordering_reverse r) ≡ true
    by Less s t = absurd (cc)
    by Equal s t = absurd (cc)
    by Greater s t = refl

-- the root comes before all else
pub root_before : (p : Names) → (p ≡ [] → ⊥) → is_lt (path_cmp Exact [] p) ≡ true
root_before [] some = absurd (some refl)
root_before (x ∷ xs) some = refl

pub none_before_root : (p : Names) → is_lt (path_cmp Exact p []) ≡ false
none_before_root [] = refl
none_before_root (x ∷ xs) = refl
