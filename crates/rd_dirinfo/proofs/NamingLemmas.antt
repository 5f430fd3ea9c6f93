-- The laws of namings: being the same is an equivalence, coming before is a strict total order up to it, and it respects it.
use Rattle.std.proofs.Common.{◌≡◌, ◌↔◌, ℕ, ◌⊎◌, inl, inr, [], ◌∷◌, length, refl, sym, ◌∙◌, ap}
use Rattle.std.proofs.lemmas.List.{length-map}
use Rattle.std.specs.Ordering.{nat_cmp, ordering_then, ordering_reverse}
use Rattle.std.specs.declared.cmp.Ordering.{Ordering}
use Rattle.std.specs.declared.cmp.Ordering.TheVariants.{Less, Equal, Greater}
use Rattle.std.specs.Cmp.{IsTotalOrder, tied_itself}
use Rattle.std.specs.Cmp.Lexicographic.{slice_cmp, on_texts, lists_total, nat_list_cmp_total}
use Rattle.std.proofs.lemmas.Map.Lookups.{exact_bytes}
use Rattle.rd_dirinfo.specs.declared.naming.Naming.{Naming}
use Rattle.rd_dirinfo.specs.declared.naming.Naming.TheVariants.{Exact, Folded}
use Rattle.rd_dirinfo.specs.Naming.{Name, seen, seen_unit, fold_unit, name_cmp, IsSame, SortsBefore}
use Rattle.rd_dirinfo.specs.Paths.{Names, path_cmp, IsSamePath}

-- ---- what a naming sees

pub seen_none : (naming : Naming) → seen naming [] ≡ []
seen_none Exact = refl
seen_none Folded = refl

pub seen_first : (naming : Naming) (x : ℕ) (xs : Name) → seen naming (x ∷ xs) ≡ seen_unit naming x ∷ seen naming xs
seen_first Exact x xs = refl
seen_first Folded x xs = refl

pub seen_length : (naming : Naming) (name : Name) → length (seen naming name) ≡ length name
seen_length Exact name = refl
seen_length Folded name = length-map name fold_unit

-- ---- the order

pub name_order : (naming : Naming) → IsTotalOrder (name_cmp naming)
name_order naming = on_texts (seen naming)

pub path_order : (naming : Naming) → IsTotalOrder (path_cmp naming)
path_order naming = lists_total (name_order naming)

pub equal_is_same : (naming : Naming) (a b : Name) → (name_cmp naming a b ≡ Equal) ↔ IsSame naming a b
equal_is_same naming a b = (
  λ e. exact_bytes (seen naming a) (seen naming b) e,
  λ same. ap (λ other. slice_cmp nat_cmp (seen naming a) other) (sym same) ∙ tied_itself nat_list_cmp_total (seen naming a),
)

pub same_itself : (naming : Naming) (a : Name) → IsSame naming a a
same_itself naming a = refl

pub same_back : (naming : Naming) (a b : Name) → IsSame naming a b → IsSame naming b a
same_back naming a b same = sym same

pub same_chain : (naming : Naming) (a b c : Name) → IsSame naming a b → IsSame naming b c → IsSame naming a c
same_chain naming a b c first second = first ∙ second

pub never_before_itself : (naming : Naming) (a b : Name) → IsSame naming a b → SortsBefore naming a b → ⊥
never_before_itself naming a b same before = let equal = (equal_is_same naming a b).1 same in cc

pub before_chain : (naming : Naming) (a b c : Name) → SortsBefore naming a b → SortsBefore naming b c → SortsBefore naming a c
before_chain naming = (name_order naming).trans

pub one_of_three : (naming : Naming) (a b : Name) → SortsBefore naming a b ⊎ (IsSame naming a b ⊎ SortsBefore naming b a)
one_of_three naming a b = of (name_cmp naming a b) refl
  where
    of : (order : Ordering) → name_cmp naming a b ≡ order → SortsBefore naming a b ⊎ (IsSame naming a b ⊎ SortsBefore naming b a)
    of Less e = inl e
    of Equal e = inr (inl ((equal_is_same naming a b).0 e))
    of Greater e = inr (inr ((name_order naming).antisymm b a ∙ ap ordering_reverse e))

pub before_respects : (naming : Naming) (a b c d : Name) → IsSame naming a c → IsSame naming b d → SortsBefore naming a b → SortsBefore naming c d
before_respects naming a b c d first second before = (λ i. slice_cmp nat_cmp (sym first i) (sym second i)) ∙ before

-- ---- paths

path_to : (naming : Naming) (p q : Names) → path_cmp naming p q ≡ Equal → IsSamePath naming p q
path_to naming [] [] e = refl
path_to naming [] (y ∷ ys) e = absurd (cc)
path_to naming (x ∷ xs) [] e = absurd (cc)
path_to naming (x ∷ xs) (y ∷ ys) e = of (name_cmp naming x y) refl e (path_to naming xs ys)
  where
    of : (first : Ordering) → name_cmp naming x y ≡ first → ordering_then first (path_cmp naming xs ys) ≡ Equal → (path_cmp naming xs ys ≡ Equal → IsSamePath naming xs ys) → IsSamePath naming (x ∷ xs) (y ∷ ys)
    of Less is h later = absurd (cc)
    of Equal is h later = λ i. (equal_is_same naming x y).0 is i ∷ later h i
    of Greater is h later = absurd (cc)

path_from : (naming : Naming) (p q : Names) → IsSamePath naming p q → path_cmp naming p q ≡ Equal
path_from naming [] [] same = refl
path_from naming [] (y ∷ ys) same = absurd (cc)
path_from naming (x ∷ xs) [] same = absurd (cc)
path_from naming (x ∷ xs) (y ∷ ys) same =
    let first : IsSame naming x y = cc in
    let others : IsSamePath naming xs ys = cc in
    (λ i. ordering_then ((equal_is_same naming x y).1 first i) (path_from naming xs ys others i))

pub equal_is_same_path : (naming : Naming) (p q : Names) → (path_cmp naming p q ≡ Equal) ↔ IsSamePath naming p q
equal_is_same_path naming p q = (path_to naming p q, path_from naming p q)
