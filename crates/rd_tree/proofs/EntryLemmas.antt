-- The entries of a folder, in the order of their keys: their names are those of its children, in order.
use Rattle.std.proofs.Common.{◌≡◌, ◌∙◌, refl, sym, ap, subst, ℕ, ◌⊎◌, inl, inr, ⊎_elim, Bool, true, false, List, [], ◌∷◌, Option, Some, None, Vec, cond, arith}
use Rattle.std.specs.List.{Contains, filter, AllByRecursion}
use Rattle.std.specs.List.Sorted.{IsStrictlySortedBy}
use Rattle.std.specs.Map.{keys_of}
use Rattle.std.specs.Option.{option_map_or}
use Rattle.std.specs.Ordering.{nat_cmp, is_eq, ordering_reverse}
use Rattle.std.specs.Cmp.{tied_itself}
use Rattle.std.specs.Cmp.Lexicographic.{slice_cmp, nat_list_cmp_total}
use Rattle.std.specs.declared.cmp.Ordering.TheVariants.{Less}
use Rattle.slab.specs.Slab.{Slab}
use Rattle.slab.proofs.SlabLemmas.{Contains-cons, Contains-cons_cases}
use Rattle.rd_dirinfo.specs.declared.naming.Naming.{Naming}
use Rattle.rd_dirinfo.specs.Naming.{Name, seen}
use Rattle.rd_tree.specs.declared.node.Node.{Node}
use Rattle.rd_tree.specs.Walk.{Key}
use Rattle.rd_tree.specs.Nodes.{first_in, get_key, key_cmp, name_of, names_in}
use Rattle.rd_tree.proofs.ListingLemmas.{InOrder}

module _ {A : Type 0} (naming : Naming) (nodes : Slab Node) where
  -- the name of each entry has its key
  abbrev pub Named : List (Vec ℕ A × ℕ) → Type 0
  Named [] = Unit {0}
  Named (e ∷ es) = ((x : Name) → name_of nodes e.1 ≡ Some x → seen naming x ≡ e.0.items) × Named es

  pub named_all : (es : List (Vec ℕ A × ℕ)) → ((e : Vec ℕ A × ℕ) → Contains es e → (x : Name) → name_of nodes e.1 ≡ Some x → seen naming x ≡ e.0.items) → Named es
  named_all [] all = tt
  named_all (e ∷ es) all = (all e (0, omega arith, refl), named_all es (λ d c. all d (Contains-cons e d es c)))

  above : (key : Key) (es : List (Vec ℕ A × ℕ)) → AllByRecursion (λ k. slice_cmp nat_cmp key k.items ≡ Less) (keys_of es) → Named es → (y : Name) → Contains (names_in nodes es) y → slice_cmp nat_cmp key (seen naming y) ≡ Less
  above key [] all named y c = absurd (omega (arith, c.1))
  above key (e ∷ es) all named y c = by (above key es all.1 named.1 y) (name_of nodes e.1) refl c
    where
      by : (Contains (names_in nodes es) y → slice_cmp nat_cmp key (seen naming y) ≡ Less) → (o : Option Name) → name_of nodes e.1 ≡ o → Contains (option_map_or (λ name. name ∷ names_in nodes es) o (names_in nodes es)) y → slice_cmp nat_cmp key (seen naming y) ≡ Less
      by later None n d = later d
      by later (Some x) n d = ⊎_elim (λ h. ap (slice_cmp nat_cmp key) (ap (seen naming) (sym h) ∙ named.0 x n) ∙ all.0) later (Contains-cons_cases x y (names_in nodes es) d)

  -- the names of entries in order are in order
  pub in_order : (es : List (Vec ℕ A × ℕ)) → IsStrictlySortedBy key_cmp (keys_of es) → Named es → InOrder naming (names_in nodes es)
  unfolding IsStrictlySortedBy
  in_order [] s named = tt
  in_order (e ∷ es) s named = by (in_order es s.1 named.1) (above e.0.items es s.0 named.1) (name_of nodes e.1) refl
    where
      by : InOrder naming (names_in nodes es) → ((y : Name) → Contains (names_in nodes es) y → slice_cmp nat_cmp e.0.items (seen naming y) ≡ Less) → (o : Option Name) → name_of nodes e.1 ≡ o → InOrder naming (option_map_or (λ name. name ∷ names_in nodes es) o (names_in nodes es))
      by later less None n = later
      by later less (Some x) n = ((λ y c. ap (λ k. slice_cmp nat_cmp k (seen naming y)) (named.0 x n) ∙ less y c), later)

  -- entries whose names aren't wanted may be left out
  pub skip : (test : Name → Bool) (P : Vec ℕ A × ℕ → Bool) (es : List (Vec ℕ A × ℕ)) → Named es → ((e : Vec ℕ A × ℕ) (x : Name) → P e ≡ false → seen naming x ≡ e.0.items → test x ≡ false) → first_in test (names_in nodes (filter P es)) ≡ first_in test (names_in nodes es)
  skip test P [] named out = refl
  skip test P (e ∷ es) named out = by (skip test P es named.1 out) (P e) refl (name_of nodes e.1) refl
    where
      by : first_in test (names_in nodes (filter P es)) ≡ first_in test (names_in nodes es) → (b : Bool) → P e ≡ b → (o : Option Name) → name_of nodes e.1 ≡ o
          → first_in test (names_in nodes (cond b (e ∷ filter P es) (filter P es))) ≡ first_in test (option_map_or (λ name. name ∷ names_in nodes es) (name_of nodes e.1) (names_in nodes es))
      by rest true t None n = ap (λ o. first_in test (option_map_or (λ name. name ∷ names_in nodes (filter P es)) o (names_in nodes (filter P es)))) n ∙ rest ∙ sym (ap (λ o. first_in test (option_map_or (λ name. name ∷ names_in nodes es) o (names_in nodes es))) n)
      by rest true t (Some x) n = ap (λ o. first_in test (option_map_or (λ name. name ∷ names_in nodes (filter P es)) o (names_in nodes (filter P es)))) n ∙ ap (λ r. cond (test x) (Some x) r) rest ∙ sym (ap (λ o. first_in test (option_map_or (λ name. name ∷ names_in nodes es) o (names_in nodes es))) n)
      by rest false t None n = rest ∙ sym (ap (λ o. first_in test (option_map_or (λ name. name ∷ names_in nodes es) o (names_in nodes es))) n)
      by rest false t (Some x) n = rest ∙ sym (ap (λ b. cond b (Some x) (first_in test (names_in nodes es))) (out e x t (named.0 x n))) ∙ sym (ap (λ o. first_in test (option_map_or (λ name. name ∷ names_in nodes es) o (names_in nodes es))) n)

  -- ---- which names there are
  pub names_from : (es : List (Vec ℕ A × ℕ)) (y : Name) → Contains (names_in nodes es) y → (e : Vec ℕ A × ℕ) × Contains es e × (name_of nodes e.1 ≡ Some y)
  names_from [] y c = absurd (omega (arith, c.1))
  names_from (e ∷ es) y c = by (names_from es y) (name_of nodes e.1) refl c
    where
      more : (d : Vec ℕ A × ℕ) × Contains es d × (name_of nodes d.1 ≡ Some y) → (d : Vec ℕ A × ℕ) × Contains (e ∷ es) d × (name_of nodes d.1 ≡ Some y)
      more r = (r.0, Contains-cons e r.0 es r.1, r.2)

      by : (Contains (names_in nodes es) y → (d : Vec ℕ A × ℕ) × Contains es d × (name_of nodes d.1 ≡ Some y)) → (o : Option Name) → name_of nodes e.1 ≡ o → Contains (option_map_or (λ name. name ∷ names_in nodes es) o (names_in nodes es)) y → (d : Vec ℕ A × ℕ) × Contains (e ∷ es) d × (name_of nodes d.1 ≡ Some y)
      by later None n d = more (later d)
      by later (Some x) n d = ⊎_elim (λ h. (e, (0, omega arith, refl), n ∙ ap Some h)) (λ h. more (later h)) (Contains-cons_cases x y (names_in nodes es) d)

  pub names_has : (es : List (Vec ℕ A × ℕ)) (e : Vec ℕ A × ℕ) → Contains es e → (y : Name) → name_of nodes e.1 ≡ Some y → Contains (names_in nodes es) y
  names_has [] e c y n = absurd (omega (arith, c.1))
  names_has (d ∷ es) e c y n = by (λ h. names_has es e h y n) (Contains-cons_cases d e es c) (name_of nodes d.1) refl
    where
      by : (Contains es e → Contains (names_in nodes es) y) → (d ≡ e) ⊎ Contains es e → (o : Option Name) → name_of nodes d.1 ≡ o → Contains (option_map_or (λ name. name ∷ names_in nodes es) o (names_in nodes es)) y
      by later (inl h) None m = let both : None ≡ Some y = sym m ∙ ap (λ (z : Vec ℕ A × ℕ). name_of nodes z.1) h ∙ n in absurd (cc)
      by later (inl h) (Some x) m =
          let same : x ≡ y = let both : Some x ≡ Some y = sym m ∙ ap (λ (z : Vec ℕ A × ℕ). name_of nodes z.1) h ∙ n in cc in
          subst (λ (w : Name). Contains (w ∷ names_in nodes es) y) (sym same) (0, omega arith, refl)
      by later (inr h) None m = later h
      by later (inr h) (Some x) m = Contains-cons x y (names_in nodes es) (later h)

-- an entry of a list in order is what its key finds
above_key : {A : Type 0} (key : Key) (es : List (Vec ℕ A × ℕ)) → AllByRecursion (λ k. slice_cmp nat_cmp key k.items ≡ Less) (keys_of es) → (e : Vec ℕ A × ℕ) → Contains es e → slice_cmp nat_cmp key e.0.items ≡ Less
above_key key [] all e c = absurd (omega (arith, c.1))
above_key {A} key (d ∷ es) all e c = ⊎_elim (λ h. ap (λ (z : Vec ℕ A × ℕ). slice_cmp nat_cmp key z.0.items) (sym h) ∙ all.0) (above_key key es all.1 e) (Contains-cons_cases d e es c)

pub kept : {A : Type 0} (es : List (Vec ℕ A × ℕ)) → IsStrictlySortedBy key_cmp (keys_of es) → (e : Vec ℕ A × ℕ) → Contains es e → get_key es e.0.items ≡ Some e.1
unfolding IsStrictlySortedBy
kept [] s e c = absurd (omega (arith, c.1))
kept {A} (d ∷ es) s e c = by (kept es s.1 e) (above_key d.0.items es s.0 e) (Contains-cons_cases d e es c)
  where
    by : (Contains es e → get_key es e.0.items ≡ Some e.1) → (Contains es e → slice_cmp nat_cmp d.0.items e.0.items ≡ Less) → (d ≡ e) ⊎ Contains es e → cond (is_eq (slice_cmp nat_cmp e.0.items d.0.items)) (Some d.1) (get_key es e.0.items) ≡ Some e.1
    by later less (inl h) = subst (λ (z : Vec ℕ A × ℕ). cond (is_eq (slice_cmp nat_cmp z.0.items d.0.items)) (Some d.1) (get_key es z.0.items) ≡ Some z.1) h (ap (λ r. cond (is_eq r) (Some d.1) (get_key es d.0.items)) (tied_itself nat_list_cmp_total d.0.items))
    by later less (inr h) = ap (λ r. cond (is_eq r) (Some d.1) (get_key es e.0.items)) (nat_list_cmp_total.antisymm e.0.items d.0.items ∙ ap ordering_reverse (less h)) ∙ later h
