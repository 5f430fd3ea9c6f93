-- Listing: the first wanted name among a folder's entries, which stand in order, is the least of its children's wanted names.
use Rattle.std.proofs.Common.{◌≡◌, ◌∙◌, refl, sym, ap, subst, ◌⊎◌, inl, inr, ⊎_elim, Bool, true, false, List, [], ◌∷◌, Option, Some, None, cond, arith}
use Rattle.std.specs.List.{Contains, filter}
use Rattle.std.specs.Option.{option_map_or}
use Rattle.std.specs.Ordering.{is_lt, ordering_reverse}
use Rattle.std.specs.declared.cmp.Ordering.{Ordering}
use Rattle.std.specs.declared.cmp.Ordering.TheVariants.{Less, Equal, Greater}
use Rattle.slab.proofs.SlabLemmas.{Contains-cons, Contains-cons_cases}
use Rattle.rd_dirinfo.specs.declared.naming.Naming.{Naming}
use Rattle.rd_dirinfo.specs.Naming.{Name, name_cmp}
use Rattle.rd_dirinfo.proofs.NamingLemmas.{name_order}
use Rattle.rd_tree.specs.Places.{first_name, least}
use Rattle.rd_tree.specs.Nodes.{first_in}

-- ---- the least of some names
module _ (naming : Naming) where
  -- no name of a list comes before this one
  abbrev IsFirst : List Name → Name → Type 0
  IsFirst xs m = (y : Name) → Contains xs y → name_cmp naming y m ≡ Less → ⊥

  never : (x : Name) → name_cmp naming x x ≡ Less → ⊥
  never x e = two (name_cmp naming x x) e ((name_order naming).antisymm x x)
    where
      two : (o : Ordering) → o ≡ Less → o ≡ ordering_reverse o → ⊥
      two Less e f = absurd (cc)
      two Equal e f = absurd (cc)
      two Greater e f = absurd (cc)

  not_less : (x m : Name) → is_lt (name_cmp naming m x) ≡ false → name_cmp naming m x ≡ Less → ⊥
  not_less x m t e = let both : true ≡ false = sym (ap is_lt e) ∙ t in absurd (cc)

  less_is : (o : Ordering) → is_lt o ≡ true → o ≡ Less
  less_is Less e = refl
  less_is Equal e = absurd (cc)
  less_is Greater e = absurd (cc)

  -- the least of some names is one of them, and the first
  pub least_first : (xs : List Name) (m : Name) → least naming xs ≡ Some m → Contains xs m × IsFirst xs m
  least_first [] m e = absurd (cc)
  least_first (x ∷ xs) m e = by (least_first xs) (least naming xs) refl e
    where
      none : least naming xs ≡ None → (y : Name) → Contains xs y → ⊥
      none e y c = no_member xs e y c
        where
          no_member : (zs : List Name) → least naming zs ≡ None → (y : Name) → Contains zs y → ⊥
          no_member [] e y c = absurd (omega (arith, c.1))
          no_member (z ∷ zs) e y c = absurd (cc)

      by : ((m : Name) → least naming xs ≡ Some m → Contains xs m × IsFirst xs m) → (o : Option Name) → least naming xs ≡ o → Some (option_map_or (first_name naming x) (least naming xs) x) ≡ Some m → Contains (x ∷ xs) m × IsFirst (x ∷ xs) m
      by later None e f =
          let same : x ≡ m = let both : Some (option_map_or (first_name naming x) None x) ≡ Some m = sym (ap (λ (o : Option Name). Some (option_map_or (first_name naming x) o x)) e) ∙ f in cc in (
            subst (λ (z : Name). Contains (x ∷ xs) z) same (0, omega arith, refl),
            subst (λ (z : Name). IsFirst (x ∷ xs) z) same (λ y c less. ⊎_elim (λ h. never x (subst (λ (z : Name). name_cmp naming z x ≡ Less) (sym h) less)) (λ h. none e y h) (Contains-cons_cases x y xs c)),
          )
      by later (Some z) e f = pick (is_lt (name_cmp naming z x)) refl
        where
          tail : Contains xs z × IsFirst xs z
          tail = later z e

          value : first_name naming x z ≡ m
          value = let both : Some (option_map_or (first_name naming x) (Some z) x) ≡ Some m = sym (ap (λ (o : Option Name). Some (option_map_or (first_name naming x) o x)) e) ∙ f in cc

          pick : (b : Bool) → is_lt (name_cmp naming z x) ≡ b → Contains (x ∷ xs) m × IsFirst (x ∷ xs) m
          pick true t =
              let same : z ≡ m = sym (ap (λ b. cond b z x) t) ∙ value in
              subst (λ (w : Name). Contains (x ∷ xs) w × IsFirst (x ∷ xs) w) same (
                Contains-cons x z xs tail.0,
                λ y c less. ⊎_elim
                    (λ h. never z ((name_order naming).trans z x z (less_is (name_cmp naming z x) t) (subst (λ (w : Name). name_cmp naming w z ≡ Less) (sym h) less)))
                    (λ h. tail.1 y h less) (Contains-cons_cases x y xs c),
              )
          pick false t =
              let same : x ≡ m = sym (ap (λ b. cond b z x) t) ∙ value in
              subst (λ (w : Name). Contains (x ∷ xs) w × IsFirst (x ∷ xs) w) same (
                (0, omega arith, refl),
                λ y c less. ⊎_elim
                    (λ h. never x (subst (λ (w : Name). name_cmp naming w x ≡ Less) (sym h) less))
                    (λ h. below_tail y h less (name_cmp naming z x) refl t) (Contains-cons_cases x y xs c),
              )
            where
              below_tail : (y : Name) → Contains xs y → name_cmp naming y x ≡ Less → (o : Ordering) → name_cmp naming z x ≡ o → is_lt (name_cmp naming z x) ≡ false → ⊥
              below_tail y h less Less e t = not_less x z t e
              below_tail y h less Equal e t = tail.1 y h (alike y z e less)
                where
                  alike : (y z : Name) → name_cmp naming z x ≡ Equal → name_cmp naming y x ≡ Less → name_cmp naming y z ≡ Less
                  alike y z e less = (name_order naming).antisymm y z ∙ ap ordering_reverse ((name_order naming).congr z x y e ∙ (name_order naming).antisymm x y ∙ ap ordering_reverse less)
              below_tail y h less Greater e t = tail.1 y h ((name_order naming).trans y x z less ((name_order naming).antisymm x z ∙ ap ordering_reverse e))

  -- ---- names in order
  abbrev pub InOrder : List Name → Type 0
  InOrder [] = Unit {0}
  InOrder (x ∷ xs) = ((y : Name) → Contains xs y → name_cmp naming x y ≡ Less) × InOrder xs

  turned : (x y : Name) → name_cmp naming x y ≡ Less → name_cmp naming y x ≡ Equal → ⊥
  turned x y less e = two (name_cmp naming x y) less ((name_order naming).antisymm x y ∙ ap ordering_reverse e)
    where
      two : (o : Ordering) → o ≡ Less → o ≡ Equal → ⊥
      two o e f = let both : Less ≡ Equal = sym e ∙ f in absurd (cc)

  one_order : (x y : Name) → name_cmp naming x y ≡ Less → name_cmp naming x y ≡ Equal → ⊥
  one_order x y less e = let both : Less ≡ Equal = sym less ∙ e in absurd (cc)

  -- names in order that compare equal are one
  apart : (xs : List Name) → InOrder xs → (x y : Name) → Contains xs x → Contains xs y → name_cmp naming x y ≡ Equal → x ≡ y
  apart [] o x y c d e = absurd (omega (arith, c.1))
  apart (z ∷ zs) o x y c d e = by (apart zs o.1 x y) (Contains-cons_cases z x zs c) (Contains-cons_cases z y zs d)
    where
      by : (Contains zs x → Contains zs y → name_cmp naming x y ≡ Equal → x ≡ y) → (z ≡ x) ⊎ Contains zs x → (z ≡ y) ⊎ Contains zs y → x ≡ y
      by later (inl p) (inl q) = sym p ∙ q
      by later (inl p) (inr q) = absurd (one_order x y (subst (λ (w : Name). name_cmp naming w y ≡ Less) p (o.0 y q)) e)
      by later (inr p) (inl q) = absurd (turned y x (subst (λ (w : Name). name_cmp naming w x ≡ Less) q (o.0 x p)) e)
      by later (inr p) (inr q) = later p q e

  -- ---- the first that passes
  pub first_found : (test : Name → Bool) (xs : List Name) → InOrder xs → (m : Name) → first_in test xs ≡ Some m → Contains xs m × (test m ≡ true) × ((y : Name) → Contains xs y → test y ≡ true → name_cmp naming y m ≡ Less → ⊥)
  first_found test [] o m e = absurd (cc)
  first_found test (x ∷ xs) o m e = by (first_found test xs o.1 m) (test x) refl e
    where
      by : (first_in test xs ≡ Some m → Contains xs m × (test m ≡ true) × ((y : Name) → Contains xs y → test y ≡ true → name_cmp naming y m ≡ Less → ⊥)) → (b : Bool) → test x ≡ b → cond b (Some x) (first_in test xs) ≡ Some m
          → Contains (x ∷ xs) m × (test m ≡ true) × ((y : Name) → Contains (x ∷ xs) y → test y ≡ true → name_cmp naming y m ≡ Less → ⊥)
      by later true t f =
          let same : x ≡ m = cc in
          subst (λ (w : Name). Contains (x ∷ xs) w × (test w ≡ true) × ((y : Name) → Contains (x ∷ xs) y → test y ≡ true → name_cmp naming y w ≡ Less → ⊥)) same (
            (0, omega arith, refl),
            t,
            λ y c p less. ⊎_elim
                (λ h. never x (subst (λ (w : Name). name_cmp naming w x ≡ Less) (sym h) less))
                (λ h. never x ((name_order naming).trans x y x (o.0 y h) less)) (Contains-cons_cases x y xs c),
          )
      by later false t f =
          let r = later f in (
            Contains-cons x m xs r.0,
            r.1,
            λ y c p less. ⊎_elim
                (λ h. let both : false ≡ true = sym t ∙ ap test h ∙ p in absurd (cc))
                (λ h. r.2 y h p less) (Contains-cons_cases x y xs c),
          )

  none_found : (test : Name → Bool) (xs : List Name) → first_in test xs ≡ None → (y : Name) → Contains xs y → test y ≡ true → ⊥
  none_found test [] e y c p = absurd (omega (arith, c.1))
  none_found test (x ∷ xs) e y c p = by (none_found test xs) (test x) refl e
    where
      by : (first_in test xs ≡ None → (y : Name) → Contains xs y → test y ≡ true → ⊥) → (b : Bool) → test x ≡ b → cond b (Some x) (first_in test xs) ≡ None → ⊥
      by later true t f = absurd (cc)
      by later false t f = ⊎_elim (λ h. let both : false ≡ true = sym t ∙ ap test h ∙ p in absurd (cc)) (λ h. later f y h p) (Contains-cons_cases x y xs c)

filter_has : (test : Name → Bool) (xs : List Name) (y : Name) → Contains xs y → test y ≡ true → Contains (filter test xs) y
filter_has test [] y c p = absurd (omega (arith, c.1))
filter_has test (x ∷ xs) y c p = by (filter_has test xs y) (test x) refl (Contains-cons_cases x y xs c)
  where
    by : (Contains xs y → test y ≡ true → Contains (filter test xs) y) → (b : Bool) → test x ≡ b → (x ≡ y) ⊎ Contains xs y → Contains (cond b (x ∷ filter test xs) (filter test xs)) y
    by later true t (inl e) = subst (λ (w : Name). Contains (x ∷ filter test xs) w) e (0, omega arith, refl)
    by later true t (inr d) = Contains-cons x y (filter test xs) (later d p)
    by later false t (inl e) = let both : false ≡ true = sym t ∙ ap test e ∙ p in absurd (cc)
    by later false t (inr d) = later d p

filter_from : (test : Name → Bool) (xs : List Name) (y : Name) → Contains (filter test xs) y → Contains xs y × (test y ≡ true)
filter_from test [] y c = absurd (omega (arith, c.1))
filter_from test (x ∷ xs) y c = by (filter_from test xs y) (test x) refl c
  where
    by : (Contains (filter test xs) y → Contains xs y × (test y ≡ true)) → (b : Bool) → test x ≡ b → Contains (cond b (x ∷ filter test xs) (filter test xs)) y → Contains (x ∷ xs) y × (test y ≡ true)
    by later true t d = ⊎_elim
        (λ e. (subst (λ (w : Name). Contains (x ∷ xs) w) e (0, omega arith, refl), sym (ap test e) ∙ t))
        (λ h. let r = later h in (Contains-cons x y xs r.0, r.1)) (Contains-cons_cases x y (filter test xs) d)
    by later false t d = let r = later d in (Contains-cons x y xs r.0, r.1)

-- the first that passes, among names in order, is the least that passes among the same names in any order
pub first_is_least : (naming : Naming) (test : Name → Bool) (xs names : List Name) → InOrder naming xs → ((y : Name) → Contains xs y → Contains names y) → ((y : Name) → Contains names y → Contains xs y) → first_in test xs ≡ least naming (filter test names)
first_is_least naming test xs names o there back = by (first_in test xs) refl (least naming (filter test names)) refl
  where
    no_member : (zs : List Name) → least naming zs ≡ None → (y : Name) → Contains zs y → ⊥
    no_member [] e y c = absurd (omega (arith, c.1))
    no_member (z ∷ zs) e y c = absurd (cc)

    equal : (x y : Name) (r : Ordering) → name_cmp naming x y ≡ r → (name_cmp naming x y ≡ Less → ⊥) → (name_cmp naming y x ≡ Less → ⊥) → name_cmp naming x y ≡ Equal
    equal x y Less e f g = absurd (f e)
    equal x y Equal e f g = e
    equal x y Greater e f g = absurd (g ((name_order naming).antisymm y x ∙ ap ordering_reverse e))

    by : (u : Option Name) → first_in test xs ≡ u → (v : Option Name) → least naming (filter test names) ≡ v → first_in test xs ≡ least naming (filter test names)
    by None e None f = e ∙ sym f
    by None e (Some m) f =
        let l = least_first naming (filter test names) m f in
        let m_from = filter_from test names m l.0 in
        absurd (none_found naming test xs e m (back m m_from.0) m_from.1)
    by (Some m) e None f =
        let r = first_found naming test xs o m e in
        absurd (no_member (filter test names) f m (filter_has test names m (there m r.0) r.1))
    by (Some m) e (Some k) f =
        let r = first_found naming test xs o m e in
        let l = least_first naming (filter test names) k f in
        let k_from = filter_from test names k l.0 in
        let k_in : Contains xs k = back k k_from.0 in
        let m_in : Contains (filter test names) m = filter_has test names m (there m r.0) r.1 in
        let same : m ≡ k = apart naming xs o m k r.0 k_in (equal m k (name_cmp naming m k) refl (l.1 m m_in) (r.2 k k_in k_from.1)) in
        e ∙ ap Some same ∙ sym f
