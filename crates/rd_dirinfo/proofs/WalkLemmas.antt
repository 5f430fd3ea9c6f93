-- The steps and the ends of a walk, as its code meets them.
use Rattle.std.proofs.Common.{◌≡◌, ℕ, ◌⊎◌, inl, inr, Bool, true, false, ◌||◌, ◌==◌, List, [], ◌∷◌, length, refl, sym, ◌∙◌, ap, subst, eq-eqb}
use Rattle.std.proofs.lemmas.Bool.{ne_eqb}
use Rattle.std.proofs.lemmas.List.{nil_from_length}
use Rattle.rd_dirinfo.specs.declared.naming.Naming.{Naming}
use Rattle.rd_dirinfo.specs.Naming.{Name, seen, seen_unit}
use Rattle.rd_dirinfo.specs.Patterns.{star, question, stands_for, is_cut_by}
use Rattle.rd_dirinfo.proofs.NamingLemmas.{seen_none, seen_first}
use Rattle.rd_dirinfo.proofs.PatternLemmas.{Walked, walk_goes_on, walk_whole, walk_ends_first, walk_differs, walk_short, walk_star, star_later, star_nothing, any_matches}

stands : (wanted u : ℕ) → (wanted ≡ question) ⊎ (wanted ≡ u) → stands_for wanted u ≡ true
stands wanted u (inl is) = rw (eq-eqb wanted question is) refl
stands wanted u (inr is) = of (wanted == question)
  where
    of : (b : Bool) → (b || (wanted == u)) ≡ true
    of true = refl
    of false = eq-eqb wanted u is

stands_not : (wanted u : ℕ) → (wanted ≡ question → ⊥) → (wanted ≡ u → ⊥) → stands_for wanted u ≡ false
stands_not wanted u first second = λ i. ne_eqb wanted question first i || ne_eqb wanted u second i

seen_as : (naming : Naming) (units : Name) (x wanted : ℕ) (xs : Name) → units ≡ x ∷ xs → wanted ≡ seen_unit naming x → seen naming units ≡ wanted ∷ seen naming xs
seen_as naming units x wanted xs e w = ap (seen naming) e ∙ seen_first naming x xs ∙ ap (λ (v : ℕ). v ∷ seen naming xs) (sym w)

seen_empty : (naming : Naming) (units : Name) → length units ≡ 0 → seen naming units ≡ []
seen_empty naming units e = ap (seen naming) (nil_from_length units e) ∙ seen_none naming

module _ (naming : Naming) (pattern : List ℕ) (name : Name) (left : List ℕ) (rest : Name) (walked : Walked (seen naming pattern) (seen naming name) (seen naming left) (seen naming rest)) where
  at : (l : List ℕ) (r : Name) → seen naming left ≡ l → seen naming rest ≡ r → Walked (seen naming pattern) (seen naming name) l r
  at l r p q = subst (λ (m : List ℕ). Walked (seen naming pattern) (seen naming name) m r) p (subst (λ (m : Name). Walked (seen naming pattern) (seen naming name) (seen naming left) m) q walked)

  pub meets_star : (x wanted : ℕ) (xs : List ℕ) → left ≡ x ∷ xs → wanted ≡ seen_unit naming x → wanted ≡ star → (is_cut_by (seen naming pattern) (seen naming name) ≡ is_cut_by (star ∷ seen naming xs) (seen naming rest)) × (is_cut_by (star ∷ seen naming pattern) (seen naming name) ≡ is_cut_by (star ∷ seen naming xs) (seen naming rest))
  meets_star x wanted xs p w is = walk_star (seen naming xs) (seen naming rest) (at (star ∷ seen naming xs) (seen naming rest) (seen_as naming left x star xs p (sym is ∙ w)) refl)

  pub meets_end : (x wanted : ℕ) (xs : List ℕ) → left ≡ x ∷ xs → length rest ≡ 0 → wanted ≡ seen_unit naming x → (wanted ≡ star → ⊥) → (is_cut_by (seen naming pattern) (seen naming name) ≡ false) × (is_cut_by (star ∷ seen naming pattern) (seen naming name) ≡ false)
  meets_end x wanted xs p q w other = walk_short wanted (seen naming xs) (at (wanted ∷ seen naming xs) [] (seen_as naming left x wanted xs p w) (seen_empty naming rest q)) (ne_eqb wanted star other)

  module _ (x wanted : ℕ) (xs : List ℕ) (u unit : ℕ) (us : Name) (p : left ≡ x ∷ xs) (q : rest ≡ u ∷ us) (w : wanted ≡ seen_unit naming x) (v : unit ≡ seen_unit naming u) (other : wanted ≡ star → ⊥) where
    opened : Walked (seen naming pattern) (seen naming name) (wanted ∷ seen naming xs) (unit ∷ seen naming us)
    opened = at (wanted ∷ seen naming xs) (unit ∷ seen naming us) (seen_as naming left x wanted xs p w) (seen_as naming rest u unit us q v)

    pub goes_on : (wanted ≡ question) ⊎ (wanted ≡ unit) → Walked (seen naming pattern) (seen naming name) (seen naming xs) (seen naming us)
    goes_on fits = walk_goes_on wanted (seen naming xs) unit (seen naming us) opened (ne_eqb wanted star other) (stands wanted unit fits)

    pub meets_other : (wanted ≡ question → ⊥) → (wanted ≡ unit → ⊥) → is_cut_by (seen naming pattern) (seen naming name) ≡ false
    meets_other first second = walk_differs wanted (seen naming xs) unit (seen naming us) opened (ne_eqb wanted star other) (stands_not wanted unit first second)

  pub meets_both : length left ≡ 0 → length rest ≡ 0 → is_cut_by (seen naming pattern) (seen naming name) ≡ true
  meets_both p q = walk_whole (at [] [] (seen_empty naming left p) (seen_empty naming rest q))

  pub ends_before : length left ≡ 0 → (length rest == 0) ≡ false → is_cut_by (seen naming pattern) (seen naming name) ≡ false
  ends_before p q = of rest refl
    where
      of : (r : Name) → rest ≡ r → is_cut_by (seen naming pattern) (seen naming name) ≡ false
      of [] e = let bad : (length rest == 0) ≡ true = eq-eqb (length rest) 0 (ap length e) in absurd (cc)
      of (u ∷ us) e = walk_ends_first (seen_unit naming u) (seen naming us) (at [] (seen_unit naming u ∷ seen naming us) (seen_empty naming left p) (ap (seen naming) e ∙ seen_first naming u us))

-- ---- a pattern after a `*`

pub ends_in_star : (naming : Naming) (pattern : List ℕ) (name : Name) → length pattern ≡ 0 → is_cut_by (star ∷ seen naming pattern) (seen naming name) ≡ true
ends_in_star naming pattern name e = ap (λ (units : List ℕ). is_cut_by (star ∷ units) (seen naming name)) (seen_empty naming pattern e) ∙ any_matches (seen naming name)

pub steps_on : (naming : Naming) (pattern : List ℕ) (name : Name) (u : ℕ) (us : Name) → name ≡ u ∷ us → is_cut_by (seen naming pattern) (seen naming name) ≡ false → is_cut_by (star ∷ seen naming pattern) (seen naming name) ≡ is_cut_by (star ∷ seen naming pattern) (seen naming us)
steps_on naming pattern name u us e fails =
    let as_seen = ap (seen naming) e ∙ seen_first naming u us in
    ap (is_cut_by (star ∷ seen naming pattern)) as_seen ∙ star_later (seen naming pattern) (seen_unit naming u) (seen naming us) (ap (is_cut_by (seen naming pattern)) (sym as_seen) ∙ fails)

pub nothing_left : (naming : Naming) (pattern : List ℕ) (name : Name) → length name ≡ 0 → is_cut_by (seen naming pattern) (seen naming name) ≡ false → is_cut_by (star ∷ seen naming pattern) (seen naming name) ≡ false
nothing_left naming pattern name e fails =
    let as_seen = seen_empty naming name e in
    ap (is_cut_by (star ∷ seen naming pattern)) as_seen ∙ star_nothing (seen naming pattern) (ap (is_cut_by (seen naming pattern)) (sym as_seen) ∙ fails)
