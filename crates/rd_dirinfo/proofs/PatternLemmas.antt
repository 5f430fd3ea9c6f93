-- Patterns: the test is exact for what `*` and `?` stand for, and how a walk of a pattern along a name decides it.
use Rattle.std.proofs.Common.{◌≡◌, ◌↔◌, ℕ, ◌+◌, ◌≤◌, inl, inr, Bool, true, false, not, ◌&&◌, ◌||◌, ◌==◌, IsTrue, List, [], ◌∷◌, ◌++◌, length, take, drop, refl, sym, ◌∙◌, ap, subst, arith, append_assoc, eq-eqb, eqb-true, suc, zero}
use Rattle.std.proofs.Math.Dec.{eqb-suc-zero}
use Rattle.std.specs.Cmp.{both_ways, first_so, second_so}
use Rattle.std.proofs.lemmas.List.{take-append-drop, drop-drop, drop_at}
use Rattle.unicode.specs.CaseFolding.{simple_folding}
use Rattle.unicode.specs.Rows.{value_in}
use Rattle.ucd_case.specs.SimpleFoldingRows.{simple_folding_rows}
use Rattle.rd_dirinfo.specs.declared.naming.Naming.{Naming}
use Rattle.rd_dirinfo.specs.declared.naming.Naming.TheVariants.{Exact, Folded}
use Rattle.rd_dirinfo.specs.Naming.{Name, seen}
use Rattle.rd_dirinfo.specs.Patterns.{Matches, matches, star, question, any_name, or_any, stands_for, is_cut_by, UnitMatches, IsCutBy}

-- ---- one unit of a pattern

cut_star_end : (ps : List ℕ) → is_cut_by (star ∷ ps) [] ≡ is_cut_by ps []
unfolding is_cut_by
cut_star_end ps = of (is_cut_by ps [])
  where
    of : (b : Bool) → (b || false) ≡ b
    of true = refl
    of false = refl

cut_star_first : (ps : List ℕ) (u : ℕ) (us : Name) → is_cut_by (star ∷ ps) (u ∷ us) ≡ (is_cut_by ps (u ∷ us) || is_cut_by (star ∷ ps) us)
unfolding is_cut_by
cut_star_first ps u us = refl

cut_unit_end : (p : ℕ) (ps : List ℕ) → (p == star) ≡ false → is_cut_by (p ∷ ps) [] ≡ false
unfolding is_cut_by
cut_unit_end p ps other = rw other refl

cut_unit_first : (p : ℕ) (ps : List ℕ) (u : ℕ) (us : Name) → (p == star) ≡ false → is_cut_by (p ∷ ps) (u ∷ us) ≡ (stands_for p u && is_cut_by ps us)
unfolding is_cut_by
cut_unit_first p ps u us other = rw other refl

cut_none_none : is_cut_by [] [] ≡ true
unfolding is_cut_by
cut_none_none = refl

cut_none_first : (u : ℕ) (us : Name) → is_cut_by [] (u ∷ us) ≡ false
unfolding is_cut_by
cut_none_first u us = eqb-suc-zero (length us)

-- ---- a `*` before a pattern matches where the pattern matches an end of the name

star_here : (ps : List ℕ) (name : Name) → is_cut_by ps name ≡ true → is_cut_by (star ∷ ps) name ≡ true
star_here ps [] h = cut_star_end ps ∙ h
star_here ps (u ∷ us) h = cut_star_first ps u us ∙ rw h refl

star_from : (ps : List ℕ) (k : ℕ) (name : Name) → is_cut_by ps (drop k name) ≡ true → is_cut_by (star ∷ ps) name ≡ true
star_from ps zero name h = star_here ps name h
star_from ps (suc k) [] h = star_here ps [] h
star_from ps (suc k) (u ∷ us) h = cut_star_first ps u us ∙ or_true (is_cut_by ps (u ∷ us)) (star_from ps k us h)
  where
    or_true : (a : Bool) {b : Bool} → b ≡ true → (a || b) ≡ true
    or_true true e = refl
    or_true false e = e

star_to : (ps : List ℕ) (name : Name) → is_cut_by (star ∷ ps) name ≡ true → (k : ℕ) × (is_cut_by ps (drop k name) ≡ true)
star_to ps [] h = (0, sym (cut_star_end ps) ∙ h)
star_to ps (u ∷ us) h = of (is_cut_by ps (u ∷ us)) refl (star_to ps us)
  where
    of : (b : Bool) → is_cut_by ps (u ∷ us) ≡ b → (is_cut_by (star ∷ ps) us ≡ true → (k : ℕ) × (is_cut_by ps (drop k us) ≡ true)) → (k : ℕ) × (is_cut_by ps (drop k (u ∷ us)) ≡ true)
    of true e later = (0, e)
    of false e later =
        let there = later ((λ i. sym e i || is_cut_by (star ∷ ps) us) ∙ sym (cut_star_first ps u us) ∙ h) in
        (suc there.0, there.1)

pub any_matches : (name : Name) → is_cut_by any_name name ≡ true
any_matches [] = cut_star_end [] ∙ cut_none_none
any_matches (u ∷ us) = cut_star_first [] u us ∙ (λ i. cut_none_first u us i || any_matches us i)

-- ---- the test is exact

stands : (p u : ℕ) → stands_for p u ≡ true → UnitMatches p (u ∷ [])
stands p u = by (p == question) refl
  where
    by : (b : Bool) → (p == question) ≡ b → (b || (p == u)) ≡ true → UnitMatches p (u ∷ [])
    by true e h = inr (inl (eqb-true p question e, refl))
    by false e h = inr (inr (ap (λ (v : ℕ). v ∷ []) (sym (eqb-true p u h))))

cut_sound : (pattern : List ℕ) (name : Name) → is_cut_by pattern name ≡ true → IsCutBy pattern name
cut_sound [] [] h = refl
cut_sound [] (u ∷ us) h = let bad = cut_none_first u us in absurd (cc)
cut_sound (p ∷ ps) name h = of (cut_sound ps) (p == star) refl name h
  where
    of : ((rest : Name) → is_cut_by ps rest ≡ true → IsCutBy ps rest) → (b : Bool) → (p == star) ≡ b → (name : Name) → is_cut_by (p ∷ ps) name ≡ true → IsCutBy (p ∷ ps) name
    of later true e name h =
        let there = star_to ps name (subst (λ (q : ℕ). is_cut_by (q ∷ ps) name ≡ true) (eqb-true p star e) h) in
        (take there.0 name, drop there.0 name, sym (take-append-drop there.0 name), inl (eqb-true p star e), later (drop there.0 name) there.1)
    of later false e [] h = let bad = cut_unit_end p ps e in absurd (cc)
    of later false e (u ∷ us) h =
        let both = sym (cut_unit_first p ps u us e) ∙ h in
        (u ∷ [], us, refl, stands p u (first_so (stands_for p u) (is_cut_by ps us) both), later us (second_so (stands_for p u) (is_cut_by ps us) both))

cut_complete : (pattern : List ℕ) (name : Name) → IsCutBy pattern name → is_cut_by pattern name ≡ true
cut_complete [] name h = rw h cut_none_none
cut_complete (p ∷ ps) name h = of (p == star) refl (cut_complete ps h.1 h.4)
  where
    of : (b : Bool) → (p == star) ≡ b → is_cut_by ps h.1 ≡ true → is_cut_by (p ∷ ps) name ≡ true
    of true e rest =
        let end : drop (length h.0) name ≡ h.1 = ap (drop (length h.0)) h.2 ∙ drop_at h.0 h.1 (length h.0) refl in
        subst (λ (q : ℕ). is_cut_by (q ∷ ps) name ≡ true) (sym (eqb-true p star e)) (star_from ps (length h.0) name (ap (is_cut_by ps) end ∙ rest))
    of false e rest = subst (λ (n : Name). is_cut_by (p ∷ ps) n ≡ true) (sym h.2) (unit h.0 h.3)
      where
        one : (u : ℕ) → stands_for p u ≡ true → is_cut_by (p ∷ ps) (u ∷ h.1) ≡ true
        one u stands = cut_unit_first p ps u h.1 e ∙ (λ i. stands i && rest i)

        of_one : (run : List ℕ) → (p ≡ question) → length run ≡ 1 → is_cut_by (p ∷ ps) (run ++ h.1) ≡ true
        of_one [] q l = absurd (cc)
        of_one (u ∷ []) q l = one u (rw (eq-eqb p question q) refl)
        of_one (u ∷ v ∷ us) q l = let bad : 2 ≤ 1 = omega arith in absurd (omega arith)

        or_true : (a : Bool) {b : Bool} → b ≡ true → (a || b) ≡ true
        or_true true e = refl
        or_true false e = e

        unit : (run : List ℕ) → UnitMatches p run → is_cut_by (p ∷ ps) (run ++ h.1) ≡ true
        unit run (inl is) = let yes = eq-eqb p star is in absurd (cc)
        unit run (inr (inl (q, l))) = of_one run q l
        unit run (inr (inr is)) = rw is (one p (or_true (p == question) (eq-eqb p p refl)))

pub cut_exact : (pattern : List ℕ) (name : Name) → IsTrue (is_cut_by pattern name) ↔ IsCutBy pattern name
cut_exact pattern name = (cut_sound pattern name, cut_complete pattern name)

pub matches_exact : (naming : Naming) (pattern : List ℕ) (name : Name) (answer : Bool) → answer ≡ matches naming pattern name → IsTrue answer ↔ Matches naming pattern name
matches_exact naming pattern name answer is =
    let both = cut_exact (seen naming pattern) (seen naming name) in
    (λ yes. both.0 (sym is ∙ yes), λ cut. is ∙ both.1 cut)

-- ---- the pattern `*`

star_stays : (naming : Naming) → seen naming any_name ≡ any_name
unfolding simple_folding value_in simple_folding_rows
star_stays Exact = refl
star_stays Folded = refl

pub any_of_none : (units : List ℕ) → (length units == 0) ≡ true → or_any units ≡ any_name
any_of_none units h = rw h refl

pub any_of_some : (units : List ℕ) → (length units == 0) ≡ false → or_any units ≡ units
any_of_some units h = rw h refl

pub any_is_matched : (naming : Naming) (name : Name) → matches naming any_name name ≡ true
any_is_matched naming name = ap (λ (pattern : List ℕ). is_cut_by pattern (seen naming name)) (star_stays naming) ∙ any_matches (seen naming name)

-- ---- a walk of a pattern along a name

-- units of a pattern without a `*` stand for as many units of a name
abbrev fits : List ℕ → List ℕ → Bool
fits [] [] = true
fits [] (u ∷ us) = false
fits (x ∷ xs) [] = false
fits (x ∷ xs) (u ∷ us) = not (x == star) && (stands_for x u && fits xs us)

-- units of the pattern stand for units of the name, and these are left
pub record Walked (pattern : List ℕ) (name : Name) (left : List ℕ) (rest : Name) : Type 0 where
  pub units : List ℕ
  pub run : Name
  pub of_pattern : pattern ≡ units ++ left
  pub of_name : name ≡ run ++ rest
  pub fit : fits units run ≡ true

plain : (x : ℕ) (b : Bool) → (not (x == star) && b) ≡ true → (x == star) ≡ false
plain x b h = of (x == star) h
  where
    of : (s : Bool) → (not s && b) ≡ true → s ≡ false
    of true h = sym h
    of false h = refl

fits_length : (units : List ℕ) (run : Name) → fits units run ≡ true → length units ≡ length run
fits_length [] [] h = refl
fits_length [] (u ∷ us) h = absurd (cc)
fits_length (x ∷ xs) [] h = absurd (cc)
fits_length (x ∷ xs) (u ∷ us) h = ap suc (fits_length xs us (second_so (stands_for x u) (fits xs us) (second_so (not (x == star)) (stands_for x u && fits xs us) h)))

fits_more : (units : List ℕ) (run : Name) (x u : ℕ) → fits units run ≡ true → (x == star) ≡ false → stands_for x u ≡ true → fits (units ++ x ∷ []) (run ++ u ∷ []) ≡ true
fits_more [] [] x u h other stands = rw (other, stands) refl
fits_more [] (v ∷ vs) x u h other stands = absurd (cc)
fits_more (y ∷ ys) [] x u h other stands = absurd (cc)
fits_more (y ∷ ys) (v ∷ vs) x u h other stands =
    let first = first_so (not (y == star)) (stands_for y v && fits ys vs) h in
    let others = second_so (not (y == star)) (stands_for y v && fits ys vs) h in
    (λ i. first i && (first_so (stands_for y v) (fits ys vs) others i && fits_more ys vs x u (second_so (stands_for y v) (fits ys vs) others) other stands i))

-- what fits may be left out of both
fits_skip : (units : List ℕ) (run : Name) (left : List ℕ) (rest : Name) → fits units run ≡ true → is_cut_by (units ++ left) (run ++ rest) ≡ is_cut_by left rest
fits_skip [] [] left rest h = refl
fits_skip [] (u ∷ us) left rest h = absurd (cc)
fits_skip (x ∷ xs) [] left rest h = absurd (cc)
fits_skip (x ∷ xs) (u ∷ us) left rest h =
    let others = second_so (not (x == star)) (stands_for x u && fits xs us) h in
    cut_unit_first x (xs ++ left) u (us ++ rest) (plain x (stands_for x u && fits xs us) h)
    ∙ (λ i. first_so (stands_for x u) (fits xs us) others i && fits_skip xs us left rest (second_so (stands_for x u) (fits xs us) others) i)

-- what has no `*` takes as many units from any name
fits_take : (units : List ℕ) (run : Name) (left : List ℕ) (name : Name) → fits units run ≡ true → is_cut_by (units ++ left) name ≡ true → is_cut_by left (drop (length units) name) ≡ true
fits_take [] run left name h is = is
fits_take (x ∷ xs) [] left name h is = absurd (cc)
fits_take (x ∷ xs) (u ∷ us) left [] h is = let bad = cut_unit_end x (xs ++ left) (plain x (stands_for x u && fits xs us) h) in absurd (cc)
fits_take (x ∷ xs) (u ∷ us) left (v ∷ vs) h is =
    let others = second_so (not (x == star)) (stands_for x u && fits xs us) h in
    fits_take xs us left vs (second_so (stands_for x u) (fits xs us) others)
    (second_so (stands_for x v) (is_cut_by (xs ++ left) vs) (sym (cut_unit_first x (xs ++ left) v vs (plain x (stands_for x u && fits xs us) h)) ∙ is))

-- a pattern after a `*`, of which units fit, leaves an end of what is left of the name
fits_after : (units : List ℕ) (run : Name) (left : List ℕ) (rest : Name) → fits units run ≡ true → is_cut_by (star ∷ (units ++ left)) (run ++ rest) ≡ true → (k : ℕ) × (is_cut_by left (drop k rest) ≡ true)
fits_after units run left rest h is =
    let there = star_to (units ++ left) (run ++ rest) is in
    let k = there.0 in
    let taken : is_cut_by left (drop (length units) (drop k (run ++ rest))) ≡ true = fits_take units run left (drop k (run ++ rest)) h there.1 in
    let order : k + length units ≡ length run + k = let long = fits_length units run h in omega arith in
    let end : drop (length units) (drop k (run ++ rest)) ≡ drop k rest =
    drop-drop (length units) k (run ++ rest) ∙ ap (λ (n : ℕ). drop n (run ++ rest)) order ∙ sym (drop-drop k (length run) (run ++ rest)) ∙ ap (drop k) (drop_at run rest (length run) refl) in
    (k, sym (ap (is_cut_by left) end) ∙ taken)

at_star : (units : List ℕ) (run : Name) (left : List ℕ) (rest : Name) → fits units run ≡ true → is_cut_by (star ∷ (units ++ star ∷ left)) (run ++ rest) ≡ is_cut_by (star ∷ left) rest
at_star units run left rest h =
    both_ways (is_cut_by (star ∷ (units ++ star ∷ left)) (run ++ rest)) (is_cut_by (star ∷ left) rest)
    (λ is.
    let there = fits_after units run (star ∷ left) rest h is in
    let last = star_to left (drop there.0 rest) there.1 in
    star_from left (there.0 + last.0) rest (ap (is_cut_by left) (sym (drop-drop last.0 there.0 rest)) ∙ last.1))
    (λ is. star_here (units ++ star ∷ left) (run ++ rest) (fits_skip units run (star ∷ left) rest h ∙ is))

-- ---- how a walk goes, and what its ends tell

pub walk_begins : (pattern : List ℕ) (name : Name) → Walked pattern name pattern name
walk_begins pattern name = record { units = []; run = []; of_pattern = refl; of_name = refl; fit = refl }

module _ {pattern : List ℕ} {name : Name} where
  pub walk_goes_on : (x : ℕ) (left : List ℕ) (u : ℕ) (rest : Name) → Walked pattern name (x ∷ left) (u ∷ rest) → (x == star) ≡ false → stands_for x u ≡ true → Walked pattern name left rest
  walk_goes_on x left u rest w other stands = record {
    units = w.units ++ x ∷ [];
    run = w.run ++ u ∷ [];
    of_pattern = w.of_pattern ∙ sym (append_assoc w.units (x ∷ []) left);
    of_name = w.of_name ∙ sym (append_assoc w.run (u ∷ []) rest);
    fit = fits_more w.units w.run x u w.fit other stands;
  }

  skipped : {left : List ℕ} {rest : Name} → Walked pattern name left rest → is_cut_by pattern name ≡ is_cut_by left rest
  skipped {left} {rest} w = (λ i. is_cut_by (w.of_pattern i) (w.of_name i)) ∙ fits_skip w.units w.run left rest w.fit

  pub walk_whole : Walked pattern name [] [] → is_cut_by pattern name ≡ true
  walk_whole w = skipped w ∙ cut_none_none

  pub walk_ends_first : (u : ℕ) (rest : Name) → Walked pattern name [] (u ∷ rest) → is_cut_by pattern name ≡ false
  walk_ends_first u rest w = skipped w ∙ cut_none_first u rest

  pub walk_differs : (x : ℕ) (left : List ℕ) (u : ℕ) (rest : Name) → Walked pattern name (x ∷ left) (u ∷ rest) → (x == star) ≡ false → stands_for x u ≡ false → is_cut_by pattern name ≡ false
  walk_differs x left u rest w other differs = skipped w ∙ cut_unit_first x left u rest other ∙ (λ i. differs i && is_cut_by left rest)

  pub walk_short : (x : ℕ) (left : List ℕ) → Walked pattern name (x ∷ left) [] → (x == star) ≡ false → (is_cut_by pattern name ≡ false) × (is_cut_by (star ∷ pattern) name ≡ false)
  walk_short x left w other = (skipped w ∙ cut_unit_end x left other, of (is_cut_by (star ∷ pattern) name) refl)
    where
      none : (k : ℕ) → is_cut_by (x ∷ left) (drop k []) ≡ false
      none zero = cut_unit_end x left other
      none (suc k) = cut_unit_end x left other

      of : (b : Bool) → is_cut_by (star ∷ pattern) name ≡ b → b ≡ false
      of true e =
          let there = fits_after w.units w.run (x ∷ left) [] w.fit ((λ i. is_cut_by (star ∷ sym w.of_pattern i) (sym w.of_name i)) ∙ e) in
          sym there.1 ∙ none there.0
      of false e = refl

  pub walk_star : (left : List ℕ) (rest : Name) → Walked pattern name (star ∷ left) rest → (is_cut_by pattern name ≡ is_cut_by (star ∷ left) rest) × (is_cut_by (star ∷ pattern) name ≡ is_cut_by (star ∷ left) rest)
  walk_star left rest w = (skipped w, (λ i. is_cut_by (star ∷ w.of_pattern i) (w.of_name i)) ∙ at_star w.units w.run left rest w.fit)

-- ---- a pattern after a `*`

pub star_whole : (pattern : List ℕ) (name : Name) → is_cut_by pattern name ≡ true → is_cut_by (star ∷ pattern) name ≡ true
star_whole = star_here

pub star_later : (pattern : List ℕ) (u : ℕ) (us : Name) → is_cut_by pattern (u ∷ us) ≡ false → is_cut_by (star ∷ pattern) (u ∷ us) ≡ is_cut_by (star ∷ pattern) us
star_later pattern u us fails = cut_star_first pattern u us ∙ (λ i. fails i || is_cut_by (star ∷ pattern) us)

pub star_nothing : (pattern : List ℕ) → is_cut_by pattern [] ≡ false → is_cut_by (star ∷ pattern) [] ≡ false
star_nothing pattern fails = cut_star_end pattern ∙ fails
