-- Paths of nodes one below the other, and the names from one down to the other.
use Rattle.std.proofs.Common.{◌≡◌, ◌∙◌, refl, sym, ap, ℕ, ◌+◌, ◌==◌, ◌<◌, ◌≤◌, Bool, true, false, not, ◌&&◌, ◌||◌, ◌⊎◌, inl, inr, [], ◌∷◌, ◌++◌, length, take, map, Option, arith, length-append}
use Rattle.std.specs.Prelude.{nat_le}
use Rattle.std.specs.Option.{option_map, unwrap_or, is_some}
use Rattle.std.proofs.lemmas.List.{take-append-le, take_all}
use Rattle.std.proofs.lemmas.Bool.{and_parts, eqb-true, le-leb, eq-eqb, lt-leb, ne_eqb, leb-true, leb-false, false_from_ne_true}
use Rattle.std.proofs.Math.Bool.{and-false, and-true}
use Rattle.rd_dirinfo.specs.declared.naming.Naming.{Naming}
use Rattle.rd_dirinfo.specs.Naming.{Name}
use Rattle.rd_dirinfo.specs.Paths.{Names, is_below, is_parent, is_prefix, is_same_path, last_name, parent}
use Rattle.rd_tree.specs.Places.{Place, Places, own_path, IsLive, IsWhole}
use Rattle.rd_tree.proofs.ParentLemmas.{parent_same, same_parent}
use Rattle.rd_tree.proofs.PlaceLemmas.{last_of, parent_of}
use Rattle.rd_tree.proofs.WayLemmas.{same_true}
use Rattle.rd_drive.specs.Access.{has_any}
use Rattle.rd_drive.specs.Outcome as outcome
use Rattle.rd_drive.specs.Telling.{is_watched, tells}
use Rattle.rd_drive.proofs.LockLemmas.{alike}

-- ---- paths

-- a path has a last name, or is the root's
snoc : (path : Names) → (path ≡ []) ⊎ ((front : Names) × (name : Name) × (path ≡ front ++ name ∷ []))
snoc [] = inl refl
snoc (x ∷ path) = by (snoc path)
  where
    by : (path ≡ []) ⊎ ((front : Names) × (name : Name) × (path ≡ front ++ name ∷ [])) → (x ∷ path ≡ []) ⊎ ((front : Names) × (name : Name) × (x ∷ path ≡ front ++ name ∷ []))
    by (inl e) = inr ([], x, ap (λ (p : Names). x ∷ p) e)
    by (inr s) = inr (x ∷ s.0, s.1, ap (λ (p : Names). x ∷ p) s.2)

pub path_split : (path : Names) → (path ≡ [] → ⊥) → path ≡ parent path ++ last_name path ∷ []
path_split path some = by (snoc path)
  where
    by : (path ≡ []) ⊎ ((front : Names) × (name : Name) × (path ≡ front ++ name ∷ [])) → path ≡ parent path ++ last_name path ∷ []
    by (inl e) = absurd (some e)
    by (inr s) = s.2 ∙ (λ i. sym (ap parent s.2 ∙ parent_of s.0 s.1) i ++ sym (ap last_name s.2 ∙ last_of s.0 s.1) i ∷ [])

module _ (naming : Naming) (p : Names) where
  pub prefix_itself : is_prefix naming p p ≡ true
  prefix_itself = (λ i. le-leb (length p) (length p) (omega arith) i && ap (is_same_path naming p) (take_all (length p) p (omega arith)) i) ∙ same_true naming p p refl

  -- with one more name, a path is at or below another where it was, if it isn't the same as it
  pub prefix_more : (q : Names) (x : Name) → (is_same_path naming p (q ++ x ∷ []) ≡ true → ⊥) → is_prefix naming p (q ++ x ∷ []) ≡ is_prefix naming p q
  prefix_more q x apart = by (nat_le (length p) (length q)) refl
    where
      long : length (q ++ x ∷ []) ≡ length q + 1
      long = length-append q (x ∷ [])

      none : is_prefix naming p (q ++ x ∷ []) ≡ true → (length p ≤ length q → ⊥) → ⊥
      none is longer =
          let parts = and_parts (nat_le (length p) (length (q ++ x ∷ []))) (is_same_path naming p (take (length p) (q ++ x ∷ []))) is in
          let fits : length p ≤ length (q ++ x ∷ []) = leb-true (length p) (length (q ++ x ∷ [])) parts.0 in
          apart (ap (is_same_path naming p) (sym (take_all (length p) (q ++ x ∷ []) (omega (arith, long)))) ∙ parts.1)

      by : (b : Bool) → nat_le (length p) (length q) ≡ b → is_prefix naming p (q ++ x ∷ []) ≡ is_prefix naming p q
      by true e =
          let short : length p ≤ length q = leb-true (length p) (length q) e in
          (λ i. le-leb (length p) (length (q ++ x ∷ [])) (omega (arith, long)) i && ap (is_same_path naming p) (take-append-le (length p) q (x ∷ []) short) i)
          ∙ sym (ap (λ b. b && is_same_path naming p (take (length p) q)) e)
      by false e =
          let longer : length p ≤ length q → ⊥ = λ h. let both : true ≡ false = sym (le-leb (length p) (length q) h) ∙ e in absurd (cc) in
          false_from_ne_true (is_prefix naming p (q ++ x ∷ [])) (λ is. none is longer) ∙ sym (ap (λ b. b && is_same_path naming p (take (length p) q)) e)

  -- with one more name, a path is below another where it was at or below it
  pub below_more : (q : Names) (x : Name) → is_below naming p (q ++ x ∷ []) ≡ is_prefix naming p q
  below_more q x = by (nat_le (length p) (length q)) refl
    where
      long : length (q ++ x ∷ []) ≡ length q + 1
      long = length-append q (x ∷ [])

      by : (b : Bool) → nat_le (length p) (length q) ≡ b → is_below naming p (q ++ x ∷ []) ≡ is_prefix naming p q
      by true e =
          let short : length p ≤ length q = leb-true (length p) (length q) e in
          let differ : length p ≡ length (q ++ x ∷ []) → ⊥ = λ h. omega (arith, long) in
          (λ i. (le-leb (length p) (length (q ++ x ∷ [])) (omega (arith, long)) i && ap (is_same_path naming p) (take-append-le (length p) q (x ∷ []) short) i) && not (ne_eqb (length p) (length (q ++ x ∷ [])) differ i))
          ∙ and-true (is_same_path naming p (take (length p) q))
          ∙ sym (ap (λ b. b && is_same_path naming p (take (length p) q)) e)
      by false e = far (nat_le (length p) (length (q ++ x ∷ []))) refl ∙ sym (ap (λ b. b && is_same_path naming p (take (length p) q)) e)
        where
          longer : length q < length p
          longer = leb-false (length p) (length q) e

          far : (b : Bool) → nat_le (length p) (length (q ++ x ∷ [])) ≡ b → is_below naming p (q ++ x ∷ []) ≡ false
          far true h =
              let fits : length p ≤ length (q ++ x ∷ []) = leb-true (length p) (length (q ++ x ∷ [])) h in
              let same : length p ≡ length (q ++ x ∷ []) = omega (arith, long, longer) in
              ap (λ b. is_prefix naming p (q ++ x ∷ []) && not b) (eq-eqb (length p) (length (q ++ x ∷ [])) same) ∙ and-false (is_prefix naming p (q ++ x ∷ []))
          far false h = ap (λ b. (b && is_same_path naming p (take (length p) (q ++ x ∷ []))) && not (length p == length (q ++ x ∷ []))) h

  -- nothing is below which the root is
  prefix_root : is_prefix naming p [] ≡ true → p ≡ []
  prefix_root e = empty p (leb-true (length p) 0 (and_parts (nat_le (length p) 0) (is_same_path naming p (take (length p) [])) e).0)
    where
      empty : (l : Names) → length l ≤ 0 → l ≡ []
      empty [] h = refl
      empty (x ∷ l) h = absurd (omega arith)

  pub root_unwatched : (deep : Bool) → is_watched naming p deep [] ≡ false
  root_unwatched deep = by deep
    where
      apart : (l : Names) → is_below naming l [] ≡ false
      apart [] = refl
      apart (x ∷ l) = ap (λ b. (b && is_same_path naming (x ∷ l) (take (length (x ∷ l)) [])) && not (length (x ∷ l) == 0)) (lt-leb (length (x ∷ l)) 0 (omega arith))

      single : (l : Names) → is_parent naming l [] ≡ false
      single l = ap (λ b. is_prefix naming l [] && b) (ne_eqb 0 (length l + 1) (λ h. omega arith)) ∙ and-false (is_prefix naming l [])

      by : (d : Bool) → is_watched naming p d [] ≡ false
      by true = λ i. single p i || apart p i
      by false = ap (λ c. c || false) (single p)

  -- what is watched is below
  pub watched_below : (deep : Bool) (q : Names) (x : Name) → is_watched naming p deep (q ++ x ∷ []) ≡ true → is_below naming p (q ++ x ∷ []) ≡ true
  watched_below deep q x e = by (is_parent naming p (q ++ x ∷ [])) refl deep e
    where
      by : (a : Bool) → is_parent naming p (q ++ x ∷ []) ≡ a → (d : Bool) → (a || (d && is_below naming p (q ++ x ∷ []))) ≡ true → is_below naming p (q ++ x ∷ []) ≡ true
      by true a d h =
          let same : is_same_path naming p q ≡ true = same_true naming p q (parent_same naming p q x a) in
          let parts = and_parts (is_prefix naming p (q ++ x ∷ [])) (length (q ++ x ∷ []) == length p + 1) a in
          let long : length q ≡ length p = omega (arith, eqb-true (length (q ++ x ∷ [])) (length p + 1) parts.1, length-append q (x ∷ [])) in
          below_more q x ∙ (λ i. le-leb (length p) (length q) (omega arith) i && ap (is_same_path naming p) (ap (λ n. take n q) (sym long) ∙ take_all (length q) q (omega arith)) i) ∙ same
      by false a true h = h
      by false a false h = absurd (cc)

  -- what is told is below
  pub told_below : (deep : Bool) (filter : ℕ) (change : outcome.Change) → tells naming p deep filter change ≡ true → is_below naming p change.path ≡ true
  told_below deep filter change e = by (snoc change.path)
    where
      watched : is_watched naming p deep change.path ≡ true
      watched = (and_parts (has_any filter change.bits) (is_watched naming p deep change.path) e).1

      by : (change.path ≡ []) ⊎ ((front : Names) × (name : Name) × (change.path ≡ front ++ name ∷ [])) → is_below naming p change.path ≡ true
      by (inl none) = absurd (let both : true ≡ false = sym watched ∙ ap (is_watched naming p deep) none ∙ root_unwatched deep in (cc))
      by (inr s) = ap (is_below naming p) s.2 ∙ watched_below deep s.0 s.1 (ap (is_watched naming p deep) (sym s.2) ∙ watched)

-- ---- nodes

module _ (tree : Places) (whole : IsWhole tree) where
  root_path : own_path tree 0 ≡ []
  root_path = ap (λ (o : Option Place). unwrap_or (option_map (λ (p : Place). p.path) o) []) whole.root

  root_live : IsLive tree 0
  root_live = ap is_some whole.root

  -- only the root has no name
  pub has_names : (n : ℕ) → IsLive tree n → (0 ≡ n → ⊥) → own_path tree n ≡ [] → ⊥
  has_names n live other e =
      other (whole.apart 0 n root_live live (same_true tree.naming (own_path tree 0) (own_path tree n) (ap (map _) (root_path ∙ sym e))))

  -- the path of the folder above is shorter
  pub shorter : (n : ℕ) → IsLive tree n → (0 ≡ n → ⊥) → (k : ℕ) → own_path tree k ≡ parent (own_path tree n) → length (own_path tree k) < length (own_path tree n)
  shorter n live other k up =
      let split : own_path tree n ≡ parent (own_path tree n) ++ last_name (own_path tree n) ∷ [] = path_split (own_path tree n) (has_names n live other) in
      omega (arith, ap length split, ap length up, length-append (parent (own_path tree n)) (last_name (own_path tree n) ∷ []))

  module _ (f m : ℕ) (f_live : IsLive tree f) (m_live : IsLive tree m) where
    one_of_them : is_same_path tree.naming (own_path tree f) (own_path tree m) ≡ (m == f)
    one_of_them =
        alike (is_same_path tree.naming (own_path tree f) (own_path tree m)) (m == f)
        (λ e. eq-eqb m f (sym (whole.apart f m f_live m_live e)))
        (λ e. ap (λ (k : ℕ). is_same_path tree.naming (own_path tree k) (own_path tree m)) (sym (eqb-true m f e)) ∙ same_true tree.naming (own_path tree m) (own_path tree m) refl)

    -- a path is in a folder where its parent is that folder's number
    in_seen : (x : Name) → is_parent tree.naming (own_path tree f) (own_path tree m ++ x ∷ []) ≡ (m == f)
    in_seen x =
        alike (is_parent tree.naming (own_path tree f) (own_path tree m ++ x ∷ [])) (m == f)
        (λ e. sym one_of_them ∙ same_true tree.naming (own_path tree f) (own_path tree m) (parent_same tree.naming (own_path tree f) (own_path tree m) x e))
        (λ e. ap (λ (k : ℕ). is_parent tree.naming (own_path tree k) (own_path tree m ++ x ∷ [])) (sym (eqb-true m f e)) ∙ same_parent tree.naming (own_path tree m) x)

    -- whether a change is watched, by its parent's number
    pub watched_seen : (deep : Bool) (path : Names) (x : Name) → path ≡ own_path tree m ++ x ∷ []
        → is_watched tree.naming (own_path tree f) deep path ≡ ((m == f) || (deep && is_prefix tree.naming (own_path tree f) (own_path tree m)))
    watched_seen deep path x e =
        ap (is_watched tree.naming (own_path tree f) deep) e
        ∙ (λ i. in_seen x i || (deep && below_more tree.naming (own_path tree f) (own_path tree m) x i))

    -- a folder is above itself
    pub above_itself : m ≡ f → is_prefix tree.naming (own_path tree f) (own_path tree m) ≡ true
    above_itself e = ap (λ (k : ℕ). is_prefix tree.naming (own_path tree k) (own_path tree m)) (sym e) ∙ prefix_itself tree.naming (own_path tree m)

    -- nothing but the root is above the root
    pub above_root : (m ≡ f → ⊥) → m ≡ 0 → is_prefix tree.naming (own_path tree f) (own_path tree m) ≡ false
    above_root apart zero = by (is_prefix tree.naming (own_path tree f) (own_path tree m)) refl
      where
        by : (b : Bool) → is_prefix tree.naming (own_path tree f) (own_path tree m) ≡ b → b ≡ false
        by true e =
            let top : own_path tree m ≡ [] = ap (own_path tree) zero ∙ root_path in
            let none : own_path tree f ≡ [] = prefix_root tree.naming (own_path tree f) (ap (is_prefix tree.naming (own_path tree f)) (sym top) ∙ e) in
            absurd (has_names f f_live (λ z. apart (zero ∙ z)) none)
        by false e = refl

    -- a folder that isn't a node itself is above it where it is its parent or above that
    pub above_step : (m ≡ f → ⊥) → (k : ℕ) → own_path tree k ≡ parent (own_path tree m) → (0 ≡ m → ⊥) → is_prefix tree.naming (own_path tree f) (own_path tree m) ≡ is_prefix tree.naming (own_path tree f) (own_path tree k)
    above_step apart k up other =
        let split : own_path tree m ≡ parent (own_path tree m) ++ last_name (own_path tree m) ∷ [] = path_split (own_path tree m) (has_names m m_live other) in
        let differ : is_same_path tree.naming (own_path tree f) (parent (own_path tree m) ++ last_name (own_path tree m) ∷ []) ≡ true → ⊥ =
        λ e. apart (eqb-true m f (sym one_of_them ∙ ap (is_same_path tree.naming (own_path tree f)) split ∙ e)) in
        ap (is_prefix tree.naming (own_path tree f)) split ∙ prefix_more tree.naming (own_path tree f) (parent (own_path tree m)) (last_name (own_path tree m)) differ
        ∙ ap (is_prefix tree.naming (own_path tree f)) (sym up)

    -- what is above a node that isn't itself is above no root
    pub below_other : (m ≡ f → ⊥) → is_prefix tree.naming (own_path tree f) (own_path tree m) ≡ true → 0 ≡ m → ⊥
    below_other apart e zero = let both : true ≡ false = sym e ∙ above_root apart (sym zero) in absurd (cc)
