-- Ways by keys: a node has one way, and a way leads to the same node as long as none of its edges changes.
use Rattle.std.proofs.Common.{◌≡◌, ◌∙◌, refl, sym, ap, ℕ, zero, suc, ◌+◌, ◌-◌, ◌≤◌, ◌⊎◌, inl, inr, ⊎_elim, Bool, true, false, [], ◌∷◌, ◌++◌, length, Option, Some, None, arith, append_assoc, length-append}
use Rattle.std.specs.Option.{option_map_or}
use Rattle.std.specs.Str.{bytes_eq}
use Rattle.std.specs.Bool.{Decides}
use Rattle.std.proofs.lemmas.Slice.Eq.{bytes_eq-Decides}
use Rattle.std.proofs.lemmas.Bool.Decides.{not_from_Decides}
use Rattle.std.proofs.lemmas.List.{append-nil}
use Rattle.rd_tree.specs.Walk.{Key, Keys, Child, Up, onward, down, up_path, Starts, LinksAgree}

-- ---- keys
pub same_key : (x y : Key) → (x ≡ y) ⊎ (x ≡ y → ⊥)
same_key x y = by (bytes_eq x y) (bytes_eq-Decides x y)
  where
    by : (b : Bool) → Decides b (x ≡ y) → (x ≡ y) ⊎ (x ≡ y → ⊥)
    by true d = inl (d.0 refl)
    by false d = inr (not_from_Decides false d refl)

pub starts : (front path : Keys) → Starts front path ⊎ (Starts front path → ⊥)
starts [] path = inl (path, refl)
starts (x ∷ front) [] = inr (λ s. cc (s.1))
starts (x ∷ front) (y ∷ path) = ⊎_elim
    (λ e. ⊎_elim (λ s. inl (s.0, cc (e, s.1))) (λ n. inr (λ s. n (s.0, cc (s.1)))) (starts front path))
    (λ n. inr (λ s. n (cc (s.1)))) (same_key x y)

-- ---- where ways lead
pub down-append : (child : Child) (n : ℕ) (p q : Keys) → down child n (p ++ q) ≡ onward (down child n p) (λ m. down child m q)
down-append child n [] q = refl
down-append child n (x ∷ p) q = by (λ m. down-append child m p q) (child n x)
  where
    by : ((m : ℕ) → down child m (p ++ q) ≡ onward (down child m p) (λ k. down child k q)) → (o : Option ℕ) → onward o (λ m. down child m (p ++ q)) ≡ onward (onward o (λ m. down child m p)) (λ m. down child m q)
    by more None = refl
    by more (Some m) = more m

pub down_on : (child : Child) (n m : ℕ) (p q : Keys) → down child n p ≡ Some m → down child n (p ++ q) ≡ down child m q
down_on child n m p q is = down-append child n p q ∙ ap (λ o. onward o (λ m. down child m q)) is

pub down_lost : (child : Child) (n : ℕ) (p q : Keys) → down child n p ≡ None → down child n (p ++ q) ≡ None
down_lost child n p q is = down-append child n p q ∙ ap (λ o. onward o (λ m. down child m q)) is

-- ---- one way to a node
up_down : (child : Child) (up : Up) → LinksAgree child up → (p : Keys) (n m fuel : ℕ) (path : Keys) → down child n p ≡ Some m → length p ≤ fuel → up_path fuel up m path ≡ up_path (fuel - length p) up n (p ++ path)
up_down child up agrees [] n m fuel path is long = ap (λ k. up_path fuel up k path) (cc) ∙ ap (λ f. up_path f up n path) (omega arith)
up_down child up agrees (x ∷ p) n m fuel path is long = by (λ k there. up_down child up agrees p k m fuel path there (omega arith)) (child n x) refl
  where
    fuel_left : (l f : ℕ) → suc l ≤ f → f - l ≡ suc (f - suc l)
    fuel_left l f h = omega arith

    by : ((k : ℕ) → down child k p ≡ Some m → up_path fuel up m path ≡ up_path (fuel - length p) up k (p ++ path)) → (o : Option ℕ) → child n x ≡ o → up_path fuel up m path ≡ up_path (fuel - suc (length p)) up n (x ∷ (p ++ path))
    by more None lost = let none : None ≡ Some m = sym (ap (λ o. onward o (λ k. down child k p)) lost) ∙ is in absurd (cc)
    by more (Some k) found =
        more k (sym (ap (λ o. onward o (λ k. down child k p)) found) ∙ is)
        ∙ ap (λ f. up_path f up k (p ++ path)) (fuel_left (length p) fuel long)
        ∙ ap (λ o. option_map_or (λ p'. up_path (fuel - suc (length p)) up p'.0 (p'.1 ∷ (p ++ path))) o (p ++ path)) (agrees.links n x k found)

up_root : (up : Up) → up 0 ≡ None → (fuel : ℕ) (path : Keys) → up_path fuel up 0 path ≡ path
up_root up root zero path = refl
up_root up root (suc fuel) path = ap (λ o. option_map_or (λ p. up_path fuel up p.0 (p.1 ∷ path)) o path) root

pub path_found : (child : Child) (up : Up) → LinksAgree child up → (p : Keys) (m fuel : ℕ) → down child 0 p ≡ Some m → length p ≤ fuel → up_path fuel up m [] ≡ p
path_found child up agrees p m fuel is long = up_down child up agrees p 0 m fuel [] is long ∙ up_root up agrees.root (fuel - length p) (p ++ []) ∙ append-nil p

pub one_path : (child : Child) (up : Up) → LinksAgree child up → (p q : Keys) (m : ℕ) → down child 0 p ≡ Some m → down child 0 q ≡ Some m → p ≡ q
one_path child up agrees p q m is also =
    sym (path_found child up agrees p m (length p + length q) is (omega arith)) ∙ path_found child up agrees q m (length p + length q) also (omega arith)

-- ---- ways that avoid edges
-- no edge on a way from a node is among these
abbrev pub Avoids : Child → (ℕ → Key → Type 0) → ℕ → Keys → Type 0
Avoids child E n p = (r : Keys) (x : Key) (s : Keys) (m : ℕ) → p ≡ r ++ x ∷ s → down child n r ≡ Some m → E m x → ⊥

pub same_walk : (old new : Child) (E : ℕ → Key → Type 0) → ((n : ℕ) (x : Key) → (E n x → ⊥) → new n x ≡ old n x) → (p : Keys) (n : ℕ) → Avoids old E n p → down new n p ≡ down old n p
same_walk old new E same [] n avoids = refl
same_walk old new E same (x ∷ p) n avoids =
    ap (λ o. onward o (λ m. down new m p)) (same n x (avoids [] x p n refl refl)) ∙ by (same_walk old new E same p) (old n x) refl
  where
    by : ((m : ℕ) → Avoids old E m p → down new m p ≡ down old m p) → (o : Option ℕ) → old n x ≡ o → onward o (λ m. down new m p) ≡ onward o (λ m. down old m p)
    by more None lost = refl
    by more (Some m) found = more m (λ r y s k is walk e. avoids (x ∷ r) y s k (cc) (ap (λ o. onward o (λ m. down old m r)) found ∙ walk) e)

abbrev pub Edge : ℕ → Key → ℕ → Key → Type 0
Edge n x m y = (m ≡ n) × (y ≡ x)

module _ (old : Child) (up : Up) (agrees : LinksAgree old up) where
  -- only a way that begins with the way to an edge has that edge
  met : (front p r s : Keys) (x y : Key) (n m : ℕ) → down old 0 front ≡ Some n → p ≡ r ++ y ∷ s → down old 0 r ≡ Some m → m ≡ n → y ≡ x → Starts (front ++ x ∷ []) p
  met front p r s x y n m at is walk e f =
      let same : r ≡ front = one_path old up agrees r front n (walk ∙ ap Some e) at in
      (s, is ∙ ap (λ a. a ++ y ∷ s) same ∙ ap (λ z. front ++ z ∷ s) f ∙ sym (append_assoc front (x ∷ []) s))

  pub avoids_edge : (front p : Keys) (x : Key) (n : ℕ) → down old 0 front ≡ Some n → (Starts (front ++ x ∷ []) p → ⊥) → Avoids old (Edge n x) 0 p
  avoids_edge front p x n at apart r y s m is walk e = apart (met front p r s x y n m at is walk e.0 e.1)

  not_longer : (front r : Keys) (x : Key) → front ≡ (front ++ x ∷ []) ++ r → ⊥
  not_longer front r x e = absurd (omega (arith, ap (λ (p : Keys). length p) e, length-append (front ++ x ∷ []) r, length-append front (x ∷ [])))

  -- ---- an edge comes, to a node without children
  pub added : (new : Child) (front p : Keys) (x : Key) (n m : ℕ) → down old 0 front ≡ Some n → old n x ≡ None → ((k : ℕ) (y : Key) → (Edge n x k y → ⊥) → new k y ≡ old k y) → new n x ≡ Some m → ((y : Key) → new m y ≡ None)
      → (p ≡ front ++ x ∷ [] → down new 0 p ≡ Some m) × ((p ≡ front ++ x ∷ [] → ⊥) → down new 0 p ≡ down old 0 p)
  added new front p x n m at none same is bare =
      let way : down new 0 front ≡ Some n = same_walk old new (Edge n x) same front 0 (avoids_edge front front x n at (λ s. not_longer front s.0 x s.1)) ∙ at in
      let here : down new 0 (front ++ x ∷ []) ≡ Some m = down_on new 0 n front (x ∷ []) way ∙ ap (λ o. onward o (λ k. Some k)) is in
      let gone : down old 0 (front ++ x ∷ []) ≡ None = down_on old 0 n front (x ∷ []) at ∙ ap (λ o. onward o (λ k. Some k)) none in (
        (λ e. ap (down new 0) e ∙ here),
        (λ apart. ⊎_elim
            (λ s. deeper s.0 s.1 apart here gone)
            (λ no. same_walk old new (Edge n x) same p 0 (avoids_edge front p x n at no)) (starts (front ++ x ∷ []) p)),
      )
    where
      deeper : (rest : Keys) → p ≡ (front ++ x ∷ []) ++ rest → (p ≡ front ++ x ∷ [] → ⊥) → down new 0 (front ++ x ∷ []) ≡ Some m → down old 0 (front ++ x ∷ []) ≡ None → down new 0 p ≡ down old 0 p
      deeper [] e apart here gone = absurd (apart (e ∙ append-nil (front ++ x ∷ [])))
      deeper (y ∷ rest) e apart here gone = ap (down new 0) e ∙ down_on new 0 m (front ++ x ∷ []) (y ∷ rest) here ∙ ap (λ o. onward o (λ k. down new k rest)) (bare y) ∙ sym (ap (down old 0) e ∙ down_lost old 0 (front ++ x ∷ []) (y ∷ rest) gone)

  -- ---- the edge to a node without children goes
  pub removed : (new : Child) (front p : Keys) (x : Key) (n m : ℕ) → down old 0 front ≡ Some n → old n x ≡ Some m → ((y : Key) → old m y ≡ None) → ((k : ℕ) (y : Key) → (Edge n x k y → ⊥) → new k y ≡ old k y) → new n x ≡ None
      → (p ≡ front ++ x ∷ [] → down new 0 p ≡ None) × ((p ≡ front ++ x ∷ [] → ⊥) → down new 0 p ≡ down old 0 p)
  removed new front p x n m at is bare same gone =
      let way : down new 0 front ≡ Some n = same_walk old new (Edge n x) same front 0 (avoids_edge front front x n at (λ s. not_longer front s.0 x s.1)) ∙ at in
      let here : down new 0 (front ++ x ∷ []) ≡ None = down_on new 0 n front (x ∷ []) way ∙ ap (λ o. onward o (λ k. Some k)) gone in
      let there : down old 0 (front ++ x ∷ []) ≡ Some m = down_on old 0 n front (x ∷ []) at ∙ ap (λ o. onward o (λ k. Some k)) is in (
        (λ e. ap (down new 0) e ∙ here),
        (λ apart. ⊎_elim
            (λ s. deeper s.0 s.1 apart here there)
            (λ no. same_walk old new (Edge n x) same p 0 (avoids_edge front p x n at no)) (starts (front ++ x ∷ []) p)),
      )
    where
      deeper : (rest : Keys) → p ≡ (front ++ x ∷ []) ++ rest → (p ≡ front ++ x ∷ [] → ⊥) → down new 0 (front ++ x ∷ []) ≡ None → down old 0 (front ++ x ∷ []) ≡ Some m → down new 0 p ≡ down old 0 p
      deeper [] e apart here there = absurd (apart (e ∙ append-nil (front ++ x ∷ [])))
      deeper (y ∷ rest) e apart here there = ap (down new 0) e ∙ down_lost new 0 (front ++ x ∷ []) (y ∷ rest) here ∙ sym (ap (down old 0) e ∙ down_on old 0 m (front ++ x ∷ []) (y ∷ rest) there ∙ ap (λ o. onward o (λ k. down old k rest)) (bare y))

  -- ---- an edge goes and comes elsewhere
  module _ (new : Child) (front into : Keys) (x y : Key) (n b m : ℕ) (at : down old 0 front ≡ Some n) (is : old n x ≡ Some m) (to_at : down old 0 into ≡ Some b) (outside : Starts (front ++ x ∷ []) into → ⊥)
      (here : new b y ≡ Some m) (gone : new n x ≡ None) (same : (k : ℕ) (z : Key) → (Edge n x k z → ⊥) → (Edge b y k z → ⊥) → new k z ≡ old k z) where
    abbrev Either : ℕ → Key → Type 0
    Either k z = Edge n x k z ⊎ Edge b y k z

    walk_same : (p : Keys) (k : ℕ) → Avoids old Either k p → down new k p ≡ down old k p
    walk_same p k avoids = same_walk old new Either (λ j z not. same j z (λ e. not (inl e)) (λ e. not (inr e))) p k avoids

    avoids_both : (p : Keys) → (Starts (front ++ x ∷ []) p → ⊥) → (Starts (into ++ y ∷ []) p → ⊥) → Avoids old Either 0 p
    avoids_both p apart away r z s k is walk e = ⊎_elim (λ f. apart (met front p r s x z n k at is walk f.0 f.1)) (λ f. away (met into p r s y z b k to_at is walk f.0 f.1)) e

    way_into : down new 0 into ≡ Some b
    way_into = walk_same into 0 (avoids_both into outside (λ s. not_longer into s.0 y s.1)) ∙ to_at

    there : down old 0 (front ++ x ∷ []) ≡ Some m
    there = down_on old 0 n front (x ∷ []) at ∙ ap (λ o. onward o (λ k. Some k)) is

    below : (q : Keys) → down new m q ≡ down old m q
    below q = walk_same q m (λ r z s k is walk e.
        let full : down old 0 ((front ++ x ∷ []) ++ r) ≡ Some k = down_on old 0 m (front ++ x ∷ []) r there ∙ walk in
        ⊎_elim (λ f. not_longer front r x (sym (one_path old up agrees ((front ++ x ∷ []) ++ r) front n (full ∙ ap Some f.0) at)))
        (λ f. outside (r, sym (one_path old up agrees ((front ++ x ∷ []) ++ r) into b (full ∙ ap Some f.0) to_at))) e)

    -- a way on from the old end is one on from the new end
    pub moved_to : (q : Keys) → down new 0 ((into ++ y ∷ []) ++ q) ≡ down old 0 ((front ++ x ∷ []) ++ q)
    moved_to q =
        let now : down new 0 (into ++ y ∷ []) ≡ Some m = down_on new 0 b into (y ∷ []) way_into ∙ ap (λ o. onward o (λ k. Some k)) here in
        down_on new 0 m (into ++ y ∷ []) q now ∙ below q ∙ sym (down_on old 0 m (front ++ x ∷ []) q there)

    -- no way is left over the old end
    pub moved_from : (q : Keys) → (Starts (into ++ y ∷ []) ((front ++ x ∷ []) ++ q) → ⊥) → down new 0 ((front ++ x ∷ []) ++ q) ≡ None
    moved_from q away =
        let up_to : Starts (into ++ y ∷ []) front → ⊥ = λ s. away (s.0 ++ (x ∷ [] ++ q), ap (λ p. (p ++ x ∷ []) ++ q) s.1 ∙ regroup (into ++ y ∷ []) s.0 (x ∷ []) q) in
        let way : down new 0 front ≡ Some n = walk_same front 0 (avoids_both front (λ s. not_longer front s.0 x s.1) up_to) ∙ at in
        down_lost new 0 (front ++ x ∷ []) q (down_on new 0 n front (x ∷ []) way ∙ ap (λ o. onward o (λ k. Some k)) gone)
      where
        regroup : (a b c d : Keys) → ((a ++ b) ++ c) ++ d ≡ a ++ (b ++ (c ++ d))
        regroup a b c d = simp append_assoc

    -- any other way leads where it led
    pub moved_others : (p : Keys) → (Starts (front ++ x ∷ []) p → ⊥) → (Starts (into ++ y ∷ []) p → ⊥) → down new 0 p ≡ down old 0 p
    moved_others p apart away = walk_same p 0 (avoids_both p apart away)
