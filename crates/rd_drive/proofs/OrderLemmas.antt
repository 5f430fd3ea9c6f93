-- Nodes in the order of their paths, in whatever order they came.
use Rattle.std.proofs.Common.{◌≡◌, ◌∙◌, refl, sym, ap, ◌+◌, Bool, true, false, not, ◌&&◌, ◌||◌, cond, List, [], ◌∷◌, ◌++◌, map, length, Some, None, find, filter, arith}
use Rattle.std.specs.List.{list_any, list_all}
use Rattle.std.specs.Ordering.{is_lt, is_eq, ordering_reverse}
use Rattle.std.specs.declared.cmp.Ordering.{Ordering}
use Rattle.std.specs.declared.cmp.Ordering.TheVariants.{Less, Equal, Greater}
use Rattle.std.specs.Cmp.{IsTotalOrder}
use Rattle.std.proofs.lemmas.Bool.{or_parts, and_parts, and_from, not-true}
use Rattle.rd_dirinfo.specs.declared.naming.Naming.{Naming}
use Rattle.rd_dirinfo.specs.Paths.{Names, path_cmp, is_same_path}
use Rattle.rd_dirinfo.proofs.NamingLemmas.{path_order}
use Rattle.rd_drive.specs.DriveState.{Node, add_node, in_order}

or_swap : (a b c : Bool) → (a || (b || c)) ≡ (b || (a || c))
or_swap true true c = refl
or_swap true false c = refl
or_swap false b c = refl

and_swap : (a b c : Bool) → (a && (b && c)) ≡ (b && (a && c))
and_swap true b c = refl
and_swap false true c = refl
and_swap false false c = refl

module _ (naming : Naming) where
  -- the order of two nodes
  abbrev before : Node → Node → Bool
  before a b = is_lt (path_cmp naming a.path b.path)

  abbrev alike : Node → Node → Bool
  alike a b = is_same_path naming a.path b.path

  o : IsTotalOrder (path_cmp naming)
  o = path_order naming

  -- ---- what the order keeps
  any_add : (p : Node → Bool) (x : Node) (l : List Node) → list_any p (add_node naming x l) ≡ (p x || list_any p l)
  any_add p x [] = refl
  any_add p x (y ∷ ys) = by (any_add p x ys) (before y x)
    where
      by : list_any p (add_node naming x ys) ≡ (p x || list_any p ys) → (b : Bool) → list_any p (cond b (y ∷ add_node naming x ys) (x ∷ y ∷ ys)) ≡ (p x || (p y || list_any p ys))
      by later true = ap (λ c. p y || c) later ∙ or_swap (p y) (p x) (list_any p ys)
      by later false = refl

  pub order_any : (p : Node → Bool) (l : List Node) → list_any p (in_order naming l) ≡ list_any p l
  order_any p [] = refl
  order_any p (x ∷ xs) = any_add p x (in_order naming xs) ∙ ap (λ c. p x || c) (order_any p xs)

  all_add : (p : Node → Bool) (x : Node) (l : List Node) → list_all p (add_node naming x l) ≡ (p x && list_all p l)
  all_add p x [] = refl
  all_add p x (y ∷ ys) = by (all_add p x ys) (before y x)
    where
      by : list_all p (add_node naming x ys) ≡ (p x && list_all p ys) → (b : Bool) → list_all p (cond b (y ∷ add_node naming x ys) (x ∷ y ∷ ys)) ≡ (p x && (p y && list_all p ys))
      by later true = ap (λ c. p y && c) later ∙ and_swap (p y) (p x) (list_all p ys)
      by later false = refl

  length_add : (x : Node) (l : List Node) → length (add_node naming x l) ≡ length l + 1
  length_add x [] = refl
  length_add x (y ∷ ys) = by (length_add x ys) (before y x)
    where
      by : length (add_node naming x ys) ≡ length ys + 1 → (b : Bool) → length (cond b (y ∷ add_node naming x ys) (x ∷ y ∷ ys)) ≡ length (y ∷ ys) + 1
      by later true = omega (arith, later)
      by later false = omega arith

  pub order_length : (l : List Node) → length (in_order naming l) ≡ length l
  order_length [] = refl
  order_length (x ∷ xs) = omega (arith, length_add x (in_order naming xs), order_length xs)

  -- ---- changing nodes, not their paths
  map_add : (g : Node → Node) → ((x : Node) → (g x).path ≡ x.path) → (x : Node) (l : List Node) → add_node naming (g x) (map g l) ≡ map g (add_node naming x l)
  map_add g same x [] = refl
  map_add g same x (y ∷ ys) =
      ap (λ b. cond b (g y ∷ add_node naming (g x) (map g ys)) (g x ∷ g y ∷ map g ys)) (λ i. is_lt (path_cmp naming (same y i) (same x i))) ∙ by (map_add g same x ys) (before y x)
    where
      by : add_node naming (g x) (map g ys) ≡ map g (add_node naming x ys) → (b : Bool) → cond b (g y ∷ add_node naming (g x) (map g ys)) (g x ∷ g y ∷ map g ys) ≡ map g (cond b (y ∷ add_node naming x ys) (x ∷ y ∷ ys))
      by later true = ap (◌∷◌ (g y)) later
      by later false = refl

  pub order_map : (g : Node → Node) → ((x : Node) → (g x).path ≡ x.path) → (l : List Node) → in_order naming (map g l) ≡ map g (in_order naming l)
  order_map g same [] = refl
  order_map g same (x ∷ xs) = ap (add_node naming (g x)) (order_map g same xs) ∙ map_add g same x (in_order naming xs)

  -- ---- finding one that is alone
  find_past : (p : Node → Bool) (x : Node) (l : List Node) → p x ≡ false → find p (add_node naming x l) ≡ find p l
  find_past p x [] fails = ap (λ b. cond b (Some x) None) fails
  find_past p x (y ∷ ys) fails = by (find_past p x ys fails) (before y x)
    where
      by : find p (add_node naming x ys) ≡ find p ys → (b : Bool) → find p (cond b (y ∷ add_node naming x ys) (x ∷ y ∷ ys)) ≡ find p (y ∷ ys)
      by later true = ap (λ r. cond (p y) (Some y) r) later
      by later false = ap (λ b. cond b (Some x) (find p (y ∷ ys))) fails

  find_here : (p : Node → Bool) (x : Node) (l : List Node) → p x ≡ true → list_any p l ≡ false → find p (add_node naming x l) ≡ Some x
  find_here p x [] holds none = ap (λ b. cond b (Some x) None) holds
  find_here p x (y ∷ ys) holds none = by (or_parts (p y) (list_any p ys) none) (λ h. find_here p x ys holds h) (before y x)
    where
      by : (p y ≡ false) × (list_any p ys ≡ false) → (list_any p ys ≡ false → find p (add_node naming x ys) ≡ Some x) → (b : Bool) → find p (cond b (y ∷ add_node naming x ys) (x ∷ y ∷ ys)) ≡ Some x
      by nones later true = ap (λ c. cond c (Some y) (find p (add_node naming x ys))) nones.0 ∙ later nones.1
      by nones later false = ap (λ c. cond c (Some x) (find p (y ∷ ys))) holds

  -- at most one passes
  abbrev pub IsAlone : (Node → Bool) → List Node → Type 0
  IsAlone p [] = Unit {0}
  IsAlone p (x ∷ xs) = (p x ≡ true → list_any p xs ≡ false) × IsAlone p xs

  pub order_find : (p : Node → Bool) (l : List Node) → IsAlone p l → find p (in_order naming l) ≡ find p l
  order_find p [] alone = refl
  order_find p (x ∷ xs) alone = by (order_find p xs alone.1) (p x) refl
    where
      by : find p (in_order naming xs) ≡ find p xs → (b : Bool) → p x ≡ b → find p (add_node naming x (in_order naming xs)) ≡ cond (p x) (Some x) (find p xs)
      by later true holds = find_here p x (in_order naming xs) holds (order_any p xs ∙ alone.0 holds) ∙ sym (ap (λ b. cond b (Some x) (find p xs)) holds)
      by later false fails = find_past p x (in_order naming xs) fails ∙ later ∙ sym (ap (λ b. cond b (Some x) (find p xs)) fails)

  -- ---- paths one after another
  less : (r : Ordering) → is_lt r ≡ true → r ≡ Less
  less Less e = refl
  less Equal e = absurd (cc)
  less Greater e = absurd (cc)

  -- what isn't before a path that is before another is before that too
  before_on : (p q r : Names) → is_lt (path_cmp naming p q) ≡ false → is_lt (path_cmp naming p r) ≡ true → is_lt (path_cmp naming q r) ≡ true
  before_on p q r fails holds = by (path_cmp naming p q) refl
    where
      by : (s : Ordering) → path_cmp naming p q ≡ s → is_lt (path_cmp naming q r) ≡ true
      by Less e = absurd (let both : true ≡ false = sym (ap is_lt e) ∙ fails in cc)
      by Equal e = ap is_lt (sym (o.congr p q r e)) ∙ holds
      by Greater e = ap is_lt (o.trans q p r (o.antisymm q p ∙ ap ordering_reverse e) (less (path_cmp naming p r) holds))

  -- of two paths that differ exactly one is before the other
  one_before : (p q : Names) → is_same_path naming p q ≡ false → is_lt (path_cmp naming q p) ≡ not (is_lt (path_cmp naming p q))
  one_before p q apart = ap is_lt (o.antisymm q p) ∙ by (path_cmp naming p q) apart
    where
      by : (s : Ordering) → is_eq s ≡ false → is_lt (ordering_reverse s) ≡ not (is_lt s)
      by Less e = refl
      by Equal e = absurd (cc)
      by Greater e = refl

  -- ---- two that differ come in either order
  commute : (a b : Node) → alike a b ≡ false → (l : List Node) → add_node naming a (add_node naming b l) ≡ add_node naming b (add_node naming a l)
  commute a b apart [] = by (before a b) (one_before a.path b.path apart)
    where
      by : (t : Bool) → before b a ≡ not t → cond (before b a) (b ∷ a ∷ []) (a ∷ b ∷ []) ≡ cond t (a ∷ b ∷ []) (b ∷ a ∷ [])
      by true e = ap (λ c. cond c (b ∷ a ∷ []) (a ∷ b ∷ [])) e
      by false e = ap (λ c. cond c (b ∷ a ∷ []) (a ∷ b ∷ [])) e
  commute a b apart (y ∷ ys) = by (commute a b apart ys) (before y a) refl (before y b) refl
    where
      put : Node → Bool → List Node
      put x t = cond t (y ∷ add_node naming x ys) (x ∷ y ∷ ys)

      first : (x z : Node) → before y x ≡ true → add_node naming z (y ∷ add_node naming x ys) ≡ add_node naming z (add_node naming x (y ∷ ys))
      first x z e = sym (ap (λ c. add_node naming z (cond c (y ∷ add_node naming x ys) (x ∷ y ∷ ys))) e)

      by : add_node naming a (add_node naming b ys) ≡ add_node naming b (add_node naming a ys) → (s : Bool) → before y a ≡ s → (t : Bool) → before y b ≡ t
          → add_node naming a (cond (before y b) (y ∷ add_node naming b ys) (b ∷ y ∷ ys)) ≡ add_node naming b (cond (before y a) (y ∷ add_node naming a ys) (a ∷ y ∷ ys))
      by later true ya true yb =
          ap (λ c. add_node naming a (cond c (y ∷ add_node naming b ys) (b ∷ y ∷ ys))) yb
          ∙ ap (λ c. cond c (y ∷ add_node naming a (add_node naming b ys)) (a ∷ y ∷ add_node naming b ys)) ya
          ∙ ap (◌∷◌ y) later
          ∙ sym (ap (λ c. cond c (y ∷ add_node naming b (add_node naming a ys)) (b ∷ y ∷ add_node naming a ys)) yb)
          ∙ sym (ap (λ c. add_node naming b (cond c (y ∷ add_node naming a ys) (a ∷ y ∷ ys))) ya)
      by later true ya false yb =
          let ba : before b a ≡ true = before_on y.path b.path a.path yb ya in
          ap (λ c. add_node naming a (cond c (y ∷ add_node naming b ys) (b ∷ y ∷ ys))) yb
          ∙ ap (λ c. cond c (b ∷ add_node naming a (y ∷ ys)) (a ∷ b ∷ y ∷ ys)) ba
          ∙ ap (λ c. b ∷ cond c (y ∷ add_node naming a ys) (a ∷ y ∷ ys)) ya
          ∙ sym (ap (λ c. cond c (y ∷ add_node naming b (add_node naming a ys)) (b ∷ y ∷ add_node naming a ys)) yb)
          ∙ sym (ap (λ c. add_node naming b (cond c (y ∷ add_node naming a ys) (a ∷ y ∷ ys))) ya)
      by later false ya true yb =
          let ab : before a b ≡ true = before_on y.path a.path b.path ya yb in
          ap (λ c. add_node naming a (cond c (y ∷ add_node naming b ys) (b ∷ y ∷ ys))) yb
          ∙ ap (λ c. cond c (y ∷ add_node naming a (add_node naming b ys)) (a ∷ y ∷ add_node naming b ys)) ya
          ∙ sym (ap (λ c. a ∷ cond c (y ∷ add_node naming b ys) (b ∷ y ∷ ys)) yb)
          ∙ sym (ap (λ c. cond c (a ∷ add_node naming b (y ∷ ys)) (b ∷ a ∷ y ∷ ys)) ab)
          ∙ sym (ap (λ c. add_node naming b (cond c (y ∷ add_node naming a ys) (a ∷ y ∷ ys))) ya)
      by later false ya false yb =
          ap (λ c. add_node naming a (cond c (y ∷ add_node naming b ys) (b ∷ y ∷ ys))) yb
          ∙ ends (before a b) refl (one_before a.path b.path apart)
          ∙ sym (ap (λ c. add_node naming b (cond c (y ∷ add_node naming a ys) (a ∷ y ∷ ys))) ya)
        where
          ends : (t : Bool) → before a b ≡ t → before b a ≡ not (before a b) → add_node naming a (b ∷ y ∷ ys) ≡ add_node naming b (a ∷ y ∷ ys)
          ends true ab ba =
              ap (λ c. cond c (b ∷ add_node naming a (y ∷ ys)) (a ∷ b ∷ y ∷ ys)) (ba ∙ ap not ab)
              ∙ sym (ap (λ c. a ∷ cond c (y ∷ add_node naming b ys) (b ∷ y ∷ ys)) yb)
              ∙ sym (ap (λ c. cond c (a ∷ add_node naming b (y ∷ ys)) (b ∷ a ∷ y ∷ ys)) ab)
          ends false ab ba =
              ap (λ c. cond c (b ∷ add_node naming a (y ∷ ys)) (a ∷ b ∷ y ∷ ys)) (ba ∙ ap not ab)
              ∙ ap (λ c. b ∷ cond c (y ∷ add_node naming a ys) (a ∷ y ∷ ys)) ya
              ∙ sym (ap (λ c. cond c (a ∷ add_node naming b (y ∷ ys)) (b ∷ a ∷ y ∷ ys)) ab)

  -- a node among others goes where it would go first
  pub order_insert : (x : Node) (xs ys : List Node) → list_any (alike x) xs ≡ false → in_order naming (xs ++ x ∷ ys) ≡ add_node naming x (in_order naming (xs ++ ys))
  order_insert x [] ys apart = refl
  order_insert x (z ∷ zs) ys apart =
      let aparts = or_parts (alike x z) (list_any (alike x) zs) apart in
      ap (add_node naming z) (order_insert x zs ys aparts.1) ∙ sym (commute x z aparts.0 (in_order naming (zs ++ ys)))

  -- ---- moving nodes whose new paths differ
  move_add : (f : Node → Node) (x : Node) (l : List Node) → list_any (λ y. alike (f x) (f y)) l ≡ false → in_order naming (map f (add_node naming x l)) ≡ add_node naming (f x) (in_order naming (map f l))
  move_add f x [] apart = refl
  move_add f x (y ∷ ys) apart = by (or_parts (alike (f x) (f y)) (list_any (λ y. alike (f x) (f y)) ys) apart) (λ h. move_add f x ys h) (before y x)
    where
      by : (alike (f x) (f y) ≡ false) × (list_any (λ y. alike (f x) (f y)) ys ≡ false) → (list_any (λ y. alike (f x) (f y)) ys ≡ false → in_order naming (map f (add_node naming x ys)) ≡ add_node naming (f x) (in_order naming (map f ys)))
          → (b : Bool) → in_order naming (map f (cond b (y ∷ add_node naming x ys) (x ∷ y ∷ ys))) ≡ add_node naming (f x) (add_node naming (f y) (in_order naming (map f ys)))
      by aparts later true = ap (add_node naming (f y)) (later aparts.1) ∙ sym (commute (f x) (f y) aparts.0 (in_order naming (map f ys)))
      by aparts later false = refl

  -- no two are at one path, once they are moved
  abbrev pub AreApart : (Node → Node) → List Node → Type 0
  AreApart f [] = Unit {0}
  AreApart f (x ∷ xs) = (list_any (λ y. alike (f x) (f y)) xs ≡ false) × AreApart f xs

  pub order_move : (f : Node → Node) (l : List Node) → AreApart f l → in_order naming (map f (in_order naming l)) ≡ in_order naming (map f l)
  order_move f [] apart = refl
  order_move f (x ∷ xs) apart =
      move_add f x (in_order naming xs) (order_any (λ y. alike (f x) (f y)) xs ∙ apart.0) ∙ ap (add_node naming (f x)) (order_move f xs apart.1)

  -- ---- taking nodes out
  abbrev IsInOrder : List Node → Type 0
  IsInOrder [] = Unit {0}
  IsInOrder (x ∷ xs) = (list_all (λ y. not (before y x)) xs ≡ true) × IsInOrder xs

  -- what isn't before a node isn't before one that is no later
  none_lower : (x y : Node) → before y x ≡ false → (l : List Node) → list_all (λ z. not (before z y)) l ≡ true → list_all (λ z. not (before z x)) l ≡ true
  none_lower x y fails [] all = refl
  none_lower x y fails (z ∷ zs) all =
      let parts = and_parts (not (before z y)) (list_all (λ z. not (before z y)) zs) all in
      and_from (not (before z x)) (list_all (λ z. not (before z x)) zs) (ap not (by (before z x) refl (not-true (before z y) parts.0))) (none_lower x y fails zs parts.1)
    where
      -- z before x, and y not before x, gives z before y
      turn : before z x ≡ true → before z y ≡ true
      turn zx = by_order (path_cmp naming y.path x.path) refl
        where
          by_order : (s : Ordering) → path_cmp naming y.path x.path ≡ s → before z y ≡ true
          by_order Less e = absurd (let clash : true ≡ false = sym (ap is_lt e) ∙ fails in cc)
          by_order Equal e =
              let later : path_cmp naming x.path z.path ≡ Greater = o.antisymm x.path z.path ∙ ap ordering_reverse (less (path_cmp naming z.path x.path) zx) in
              ap is_lt (o.antisymm z.path y.path ∙ ap ordering_reverse (o.congr y.path x.path z.path e ∙ later))
          by_order Greater e = ap is_lt (o.trans z.path x.path y.path (less (path_cmp naming z.path x.path) zx) (o.antisymm x.path y.path ∙ ap ordering_reverse e))

      by : (t : Bool) → before z x ≡ t → before z y ≡ false → before z x ≡ false
      by true zx zy = absurd (let clash : true ≡ false = sym (turn zx) ∙ zy in cc)
      by false zx zy = zx

  add_ordered : (x : Node) (l : List Node) → IsInOrder l → IsInOrder (add_node naming x l)
  add_ordered x [] order = (refl, tt)
  add_ordered x (y ∷ ys) order = by (add_ordered x ys order.1) (before y x) refl
    where
      by : IsInOrder (add_node naming x ys) → (b : Bool) → before y x ≡ b → IsInOrder (cond b (y ∷ add_node naming x ys) (x ∷ y ∷ ys))
      by later true yx = (all_add (λ z. not (before z y)) x ys ∙ and_from (not (before x y)) (list_all (λ z. not (before z y)) ys) (ap not (ap is_lt (o.antisymm x.path y.path ∙ ap ordering_reverse (less (path_cmp naming y.path x.path) yx)))) order.0, later)
      by later false yx = (and_from (not (before y x)) (list_all (λ z. not (before z x)) ys) (ap not yx) (none_lower x y yx ys order.0), order)

  pub ordered : (l : List Node) → IsInOrder (in_order naming l)
  ordered [] = tt
  ordered (x ∷ xs) = add_ordered x (in_order naming xs) (ordered xs)

  all_filter : (p q : Node → Bool) (l : List Node) → list_all q l ≡ true → list_all q (filter p l) ≡ true
  all_filter p q [] all = refl
  all_filter p q (y ∷ ys) all = by (and_parts (q y) (list_all q ys) all) (λ h. all_filter p q ys h) (p y)
    where
      by : (q y ≡ true) × (list_all q ys ≡ true) → (list_all q ys ≡ true → list_all q (filter p ys) ≡ true) → (b : Bool) → list_all q (cond b (y ∷ filter p ys) (filter p ys)) ≡ true
      by parts later true = and_from (q y) (list_all q (filter p ys)) parts.0 (later parts.1)
      by parts later false = later parts.1

  -- before what none is before, a node stands first
  add_first : (x : Node) (l : List Node) → list_all (λ z. not (before z x)) l ≡ true → add_node naming x l ≡ x ∷ l
  add_first x [] all = refl
  add_first x (y ∷ ys) all =
      ap (λ b. cond b (y ∷ add_node naming x ys) (x ∷ y ∷ ys)) (not-true (before y x) (and_parts (not (before y x)) (list_all (λ z. not (before z x)) ys) all).0)

  filter_add : (p : Node → Bool) (x : Node) (l : List Node) → IsInOrder l → filter p (add_node naming x l) ≡ cond (p x) (add_node naming x (filter p l)) (filter p l)
  filter_add p x [] order = by (p x)
    where
      by : (b : Bool) → cond b (x ∷ []) [] ≡ cond b (x ∷ []) []
      by true = refl
      by false = refl
  filter_add p x (y ∷ ys) order = by (filter_add p x ys order.1) (before y x) refl (p x) refl (p y) refl
    where
      goal_for : Bool → Type 0
      goal_for b = filter p (cond b (y ∷ add_node naming x ys) (x ∷ y ∷ ys)) ≡ cond (p x) (add_node naming x (filter p (y ∷ ys))) (filter p (y ∷ ys))

      by : filter p (add_node naming x ys) ≡ cond (p x) (add_node naming x (filter p ys)) (filter p ys) → (b : Bool) → before y x ≡ b → (c : Bool) → p x ≡ c → (d : Bool) → p y ≡ d
          → filter p (cond b (y ∷ add_node naming x ys) (x ∷ y ∷ ys)) ≡ cond (p x) (add_node naming x (filter p (y ∷ ys))) (filter p (y ∷ ys))
      by later true yx true px true py =
          ap (λ d. cond d (y ∷ filter p (add_node naming x ys)) (filter p (add_node naming x ys))) py ∙ ap (◌∷◌ y) (later ∙ ap (λ c. cond c (add_node naming x (filter p ys)) (filter p ys)) px)
          ∙ sym (ap (λ b. cond b (y ∷ add_node naming x (filter p ys)) (x ∷ y ∷ filter p ys)) yx)
          ∙ sym (ap (λ d. add_node naming x (cond d (y ∷ filter p ys) (filter p ys))) py) ∙ sym (ap (λ c. cond c (add_node naming x (filter p (y ∷ ys))) (filter p (y ∷ ys))) px)
      by later true yx true px false py =
          ap (λ d. cond d (y ∷ filter p (add_node naming x ys)) (filter p (add_node naming x ys))) py ∙ later ∙ ap (λ c. cond c (add_node naming x (filter p ys)) (filter p ys)) px
          ∙ sym (ap (λ d. add_node naming x (cond d (y ∷ filter p ys) (filter p ys))) py) ∙ sym (ap (λ c. cond c (add_node naming x (filter p (y ∷ ys))) (filter p (y ∷ ys))) px)
      by later true yx false px d py =
          ap (λ r. cond (p y) (y ∷ r) r) (later ∙ ap (λ c. cond c (add_node naming x (filter p ys)) (filter p ys)) px) ∙ sym (ap (λ c. cond c (add_node naming x (filter p (y ∷ ys))) (filter p (y ∷ ys))) px)
      by later false yx true px d py =
          ap (λ c. cond c (x ∷ filter p (y ∷ ys)) (filter p (y ∷ ys))) px
          ∙ sym (add_first x (filter p (y ∷ ys)) (all_filter p (λ z. not (before z x)) (y ∷ ys) (and_from (not (before y x)) (list_all (λ z. not (before z x)) ys) (ap not yx) (none_lower x y yx ys order.0))))
          ∙ sym (ap (λ c. cond c (add_node naming x (filter p (y ∷ ys))) (filter p (y ∷ ys))) px)
      by later false yx false px d py =
          ap (λ c. cond c (x ∷ filter p (y ∷ ys)) (filter p (y ∷ ys))) px ∙ sym (ap (λ c. cond c (add_node naming x (filter p (y ∷ ys))) (filter p (y ∷ ys))) px)

  pub order_filter : (p : Node → Bool) (l : List Node) → filter p (in_order naming l) ≡ in_order naming (filter p l)
  order_filter p [] = refl
  order_filter p (x ∷ xs) = filter_add p x (in_order naming xs) (ordered xs) ∙ by (order_filter p xs) (p x)
    where
      by : filter p (in_order naming xs) ≡ in_order naming (filter p xs) → (b : Bool) → cond b (add_node naming x (filter p (in_order naming xs))) (filter p (in_order naming xs)) ≡ in_order naming (cond b (x ∷ filter p xs) (filter p xs))
      by later true = ap (add_node naming x) later
      by later false = later
