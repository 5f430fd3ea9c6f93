-- What a drive keeps, as callers see it: the nodes by their paths.
use Rattle.std.proofs.Common.{◌≡◌, ◌∙◌, refl, sym, ap, subst, ℕ, ◌<◌, Bool, true, false, ◌&&◌, ◌||◌, cond, List, [], ◌∷◌, map, Option, Some, None, find, arith, ◌==◌}
use Rattle.std.specs.Prelude.{T}
use Rattle.std.specs.List.{list_any}
use Rattle.std.specs.Option.{option_map, option_and_then, unwrap_or, is_some}
use Rattle.std.specs.Ordering.{nat_cmp, is_lt, eq_by_cmp}
use Rattle.std.specs.FinMap as entries
use Rattle.std.specs.FinMap.Entries.{below_all}
use Rattle.std.specs.FinMap.{is_sorted}
use Rattle.std.proofs.lemmas.Bool.Decides.{nat_tests}
use Rattle.std.proofs.lemmas.Option.{same_Some, none-some}
use Rattle.std.proofs.lemmas.Bool.{ne_eqb, eqb-false}
use Rattle.std.proofs.Math.Bool.{or-true}
use Rattle.rd_tree.proofs.ViewLemmas.{itself}
use Rattle.rd_dirinfo.specs.declared.naming.Naming.{Naming}
use Rattle.rd_dirinfo.specs.Paths.{Names, is_same_path}
use Rattle.rd_tree.specs.Places.{Place, Places, place, own_path, first_at, node_at, IsLive, IsWhole}
use Rattle.rd_tree.proofs.WayLemmas.{same_true, true_same}
use Rattle.rd_drive.specs.DriveState.{Node, is_at_path}
use Rattle.rd_drive.specs.Store.{States, state_of, node_with, node_of, nodes_of}
use Rattle.rd_drive.proofs.OrderLemmas.{IsAlone, order_find}

-- ---- numbers that rise

pub below_apart : (n m : ℕ) → m < n → eq_by_cmp nat_cmp n m ≡ false
below_apart n m h = grind (arith, nat_tests)

pub turned : (a b : ℕ) → (a == b) ≡ false → (b == a) ≡ false
turned a b e = ne_eqb b a (λ same. eqb-false a b e (sym same))

pub is_below : (n m : ℕ) → is_lt (nat_cmp n m) ≡ true → n < m
is_below n m h = grind (arith, nat_tests)

pub is_equal : (n m : ℕ) → eq_by_cmp nat_cmp n m ≡ true → n ≡ m
is_equal n m h = grind (arith, nat_tests)

pub and_parts : (a b : Bool) → T (a && b) → (a ≡ true) × T b
and_parts true b t = (refl, t)
and_parts false b t = absurd t

-- a number that has a value is above all that are below the numbers
pub found_above : {X : Type 0} (m n : ℕ) (x : X) (l : List (ℕ × X)) → T (below_all nat_cmp m l) → entries.find nat_cmp n l ≡ Some x → m < n
found_above m n x [] low e = absurd (none-some x e)
found_above m n x (d ∷ l) low e = by (and_parts (is_lt (nat_cmp m d.0)) (below_all nat_cmp m l) low) (λ h g. found_above m n x l h g) (eq_by_cmp nat_cmp n d.0) refl
  where
    by : (is_lt (nat_cmp m d.0) ≡ true) × T (below_all nat_cmp m l) → (T (below_all nat_cmp m l) → entries.find nat_cmp n l ≡ Some x → m < n) → (b : Bool) → eq_by_cmp nat_cmp n d.0 ≡ b → m < n
    by parts later true is = let same : n ≡ d.0 = is_equal n d.0 is in let low : m < d.0 = is_below m d.0 parts.0 in omega arith
    by parts later false is = later parts.1 (sym (ap (λ b. cond b (Some d.1) (entries.find nat_cmp n l)) is) ∙ e)

module _ (naming : Naming) (path : Names) where
  -- the number that is first at a path is above all that are below the numbers
  first_above : (m n : ℕ) (l : List (ℕ × Place)) → T (below_all nat_cmp m l) → first_at naming path l ≡ Some n → m < n
  first_above m n [] low e = absurd (none-some n e)
  first_above m n (d ∷ l) low e = by (and_parts (is_lt (nat_cmp m d.0)) (below_all nat_cmp m l) low) (λ h g. first_above m n l h g) (is_same_path naming d.1.path path) refl
    where
      by : (is_lt (nat_cmp m d.0) ≡ true) × T (below_all nat_cmp m l) → (T (below_all nat_cmp m l) → first_at naming path l ≡ Some n → m < n) → (b : Bool) → is_same_path naming d.1.path path ≡ b → m < n
      by parts later true is =
          let same : d.0 ≡ n = same_Some d.0 n (sym (ap (λ b. cond b (Some d.0) (first_at naming path l)) is) ∙ e) in
          let low : m < d.0 = is_below m d.0 parts.0 in omega arith
      by parts later false is = later parts.1 (sym (ap (λ b. cond b (Some d.0) (first_at naming path l)) is) ∙ e)

  -- a path that some place has is the first's
  some_first : (l : List (ℕ × Place)) → list_any (λ (e : ℕ × Place). is_same_path naming e.1.path path) l ≡ true → (n : ℕ) × (first_at naming path l ≡ Some n)
  some_first [] any = absurd (cc)
  some_first (d ∷ l) any = by (λ h. some_first l h) (is_same_path naming d.1.path path) refl any
    where
      by : (list_any (λ (e : ℕ × Place). is_same_path naming e.1.path path) l ≡ true → (n : ℕ) × (first_at naming path l ≡ Some n)) → (b : Bool) → is_same_path naming d.1.path path ≡ b
          → (is_same_path naming d.1.path path || list_any (λ (e : ℕ × Place). is_same_path naming e.1.path path) l) ≡ true → (n : ℕ) × (first_at naming path (d ∷ l) ≡ Some n)
      by later true is h = (d.0, ap (λ b. cond b (Some d.0) (first_at naming path l)) is)
      by later false is h =
          let more = later (sym (ap (λ b. b || list_any (λ (e : ℕ × Place). is_same_path naming e.1.path path) l) is) ∙ h) in
          (more.0, ap (λ b. cond b (Some d.0) (first_at naming path l)) is ∙ more.1)

  -- the node at a path among all, by the number that is first there
  among : (states : States) (l : List (ℕ × Place)) → T (is_sorted nat_cmp l)
      → find (is_at_path naming path) (map (node_of states) l) ≡ option_and_then (λ n. option_map (node_with (state_of states n)) (entries.find nat_cmp n l)) (first_at naming path l)
  among states [] rising = refl
  among states (d ∷ l) rising = by (among states l (second rising)) (is_same_path naming d.1.path path) refl
    where
      first : T (below_all nat_cmp d.0 l && is_sorted nat_cmp l) → T (below_all nat_cmp d.0 l)
      first t = go (below_all nat_cmp d.0 l) (is_sorted nat_cmp l) t
        where
          go : (a b : Bool) → T (a && b) → T a
          go true b t = tt
          go false b t = t

      second : T (below_all nat_cmp d.0 l && is_sorted nat_cmp l) → T (is_sorted nat_cmp l)
      second t = (and_parts (below_all nat_cmp d.0 l) (is_sorted nat_cmp l) t).1

      at_number : List (ℕ × Place) → ℕ → Option Node
      at_number places n = option_map (node_with (state_of states n)) (entries.find nat_cmp n places)

      past : (r : Option ℕ) → first_at naming path l ≡ r → option_and_then (at_number l) r ≡ option_and_then (at_number (d ∷ l)) r
      past None e = refl
      past (Some n) e = ap (option_map (node_with (state_of states n))) (sym (ap (λ b. cond b (Some d.1) (entries.find nat_cmp n l)) (below_apart n d.0 (first_above d.0 n l (first rising) e))))

      by : find (is_at_path naming path) (map (node_of states) l) ≡ option_and_then (at_number l) (first_at naming path l) → (b : Bool) → is_same_path naming d.1.path path ≡ b
          → cond (is_same_path naming d.1.path path) (Some (node_of states d)) (find (is_at_path naming path) (map (node_of states) l)) ≡ option_and_then (at_number (d ∷ l)) (first_at naming path (d ∷ l))
      by later true is =
          ap (λ b. cond b (Some (node_of states d)) (find (is_at_path naming path) (map (node_of states) l))) is
          ∙ sym (ap (λ b. option_map (node_with (state_of states d.0)) (cond b (Some d.1) (entries.find nat_cmp d.0 l))) (itself d.0))
          ∙ sym (ap (λ b. option_and_then (at_number (d ∷ l)) (cond b (Some d.0) (first_at naming path l))) is)
      by later false is =
          ap (λ b. cond b (Some (node_of states d)) (find (is_at_path naming path) (map (node_of states) l))) is
          ∙ later ∙ past (first_at naming path l) refl
          ∙ sym (ap (λ b. option_and_then (at_number (d ∷ l)) (cond b (Some d.0) (first_at naming path l))) is)

module _ (tree : Places) (whole : IsWhole tree) where
  pub rising : T (is_sorted nat_cmp tree.list)
  rising = subst T (sym whole.rising) tt

  -- each of some places is its number's
  abbrev pub AreListed : List (ℕ × Place) → Type 0
  AreListed [] = Unit {0}
  AreListed (d ∷ l) = (place tree d.0 ≡ Some d.1) × AreListed l

  list_them : (l : List (ℕ × Place)) → T (is_sorted nat_cmp l) → ((n : ℕ) (x : Place) → entries.find nat_cmp n l ≡ Some x → place tree n ≡ Some x) → AreListed l
  list_them [] sorted here = tt
  list_them (d ∷ l) sorted here =
      let parts = split (below_all nat_cmp d.0 l) (is_sorted nat_cmp l) sorted in (
        here d.0 d.1 (ap (λ b. cond b (Some d.1) (entries.find nat_cmp d.0 l)) (itself d.0)),
        list_them l parts.1 (λ n x e. here n x (ap (λ b. cond b (Some d.1) (entries.find nat_cmp n l)) (below_apart n d.0 (found_above d.0 n x l parts.0 e)) ∙ e)),
      )
    where
      split : (a b : Bool) → T (a && b) → T a × T b
      split true b t = (tt, t)
      split false b t = absurd t

  pub all_listed : AreListed tree.list
  all_listed = list_them tree.list rising (λ n x e. e)

  pub own_is : (n : ℕ) (x : Place) → place tree n ≡ Some x → own_path tree n ≡ x.path
  own_is n x e = ap (λ (o : Option Place). unwrap_or (option_map (λ (p : Place). p.path) o) []) e

  pub first_listed : (path : Names) (n : ℕ) (l : List (ℕ × Place)) → AreListed l → first_at tree.naming path l ≡ Some n → IsLive tree n × (is_same_path tree.naming (own_path tree n) path ≡ true)
  first_listed path n [] listed e = absurd (none-some n e)
  first_listed path n (d ∷ l) listed e = by (λ h. first_listed path n l listed.1 h) (is_same_path tree.naming d.1.path path) refl
    where
      by : (first_at tree.naming path l ≡ Some n → IsLive tree n × (is_same_path tree.naming (own_path tree n) path ≡ true)) → (b : Bool) → is_same_path tree.naming d.1.path path ≡ b → IsLive tree n × (is_same_path tree.naming (own_path tree n) path ≡ true)
      by later true is =
          let same : d.0 ≡ n = same_Some d.0 n (sym (ap (λ b. cond b (Some d.0) (first_at tree.naming path l)) is) ∙ e) in
          subst (λ (k : ℕ). IsLive tree k × (is_same_path tree.naming (own_path tree k) path ≡ true)) same (ap is_some listed.0, ap (λ (p : Names). is_same_path tree.naming p path) (own_is d.0 d.1 listed.0) ∙ is)
      by later false is = later (sym (ap (λ b. cond b (Some d.0) (first_at tree.naming path l)) is) ∙ e)

  -- two paths that are the same as a third are the same
  both_same : (path p q : Names) → is_same_path tree.naming p path ≡ true → is_same_path tree.naming q path ≡ true → is_same_path tree.naming p q ≡ true
  both_same path p q ep eq = same_true tree.naming p q (true_same tree.naming p path ep ∙ sym (true_same tree.naming q path eq))

  any_there : (path : Names) (states : States) (l : List (ℕ × Place)) → list_any (is_at_path tree.naming path) (map (node_of states) l) ≡ list_any (λ (e : ℕ × Place). is_same_path tree.naming e.1.path path) l
  any_there path states [] = refl
  any_there path states (d ∷ l) = ap (λ b. is_same_path tree.naming d.1.path path || b) (any_there path states l)

  alone_among : (path : Names) (states : States) (l : List (ℕ × Place)) → T (is_sorted nat_cmp l) → AreListed l → IsAlone tree.naming (is_at_path tree.naming path) (map (node_of states) l)
  alone_among path states [] sorted listed = tt
  alone_among path states (d ∷ l) sorted listed = (λ is. alone is (list_any (is_at_path tree.naming path) (map (node_of states) l)) refl, alone_among path states l parts.1 listed.1)
    where
      split : (a b : Bool) → T (a && b) → T a × T b
      split true b t = (tt, t)
      split false b t = absurd t

      parts : T (below_all nat_cmp d.0 l) × T (is_sorted nat_cmp l)
      parts = split (below_all nat_cmp d.0 l) (is_sorted nat_cmp l) sorted

      alone : is_same_path tree.naming d.1.path path ≡ true → (b : Bool) → list_any (is_at_path tree.naming path) (map (node_of states) l) ≡ b → b ≡ false
      alone is false any = refl
      alone is true any =
          let other = some_first tree.naming path l (sym (any_there path states l) ∙ any) in
          let there = first_listed path other.0 l listed.1 other.1 in
          let same : is_same_path tree.naming (own_path tree d.0) (own_path tree other.0) ≡ true = both_same path (own_path tree d.0) (own_path tree other.0) (ap (λ (p : Names). is_same_path tree.naming p path) (own_is d.0 d.1 listed.0) ∙ is) there.1 in
          let one : d.0 ≡ other.0 = whole.apart d.0 other.0 (ap is_some listed.0) there.0 same in
          let low : d.0 < other.0 = first_above tree.naming path d.0 other.0 l parts.0 other.1 in
          absurd (omega arith)

  -- the node of a number
  abbrev pub node_of_number : States → ℕ → Option Node
  node_of_number states n = option_map (node_with (state_of states n)) (place tree n)

  -- the node at a path is that of the number at it
  pub node_at_seen : (states : States) (path : Names) → find (is_at_path tree.naming path) (nodes_of tree states) ≡ option_and_then (node_of_number states) (node_at tree path)
  node_at_seen states path =
      order_find tree.naming (is_at_path tree.naming path) (map (node_of states) tree.list) (alone_among path states tree.list rising all_listed)
      ∙ among tree.naming path states tree.list rising

  -- the number at a live number's own path is that number
  module _ (n : ℕ) (x : Place) (here : place tree n ≡ Some x) where
    any_own : (l : List (ℕ × Place)) → entries.find nat_cmp n l ≡ Some x → list_any (λ (e : ℕ × Place). is_same_path tree.naming e.1.path (own_path tree n)) l ≡ true
    any_own [] e = absurd (none-some x e)
    any_own (d ∷ l) e = by (λ h. any_own l h) (eq_by_cmp nat_cmp n d.0) refl
      where
        by : (entries.find nat_cmp n l ≡ Some x → list_any (λ (e : ℕ × Place). is_same_path tree.naming e.1.path (own_path tree n)) l ≡ true) → (b : Bool) → eq_by_cmp nat_cmp n d.0 ≡ b
            → (is_same_path tree.naming d.1.path (own_path tree n) || list_any (λ (e : ℕ × Place). is_same_path tree.naming e.1.path (own_path tree n)) l) ≡ true
        by later true is =
            let one : d.1 ≡ x = same_Some d.1 x (sym (ap (λ b. cond b (Some d.1) (entries.find nat_cmp n l)) is) ∙ e) in
            let path : d.1.path ≡ own_path tree n = ap (λ (p : Place). p.path) one ∙ sym (own_is n x here) in
            ap (λ b. b || list_any (λ (e : ℕ × Place). is_same_path tree.naming e.1.path (own_path tree n)) l) (ap (λ (p : Names). is_same_path tree.naming p (own_path tree n)) path ∙ same_true tree.naming (own_path tree n) (own_path tree n) refl)
        by later false is =
            ap (λ b. is_same_path tree.naming d.1.path (own_path tree n) || b) (later (sym (ap (λ b. cond b (Some d.1) (entries.find nat_cmp n l)) is) ∙ e)) ∙ or-true (is_same_path tree.naming d.1.path (own_path tree n))

    pub number_at_own : node_at tree (own_path tree n) ≡ Some n
    number_at_own =
        let other = some_first tree.naming (own_path tree n) tree.list (any_own tree.list here) in
        let there = first_listed (own_path tree n) other.0 tree.list all_listed other.1 in
        other.1 ∙ ap (λ (m : ℕ). Some m) (whole.apart other.0 n there.0 (ap is_some here) there.1)

    -- the node at a live number's own path is its node
    pub node_at_own : (states : States) → find (is_at_path tree.naming (own_path tree n)) (nodes_of tree states) ≡ Some (node_with (state_of states n) x)
    node_at_own states = node_at_seen states (own_path tree n) ∙ ap (option_and_then (node_of_number states)) number_at_own ∙ ap (option_map (node_with (state_of states n))) here
