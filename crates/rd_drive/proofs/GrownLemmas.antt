-- A node is new: the drive is sound, and has the node; and taken back it is the drive that it was.
use Rattle.std.proofs.Common.{◌≡◌, ◌∙◌, refl, sym, ap, ℕ, ◌==◌, Bool, true, false, not, ◌&&◌, ◌||◌, cond, List, [], ◌∷◌, map, Option, Some, None, arith}
use Rattle.std.specs.Prelude.{T, nat_eq}
use Rattle.std.specs.List.{list_any}
use Rattle.std.specs.Option.{option_map, unwrap_or, is_some, IsSome}
use Rattle.std.specs.Ordering.{nat_cmp, is_eq, eq_by_cmp}
use Rattle.std.specs.declared.cmp.Ordering.{Ordering}
use Rattle.std.specs.declared.cmp.Ordering.TheVariants.{Less, Equal, Greater}
use Rattle.std.specs.Cmp.{nat_cmp_total}
use Rattle.std.specs.FinMap as entries
use Rattle.std.specs.FinMap.{is_sorted, put}
use Rattle.std.specs.FinMap.Entries.{below_all, by_order, find-put, where_key}
use Rattle.std.specs.HashMap.{get}
use Rattle.std.proofs.lemmas.Bool.Decides.{nat_tests}
use Rattle.std.proofs.lemmas.Option.{none-some}
use Rattle.std.proofs.lemmas.Bool.{eqb-true, eqb-false}
use Rattle.rd_tree.proofs.ViewLemmas.{itself}
use Rattle.rd_dirinfo.specs.Paths.{is_same_path, is_within_limits}
use Rattle.rd_tree.specs.Places.{Place, Places, place, own_path, with_place, without, IsLive, IsWhole}
use Rattle.rd_drive.specs.declared.handle.Handle as open_file
use Rattle.rd_drive.specs.declared.node.NodeState.{NodeState}
use Rattle.rd_drive.specs.declared.store.Store.{Store}
use Rattle.rd_drive.specs.DriveState.{Node, add_node, in_order, with_new_node}
use Rattle.rd_drive.specs.Access.{use_of}
use Rattle.rd_drive.specs.Kept.{IsKept}
use Rattle.rd_drive.specs.Uses.{uses_of}
use Rattle.rd_drive.specs.Store.{States, state_of, node_with, node_of, nodes_of, drive_of, kept_handle, uses_on, IsSound}
use Rattle.rd_drive.proofs.HandlesLemmas.{AreKept, seen_apart}
use Rattle.rd_drive.proofs.KeptLemmas.{state_here, state_there}
use Rattle.rd_drive.proofs.OrderLemmas.{order_insert}
use Rattle.rd_drive.proofs.StoreLemmas.{AreListed, all_listed, own_is, rising}

-- ---- where no number is, one is put in

split : (a b : Bool) → T (a && b) → T a × T b
split true b t = (tt, t)
split false b t = absurd t

lower_apart : (n k : ℕ) → nat_cmp n k ≡ Less → eq_by_cmp nat_cmp n k ≡ false
lower_apart n k e = ap is_eq e

-- what is put in is taken out again
pub put_out : {X : Type 0} (n : ℕ) (x : X) (l : List (ℕ × X)) → T (is_sorted nat_cmp l) → entries.find nat_cmp n l ≡ None → where_key nat_cmp (λ (k : ℕ). not (eq_by_cmp nat_cmp n k)) (put nat_cmp n x l) ≡ l
put_out n x [] rises none = ap (λ b. cond (not b) ((n, x) ∷ []) []) (itself n)
put_out {X} n x (d ∷ l) rises none = by (split (below_all nat_cmp d.0 l) (is_sorted nat_cmp l) rises) (λ s e. put_out n x l s e) (nat_cmp n d.0) refl
  where
    out : List (ℕ × X) → List (ℕ × X)
    out places = where_key nat_cmp (λ (k : ℕ). not (eq_by_cmp nat_cmp n k)) places

    -- the others stay
    stay : (places : List (ℕ × X)) → entries.find nat_cmp n places ≡ None → where_key nat_cmp (λ (k : ℕ). not (eq_by_cmp nat_cmp n k)) places ≡ places
    stay [] e = refl
    stay (p ∷ places) e = at (λ t. stay places t) (eq_by_cmp nat_cmp n p.0) refl
      where
        at : (entries.find nat_cmp n places ≡ None → where_key nat_cmp (λ (k : ℕ). not (eq_by_cmp nat_cmp n k)) places ≡ places) → (b : Bool) → eq_by_cmp nat_cmp n p.0 ≡ b
            → cond (not (eq_by_cmp nat_cmp n p.0)) (p ∷ where_key nat_cmp (λ (k : ℕ). not (eq_by_cmp nat_cmp n k)) places) (where_key nat_cmp (λ (k : ℕ). not (eq_by_cmp nat_cmp n k)) places) ≡ p ∷ places
        at later true t = absurd (none-some p.1 (sym e ∙ ap (λ b. cond b (Some p.1) (entries.find nat_cmp n places)) t))
        at later false t =
            ap (λ b. cond (not b) (p ∷ where_key nat_cmp (λ (k : ℕ). not (eq_by_cmp nat_cmp n k)) places) (where_key nat_cmp (λ (k : ℕ). not (eq_by_cmp nat_cmp n k)) places)) t
            ∙ ap (◌∷◌ p) (later (sym (ap (λ b. cond b (Some p.1) (entries.find nat_cmp n places)) t) ∙ e))

    by : T (below_all nat_cmp d.0 l) × T (is_sorted nat_cmp l) → (T (is_sorted nat_cmp l) → entries.find nat_cmp n l ≡ None → where_key nat_cmp (λ (k : ℕ). not (eq_by_cmp nat_cmp n k)) (put nat_cmp n x l) ≡ l) → (r : Ordering) → nat_cmp n d.0 ≡ r
        → where_key nat_cmp (λ (k : ℕ). not (eq_by_cmp nat_cmp n k)) (by_order r ((n, x) ∷ d ∷ l) ((d.0, x) ∷ l) (d ∷ put nat_cmp n x l)) ≡ d ∷ l
    by parts later Less e = ap (λ b. cond (not b) ((n, x) ∷ out (d ∷ l)) (out (d ∷ l))) (itself n) ∙ stay (d ∷ l) none
    by parts later Equal e = absurd (none-some d.1 (sym none ∙ ap (λ r. cond (is_eq r) (Some d.1) (entries.find nat_cmp n l)) e))
    by parts later Greater e =
        ap (λ r. cond (not (is_eq r)) (d ∷ out (put nat_cmp n x l)) (out (put nat_cmp n x l))) e
        ∙ ap (◌∷◌ d) (later parts.1 (sym (ap (λ r. cond (is_eq r) (Some d.1) (entries.find nat_cmp n l)) e) ∙ none))

module _ (tree : Places) (whole : IsWhole tree) (n : ℕ) (fresh : place tree n ≡ None) (p : Place) where
  abbrev pub grown : Places
  grown = with_place tree n p

  pub back : without grown n ≡ tree
  back = λ i. record { naming = tree.naming; list = put_out n p tree.list (rising tree whole) fresh i }

  pub grown_place : (k : ℕ) → place grown k ≡ cond (eq_by_cmp nat_cmp k n) (Some p) (place tree k)
  grown_place k = find-put nat_cmp nat_cmp_total k n p tree.list

  pub grown_here : place grown n ≡ Some p
  grown_here = grown_place n ∙ ap (λ b. cond b (Some p) (place tree n)) (itself n)

  pub grown_other : (k : ℕ) → (k == n) ≡ false → place grown k ≡ place tree k
  grown_other k e = grown_place k ∙ ap (λ b. cond b (Some p) (place tree k)) (not_at k n e)
    where
      not_at : (k n : ℕ) → (k == n) ≡ false → eq_by_cmp nat_cmp k n ≡ false
      not_at k n e = grind (arith, nat_tests)

  pub grown_live : (k : ℕ) → IsLive tree k → IsLive grown k
  grown_live k live = ap is_some (grown_place k) ∙ by (eq_by_cmp nat_cmp k n)
    where
      by : (b : Bool) → is_some (cond b (Some p) (place tree k)) ≡ true
      by true = refl
      by false = live

  pub was_live : (k : ℕ) → (k == n) ≡ false → IsLive grown k → IsLive tree k
  was_live k e live = sym (ap is_some (grown_other k e)) ∙ live

  -- a live number isn't the new one
  pub live_apart : (k : ℕ) → IsLive tree k → (k == n) ≡ false
  live_apart k live = by (k == n) refl
    where
      by : (b : Bool) → (k == n) ≡ b → (k == n) ≡ false
      by true e = absurd (let gone : true ≡ false = sym live ∙ ap (λ (m : ℕ). is_some (place tree m)) (eqb-true k n e) ∙ ap is_some fresh in cc)
      by false e = e

  pub grown_own : (k : ℕ) → (k == n) ≡ false → own_path grown k ≡ own_path tree k
  grown_own k e = ap (λ (o : Option Place). unwrap_or (option_map (λ (x : Place). x.path) o) []) (grown_other k e)

  -- the nodes, with the new one among them, if nothing is at its path
  module _ (alone : (k : ℕ) → IsLive tree k → is_same_path tree.naming p.path (own_path tree k) ≡ false) (old new : States) (others : (m : ℕ) → (m ≡ n → ⊥) → state_of new m ≡ state_of old m) where
    abbrev made : Node
    made = node_with (state_of new n) p

    stays : (e : ℕ × Place) → place tree e.0 ≡ Some e.1 → node_of new e ≡ node_of old e
    stays e listed = ap (λ st. node_with st e.1) (others e.0 (λ same. differ (e.0 == n) (live_apart e.0 (ap is_some listed)) same))
      where
        differ : (b : Bool) → (e.0 == n) ≡ false → e.0 ≡ n → ⊥
        differ b t same = eqb-false e.0 n t same

    stay : (l : List (ℕ × Place)) → AreListed tree whole l → map (node_of new) l ≡ map (node_of old) l
    stay [] listed = refl
    stay (e ∷ l) listed = λ i. stays e listed.0 i ∷ stay l listed.1 i

    among : (l : List (ℕ × Place)) → AreListed tree whole l → entries.find nat_cmp n l ≡ None → in_order tree.naming (map (node_of new) (put nat_cmp n p l)) ≡ add_node tree.naming made (in_order tree.naming (map (node_of old) l))
    among [] listed none = refl
    among (e ∷ l) listed none = by (λ t. among l listed.1 t) (nat_cmp n e.0) refl
      where
        by : (entries.find nat_cmp n l ≡ None → in_order tree.naming (map (node_of new) (put nat_cmp n p l)) ≡ add_node tree.naming made (in_order tree.naming (map (node_of old) l))) → (r : Ordering) → nat_cmp n e.0 ≡ r
            → in_order tree.naming (map (node_of new) (by_order r ((n, p) ∷ e ∷ l) ((e.0, p) ∷ l) (e ∷ put nat_cmp n p l))) ≡ add_node tree.naming made (add_node tree.naming (node_of old e) (in_order tree.naming (map (node_of old) l)))
        by later Less t = ap (λ places. add_node tree.naming made (in_order tree.naming places)) (stay (e ∷ l) listed)
        by later Equal t = absurd (none-some e.1 (sym none ∙ ap (λ r. cond (is_eq r) (Some e.1) (entries.find nat_cmp n l)) t))
        by later Greater t =
            (λ i. add_node tree.naming (stays e listed.0 i) (later (sym (ap (λ r. cond (is_eq r) (Some e.1) (entries.find nat_cmp n l)) t) ∙ none) i))
            ∙ order_insert tree.naming made (node_of old e ∷ []) (map (node_of old) l)
            (ap (λ b. b || false) (ap (is_same_path tree.naming p.path) (sym (own_is tree whole e.0 e.1 listed.0)) ∙ alone e.0 (ap is_some listed.0)))

    pub nodes_grown : nodes_of grown new ≡ add_node tree.naming made (nodes_of tree old)
    nodes_grown = among tree.list (all_listed tree whole) fresh

-- ---- the drive

-- no handle is on a number that isn't live
pub none_on : (s : Store) → IsSound s → (n : ℕ) → place s.tree n ≡ None → (es : List (ℕ × open_file.Handle)) → AreKept (kept_handle s) es → list_any (λ (e : ℕ × open_file.Handle). e.1.node.0 == n) es ≡ false
none_on s sound n fresh [] all = refl
none_on s sound n fresh (e ∷ es) all = λ i. apart i || none_on s sound n fresh es all.1 i
  where
    apart : (e.1.node.0 == n) ≡ false
    apart = by (e.1.node.0 == n) refl
      where
        by : (b : Bool) → (e.1.node.0 == n) ≡ b → (e.1.node.0 == n) ≡ false
        by true t = absurd (let gone : true ≡ false = sym (sound.opened e.0 e.1 all.0).0 ∙ ap (λ (m : ℕ). is_some (place s.tree m)) (eqb-true e.1.node.0 n t) ∙ ap is_some fresh in cc)
        by false t = t

no_uses : (n : ℕ) (es : List (ℕ × open_file.Handle)) → list_any (λ (e : ℕ × open_file.Handle). e.1.node.0 == n) es ≡ false → uses_on n es ≡ []
no_uses n [] none = refl
no_uses n (e ∷ es) none = by (λ rest. no_uses n es rest) (e.1.node.0 == n) none
  where
    by : (list_any (λ (g : ℕ × open_file.Handle). g.1.node.0 == n) es ≡ false → uses_on n es ≡ []) → (b : Bool) → (b || list_any (λ (g : ℕ × open_file.Handle). g.1.node.0 == n) es) ≡ false
        → cond b (use_of e.1.access e.1.share ∷ uses_on n es) (uses_on n es) ≡ []
    by later true rest = absurd (cc)
    by later false rest = later rest

module _ (s : Store) (sound : IsSound s) (all : AreKept (kept_handle s) s.handles.entries) (n : ℕ) (fresh : place s.tree n ≡ None) (other : 0 ≡ n → ⊥) (p : Place)
    (fits : is_within_limits p.path ≡ true) (alone : (k : ℕ) → IsLive s.tree k → is_same_path s.tree.naming p.path (own_path s.tree k) ≡ false)
    (states : States) (state : NodeState) (unused : state.uses ≡ uses_of []) (kept : IsKept s.states states n state) where
  abbrev pub grown_store : Store
  grown_store = record s { tree = with_place s.tree n p; states = states }

  nowhere : list_any (λ (e : ℕ × open_file.Handle). e.1.node.0 == n) s.handles.entries ≡ false
  nowhere = none_on s sound n fresh s.handles.entries all

  pub grown_sound : IsWhole (with_place s.tree n p) → IsSound grown_store
  grown_sound after = record {
    whole = after;
    naming = sound.naming;
    label = sound.label;
    states = there;
    root = ap (λ (x : NodeState). x.pending) (state_there s.states states n state kept 0 other) ∙ sound.root;
    fitting = fitting;
    opened = λ file h is. let was = sound.opened file h is in (grown_live s.tree sound.whole n fresh p h.node.0 was.0, was.1, was.2);
    uses = uses;
    locked = sound.locked;
    waits = sound.waits;
    reserved = sound.reserved;
    few = sound.few;
    ids = sound.ids;
  }
    where
      there : (k : ℕ) → IsLive (with_place s.tree n p) k → IsSome (get nat_eq states k)
      there k live = ap is_some (kept k) ∙ by (n == k) refl
        where
          by : (b : Bool) → (n == k) ≡ b → is_some (cond b (Some state) (get nat_eq s.states k)) ≡ true
          by true e = refl
          by false e = sound.states k (was_live s.tree sound.whole n fresh p k (turned n k e) live)
            where
              turned : (a b : ℕ) → (a == b) ≡ false → (b == a) ≡ false
              turned a b e = grind (arith, nat_tests)

      fitting : (k : ℕ) → IsLive (with_place s.tree n p) k → is_within_limits (own_path (with_place s.tree n p) k) ≡ true
      fitting k live = by (k == n) refl
        where
          by : (b : Bool) → (k == n) ≡ b → is_within_limits (own_path (with_place s.tree n p) k) ≡ true
          by true e = ap (λ (m : ℕ). is_within_limits (own_path (with_place s.tree n p) m)) (eqb-true k n e) ∙ ap (λ (o : Option Place). is_within_limits (unwrap_or (option_map (λ (x : Place). x.path) o) [])) (grown_here s.tree sound.whole n fresh p) ∙ fits
          by false e = ap is_within_limits (grown_own s.tree sound.whole n fresh p k e) ∙ sound.fitting k (was_live s.tree sound.whole n fresh p k e live)

      uses : (k : ℕ) → IsLive (with_place s.tree n p) k → (state_of states k).uses ≡ uses_of (uses_on k s.handles.entries)
      uses k live = by (k == n) refl
        where
          by : (b : Bool) → (k == n) ≡ b → (state_of states k).uses ≡ uses_of (uses_on k s.handles.entries)
          by true e =
              ap (λ (m : ℕ). (state_of states m).uses) (eqb-true k n e) ∙ ap (λ (x : NodeState). x.uses) (state_here s.states states n state kept) ∙ unused
              ∙ sym (ap uses_of (ap (λ (m : ℕ). uses_on m s.handles.entries) (eqb-true k n e) ∙ no_uses n s.handles.entries nowhere))
          by false e = ap (λ (x : NodeState). x.uses) (state_there s.states states n state kept k (λ same. eqb-false k n e same)) ∙ sound.uses k (was_live s.tree sound.whole n fresh p k e live)

  pub grown_drive : drive_of grown_store ≡ with_new_node (drive_of s) (node_with state p)
  grown_drive = λ i. record {
    naming = s.naming;
    label = s.label;
    limited = true;
    nodes = nodes i;
    handles = seen_apart s.tree (with_place s.tree n p) n (grown_own s.tree sound.whole n fresh p) s.handles.entries nowhere i;
    locks = (drive_of s).locks;
    waiting = (drive_of s).waiting;
    next = s.next;
  }
    where
      nodes : nodes_of (with_place s.tree n p) states ≡ add_node s.naming (node_with state p) (nodes_of s.tree s.states)
      nodes =
          nodes_grown s.tree sound.whole n fresh p alone s.states states (state_there s.states states n state kept)
          ∙ (λ i. add_node (sound.naming i) (node_with (state_here s.states states n state kept i) p) (nodes_of s.tree s.states))
