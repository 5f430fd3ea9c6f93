-- A node moved with all that is below it: the nodes and the handles of the drive, and that it stays sound.
use Rattle.std.proofs.Common.{◌≡◌, ◌∙◌, refl, sym, ap, ℕ, ◌<◌, Bool, true, false, not, ◌&&◌, ◌||◌, cond, List, [], ◌∷◌, ◌++◌, map, length, drop, nat_eq, Option, Some, None, arith}
use Rattle.std.specs.Prelude.{T}
use Rattle.std.specs.List.{list_any}
use Rattle.std.specs.Option.{option_map, option_and_then, unwrap_or, is_some}
use Rattle.std.specs.Ordering.{nat_cmp, is_lt, eq_by_cmp}
use Rattle.std.specs.FinMap as entries
use Rattle.std.specs.FinMap.Entries.{below_all}
use Rattle.std.specs.FinMap.{is_sorted}
use Rattle.std.specs.HashMap.{get}
use Rattle.std.specs.Map.{keys_of}
use Rattle.std.specs.List.Sorted.{IsStrictlySortedBy}
use Rattle.std.proofs.lemmas.Bool.{false_from_ne_true}
use Rattle.rd_dirinfo.specs.declared.naming.Naming.{Naming}
use Rattle.rd_dirinfo.specs.Paths.{Names, is_prefix, is_same_path, is_within_limits, moved_path}
use Rattle.rd_tree.specs.Places.{Place, Places, place, own_path, bytes_at, is_folder, asked_path, cleared, moved, IsLive, IsWhole}
use Rattle.rd_drive.specs.declared.handle.Handle as kept
use Rattle.rd_drive.specs.declared.node.NodeState.{NodeState}
use Rattle.rd_drive.specs.declared.store.Store.{Store}
use Rattle.rd_drive.specs.DriveState as drive
use Rattle.rd_drive.specs.DriveState.{DriveState, Node, in_order}
use Rattle.rd_drive.specs.Rename.{with_moved}
use Rattle.rd_drive.specs.Store.{States, blank, node_of, node_with, nodes_of, drive_of, kept_handle, IsSound}
use Rattle.rd_drive.proofs.HandlesLemmas.{AreKept, all_kept, seen_entry}
use Rattle.rd_drive.proofs.KeptLemmas.{lived}
use Rattle.rd_drive.proofs.OrderLemmas.{AreApart, order_move}
use Rattle.rd_drive.proofs.StoreLemmas.{AreListed, all_listed, and_parts, is_below, own_is, rising}
use Rattle.rd_drive.proofs.TargetLemmas.{asked_alike, carried_limits}

module _ (tree : Places) (whole : IsWhole tree) (n : ℕ) (to : Names) (after : IsWhole (moved tree n to)) where
  -- what moving makes of a path, a place, its number's entry, and a node
  abbrev pub carried_path : Names → Names
  carried_path path = moved_path tree.naming (own_path tree n) (asked_path tree to) path

  abbrev pub carried_place : Place → Place
  carried_place p = record { path = moved_path tree.naming (own_path tree n) (asked_path tree to) p.path; bytes = p.bytes }

  abbrev pub carried : ℕ × Place → ℕ × Place
  carried e = (e.0, record { path = moved_path tree.naming (own_path tree n) (asked_path tree to) e.1.path; bytes = e.1.bytes })

  abbrev pub carry : Node → Node
  carry node = record node { path = moved_path tree.naming (own_path tree n) (asked_path tree to) node.path }

  -- ---- the nodes
  carried_nodes : (states : States) (l : List (ℕ × Place)) → map (node_of states) (map carried l) ≡ map carry (map (node_of states) l)
  carried_nodes states [] = refl
  carried_nodes states (e ∷ l) = ap (◌∷◌ (carry (node_of states e))) (carried_nodes states l)

  -- no later place has the path of an earlier one
  none_alike : (k : ℕ) (x : Place) → place (moved tree n to) k ≡ Some x → (l : List (ℕ × Place)) → T (below_all nat_cmp k l) → AreListed (moved tree n to) after l
      → list_any (λ (e : ℕ × Place). is_same_path tree.naming x.path e.1.path) l ≡ false
  none_alike k x here [] low listed = refl
  none_alike k x here (d ∷ l) low listed =
      let parts = and_parts (is_lt (nat_cmp k d.0)) (below_all nat_cmp k l) low in
      λ i. apart (is_below k d.0 parts.0) i || none_alike k x here l parts.1 listed.1 i
    where
      apart : k < d.0 → is_same_path tree.naming x.path d.1.path ≡ false
      apart under = false_from_ne_true (is_same_path tree.naming x.path d.1.path) (λ t.
          let same : k ≡ d.0 = after.apart k d.0 (ap is_some here) (ap is_some listed.0)
          ((λ i. is_same_path tree.naming (own_is (moved tree n to) after k x here i) (own_is (moved tree n to) after d.0 d.1 listed.0 i)) ∙ t) in
          absurd (omega (arith, under, same)))

  any_carried : (states : States) (path : Names) (l : List (ℕ × Place))
      → list_any (λ (y : Node). is_same_path tree.naming path (carry y).path) (map (node_of states) l) ≡ list_any (λ (e : ℕ × Place). is_same_path tree.naming path e.1.path) (map carried l)
  any_carried states path [] = refl
  any_carried states path (e ∷ l) = ap (λ b. is_same_path tree.naming path (carried_path e.1.path) || b) (any_carried states path l)

  all_apart : (states : States) (l : List (ℕ × Place)) → T (is_sorted nat_cmp (map carried l)) → AreListed (moved tree n to) after (map carried l) → AreApart tree.naming carry (map (node_of states) l)
  all_apart states [] sorted listed = tt
  all_apart states (d ∷ l) sorted listed =
      let parts = split (below_all nat_cmp d.0 (map carried l)) (is_sorted nat_cmp (map carried l)) sorted in (
        any_carried states (carried_path d.1.path) l ∙ none_alike d.0 (carried_place d.1) listed.0 (map carried l) parts.0 listed.1,
        all_apart states l parts.1 listed.1,
      )
    where
      split : (a b : Bool) → T (a && b) → T a × T b
      split true b t = (tt, t)
      split false b t = absurd t

  nodes_moved : (states : States) → nodes_of (moved tree n to) states ≡ in_order tree.naming (map carry (in_order tree.naming (map (node_of states) (cleared tree n to).list)))
  nodes_moved states =
      ap (in_order tree.naming) (carried_nodes states (cleared tree n to).list)
      ∙ sym (order_move tree.naming carry (map (node_of states) (cleared tree n to).list) (all_apart states (cleared tree n to).list (rising (moved tree n to) after) (all_listed (moved tree n to) after)))

  nodes_alike : (old new : States) → ((k : ℕ) → IsLive (moved tree n to) k → get nat_eq new k ≡ get nat_eq old k) → nodes_of (moved tree n to) new ≡ nodes_of (moved tree n to) old
  nodes_alike old new same = ap (in_order tree.naming) (among (moved tree n to).list (all_listed (moved tree n to) after))
    where
      among : (l : List (ℕ × Place)) → AreListed (moved tree n to) after l → map (node_of new) l ≡ map (node_of old) l
      among [] listed = refl
      among (e ∷ l) listed = λ i. node_with (unwrap_or (same e.0 (ap is_some listed.0) i) blank) e.1 ∷ among l listed.1 i

  -- ---- the places
  found_carried : (k : ℕ) (l : List (ℕ × Place)) → entries.find nat_cmp k (map carried l) ≡ option_map carried_place (entries.find nat_cmp k l)
  found_carried k [] = refl
  found_carried k (e ∷ l) = by (found_carried k l) (eq_by_cmp nat_cmp k e.0)
    where
      by : entries.find nat_cmp k (map carried l) ≡ option_map carried_place (entries.find nat_cmp k l) → (b : Bool)
          → cond b (Some (carried_place e.1)) (entries.find nat_cmp k (map carried l)) ≡ option_map carried_place (cond b (Some e.1) (entries.find nat_cmp k l))
      by rest true = refl
      by rest false = rest

  pub live_after : (k : ℕ) → place (cleared tree n to) k ≡ place tree k → IsLive tree k → IsLive (moved tree n to) k
  live_after k same live = ap is_some (found_carried k (cleared tree n to).list) ∙ by (place (cleared tree n to) k) ∙ ap is_some same ∙ live
    where
      by : (o : Option Place) → is_some (option_map carried_place o) ≡ is_some o
      by None = refl
      by (Some x) = refl

  pub live_cleared : (k : ℕ) → IsLive (moved tree n to) k → IsLive (cleared tree n to) k
  live_cleared k live = by (place (cleared tree n to) k) (sym (ap is_some (found_carried k (cleared tree n to).list)) ∙ live)
    where
      by : (o : Option Place) → is_some (option_map carried_place o) ≡ true → is_some o ≡ true
      by None e = e
      by (Some x) e = refl

  module _ (same : (k : ℕ) → IsLive (moved tree n to) k → place (cleared tree n to) k ≡ place tree k) where
    place_moved : (k : ℕ) → IsLive (moved tree n to) k → place (moved tree n to) k ≡ option_map carried_place (place tree k)
    place_moved k live = found_carried k (cleared tree n to).list ∙ ap (option_map carried_place) (same k live)

    pub live_before : (k : ℕ) → IsLive (moved tree n to) k → IsLive tree k
    live_before k live = by (place tree k) (sym (ap is_some (place_moved k live)) ∙ live)
      where
        by : (o : Option Place) → is_some (option_map carried_place o) ≡ true → is_some o ≡ true
        by None e = e
        by (Some x) e = refl

    pub own_moved : (k : ℕ) → IsLive (moved tree n to) k → own_path (moved tree n to) k ≡ carried_path (own_path tree k)
    own_moved k live =
        let x = lived tree k (live_before k live) in
        ap (λ (o : Option Place). unwrap_or (option_map (λ (p : Place). p.path) o) []) (place_moved k live ∙ ap (option_map carried_place) x.1) ∙ ap carried_path (sym (own_is tree whole k x.0 x.1))

    pub bytes_moved : (k : ℕ) → IsLive (moved tree n to) k → bytes_at (moved tree n to) k ≡ bytes_at tree k
    bytes_moved k live = ap (option_and_then (λ (p : Place). p.bytes)) (place_moved k live) ∙ by (place tree k)
      where
        by : (o : Option Place) → option_and_then (λ (p : Place). p.bytes) (option_map carried_place o) ≡ option_and_then (λ (p : Place). p.bytes) o
        by None = refl
        by (Some x) = refl

    pub folder_moved : (k : ℕ) → IsLive (moved tree n to) k → is_folder (moved tree n to) k ≡ is_folder tree k
    folder_moved k live = ap (option_map (λ (p : Place). not (is_some p.bytes))) (place_moved k live) ∙ by (place tree k)
      where
        by : (o : Option Place) → option_map (λ (p : Place). not (is_some p.bytes)) (option_map carried_place o) ≡ option_map (λ (p : Place). not (is_some p.bytes)) o
        by None = refl
        by (Some x) = refl

    -- what isn't at or below the node stays
    pub own_stays : (k : ℕ) → IsLive (moved tree n to) k → is_prefix tree.naming (own_path tree n) (own_path tree k) ≡ false → own_path (moved tree n to) k ≡ own_path tree k
    own_stays k live past = own_moved k live ∙ ap (λ b. cond b (asked_path tree to ++ drop (length (own_path tree n)) (own_path tree k)) (own_path tree k)) past

    pub moved_fits : (to ≡ [] → ⊥) → ((k : ℕ) → IsLive tree k → is_within_limits (own_path tree k) ≡ true)
        → ((k : ℕ) → IsLive tree k → is_prefix tree.naming (own_path tree n) (own_path tree k) ≡ true → is_within_limits (to ++ drop (length (own_path tree n)) (own_path tree k)) ≡ true)
        → (k : ℕ) → IsLive (moved tree n to) k → is_within_limits (own_path (moved tree n to) k) ≡ true
    moved_fits some fits below k live = ap is_within_limits (own_moved k live) ∙ by (is_prefix tree.naming (own_path tree n) (own_path tree k)) refl
      where
        by : (b : Bool) → is_prefix tree.naming (own_path tree n) (own_path tree k) ≡ b → is_within_limits (carried_path (own_path tree k)) ≡ true
        by true e =
            ap (λ b. is_within_limits (cond b (asked_path tree to ++ drop (length (own_path tree n)) (own_path tree k)) (own_path tree k))) e
            ∙ carried_limits tree.naming to (asked_path tree to) (drop (length (own_path tree n)) (own_path tree k)) (asked_alike tree whole to some)
            ∙ below k (live_before k live) e
        by false e = ap (λ b. is_within_limits (cond b (asked_path tree to ++ drop (length (own_path tree n)) (own_path tree k)) (own_path tree k))) e ∙ fits k (live_before k live)

module _ (s : Store) (sound : IsSound s) (n : ℕ) (to : Names) (after : IsWhole (moved s.tree n to))
    (same : (k : ℕ) → IsLive (moved s.tree n to) k → place (cleared s.tree n to) k ≡ place s.tree k)
    (states : States) (kept_same : (k : ℕ) → IsLive (moved s.tree n to) k → get nat_eq states k ≡ get nat_eq s.states k)
    (opened : (file : ℕ) (h : kept.Handle) → kept_handle s file ≡ Some h → IsLive (moved s.tree n to) h.node.0) where
  -- what a call leaves that moves the node in its tree, and what it keeps of one that went no longer
  abbrev pub moved_store : Store
  moved_store = record s { tree = moved s.tree n to; states = states }

  pub moved_sound : ((k : ℕ) → IsLive (moved s.tree n to) k → is_within_limits (own_path (moved s.tree n to) k) ≡ true) → IsSound moved_store
  moved_sound fits = record {
    whole = after;
    naming = sound.naming;
    label = sound.label;
    states = λ k live. ap is_some (kept_same k live) ∙ sound.states k (live_before s.tree sound.whole n to after same k live);
    root = ap (λ (o : Option NodeState). (unwrap_or o blank).pending) (kept_same 0 (ap is_some after.root)) ∙ sound.root;
    fitting = fits;
    opened = λ file h is. let was = sound.opened file h is in (opened file h is, was.1, was.2);
    uses = λ k live. ap (λ (o : Option NodeState). (unwrap_or o blank).uses) (kept_same k live) ∙ sound.uses k (live_before s.tree sound.whole n to after same k live);
    locked = sound.locked;
    waits = sound.waits;
    reserved = sound.reserved;
    few = sound.few;
    ids = sound.ids;
  }

  -- the drive that is moved: with the nodes that are left
  abbrev pub left_drive : DriveState
  left_drive = record (drive_of s) { nodes = in_order s.tree.naming (map (node_of s.states) (cleared s.tree n to).list) }

  pub moved_drive : IsStrictlySortedBy nat_cmp (keys_of s.handles.entries) → drive_of moved_store ≡ with_moved left_drive (own_path s.tree n) (asked_path s.tree to)
  moved_drive order = λ i. record {
    naming = s.naming;
    label = s.label;
    limited = true;
    nodes = nodes i;
    handles = handles s.handles.entries (all_kept s order) i;
    locks = (drive_of s).locks;
    waiting = (drive_of s).waiting;
    next = s.next;
  }
    where
      nodes : nodes_of (moved s.tree n to) states
          ≡ in_order s.naming (map (λ (node : Node). record node { path = moved_path s.naming (own_path s.tree n) (asked_path s.tree to) node.path }) (in_order s.tree.naming (map (node_of s.states) (cleared s.tree n to).list)))
      nodes =
          nodes_alike s.tree sound.whole n to after s.states states kept_same ∙ nodes_moved s.tree sound.whole n to after s.states
          ∙ ap (λ (naming : Naming). in_order naming (map (λ (node : Node). record node { path = moved_path naming (own_path s.tree n) (asked_path s.tree to) node.path }) (in_order s.tree.naming (map (node_of s.states) (cleared s.tree n to).list)))) sound.naming

      carry_handle : ℕ × drive.Handle → ℕ × drive.Handle
      carry_handle entry = (entry.0, record entry.1 { path = moved_path s.naming (own_path s.tree n) (asked_path s.tree to) (entry.1).path })

      handles : (es : List (ℕ × kept.Handle)) → AreKept (kept_handle s) es → map (seen_entry (moved s.tree n to)) es ≡ map carry_handle (map (seen_entry s.tree) es)
      handles [] all = refl
      handles (e ∷ es) all = λ i. (
        e.0,
        record {
          path = (own_moved s.tree sound.whole n to after same e.1.node.0 (opened e.0 e.1 all.0) ∙ ap (λ (naming : Naming). moved_path naming (own_path s.tree n) (asked_path s.tree to) (own_path s.tree e.1.node.0)) sound.naming) i;
          access = e.1.access;
          share = e.1.share;
          delete_on_close = e.1.delete_on_close;
          pattern = e.1.pattern;
          last = e.1.last;
        },
      ) ∷ handles es all.1 i
