-- A handle is closed, with its locks: what is left is sound, and is the drive without them.
use Rattle.std.proofs.Common.{◌≡◌, ◌∙◌, refl, sym, ap, subst, ℕ, ◌≤◌, ◌==◌, Bool, true, false, not, cond, List, [], ◌∷◌, map, length, filter, Option, Some, None, arith}
use Rattle.std.specs.Prelude.{nat_eq}
use Rattle.std.specs.List.{list_any, AllByRecursion}
use Rattle.std.specs.Option.{option_map, unwrap_or, is_some, IsSome}
use Rattle.std.specs.Ordering.{nat_cmp}
use Rattle.std.specs.HashMap.{get}
use Rattle.std.specs.Map.{lookup, remove_entry}
use Rattle.std.specs.BTreeMap.{is_at}
use Rattle.std.proofs.lemmas.Bool.Decides.{nat_tests}
use Rattle.std.proofs.lemmas.Bool.{eqb-true, eq-eqb}
use Rattle.rd_drive.proofs.WithoutLemmas.{nodes_without}
use Rattle.rd_tree.proofs.WithoutLemmas.{without_lives, without_other}
use Rattle.rd_drive.proofs.AllLemmas.{all_weaker}
use Rattle.rd_dirinfo.specs.Paths.{is_within_limits}
use Rattle.rd_locks.specs.declared.held.Held.{Held}
use Rattle.rd_locks.specs.Locks.{LockList, released}
use Rattle.rd_tree.specs.Places.{Place, Places, place, own_path, bytes_at, without, IsLive, IsWhole}
use Rattle.rd_drive.specs.declared.handle.Handle as kept
use Rattle.rd_drive.specs.declared.node.NodeState.{NodeState}
use Rattle.rd_drive.specs.declared.waiting.Waiting as kept_waiting
use Rattle.rd_drive.specs.declared.store.Store.{Store}
use Rattle.rd_drive.specs.DriveState as drive
use Rattle.rd_drive.specs.DriveState.{DriveState, Node, in_order, is_at_path, with_node, without_node}
use Rattle.rd_drive.specs.Close as closing
use Rattle.rd_drive.specs.Uses.{uses_of}
use Rattle.rd_drive.specs.UseCounts.{more}
use Rattle.rd_drive.specs.Kept.{IsKept}
use Rattle.rd_drive.specs.Store.{States, Handles, blank, state_of, node_with, nodes_of, handles_of, drive_of, kept_handle, lock_of, uses_on, HasRoom, IsSound, IsSoundBut}
use Rattle.rd_drive.proofs.StoreLemmas.{turned}
use Rattle.rd_drive.proofs.NodeLemmas.{nodes_put, place_here, put_node, same_tree}
use Rattle.rd_drive.proofs.UsesLemmas.{on_removed, use_by}
use Rattle.rd_drive.proofs.HandlesLemmas.{fewer, found_passes, removed_seen, released_seen, seen_apart, seen_entry}

not_at : (file k : ℕ) → (k == file) ≡ false → is_at (nat_cmp file) k ≡ false
not_at file k e = grind (arith, nat_tests)

module _ (s : Store) (sound : IsSound s) (file : ℕ) (h : kept.Handle) (is : kept_handle s file ≡ Some h)
    (handles : Handles) (left : handles.entries ≡ remove_entry (is_at (nat_cmp file)) s.handles.entries)
    (looked : (k : ℕ) → lookup (is_at (nat_cmp k)) handles.entries ≡ cond (is_at (nat_cmp file) k) None (kept_handle s k))
    (locks : LockList) (unlocked : locks ≡ record s.locks { locks = released file s.locks.locks }) where
  abbrev n : ℕ
  n = h.node.0

  abbrev rest : List (ℕ × kept.Handle)
  rest = remove_entry (is_at (nat_cmp file)) s.handles.entries

  -- the other file ids keep their handles
  others_kept : (k : ℕ) → (k == file) ≡ false → lookup (is_at (nat_cmp k)) handles.entries ≡ kept_handle s k
  others_kept k other = looked k ∙ ap (λ b. cond b None (kept_handle s k)) (not_at file k other)

  kept_other : (k : ℕ) (g : kept.Handle) → lookup (is_at (nat_cmp k)) handles.entries ≡ Some g → kept_handle s k ≡ Some g
  kept_other k g found = by (is_at (nat_cmp file) k) (sym (looked k) ∙ found)
    where
      by : (b : Bool) → cond b None (kept_handle s k) ≡ Some g → kept_handle s k ≡ Some g
      by true e = absurd (cc)
      by false e = e

  abbrev IsHome : Held → Type 0
  IsHome held = option_map (λ (g : kept.Handle). g.node.0) (kept_handle s held.file) ≡ Some held.node

  abbrev HasHome : Held → Type 0
  HasHome held = option_map (λ (g : kept.Handle). g.node.0) (lookup (is_at (nat_cmp held.file)) handles.entries) ≡ Some held.node

  locked_among : (l : List Held) → AllByRecursion IsHome l → AllByRecursion HasHome (released file l)
  locked_among [] all = tt
  locked_among (held ∷ l) all = by (locked_among l all.1) (held.file == file) refl
    where
      by : AllByRecursion HasHome (released file l) → (b : Bool) → (held.file == file) ≡ b → AllByRecursion HasHome (cond (not b) (held ∷ released file l) (released file l))
      by later true e = later
      by later false e = (ap (option_map (λ (g : kept.Handle). g.node.0)) (others_kept held.file e) ∙ all.0, later)

  locked_left : AllByRecursion HasHome locks.locks
  locked_left = subst (λ (l : LockList). AllByRecursion HasHome l.locks) (sym unlocked) (locked_among s.locks.locks sound.locked)

  waits_left : AllByRecursion (λ (w : kept_waiting.Waiting). ((w.file == file) ≡ false → IsSome (lookup (is_at (nat_cmp w.file)) handles.entries)) × HasRoom w.wish) s.waiting.items
  waits_left = all_weaker (λ (w : kept_waiting.Waiting). (false ≡ false → IsSome (kept_handle s w.file)) × HasRoom w.wish)
      (λ (w : kept_waiting.Waiting). ((w.file == file) ≡ false → IsSome (lookup (is_at (nat_cmp w.file)) handles.entries)) × HasRoom w.wish)
      (λ w both. (λ other. ap is_some (others_kept w.file other) ∙ both.0 refl, both.1)) s.waiting.items sound.waits

  few_left : length handles.entries ≤ 4096
  few_left = let low : length rest ≤ length s.handles.entries = fewer (is_at (nat_cmp file)) s.handles.entries in
      let most : length s.handles.entries ≤ 4096 = sound.few.0 in
      subst (λ (l : List (ℕ × kept.Handle)). length l ≤ 4096) (sym left) (omega (arith, low, most))

  uses_left : (k : ℕ) → (n == k) ≡ false → uses_of (uses_on k s.handles.entries) ≡ uses_of (uses_on k handles.entries)
  uses_left k other =
      on_removed k (is_at (nat_cmp file)) s.handles.entries h is
      ∙ ap (λ b. cond b (more (use_by h) (uses_of (uses_on k rest))) (uses_of (uses_on k rest))) other
      ∙ ap (λ (l : List (ℕ × kept.Handle)). uses_of (uses_on k l)) (sym left)

  handles_left : handles_of s.tree handles ≡ remove_entry (is_at (nat_cmp file)) (handles_of s.tree s.handles)
  handles_left = ap (map (seen_entry s.tree)) left ∙ sym (removed_seen s.tree (is_at (nat_cmp file)) s.handles.entries)

  locks_left : map lock_of locks.locks ≡ filter (λ (lock : drive.Lock). not (lock.file == file)) (map lock_of s.locks.locks)
  locks_left = ap (λ (l : LockList). map lock_of l.locks) unlocked ∙ sym (released_seen file s.locks.locks)

  -- ---- its node stays
  module _ (pending : Bool) (root : n ≡ 0 → pending ≡ false) (states : States)
      (now : IsKept s.states states n (record (state_of s.states n) { uses = uses_of (uses_on n rest); pending = pending })) where
    abbrev pub after : Store
    after = record s { handles = handles; locks = locks; states = states }

    abbrev st : NodeState
    st = record (state_of s.states n) { uses = uses_of (uses_on n rest); pending = pending }

    state_is : (k : ℕ) → state_of states k ≡ cond (n == k) st (state_of s.states k)
    state_is k = ap (λ o. unwrap_or o blank) (now k) ∙ by (n == k)
      where
        by : (b : Bool) → unwrap_or (cond b (Some st) (get nat_eq s.states k)) blank ≡ cond b st (state_of s.states k)
        by true = refl
        by false = refl

    pub left_sound : IsSoundBut (Some file) after
    left_sound = record {
      whole = sound.whole;
      naming = sound.naming;
      label = sound.label;
      states = there;
      root = root_is (n == 0) refl;
      fitting = sound.fitting;
      opened = λ k g found. sound.opened k g (kept_other k g found);
      uses = counted;
      locked = locked_left;
      waits = waits_left;
      reserved = ap (λ (l : LockList). l.reserved) unlocked ∙ sound.reserved;
      few = (few_left, sound.few.1, sound.few.2);
      ids = sound.ids;
    }
      where
        there : (k : ℕ) → IsLive s.tree k → IsSome (get nat_eq states k)
        there k live = ap is_some (now k) ∙ by (n == k)
          where
            by : (b : Bool) → is_some (cond b (Some st) (get nat_eq s.states k)) ≡ true
            by true = refl
            by false = sound.states k live

        root_is : (b : Bool) → (n == 0) ≡ b → (state_of states 0).pending ≡ false
        root_is true e = ap (λ (x : NodeState). x.pending) (state_is 0 ∙ ap (λ b. cond b st (state_of s.states 0)) e) ∙ root (eqb-true n 0 e)
        root_is false e = ap (λ (x : NodeState). x.pending) (state_is 0 ∙ ap (λ b. cond b st (state_of s.states 0)) e) ∙ sound.root

        counted : (k : ℕ) → IsLive s.tree k → (state_of states k).uses ≡ uses_of (uses_on k handles.entries)
        counted k live = by (n == k) refl
          where
            by : (b : Bool) → (n == k) ≡ b → (state_of states k).uses ≡ uses_of (uses_on k handles.entries)
            by true e =
                ap (λ (x : NodeState). x.uses) (state_is k ∙ ap (λ b. cond b st (state_of s.states k)) e)
                ∙ (λ i. uses_of (uses_on (eqb-true n k e i) (sym left i)))
            by false e = ap (λ (x : NodeState). x.uses) (state_is k ∙ ap (λ b. cond b st (state_of s.states k)) e) ∙ sound.uses k live ∙ uses_left k e

    module _ (x : Place) (here : place s.tree n ≡ Some x) where
      abbrev pub node_left : Node
      node_left = node_with (record (state_of s.states n) { pending = pending }) x

      nodes_left : nodes_of s.tree states ≡ map (put_node s.naming node_left) (nodes_of s.tree s.states)
      nodes_left =
          ap (λ (t : Places). nodes_of t states) (sym (same_tree s.tree sound.whole n x here))
          ∙ nodes_put s.tree sound.whole n x here (bytes_at s.tree n) s.states states (λ m other. state_is m ∙ ap (λ b. cond b st (state_of s.states m)) (apart m (n == m) refl other))
          ∙ (λ i. map (put_node (sound.naming i) (node_with ((state_is n ∙ ap (λ b. cond b st (state_of s.states n)) (eq-eqb n n refl)) i) (place_here s.tree sound.whole n x here i))) (nodes_of s.tree s.states))
        where
          apart : (m : ℕ) (b : Bool) → (n == m) ≡ b → (m ≡ n → ⊥) → (n == m) ≡ false
          apart m true e other = absurd (other (sym (eqb-true n m e)))
          apart m false e other = e

      pub left_drive : drive_of after ≡ with_node (closing.without_file (drive_of s) file) node_left
      left_drive = λ i. record {
        naming = s.naming;
        label = s.label;
        limited = true;
        nodes = nodes_left i;
        handles = handles_left i;
        locks = locks_left i;
        waiting = (drive_of s).waiting;
        next = s.next;
      }

  -- ---- its node, on which there is no other handle, goes
  module _ (other : (0 ≡ n → ⊥)) (alone : list_any (λ (e : ℕ × kept.Handle). e.1.node.0 == n) rest ≡ false)
      (states : States) (now : (k : ℕ) → get nat_eq states k ≡ cond (nat_eq n k) None (get nat_eq s.states k)) where
    abbrev pub fewer_nodes : Places
    fewer_nodes = without s.tree n

    abbrev pub without_it : Store
    without_it = record s { handles = handles; locks = locks; states = states; tree = fewer_nodes }

    pub place_other : (k : ℕ) → (k == n) ≡ false → place fewer_nodes k ≡ place s.tree k
    place_other = without_other s.tree n

    pub own_other : (k : ℕ) → (k == n) ≡ false → own_path fewer_nodes k ≡ own_path s.tree k
    own_other k e = ap (λ (o : Option Place). unwrap_or (option_map (λ (p : Place). p.path) o) []) (place_other k e)

    lives : (k : ℕ) → IsLive fewer_nodes k → IsLive s.tree k
    lives k live = sym (ap is_some (place_other k (without_lives s.tree n k live))) ∙ live

    pub live_still : (k : ℕ) → (k == n) ≡ false → IsLive s.tree k → IsLive fewer_nodes k
    live_still k e live = ap is_some (place_other k e) ∙ live

    get_other : (k : ℕ) → (k == n) ≡ false → get nat_eq states k ≡ get nat_eq s.states k
    get_other k e = now k ∙ ap (λ b. cond b None (get nat_eq s.states k)) (turned k n e)

    state_other : (k : ℕ) → (k == n) ≡ false → state_of states k ≡ state_of s.states k
    state_other k e = ap (λ o. unwrap_or o blank) (get_other k e)

    root_other : (0 == n) ≡ false
    root_other = by (0 == n) refl
      where
        by : (b : Bool) → (0 == n) ≡ b → (0 == n) ≡ false
        by true e = absurd (other (eqb-true 0 n e))
        by false e = e

    pub gone_sound : IsWhole fewer_nodes → IsSoundBut (Some file) without_it
    gone_sound after = record {
      whole = after;
      naming = sound.naming;
      label = sound.label;
      states = λ k live. ap is_some (get_other k (without_lives s.tree n k live)) ∙ sound.states k (lives k live);
      root = ap (λ (x : NodeState). x.pending) (state_other 0 root_other) ∙ sound.root;
      fitting = λ k live. ap is_within_limits (own_other k (without_lives s.tree n k live)) ∙ sound.fitting k (lives k live);
      opened = λ k g found.
          let was = sound.opened k g (kept_other k g found) in
          (live_still g.node.0 (found_passes (λ (e : kept.Handle). e.node.0 == n) (is_at (nat_cmp k)) handles.entries g found (ap (list_any (λ (e : ℕ × kept.Handle). e.1.node.0 == n)) left ∙ alone)) was.0, was.1, was.2);
      uses = λ k live. ap (λ (x : NodeState). x.uses) (state_other k (without_lives s.tree n k live)) ∙ sound.uses k (lives k live) ∙ uses_left k (turned k n (without_lives s.tree n k live));
      locked = locked_left;
      waits = waits_left;
      reserved = ap (λ (l : LockList). l.reserved) unlocked ∙ sound.reserved;
      few = (few_left, sound.few.1, sound.few.2);
      ids = sound.ids;
    }

    module _ (x : Place) (here : place s.tree n ≡ Some x) where
      nodes_gone : nodes_of fewer_nodes states ≡ filter (λ (node : Node). not (is_at_path s.naming x.path node)) (nodes_of s.tree s.states)
      nodes_gone =
          nodes_without s.tree sound.whole n x here s.states states state_other
          ∙ ap (λ naming. filter (λ (node : Node). not (is_at_path naming x.path node)) (nodes_of s.tree s.states)) sound.naming

      pub gone_drive : drive_of without_it ≡ without_node (closing.without_file (drive_of s) file) x.path
      gone_drive = λ i. record {
        naming = s.naming;
        label = s.label;
        limited = true;
        nodes = nodes_gone i;
        handles = (seen_apart s.tree fewer_nodes n own_other handles.entries (ap (list_any (λ (e : ℕ × kept.Handle). e.1.node.0 == n)) left ∙ alone) ∙ handles_left) i;
        locks = locks_left i;
        waiting = (drive_of s).waiting;
        next = s.next;
      }
