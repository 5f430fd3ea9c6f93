-- A drive where the bytes of one node, and what is kept of it, change and nothing else does: what it is to callers, and that it stays sound.
use Rattle.std.proofs.Common.{◌≡◌, ◌∙◌, refl, sym, ap, subst, ℕ, ◌==◌, Bool, true, false, cond, List, [], ◌∷◌, map, nat_eq, Option, Some, None, Ok}
use Rattle.std.specs.Option.{option_map, option_and_then, unwrap_or, is_some, IsSome}
use Rattle.std.specs.HashMap.{get}
use Rattle.std.proofs.lemmas.Bool.{eqb-true, eq-eqb, ne_eqb}
use Rattle.rd_irp.specs.declared.completion.Body.{Body}
use Rattle.rd_dirinfo.specs.Paths.{Names, is_within_limits}
use Rattle.rd_dirinfo.specs.declared.naming.Naming.{Naming}
use Rattle.rd_tree.specs.declared.node.NodeId.{NodeId}
use Rattle.rd_tree.specs.Places.{Place, Places, place, path_at, own_path, bytes_at, with_bytes, IsFile, IsLive, IsWhole}
use Rattle.rd_drive.specs.declared.handle.Handle as open_file
use Rattle.rd_drive.specs.declared.node.NodeState.{NodeState}
use Rattle.rd_drive.specs.declared.store.Store.{Store}
use Rattle.rd_drive.specs.declared.store.Done.{Done}
use Rattle.rd_drive.specs.declared.store.Done.TheVariants as done
use Rattle.rd_drive.specs.declared.news.Named.TheVariants as named
use Rattle.rd_drive.specs.DriveState as drive
use Rattle.rd_drive.specs.DriveState.{Node, with_node}
use Rattle.rd_drive.specs.Outcome.{Outcome, changed, no_news, succeeded, on_handle}
use Rattle.rd_drive.specs.Store.{States, about, blank, state_of, node_with, nodes_of, handle_of, handles_of, drive_of, kept_handle, nothing, IsSoundBut, IsSound, Serves}
use Rattle.rd_drive.specs.Kept.{own_node, place_with, with_bytes_at, IsKept}
use Rattle.rd_drive.proofs.HandleLemmas.{on_open, opened_place}
use Rattle.rd_drive.proofs.NodeLemmas.{changed_tree, nodes_put, place_here, put_node, put_paths, same_tree}
use Rattle.rd_drive.proofs.ServesLemmas.{serves_change, serves_quiet}

-- an operation on an open file goes on with what its handle is and with its node
pub on_own : (s : Store) → IsSound s → (file : ℕ) (h : open_file.Handle) → kept_handle s file ≡ Some h → (f : drive.Handle → Node → Outcome)
    → on_handle (drive_of s) file f ≡ f (handle_of s.tree h) (own_node s h.node.0)
on_own s sound file h is f =
    let x = opened_place s sound file h is in
    on_open s sound file h is x.0 x.1 f ∙ ap (λ (p : Place). f (handle_of s.tree h) (node_with (state_of s.states h.node.0) p)) (sym (place_here s.tree sound.whole h.node.0 x.0 x.1))

-- the place of a live number
pub lived : (tree : Places) (n : ℕ) → IsLive tree n → (x : Place) × (place tree n ≡ Some x)
lived tree n live = by (place tree n) live
  where
    by : (o : Option Place) → IsSome o → (x : Place) × (o ≡ Some x)
    by None l = absurd (cc)
    by (Some x) l = (x, refl)

-- the bytes of a file, whose number is live
pub filed : (tree : Places) (n : ℕ) → IsFile tree n → (b : List ℕ) × (bytes_at tree n ≡ Some b)
filed tree n file = by (bytes_at tree n) file
  where
    by : (o : Option (List ℕ)) → IsSome o → (b : List ℕ) × (o ≡ Some b)
    by None l = absurd (cc)
    by (Some b) l = (b, refl)

pub file_lives : (tree : Places) (n : ℕ) → IsFile tree n → IsLive tree n
file_lives tree n file = by (place tree n) file
  where
    by : (o : Option Place) → IsSome (option_and_then (λ (p : Place). p.bytes) o) → IsSome o
    by None l = absurd (cc)
    by (Some p) l = refl

-- ---- what is kept
module _ (old new : States) (n : ℕ) (state : NodeState) (kept : IsKept old new n state) where
  pub state_here : state_of new n ≡ state
  state_here = ap (λ (o : Option NodeState). unwrap_or o blank) (kept n ∙ ap (λ b. cond b (Some state) (get nat_eq old n)) (eq-eqb n n refl))

  pub state_there : (m : ℕ) → (m ≡ n → ⊥) → state_of new m ≡ state_of old m
  state_there m other = ap (λ (o : Option NodeState). unwrap_or o blank) (kept m ∙ ap (λ b. cond b (Some state) (get nat_eq old m)) (ne_eqb n m (λ e. other (sym e))))

  pub still_kept : (m : ℕ) → IsSome (get nat_eq old m) → IsSome (get nat_eq new m)
  still_kept m there = ap is_some (kept m) ∙ by (n == m)
    where
      by : (b : Bool) → is_some (cond b (Some state) (get nat_eq old m)) ≡ true
      by true = refl
      by false = there

  -- what is true of what was kept of each, and of this, is true of what is kept
  pub each_kept : (P : ℕ → NodeState → Type 0) (m : ℕ) → P m (state_of old m) → (n ≡ m → P m state) → P m (state_of new m)
  each_kept P m was is = subst (λ (o : Option NodeState). P m (unwrap_or o blank)) (sym (kept m)) (by (n == m) refl)
    where
      by : (b : Bool) → (n == m) ≡ b → P m (unwrap_or (cond b (Some state) (get nat_eq old m)) blank)
      by true e = is (eqb-true n m e)
      by false e = was

module _ (s : Store) (n : ℕ) (bytes : Option (List ℕ)) (states : States) where
  -- the drive where a node has these bytes, and something else is kept
  abbrev pub changed_store : Store
  changed_store = record s { tree = with_bytes_at s.tree n bytes; states = states }

-- the same tree is whole
pub kept_whole : (tree : Places) → IsWhole tree → (n : ℕ) → IsLive tree n → IsWhole (with_bytes_at tree n (bytes_at tree n))
kept_whole tree whole n live = let x = lived tree n live in subst IsWhole (sym (same_tree tree whole n x.0 x.1)) whole

-- a tree in which the bytes of a file changed
pub written_tree : (tree : Places) → IsWhole tree → (n : ℕ) → IsLive tree n → (b : List ℕ) → bytes_at tree n ≡ Some b → (change : List ℕ → List ℕ) (new : Places) → new ≡ with_bytes tree n change → new ≡ with_bytes_at tree n (Some (change b))
written_tree tree whole n live b some change new is =
    let x = lived tree n live in
    is ∙ changed_tree tree whole n x.0 x.1 change ∙ ap (λ (o : Option (List ℕ)). with_bytes_at tree n (option_map change o)) some

-- what a call leaves that changes the bytes of a file in its tree, and then what is kept
pub written_store : (s : Store) → IsWhole s.tree → (n : ℕ) → IsLive s.tree n → (b : List ℕ) → bytes_at s.tree n ≡ Some b → (change : List ℕ → List ℕ) (tree : Places) → tree ≡ with_bytes s.tree n change
    → (new : Store) → new ≡ record s { tree = tree; states = new.states } → new ≡ changed_store s n (Some (change b)) new.states
written_store s whole n live b some change tree is new e = e ∙ (λ i. record s { tree = written_tree s.tree whole n live b some change tree is i; states = new.states })

-- what a call leaves that changes what is kept alone
pub kept_store : (s : Store) → IsWhole s.tree → (n : ℕ) → IsLive s.tree n → (new : Store) → new ≡ record s { states = new.states } → new ≡ changed_store s n (bytes_at s.tree n) new.states
kept_store s whole n live new e =
    let x = lived s.tree n live in
    e ∙ (λ i. record s { tree = sym (same_tree s.tree whole n x.0 x.1) i; states = new.states })

module _ (closed : Option ℕ) (s : Store) (sound : IsSoundBut closed s) (n : ℕ) (live : IsLive s.tree n) (bytes : Option (List ℕ)) (states : States) (state : NodeState) (kept : IsKept s.states states n state) where
  abbrev tree : Places
  tree = with_bytes_at s.tree n bytes

  paths : (m : ℕ) → path_at tree m ≡ path_at s.tree m
  paths = let x = lived s.tree n live in put_paths s.tree sound.whole n x.0 x.1 bytes

  pub own_paths : (m : ℕ) → own_path tree m ≡ own_path s.tree m
  own_paths m = ap (λ (o : Option Names). unwrap_or o []) (paths m)

  by_path : (tree : Places) (m : ℕ) → is_some (path_at tree m) ≡ is_some (place tree m)
  by_path tree m = by (place tree m)
    where
      by : (o : Option Place) → is_some (option_map (λ (p : Place). p.path) o) ≡ is_some o
      by None = refl
      by (Some p) = refl

  lives : (m : ℕ) → is_some (place tree m) ≡ is_some (place s.tree m)
  lives m = sym (by_path tree m) ∙ ap is_some (paths m) ∙ by_path s.tree m

  -- the drive has the node in the place of the one at its path
  pub drive_changed : drive_of (changed_store s n bytes states) ≡ with_node (drive_of s) (node_with state (place_with s.tree n bytes))
  drive_changed = λ i. record {
    naming = s.naming;
    label = s.label;
    limited = true;
    nodes = nodes i;
    handles = handles i;
    locks = (drive_of s).locks;
    waiting = (drive_of s).waiting;
    next = s.next;
  }
    where
      nodes : nodes_of tree states ≡ map (put_node s.naming (node_with state (place_with s.tree n bytes))) (nodes_of s.tree s.states)
      nodes =
          let x = lived s.tree n live in
          nodes_put s.tree sound.whole n x.0 x.1 bytes s.states states (state_there s.states states n state kept)
          ∙ ap (λ (naming : Naming). map (put_node naming (node_with (state_of states n) (place_with s.tree n bytes))) (nodes_of s.tree s.states)) sound.naming
          ∙ ap (λ (st : NodeState). map (put_node s.naming (node_with st (place_with s.tree n bytes))) (nodes_of s.tree s.states)) (state_here s.states states n state kept)

      handles : handles_of tree s.handles ≡ handles_of s.tree s.handles
      handles = λ i. map (λ (e : ℕ × open_file.Handle). (
        e.0,
        record {
          path = own_paths e.1.node.0 i;
          access = e.1.access;
          share = e.1.share;
          delete_on_close = e.1.delete_on_close;
          pattern = e.1.pattern;
          last = e.1.last;
        },
      )) s.handles.entries

  -- and it is sound, where the uses are left and the root isn't pending
  pub sound_changed : IsWhole tree → state.uses ≡ (state_of s.states n).uses → (n ≡ 0 → state.pending ≡ false) → IsSoundBut closed (changed_store s n bytes states)
  sound_changed after uses root = record {
    whole = after;
    naming = sound.naming;
    label = sound.label;
    states = λ m l. still_kept s.states states n state kept m (sound.states m (sym (lives m) ∙ l));
    root = each_kept s.states states n state kept (λ m st. m ≡ 0 → st.pending ≡ false) 0 (λ e. sound.root) (λ is e. root is) refl;
    fitting = λ m l. ap is_within_limits (own_paths m) ∙ sound.fitting m (sym (lives m) ∙ l);
    opened = λ file h is. let o = sound.opened file h is in (lives h.node.0 ∙ o.0, o.1, o.2);
    uses = λ m l. each_kept s.states states n state kept (λ k st. st.uses ≡ (state_of s.states k).uses) m refl (λ is. uses ∙ ap (λ (k : ℕ). (state_of s.states k).uses) is) ∙ sound.uses m (sym (lives m) ∙ l);
    locked = sound.locked;
    waits = sound.waits;
    reserved = sound.reserved;
    few = sound.few;
    ids = sound.ids;
  }

-- ---- what a call returns that did so
module _ (s : Store) (sound : IsSound s) (n : ℕ) (live : IsLive s.tree n) (bytes : Option (List ℕ)) (states : States) (state : NodeState) (kept : IsKept s.states states n state) (after : IsWhole (with_bytes_at s.tree n bytes))
    (uses : state.uses ≡ (state_of s.states n).uses) (root : n ≡ 0 → state.pending ≡ false) (new : Store) (is : new ≡ changed_store s n bytes states) (comes : Outcome) (body : Body) where
  -- done, and told
  pub serves_told : (action bits : ℕ) (id : NodeId) → id.0 ≡ n → (returns : Done) → returns ≡ done.Replied body (about (record { action = action; named = named.Node id; bits = bits }))
      → comes ≡ succeeded (with_node (drive_of s) (node_with state (place_with s.tree n bytes))) body (changed (record { action = action; path = own_path s.tree n; bits = bits } ∷ []))
      → Serves s new comes (Ok returns)
  serves_told action bits id same returns told e =
      let sound' = sound_changed None s sound n live bytes states state kept after uses root in
      let there : IsLive (with_bytes_at s.tree n bytes) id.0 = subst (λ (m : ℕ). IsLive (with_bytes_at s.tree n bytes) m) (sym same) (lives None s sound n live bytes states state kept n ∙ live) in
      let path : own_path s.tree n ≡ own_path (with_bytes_at s.tree n bytes) id.0 = sym (own_paths None s sound n live bytes states state kept n) ∙ ap (λ (m : ℕ). own_path (with_bytes_at s.tree n bytes) m) (sym same) in
      subst (λ (d : Done). Serves s new comes (Ok d)) (sym told)
      (subst (λ (t : Store). Serves s t comes (Ok (done.Replied body (about (record { action = action; named = named.Node id; bits = bits }))))) (sym is)
      (serves_change s (changed_store s n bytes states) comes body _ sound' (record { action = action; named = named.Node id; bits = bits }) refl there
      (e ∙ (λ i. succeeded (sym (drive_changed None s sound n live bytes states state kept) i) body (changed (record { action = action; path = path i; bits = bits } ∷ []))))))

  -- done, and nothing to tell
  pub serves_kept : (returns : Done) → returns ≡ done.Replied body nothing → comes ≡ succeeded (with_node (drive_of s) (node_with state (place_with s.tree n bytes))) body no_news → Serves s new comes (Ok returns)
  serves_kept returns quiet e =
      subst (λ (d : Done). Serves s new comes (Ok d)) (sym quiet)
      (subst (λ (t : Store). Serves s t comes (Ok (done.Replied body nothing))) (sym is)
      (serves_quiet s (changed_store s n bytes states) comes body _ (sound_changed None s sound n live bytes states state kept after uses root) refl
      (e ∙ ap (λ d. succeeded d body no_news) (sym (drive_changed None s sound n live bytes states state kept)))))
