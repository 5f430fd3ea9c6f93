-- A handle is taken off what it has open, with its locks: what is left is sound, and is the drive without them.
use Rattle.std.proofs.Common.{◌≡◌, ◌∙◌, refl, sym, ap, subst, ℕ, ◌<◌, ◌≤◌, ◌==◌, inl, inr, Bool, true, false, not, ◌||◌, cond, List, [], ◌∷◌, map, filter, length, Option, Some, None, nat_lt, arith}
use Rattle.std.specs.List.{list_any, AllByRecursion}
use Rattle.std.specs.Option.{option_map, option_map_or, is_some, IsSome}
use Rattle.std.specs.Ordering.{nat_cmp}
use Rattle.std.specs.Map.{lookup, remove_entry}
use Rattle.std.specs.BTreeMap.{BTreeMap, is_at, IsOrdered}
use Rattle.std.proofs.lemmas.Bool.Decides.{nat_tests}
use Rattle.std.proofs.lemmas.Bool.{cases_Bool, eq-eqb, eqb-true}
use Rattle.std.proofs.lemmas.Option.{none-some, same_Some}
use Rattle.rd_tree.proofs.ViewLemmas.{itself}
use Rattle.rd_locks.specs.declared.held.Held.{Held}
use Rattle.rd_locks.specs.Locks.{LockList, released}
use Rattle.rd_dirinfo.specs.declared.naming.Naming.TheVariants.{Exact}
use Rattle.rd_dirinfo.specs.Paths.{Names}
use Rattle.rd_drive.specs.declared.uses.Uses.{Uses}
use Rattle.rd_drive.specs.Close.{without_file}
use Rattle.rd_drive.specs.DriveState as drive
use Rattle.rd_drive.specs.DriveState.{Node, is_at_path, with_node, without_node}
use Rattle.rd_drive.specs.Store.{lock_of}
use Rattle.rd_drive.specs.Uses.{uses_of}
use Rattle.rd_drive.specs.UseCounts.{more}
use Rattle.rd_drive.proofs.AllLemmas.{all_weaker}
use Rattle.rd_drive.proofs.HandlesLemmas.{fewer, found_passes, released_seen}
use Rattle.rd_drive.proofs.StoreLemmas.{is_equal, turned}
use Rattle.rd_folder.specs.FolderCalls.{node_there}
use Rattle.rd_folder.specs.Told.{IsFolderMap}
use Rattle.rd_folder.proofs.ExactLemmas.{exact_apart, exact_same, same_exact}
use Rattle.rd_folder.proofs.HasLemmas.{Has, filter_has, find_has, one_at, there_is}
use Rattle.rd_folder_drive.specs.declared.handle.Handle as kept
use Rattle.rd_folder_drive.specs.declared.open.Open.{Open}
use Rattle.rd_folder_drive.specs.declared.table.Table.{Table}
use Rattle.rd_folder_drive.specs.Closing.{IsOff, IsTakenOff, used_once_less, other_handles, stays_open}
use Rattle.rd_folder_drive.specs.Table.{HasNodes, IsNodeOf, IsOpened, IsSound, IsSoundBut, drive_of, is_pending_open, kept_handle, marked, open_at, path_at, uses_on}
use Rattle.rd_folder_drive.proofs.BesideLemmas.{IsWaiting}
use Rattle.rd_folder_drive.proofs.HandlesLemmas.{removed_seen, seen_alike, seen_apart, seen_entry}
use Rattle.rd_folder_drive.proofs.LockLemmas.{IsHome}
use Rattle.rd_folder_drive.proofs.MarkLemmas.{IsPendingAt, filter_seen, marks_alike, put_seen}
use Rattle.rd_folder_drive.proofs.TableLemmas as table
use Rattle.rd_folder_drive.proofs.TableLemmas.{nothing_pending, pending_seen}
use Rattle.rd_folder_drive.proofs.UsesLemmas.{any_handle, on_removed, use_by}

-- what is shown of one handle and what it has open is shown of each that the file id has
pub of_held : (t : Table) (file : ℕ) (P : kept.Handle → Open → Type 0) (h : kept.Handle) (o : Open) → kept_handle t file ≡ Some h → open_at t h.node ≡ Some o → P h o
    → (g : kept.Handle) (p : Open) → kept_handle t file ≡ Some g → open_at t g.node ≡ Some p → P g p
of_held t file P h o is on shown g p gs ps =
    let same : h ≡ g = same_Some h g (sym is ∙ gs) in
    let alike : o ≡ p = same_Some o p (sym on ∙ ap (λ (x : kept.Handle). open_at t x.node) same ∙ ps) in
    subst (λ (x : kept.Handle). P x p) same (subst (P h) alike shown)

module _ (t : Table) (sound : IsSound t) (file : ℕ) (h : kept.Handle) (o : Open) (is : kept_handle t file ≡ Some h) (on : open_at t h.node ≡ Some o) where
  abbrev pub count : ℕ
  count = length (uses_on h.node (other_handles t file))

  -- of its uses this one goes
  pub uses_before : o.uses ≡ more (use_by h) (uses_of (uses_on h.node (other_handles t file)))
  uses_before =
      (sound.opened h.node o on).uses
      ∙ on_removed h.node (is_at (nat_cmp file)) t.handles.entries h is
      ∙ ap (λ b. cond b (more (use_by h) (uses_of (uses_on h.node (other_handles t file)))) (uses_of (uses_on h.node (other_handles t file)))) (eq-eqb h.node h.node refl)

  module _ (handles : BTreeMap ℕ kept.Handle) (entries : handles.entries ≡ other_handles t file)
      (looked : (k : ℕ) → lookup (is_at (nat_cmp k)) handles.entries ≡ cond (is_at (nat_cmp file) k) None (kept_handle t k))
      (locks : LockList) (unlocked : locks ≡ record t.locks { locks = released file t.locks.locks })
      (opens : BTreeMap ℕ Open) (rising : IsOrdered nat_cmp opens × IsOrdered nat_cmp handles) (new : Table) (is_new : new ≡ record t { handles = handles; locks = locks; opens = opens }) where
    off_so : (back : Option Open) → ((k : ℕ) → lookup (is_at (nat_cmp k)) opens.entries ≡ cond (is_at (nat_cmp h.node) k) (stays_open (used_once_less t file h o) back) (open_at t k))
        → IsTakenOff count (used_once_less t file h o) back → IsOff t file h o back new
    off_so back at taken = subst (IsOff t file h o back) (sym is_new) (record {
      others = refl;
      handles = entries;
      looked = looked;
      locks = unlocked;
      rising = rising;
      opens = at;
      taken = taken;
    })

    -- other handles use it
    pub off_stays : ((k : ℕ) → lookup (is_at (nat_cmp k)) opens.entries ≡ cond (is_at (nat_cmp h.node) k) (Some (used_once_less t file h o)) (open_at t k)) → 0 < count → IsOff t file h o None new
    off_stays at some = off_so None at some

    -- nothing else uses it
    pub off_comes : (back : Option Open) → back ≡ Some (used_once_less t file h o) → ((k : ℕ) → lookup (is_at (nat_cmp k)) opens.entries ≡ cond (is_at (nat_cmp h.node) k) None (open_at t k)) → count ≡ 0 → IsOff t file h o back new
    off_comes back is_left at none = subst (λ (b : Option Open). IsOff t file h o b new) (sym is_left) (off_so (Some (used_once_less t file h o)) at (refl, none))

-- ---- what is left

not_at : (m k : ℕ) → (k == m) ≡ false → is_at (nat_cmp m) k ≡ false
not_at m k e = grind (arith, nat_tests)

at_other : (m k : ℕ) → is_at (nat_cmp m) k ≡ false → (k == m) ≡ false
at_other m k e = grind (arith, nat_tests)

module _ (t : Table) (sound : IsSound t) (file : ℕ) (h : kept.Handle) (o : Open) (is : kept_handle t file ≡ Some h) (on : open_at t h.node ≡ Some o) (back : Option Open) (new : Table) (off : IsOff t file h o back new) where
  abbrev n : ℕ
  n = h.node

  abbrev pub left : Open
  left = used_once_less t file h o

  -- the table that is left, from the old one
  abbrev pub after : Table
  after = record t { opens = new.opens; handles = new.handles; locks = new.locks }

  -- the requests that wait stay
  pub waiting_stays : new.waiting ≡ t.waiting
  waiting_stays = ap (λ (x : Table). x.waiting) off.others

  -- ---- the handles

  kept_other : (k : ℕ) (g : kept.Handle) → kept_handle new k ≡ Some g → kept_handle t k ≡ Some g
  kept_other k g found = by (is_at (nat_cmp file) k) (sym (off.looked k) ∙ found)
    where
      by : (b : Bool) → cond b None (kept_handle t k) ≡ Some g → kept_handle t k ≡ Some g
      by true e = absurd (cc)
      by false e = e

  others_kept : (k : ℕ) → (k == file) ≡ false → kept_handle new k ≡ kept_handle t k
  others_kept k other = off.looked k ∙ ap (λ b. cond b None (kept_handle t k)) (not_at file k other)

  uses_left : (k : ℕ) → (n == k) ≡ false → uses_of (uses_on k t.handles.entries) ≡ uses_of (uses_on k new.handles.entries)
  uses_left k other =
      on_removed k (is_at (nat_cmp file)) t.handles.entries h is
      ∙ ap (λ b. cond b (more (use_by h) (uses_of (uses_on k (other_handles t file)))) (uses_of (uses_on k (other_handles t file)))) other
      ∙ ap (λ (l : List (ℕ × kept.Handle)). uses_of (uses_on k l)) (sym off.handles)

  -- ---- what is open

  open_other : (k : ℕ) → (k == n) ≡ false → open_at new k ≡ open_at t k
  open_other k other = off.opens k ∙ ap (λ b. cond b (stays_open left back) (open_at t k)) (not_at n k other)

  pub open_here : open_at new n ≡ stays_open left back
  open_here = off.opens n ∙ ap (λ b. cond b (stays_open left back) (open_at t n)) (itself n)

  -- it was open before, at the same path and of the same kind
  abbrev WasOpen : ℕ → Open → Type 0
  WasOpen k p = (q : Open) × (open_at t k ≡ Some q) × (p.path ≡ q.path) × (p.folder ≡ q.folder)

  pub was_open : (k : ℕ) (p : Open) → open_at new k ≡ Some p → WasOpen k p
  was_open k p at = by (is_at (nat_cmp n) k) refl (sym (off.opens k) ∙ at)
    where
      own : n ≡ k → (b : Option Open) → stays_open left b ≡ Some p → WasOpen k p
      own same None e = let is_left : left ≡ p = same_Some left p e in (o, ap (open_at t) (sym same) ∙ on, ap (λ (x : Open). x.path) (sym is_left), ap (λ (x : Open). x.folder) (sym is_left))
      own same (Some taken) e = absurd (none-some p e)

      by : (b : Bool) → is_at (nat_cmp n) k ≡ b → cond b (stays_open left back) (open_at t k) ≡ Some p → WasOpen k p
      by true here e = own (is_equal n k here) back e
      by false here e = (p, e, refl, refl)

  -- what a handle that is left has open is open, at the path at which it was
  still_open : (k : ℕ) (g : kept.Handle) → kept_handle new k ≡ Some g → IsSome (open_at new g.node) × (path_at new g.node ≡ path_at t g.node)
  still_open k g found = by (g.node == n) refl
    where
      own : (g.node == n) ≡ true → (b : Option Open) → back ≡ b → IsTakenOff (length (uses_on n (other_handles t file))) left b → IsSome (open_at new g.node) × (path_at new g.node ≡ path_at t g.node)
      own same None none some =
          let here : open_at new g.node ≡ Some left = ap (open_at new) (eqb-true g.node n same) ∙ open_here ∙ ap (stays_open left) none in
          let there : open_at t g.node ≡ Some o = ap (open_at t) (eqb-true g.node n same) ∙ on in
          (ap is_some here, ap (λ (x : Option Open). option_map_or (λ (y : Open). y.path) x []) here ∙ sym (ap (λ (x : Option Open). option_map_or (λ (y : Open). y.path) x []) there))
      own same (Some taken) some both =
          let alone : list_any (λ (e : ℕ × kept.Handle). e.1.node == n) new.handles.entries ≡ false = ap (list_any (λ (e : ℕ × kept.Handle). e.1.node == n)) off.handles ∙ sym (any_handle n (other_handles t file)) ∙ ap (nat_lt 0) both.1 in
          let other : (g.node == n) ≡ false = found_passes (λ (e : kept.Handle). e.node == n) (is_at (nat_cmp k)) new.handles.entries g found alone in
          absurd (let clash : true ≡ false = sym same ∙ other in cc)

      by : (b : Bool) → (g.node == n) ≡ b → IsSome (open_at new g.node) × (path_at new g.node ≡ path_at t g.node)
      by true same = own same back refl off.taken
      by false other =
          let alike : open_at new g.node ≡ open_at t g.node = open_other g.node other in
          (subst IsSome (sym alike) (sound.handles k g (kept_other k g found)).on, ap (λ (x : Option Open). option_map_or (λ (y : Open). y.path) x []) alike)

  left_root : o.path ≡ [] → left.pending ≡ false
  left_root top =
      let at : path_at t n ≡ [] = ap (λ (x : Option Open). option_map_or (λ (y : Open). y.path) x []) on ∙ top in
      (λ i. (sound.opened n o on).root top i || (sound.handles file h is).root at i)

  -- ---- it is sound

  opened_left : (k : ℕ) (p : Open) → open_at new k ≡ Some p → IsOpened after k p
  opened_left k p at = by (is_at (nat_cmp n) k) refl (sym (off.opens k) ∙ at)
    where
      own : n ≡ k → (b : Option Open) → IsTakenOff (length (uses_on n (other_handles t file))) left b → stays_open left b ≡ Some p → IsOpened after k p
      own same None some e = subst (λ (x : Open). IsOpened after k x) (same_Some left p e) (subst (λ (m : ℕ). IsOpened after m left) same (record {
        path = (sound.opened n o on).path;
        root = left_root;
        used = subst (λ (l : List (ℕ × kept.Handle)). 0 < length (uses_on n l)) (sym off.handles) some;
        uses = ap (λ (l : List (ℕ × kept.Handle)). uses_of (uses_on n l)) (sym off.handles);
        before = (sound.opened n o on).before;
      }))
      own same (Some taken) some e = absurd (none-some p e)

      by : (b : Bool) → is_at (nat_cmp n) k ≡ b → cond b (stays_open left back) (open_at t k) ≡ Some p → IsOpened after k p
      by true here e = own (is_equal n k here) back off.taken e
      by false here e =
          let was : IsOpened t k p = sound.opened k p e in
          let counted : uses_of (uses_on k t.handles.entries) ≡ uses_of (uses_on k new.handles.entries) = uses_left k (turned k n (at_other n k here)) in record {
            path = was.path;
            root = was.root;
            used = subst (λ m. 0 < m) (ap (λ (u : Uses). u.handles) counted) was.used;
            uses = was.uses ∙ counted;
            before = was.before;
          }

  abbrev HasHome : Held → Type 0
  HasHome held = option_map (λ (g : kept.Handle). g.node) (kept_handle new held.file) ≡ Some held.node

  locked_among : (l : List Held) → AllByRecursion (IsHome t) l → AllByRecursion HasHome (released file l)
  locked_among [] all = tt
  locked_among (held ∷ l) all = by (locked_among l all.1) (held.file == file) refl
    where
      by : AllByRecursion HasHome (released file l) → (b : Bool) → (held.file == file) ≡ b → AllByRecursion HasHome (cond (not b) (held ∷ released file l) (released file l))
      by later true e = later
      by later false e = (ap (option_map (λ (g : kept.Handle). g.node)) (others_kept held.file e) ∙ all.0, later)

  waits_left : AllByRecursion (IsWaiting (Some file) after) t.waiting.items
  waits_left = all_weaker (IsWaiting None t) (IsWaiting (Some file) after) (λ w both. (λ other. ap is_some (others_kept w.file other) ∙ both.0 refl, both.1)) t.waiting.items sound.waits

  few_left : length new.handles.entries ≤ 4096
  few_left =
      let low : length (other_handles t file) ≤ length t.handles.entries = fewer (is_at (nat_cmp file)) t.handles.entries in
      let most : length t.handles.entries ≤ 4096 = sound.few.0 in
      subst (λ (l : List (ℕ × kept.Handle)). length l ≤ 4096) (sym off.handles) (omega (arith, low, most))

  after_sound : IsSoundBut (Some file) after
  after_sound = record {
    label = sound.label;
    rising = off.rising;
    handles = λ k g found. let was = sound.handles k g (kept_other k g found) in let still = still_open k g found in record { on = still.0; before = was.before; root = λ top. was.root (sym still.1 ∙ top) };
    opened = opened_left;
    apart = λ k m p q at to same.
        let first : WasOpen k p = was_open k p at in
        let second : WasOpen m q = was_open m q to in
        sound.apart k m first.0 second.0 first.1 second.1 (sym first.2 ∙ same ∙ second.2);
    locked = subst (λ (l : LockList). AllByRecursion HasHome l.locks) (sym off.locks) (locked_among t.locks.locks sound.locked);
    waits = waits_left;
    reserved = ap (λ (l : LockList). l.reserved) off.locks ∙ sound.reserved;
    few = (few_left, sound.few.1, sound.few.2);
    ids = sound.ids;
  }

  pub off_sound : IsSoundBut (Some file) new
  off_sound = subst (IsSoundBut (Some file)) (sym off.others) after_sound

  -- where nothing uses it nothing is open at its path
  pub none_open : (taken : Open) → back ≡ Some taken → (m : ℕ) (p : Open) → open_at new m ≡ Some p → p.path ≡ o.path → ⊥
  none_open taken some m p at same =
      let was : WasOpen m p = was_open m p at in
      let own : m ≡ n = sound.apart m n was.0 o was.1 on (sym was.2 ∙ same) in
      none-some p (sym (open_here ∙ ap (stays_open left) some) ∙ ap (open_at new) (sym own) ∙ at)

  -- ---- over nodes

  module _ (nodes : List Node) (holds : HasNodes t nodes) where
    -- what is open is among nodes among which are those that were
    pub off_holds : (others : List Node) → IsFolderMap others → ((m : ℕ) (p : Open) → open_at new m ≡ Some p → (x : Node) → node_there nodes p.path ≡ Some x → node_there others p.path ≡ Some x) → HasNodes new others
    off_holds others is_map still = record {
      map = is_map;
      there = λ k p at.
          let was : WasOpen k p = was_open k p at in
          let there : (node : Node) × (node_there nodes was.0.path ≡ Some node) × IsNodeOf was.0 node = holds.there k was.0 was.1 in
          (there.0, still k p at there.0 (ap (node_there nodes) was.2 ∙ there.1), there.2 ∙ sym was.3);
    }

    pub off_holds_same : HasNodes new nodes
    off_holds_same = off_holds nodes holds.map (λ m p at x there. there)

    abbrev node : Node
    node = table.node t sound nodes holds file h o is on

    -- ---- marks

    -- whether it is pending now
    abbrev pub is_left_pending : Option Open → Bool
    is_left_pending None = left.pending
    is_left_pending (Some taken) = false

    mark_other : (path : Names) → (path ≡ o.path → ⊥) → list_any (is_pending_open path) new.opens.entries ≡ list_any (is_pending_open path) t.opens.entries
    mark_other path other = marks_alike new t off.rising.0 sound.rising.0 path there again
      where
        apart_from : (m : ℕ) (p : Open) → open_at t m ≡ Some p → p.path ≡ path → (b : Bool) → (m == n) ≡ b → (m == n) ≡ false
        apart_from m p at same true e =
            absurd (other (sym same ∙ ap (λ (x : Open). x.path) (same_Some p o (sym at ∙ ap (open_at t) (eqb-true m n e) ∙ on))))
        apart_from m p at same false e = e

        there : IsPendingAt new path → IsPendingAt t path
        there (m, p, at, pending, same) =
            let was : WasOpen m p = was_open m p at in
            let off_it : (m == n) ≡ false = apart_from m was.0 was.1 (sym was.2 ∙ same) (m == n) refl in
            (m, p, sym (open_other m off_it) ∙ at, pending, same)

        again : IsPendingAt t path → IsPendingAt new path
        again (m, p, at, pending, same) = (m, p, open_other m (apart_from m p at same (m == n) refl) ∙ at, pending, same)

    mark_here : list_any (is_pending_open o.path) new.opens.entries ≡ is_left_pending back
    mark_here = by back refl
      where
        by : (b : Option Open) → back ≡ b → list_any (is_pending_open o.path) new.opens.entries ≡ is_left_pending b
        by None none = pending_seen new off_sound n left (open_here ∙ ap (stays_open left) none)
        by (Some taken) some = nothing_pending new off_sound o.path (none_open taken some)

    -- ---- the drive

    handles_left : map (seen_entry new) new.handles.entries ≡ remove_entry (is_at (nat_cmp file)) (map (seen_entry t) t.handles.entries)
    handles_left = ap (map (seen_entry new)) off.handles ∙ by back refl off.taken ∙ sym (removed_seen t (is_at (nat_cmp file)) t.handles.entries)
      where
        path_other : (k : ℕ) → (k == n) ≡ false → path_at new k ≡ path_at t k
        path_other k e = ap (λ (x : Option Open). option_map_or (λ (y : Open). y.path) x []) (open_other k e)

        path_same : back ≡ None → (k : ℕ) (b : Bool) → (k == n) ≡ b → path_at new k ≡ path_at t k
        path_same none k false e = path_other k e
        path_same none k true e =
            let here : open_at new k ≡ Some left = ap (open_at new) (eqb-true k n e) ∙ open_here ∙ ap (stays_open left) none in
            let there : open_at t k ≡ Some o = ap (open_at t) (eqb-true k n e) ∙ on in
            ap (λ (x : Option Open). option_map_or (λ (y : Open). y.path) x []) here ∙ sym (ap (λ (x : Option Open). option_map_or (λ (y : Open). y.path) x []) there)

        by : (b : Option Open) → back ≡ b → IsTakenOff (length (uses_on n (other_handles t file))) left b → map (seen_entry new) (other_handles t file) ≡ map (seen_entry t) (other_handles t file)
        by None none some = seen_alike t new (other_handles t file) (λ e. path_same none (e.1).node ((e.1).node == n) refl)
        by (Some taken) some both = seen_apart t new n path_other (other_handles t file) (sym (any_handle n (other_handles t file)) ∙ ap (nat_lt 0) both.1)

    locks_left : map lock_of new.locks.locks ≡ filter (λ (lock : drive.Lock). not (lock.file == file)) (map lock_of t.locks.locks)
    locks_left = ap (λ (l : LockList). map lock_of l.locks) off.locks ∙ sym (released_seen file t.locks.locks)

    -- the drive over any nodes, by what these are marked
    drive_with : (others : List Node) (marks : List Node) → map (marked new.opens.entries) others ≡ marks → drive_of new others ≡ record (without_file (drive_of t nodes) file) { nodes = marks }
    drive_with others marks seen = ap (λ (x : Table). drive_of x others) off.others ∙ (λ i. record {
      naming = Exact;
      label = t.label;
      limited = false;
      nodes = seen i;
      handles = handles_left i;
      locks = locks_left i;
      waiting = (drive_of t nodes).waiting;
      next = t.next;
    })

    -- it stays, pending or not
    pub off_stays_seen : drive_of new nodes ≡ with_node (without_file (drive_of t nodes) file) (record (marked t.opens.entries node) { pending = is_left_pending back })
    off_stays_seen = drive_with nodes _ (put_seen (marked new.opens.entries) (marked t.opens.entries) own nodes each)
      where
        own : Node
        own = record (marked t.opens.entries node) { pending = is_left_pending back }

        each : (x : Node) → Has nodes x → marked new.opens.entries x ≡ cond (is_at_path Exact node.path (marked t.opens.entries x)) (record (marked t.opens.entries node) { pending = is_left_pending back }) (marked t.opens.entries x)
        each x has = elim (cases_Bool (is_at_path Exact node.path x)) [
          | inl at ↦
              let found : Has nodes node × (is_at_path Exact o.path node ≡ true) = find_has (is_at_path Exact o.path) nodes node (table.there t sound nodes holds file h o is on) in
              let same : x ≡ node = one_at nodes holds.map.rises x node has found.0 (same_exact x.path node.path at) in
              (λ i. record (same i) { pending = (ap (λ (p : Names). list_any (is_pending_open p) new.opens.entries) (ap (λ (y : Node). y.path) same ∙ table.node_path t sound nodes holds file h o is on) ∙ mark_here) i })
              ∙ ap (λ b. cond b (record (marked t.opens.entries node) { pending = is_left_pending back }) (marked t.opens.entries x)) (sym at)
          | inr past ↦
              (λ i. record x { pending = mark_other x.path (λ e. let clash : true ≡ false = sym (exact_same x.path node.path (e ∙ sym (table.node_path t sound nodes holds file h o is on))) ∙ past in absurd (cc)) i })
              ∙ ap (λ b. cond b (record (marked t.opens.entries node) { pending = is_left_pending back }) (marked t.opens.entries x)) (sym past)
        ]

    -- it goes
    abbrev pub nodes_left : List Node
    nodes_left = filter (λ (x : Node). not (is_at_path Exact o.path x)) nodes

    pub off_goes_seen : drive_of new nodes_left ≡ without_node (without_file (drive_of t nodes) file) o.path
    off_goes_seen = drive_with nodes_left _ (filter_seen (marked new.opens.entries) (marked t.opens.entries) o.path nodes
        (λ x has past. λ i. record x { pending = mark_other x.path (λ e. let clash : true ≡ false = sym (exact_same x.path o.path e) ∙ past in absurd (cc)) i }) (λ x. refl))

    pub off_goes_holds : (taken : Open) → back ≡ Some taken → IsFolderMap nodes_left → HasNodes new nodes_left
    off_goes_holds taken some is_map = off_holds nodes_left is_map (λ m p at x there.
        let found : Has nodes x × (is_at_path Exact p.path x ≡ true) = find_has (is_at_path Exact p.path) nodes x there in
        let at_it : x.path ≡ p.path = same_exact x.path p.path found.1 in
        there_is nodes_left is_map.rises x (filter_has (λ (y : Node). not (is_at_path Exact o.path y)) nodes x found.0 (ap not (exact_apart x.path o.path (λ e. none_open taken some m p at (sym at_it ∙ e))))) p.path at_it)
