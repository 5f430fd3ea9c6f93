-- The next file id gets a handle: the table stays sound, and is the drive with that handle.
use Rattle.std.proofs.Common.{◌≡◌, ◌∙◌, refl, sym, ap, subst, ℕ, ◌+◌, ◌<◌, ◌≤◌, ◌^◌, ◌==◌, Bool, true, false, cond, List, [], ◌∷◌, map, length, Option, Some, None, arith, nat_le}
use Rattle.std.specs.List.{list_any}
use Rattle.std.specs.Option.{option_map, option_map_or, is_some, IsSome}
use Rattle.std.specs.Ordering.{nat_cmp}
use Rattle.std.specs.BTreeMap.{insert_entry, is_at}
use Rattle.std.proofs.lemmas.Bool.Decides.{nat_tests}
use Rattle.std.proofs.lemmas.Bool.{eq-eqb, leb-false, or_parts}
use Rattle.std.proofs.lemmas.List.{length-map}
use Rattle.std.proofs.lemmas.Option.{none-some, same_Some}
use Rattle.rd_tree.proofs.ViewLemmas.{itself}
use Rattle.rd_locks.specs.declared.held.Held.{Held}
use Rattle.rd_dirinfo.specs.declared.naming.Naming.TheVariants.{Exact}
use Rattle.rd_dirinfo.specs.Paths.{Names}
use Rattle.rd_drive.specs.declared.asked.Asked.{Asked}
use Rattle.rd_drive.specs.declared.uses.Uses.{Uses}
use Rattle.rd_drive.specs.Create.{is_full, new_handle}
use Rattle.rd_drive.specs.DriveState.{Node, with_new_handle}
use Rattle.rd_drive.specs.UseCounts.{more}
use Rattle.rd_drive.specs.Uses.{uses_of}
use Rattle.rd_drive.proofs.AllLemmas.{all_weaker}
use Rattle.rd_drive.proofs.HandlesLemmas.{one_longer}
use Rattle.rd_drive.proofs.StoreLemmas.{is_equal}
use Rattle.rd_folder.specs.FolderCalls.{node_there}
use Rattle.rd_folder.proofs.HasLemmas.{map_alike}
use Rattle.rd_folder_drive.specs.declared.handle.Handle as kept
use Rattle.rd_folder_drive.specs.declared.open.Open.{Open}
use Rattle.rd_folder_drive.specs.declared.table.Table.{Table}
use Rattle.rd_folder_drive.specs.Opening.{IsOpening, MayOpen, made_handle}
use Rattle.rd_folder_drive.specs.Table.{HasNodes, IsHandle, IsNodeOf, IsOpened, IsSound, drive_of, handle_of, is_pending_open, kept_handle, marked, open_at, path_at, uses_on}
use Rattle.rd_folder_drive.proofs.BesideLemmas.{IsWaiting}
use Rattle.rd_folder_drive.proofs.HandlesLemmas.{AreKept, all_kept, inserted_seen, seen_entry}
use Rattle.rd_folder_drive.proofs.LockLemmas.{IsHome}
use Rattle.rd_folder_drive.proofs.MarkLemmas.{IsPendingAt, marks_alike}
use Rattle.rd_folder_drive.proofs.UsesLemmas.{on_inserted, use_by}

at_other : (m k : ℕ) → is_at (nat_cmp m) k ≡ false → (m == k) ≡ false
at_other m k e = grind (arith, nat_tests)

-- where a handle can be made there is room for it, and a file id
pub has_room : (t : Table) (nodes : List Node) → is_full (drive_of t nodes) ≡ false → (length t.handles.entries < 4096) × (t.next < 2 ^ 32)
has_room t nodes free =
    let parts = or_parts (nat_le 4096 (length (drive_of t nodes).handles)) (nat_le 4294967296 t.next) free in
    let count : length (drive_of t nodes).handles ≡ length t.handles.entries = length-map t.handles.entries (seen_entry t) in
    let low : length (drive_of t nodes).handles < 4096 = leb-false 4096 (length (drive_of t nodes).handles) parts.0 in
    (subst (λ (k : ℕ). k < 4096) count low, leb-false 4294967296 t.next parts.1)

-- the next file id has no handle yet
pub absent : (t : Table) → IsSound t → kept_handle t t.next ≡ None
absent t sound = by (kept_handle t t.next) refl
  where
    by : (o : Option kept.Handle) → kept_handle t t.next ≡ o → o ≡ None
    by None e = refl
    by (Some h) e = let low : t.next < t.next = (sound.handles t.next h e).before in absurd (omega arith)

-- and nothing is open by it
pub unopened_next : (t : Table) → IsSound t → open_at t t.next ≡ None
unopened_next t sound = by (open_at t t.next) refl
  where
    by : (o : Option Open) → open_at t t.next ≡ o → o ≡ None
    by None e = refl
    by (Some p) e = let low : t.next < t.next = (sound.opened t.next p e).before in absurd (omega arith)

module _ (t : Table) (sound : IsSound t) (asked : Asked) (n : ℕ) (o : Open) (may : MayOpen t asked n o) (new : Table) (opening : IsOpening t asked n o new) where
  abbrev h : kept.Handle
  h = made_handle asked n

  -- the table that is left, from the old one
  abbrev pub after : Table
  after = record t { opens = new.opens; handles = new.handles; next = t.next + 1 }

  pub opened_here : open_at new n ≡ Some o
  opened_here = opening.opens n ∙ ap (λ b. cond b (Some o) (open_at t n)) (itself n)

  -- what was open is, at the path at which it was
  record IsStill (k : ℕ) : Type 0 where
    pub on : IsSome (open_at new k)
    pub path : path_at new k ≡ path_at t k

  still_open : (k : ℕ) → IsSome (open_at t k) → IsStill k
  still_open k on = by (is_at (nat_cmp n) k) refl (open_at t k) refl on
    where
      path_of : (found other : Option Open) → found ≡ other → option_map_or (λ (x : Open). x.path) found [] ≡ option_map_or (λ (x : Open). x.path) other []
      path_of found other e = ap (λ (x : Option Open). option_map_or (λ (y : Open). y.path) x []) e

      by : (b : Bool) → is_at (nat_cmp n) k ≡ b → (was : Option Open) → open_at t k ≡ was → IsSome was → IsStill k
      by b e None is on = absurd (cc)
      by true here (Some p) is on =
          let same : n ≡ k = is_equal n k here in
          let at : open_at new k ≡ Some o = ap (open_at new) (sym same) ∙ opened_here in
          let before : open_at t n ≡ Some p = ap (open_at t) same ∙ is in
          record { on = ap is_some at; path = path_of (open_at new k) (Some o) at ∙ sym (may.was p before).0 ∙ sym (path_of (open_at t k) (Some p) is) }
      by false past (Some p) is on =
          let at : open_at new k ≡ open_at t k = opening.opens k ∙ ap (λ b. cond b (Some o) (open_at t k)) past in
          record { on = ap is_some (at ∙ is); path = path_of (open_at new k) (open_at t k) at }

  -- ---- it is sound

  handles_now : (k : ℕ) (g : kept.Handle) → kept_handle new k ≡ Some g → IsHandle after k g
  handles_now k g found = by (is_at (nat_cmp t.next) k) refl (sym (opening.looked k) ∙ found)
    where
      by : (b : Bool) → is_at (nat_cmp t.next) k ≡ b → cond b (Some h) (kept_handle t k) ≡ Some g → IsHandle after k g
      by true here e = subst (IsHandle after k) (same_Some h g e) (record {
        on = ap is_some opened_here;
        before = (let same : t.next ≡ k = is_equal t.next k here in omega (arith, same));
        root = λ top. may.root (sym (ap (λ (x : Option Open). option_map_or (λ (y : Open). y.path) x []) opened_here) ∙ top);
      })
      by false past e =
          let was : IsHandle t k g = sound.handles k g e in
          let still : IsStill g.node = still_open g.node was.on in
          let low : k < t.next = was.before in
          record { on = still.on; before = omega (arith, low); root = λ top. was.root (sym still.path ∙ top) }

  uses_now : (k : ℕ) → uses_of (uses_on k new.handles.entries) ≡ cond (n == k) (more (use_by h) (uses_of (uses_on k t.handles.entries))) (uses_of (uses_on k t.handles.entries))
  uses_now k = ap (λ (es : List (ℕ × kept.Handle)). uses_of (uses_on k es)) opening.entries ∙ on_inserted k t.next h t.handles.entries (absent t sound)

  opened_now : (k : ℕ) (p : Open) → open_at new k ≡ Some p → IsOpened after k p
  opened_now k p at = by (is_at (nat_cmp n) k) refl (sym (opening.opens k) ∙ at)
    where
      own : IsOpened after n o
      own =
          let counted : uses_of (uses_on n new.handles.entries) ≡ more (use_by h) (uses_of (uses_on n t.handles.entries)) =
          uses_now n ∙ ap (λ b. cond b (more (use_by h) (uses_of (uses_on n t.handles.entries))) (uses_of (uses_on n t.handles.entries))) (eq-eqb n n refl) in
          let many : length (uses_on n new.handles.entries) ≡ length (uses_on n t.handles.entries) + 1 = ap (λ (u : Uses). u.handles) counted in
          record {
            path = may.path;
            root = λ top. may.rests;
            used = omega (arith, many);
            uses = may.uses ∙ sym counted;
            before = may.before;
          }

      by : (b : Bool) → is_at (nat_cmp n) k ≡ b → cond b (Some o) (open_at t k) ≡ Some p → IsOpened after k p
      by true here e = subst (λ (m : ℕ). IsOpened after m p) (is_equal n k here) (subst (IsOpened after n) (same_Some o p e) own)
      by false past e =
          let was : IsOpened t k p = sound.opened k p e in
          let counted : uses_of (uses_on k new.handles.entries) ≡ uses_of (uses_on k t.handles.entries) = uses_now k ∙ ap (λ b. cond b (more (use_by h) (uses_of (uses_on k t.handles.entries))) (uses_of (uses_on k t.handles.entries))) (at_other n k past) in
          let low : k < t.next = was.before in
          record {
            path = was.path;
            root = was.root;
            used = subst (λ m. 0 < m) (sym (ap (λ (u : Uses). u.handles) counted)) was.used;
            uses = was.uses ∙ sym counted;
            before = omega (arith, low);
          }

  apart_now : (k m : ℕ) (p q : Open) → open_at new k ≡ Some p → open_at new m ≡ Some q → p.path ≡ q.path → k ≡ m
  apart_now k m p q at to same = by (is_at (nat_cmp n) k) (is_at (nat_cmp n) m) refl refl (sym (opening.opens k) ∙ at) (sym (opening.opens m) ∙ to)
    where
      by : (b c : Bool) → is_at (nat_cmp n) k ≡ b → is_at (nat_cmp n) m ≡ c → cond b (Some o) (open_at t k) ≡ Some p → cond c (Some o) (open_at t m) ≡ Some q → k ≡ m
      by true true x y e f = sym (is_equal n k x) ∙ is_equal n m y
      by true false x y e f = sym (is_equal n k x) ∙ sym (may.apart m q f (sym same ∙ sym (ap (λ (z : Open). z.path) (same_Some o p e))))
      by false true x y e f = may.apart k p e (same ∙ sym (ap (λ (z : Open). z.path) (same_Some o q f))) ∙ is_equal n m y
      by false false x y e f = sound.apart k m p q e f same

  home : (held : Held) → IsHome t held → option_map (λ (g : kept.Handle). g.node) (kept_handle new held.file) ≡ Some held.node
  home held is = ap (option_map (λ (g : kept.Handle). g.node)) (opening.looked held.file) ∙ by (is_at (nat_cmp t.next) held.file) refl
    where
      by : (b : Bool) → is_at (nat_cmp t.next) held.file ≡ b → option_map (λ (g : kept.Handle). g.node) (cond b (Some h) (kept_handle t held.file)) ≡ Some held.node
      by true e =
          let one : t.next ≡ held.file = is_equal t.next held.file e in
          absurd (none-some held.node (sym (ap (λ (k : ℕ). option_map (λ (g : kept.Handle). g.node) (kept_handle t k)) (sym one) ∙ ap (option_map (λ (g : kept.Handle). g.node)) (absent t sound)) ∙ is))
      by false e = is

  there : (b : Bool) (found : Option kept.Handle) → IsSome found → is_some (cond b (Some h) found) ≡ true
  there true found e = refl
  there false found e = e

  module _ (room : length t.handles.entries < 4096) (ids : t.next < 2 ^ 32) where
    after_sound : IsSound after
    after_sound = record {
      label = sound.label;
      rising = opening.rising;
      handles = handles_now;
      opened = opened_now;
      apart = apart_now;
      locked = all_weaker (IsHome t) (λ (held : Held). option_map (λ (g : kept.Handle). g.node) (kept_handle new held.file) ≡ Some held.node) home t.locks.locks sound.locked;
      waits = all_weaker (IsWaiting None t) (IsWaiting None after) (λ w both. (λ e. ap is_some (opening.looked w.file) ∙ there (is_at (nat_cmp t.next) w.file) (kept_handle t w.file) (both.0 refl), both.1)) t.waiting.items sound.waits;
      reserved = sound.reserved;
      few = (
        let longer : length (insert_entry nat_cmp t.handles.entries t.next h) ≤ length t.handles.entries + 1 = one_longer t.next h t.handles.entries in
            subst (λ (es : List (ℕ × kept.Handle)). length es ≤ 4096) (sym opening.entries) (omega (arith, longer, room)),
        sound.few.1,
        sound.few.2,
      );
      ids = (omega arith, omega (arith, ids));
    }

    pub opening_sound : IsSound new
    opening_sound = subst IsSound (sym opening.others) after_sound

  -- ---- over nodes

  pub opening_holds : (nodes : List Node) → HasNodes t nodes → (node : Node) → node_there nodes o.path ≡ Some node → IsNodeOf o node → HasNodes new nodes
  opening_holds nodes holds node at kind = record {
    map = holds.map;
    there = λ k p found. by k p (is_at (nat_cmp n) k) (sym (opening.opens k) ∙ found);
  }
    where
      by : (k : ℕ) (p : Open) (b : Bool) → cond b (Some o) (open_at t k) ≡ Some p → (x : Node) × (node_there nodes p.path ≡ Some x) × IsNodeOf p x
      by k p true e = subst (λ (q : Open). (x : Node) × (node_there nodes q.path ≡ Some x) × IsNodeOf q x) (same_Some o p e) (node, at, kind)
      by k p false e = holds.there k p e

  marks_kept : (path : Names) → list_any (is_pending_open path) new.opens.entries ≡ list_any (is_pending_open path) t.opens.entries
  marks_kept path = marks_alike new t opening.rising.0 sound.rising.0 path forth again
    where
      forth : IsPendingAt new path → IsPendingAt t path
      forth (m, p, at, pending, same) = by (is_at (nat_cmp n) m) (sym (opening.opens m) ∙ at)
        where
          by : (b : Bool) → cond b (Some o) (open_at t m) ≡ Some p → IsPendingAt t path
          by true e = absurd (let clash : true ≡ false = sym pending ∙ ap (λ (x : Open). x.pending) (sym (same_Some o p e)) ∙ may.rests in cc)
          by false e = (m, p, e, pending, same)

      again : IsPendingAt t path → IsPendingAt new path
      again (m, p, at, pending, same) = by (is_at (nat_cmp n) m) refl
        where
          by : (b : Bool) → is_at (nat_cmp n) m ≡ b → IsPendingAt new path
          by true e = absurd (let clash : true ≡ false = sym pending ∙ (may.was p (ap (open_at t) (is_equal n m e) ∙ at)).1 in cc)
          by false e = (m, p, opening.opens m ∙ ap (λ b. cond b (Some o) (open_at t m)) e ∙ at, pending, same)

  seen_held : (es : List (ℕ × kept.Handle)) → AreKept (kept_handle t) es → map (seen_entry new) es ≡ map (seen_entry t) es
  seen_held [] all = refl
  seen_held (e ∷ es) all =
      let still : IsStill (e.1).node = still_open (e.1).node (sound.handles e.0 e.1 all.0).on in
      λ i. (e.0, record { path = still.path i; access = e.1.access; share = e.1.share; delete_on_close = e.1.delete_on_close; pattern = e.1.pattern; last = e.1.last }) ∷ seen_held es all.1 i

  handles_seen : map (seen_entry new) new.handles.entries ≡ insert_entry nat_cmp (map (seen_entry t) t.handles.entries) t.next (new_handle asked o.path)
  handles_seen =
      ap (map (seen_entry new)) opening.entries ∙ sym (inserted_seen new t.next h t.handles.entries)
      ∙ (λ i. insert_entry nat_cmp (seen_held t.handles.entries (all_kept t sound.rising.1) i) t.next (made i))
    where
      made : handle_of new h ≡ new_handle asked o.path
      made = ap (λ (p : Names). new_handle asked p) (ap (λ (x : Option Open). option_map_or (λ (y : Open). y.path) x []) opened_here)

  -- the drive has the new handle
  pub opening_drive : (nodes : List Node) → drive_of new nodes ≡ with_new_handle (drive_of t nodes) (new_handle asked o.path)
  opening_drive nodes = ap (λ (x : Table). drive_of x nodes) opening.others ∙ (λ i. record {
    naming = Exact;
    label = t.label;
    limited = false;
    nodes = map_alike (marked new.opens.entries) (marked t.opens.entries) nodes (λ x has. λ j. record x { pending = marks_kept x.path j }) i;
    handles = handles_seen i;
    locks = (drive_of t nodes).locks;
    waiting = (drive_of t nodes).waiting;
    next = t.next + 1;
  })
