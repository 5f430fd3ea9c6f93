-- A node has one more handle, which is counted: the drive is sound, and has the new handle.
use Rattle.std.proofs.Common.{◌≡◌, ◌∙◌, refl, sym, ap, subst, ℕ, ◌+◌, ◌<◌, ◌≤◌, ◌^◌, ◌==◌, Bool, true, false, cond, List, map, length, Option, Some, None, arith}
use Rattle.std.specs.Prelude.{nat_eq, nat_le}
use Rattle.std.specs.Option.{option_map, unwrap_or, is_some, IsSome}
use Rattle.std.specs.Ordering.{nat_cmp}
use Rattle.std.specs.HashMap.{get}
use Rattle.std.specs.Map.{lookup}
use Rattle.std.specs.BTreeMap.{insert_entry, is_at}
use Rattle.std.proofs.lemmas.Bool.Decides.{nat_tests}
use Rattle.std.proofs.lemmas.List.{length-map}
use Rattle.std.proofs.lemmas.Option.{same_Some, none-some}
use Rattle.std.proofs.lemmas.Bool.{eqb-true, or_parts, leb-false}
use Rattle.rd_drive.proofs.AllLemmas.{all_weaker}
use Rattle.rd_locks.specs.declared.held.Held.{Held}
use Rattle.rd_tree.specs.declared.node.NodeId.{NodeId}
use Rattle.rd_tree.specs.Places.{Place, own_path, IsLive}
use Rattle.rd_drive.specs.declared.access.Use.{Use}
use Rattle.rd_drive.specs.declared.asked.Asked.{Asked}
use Rattle.rd_drive.specs.declared.handle.Handle as open_file
use Rattle.rd_drive.specs.declared.node.NodeState.{NodeState}
use Rattle.rd_drive.specs.declared.waiting.Waiting as kept_waiting
use Rattle.rd_drive.specs.declared.store.Store.{Store}
use Rattle.rd_drive.specs.DriveState.{in_order, with_new_handle}
use Rattle.rd_drive.specs.Create.{deletes_on_close, is_full, new_handle}
use Rattle.rd_drive.specs.Kept.{IsKept}
use Rattle.rd_drive.specs.Made.{made_handle, with_asked_use}
use Rattle.rd_drive.specs.Uses.{uses_of}
use Rattle.rd_drive.specs.UseCounts.{more}
use Rattle.rd_drive.specs.Store.{States, Handles, blank, state_of, node_with, node_of, drive_of, kept_handle, uses_on, HasRoom, IsSound}
use Rattle.rd_drive.proofs.HandlesLemmas.{inserted_seen, one_longer, seen_entry}
use Rattle.rd_drive.proofs.KeptLemmas.{each_kept, still_kept}
use Rattle.rd_drive.proofs.UsesLemmas.{few_uses, on_inserted, use_by}

-- where a handle can be made there is room for it, and a file id
pub has_room : (s : Store) → is_full (drive_of s) ≡ false → (length s.handles.entries < 4096) × (s.next < 2 ^ 32)
has_room s free =
    let parts = or_parts (nat_le 4096 (length (drive_of s).handles)) (nat_le 4294967296 s.next) free in
    let count : length (drive_of s).handles ≡ length s.handles.entries = length-map s.handles.entries (seen_entry s.tree) in
    let low : length (drive_of s).handles < 4096 = leb-false 4096 (length (drive_of s).handles) parts.0 in
    (subst (λ (k : ℕ). k < 4096) count low, leb-false 4294967296 s.next parts.1)

at_same : (n k : ℕ) → is_at (nat_cmp n) k ≡ true → k ≡ n
at_same n k e = grind (arith, nat_tests)

module _ (s : Store) (sound : IsSound s) where
  -- the next file id has no handle yet
  pub absent : kept_handle s s.next ≡ None
  absent = by (kept_handle s s.next) refl
    where
      by : (o : Option open_file.Handle) → kept_handle s s.next ≡ o → o ≡ None
      by None e = refl
      by (Some h) e = let low : s.next < s.next = (sound.opened s.next h e).1 in absurd (omega arith)

  -- the uses of a node that are counted
  pub used : (n : ℕ) → IsLive s.tree n → length s.handles.entries < 4096 → (uses : List Use) × ((state_of s.states n).uses ≡ uses_of uses) × (length uses < 4096)
  used n live room =
      let few : length (uses_on n s.handles.entries) ≤ length s.handles.entries = few_uses n s.handles.entries in
      (uses_on n s.handles.entries, sound.uses n live, omega (arith, few, room))

  module _ (node : NodeId) (live : IsLive s.tree node.0) (asked : Asked) (root : node.0 ≡ 0 → deletes_on_close asked ≡ false)
      (room : length s.handles.entries < 4096) (ids : s.next < 2 ^ 32)
      (handles : Handles) (entries : handles.entries ≡ insert_entry nat_cmp s.handles.entries s.next (made_handle asked node))
      (looked : (k : ℕ) → lookup (is_at (nat_cmp k)) handles.entries ≡ cond (is_at (nat_cmp s.next) k) (Some (made_handle asked node)) (kept_handle s k))
      (states : States) (now : IsKept s.states states node.0 (with_asked_use (state_of s.states node.0) asked)) where
    abbrev pub with_handle : Store
    with_handle = record s { handles = handles; states = states; next = s.next + 1 }

    abbrev n : ℕ
    n = node.0

    abbrev st : NodeState
    st = with_asked_use (state_of s.states n) asked

    abbrev h : open_file.Handle
    h = made_handle asked node

    each : (P : ℕ → NodeState → Type 0) (m : ℕ) → P m (state_of s.states m) → (n ≡ m → P m st) → P m (state_of states m)
    each = each_kept s.states states n st now

    state_is : (k : ℕ) → state_of states k ≡ cond (n == k) st (state_of s.states k)
    state_is k = ap (λ o. unwrap_or o blank) (now k) ∙ by (n == k)
      where
        by : (b : Bool) → unwrap_or (cond b (Some st) (get nat_eq s.states k)) blank ≡ cond b st (state_of s.states k)
        by true = refl
        by false = refl

    pub opened_sound : IsSound with_handle
    opened_sound = record {
      whole = sound.whole;
      naming = sound.naming;
      label = sound.label;
      states = λ k lives. still_kept s.states states n st now k (sound.states k lives);
      root = each (λ m x. m ≡ 0 → x.pending ≡ false) 0 (λ e. sound.root) (λ is e. ap (λ (m : ℕ). (state_of s.states m).pending) is ∙ sound.root) refl;
      fitting = sound.fitting;
      opened = opens;
      uses = uses;
      locked = all_weaker (λ (held : Held). option_map (λ (g : open_file.Handle). g.node.0) (kept_handle s held.file) ≡ Some held.node)
          (λ (held : Held). option_map (λ (g : open_file.Handle). g.node.0) (lookup (is_at (nat_cmp held.file)) handles.entries) ≡ Some held.node) home s.locks.locks sound.locked;
      waits = all_weaker (λ (w : kept_waiting.Waiting). (false ≡ false → IsSome (kept_handle s w.file)) × HasRoom w.wish)
          (λ (w : kept_waiting.Waiting). (false ≡ false → IsSome (lookup (is_at (nat_cmp w.file)) handles.entries)) × HasRoom w.wish)
          (λ w both. (λ e. ap is_some (looked w.file) ∙ there (is_at (nat_cmp s.next) w.file) (kept_handle s w.file) (both.0 refl), both.1)) s.waiting.items sound.waits;
      reserved = sound.reserved;
      few = (
        let longer : length (insert_entry nat_cmp s.handles.entries s.next h) ≤ length s.handles.entries + 1 = one_longer s.next h s.handles.entries in
            subst (λ (es : List (ℕ × open_file.Handle)). length es ≤ 4096) (sym entries) (omega (arith, longer, room)),
        sound.few.1,
        sound.few.2,
      );
      ids = (omega arith, omega (arith, ids));
    }
      where
        opens : (file : ℕ) (g : open_file.Handle) → lookup (is_at (nat_cmp file)) handles.entries ≡ Some g → IsLive s.tree g.node.0 × (file < s.next + 1) × (g.node.0 ≡ 0 → g.delete_on_close ≡ false)
        opens file g is = by (is_at (nat_cmp s.next) file) refl (sym (looked file) ∙ is)
          where
            by : (b : Bool) → is_at (nat_cmp s.next) file ≡ b → cond b (Some h) (kept_handle s file) ≡ Some g → IsLive s.tree g.node.0 × (file < s.next + 1) × (g.node.0 ≡ 0 → g.delete_on_close ≡ false)
            by true t e =
                let one : file ≡ s.next = at_same s.next file t in
                subst (λ (k : open_file.Handle). IsLive s.tree k.node.0 × (file < s.next + 1) × (k.node.0 ≡ 0 → k.delete_on_close ≡ false)) (same_Some h g e) (live, omega (arith, one), root)
            by false t e = let was = sound.opened file g e in let low : file < s.next = was.1 in (was.0, omega (arith, low), was.2)

        uses : (k : ℕ) → IsLive s.tree k → (state_of states k).uses ≡ uses_of (uses_on k handles.entries)
        uses k lives =
            ap (λ (x : NodeState). x.uses) (state_is k) ∙ by (n == k) refl
            ∙ ap (λ u. cond (n == k) (more (use_by h) u) u) (sound.uses k lives)
            ∙ sym (on_inserted k s.next h s.handles.entries absent)
            ∙ ap (λ (es : List (ℕ × open_file.Handle)). uses_of (uses_on k es)) (sym entries)
          where
            by : (b : Bool) → (n == k) ≡ b → (cond (n == k) st (state_of s.states k)).uses ≡ cond (n == k) (more (use_by h) (state_of s.states k).uses) (state_of s.states k).uses
            by true t =
                ap (λ b. (cond b st (state_of s.states k)).uses) t ∙ ap (λ (m : ℕ). more (use_by h) (state_of s.states m).uses) (eqb-true n k t)
                ∙ sym (ap (λ b. cond b (more (use_by h) (state_of s.states k).uses) (state_of s.states k).uses) t)
            by false t = ap (λ b. (cond b st (state_of s.states k)).uses) t ∙ sym (ap (λ b. cond b (more (use_by h) (state_of s.states k).uses) (state_of s.states k).uses) t)

        home : (held : Held) → option_map (λ (g : open_file.Handle). g.node.0) (kept_handle s held.file) ≡ Some held.node → option_map (λ (g : open_file.Handle). g.node.0) (lookup (is_at (nat_cmp held.file)) handles.entries) ≡ Some held.node
        home held is = ap (option_map (λ (g : open_file.Handle). g.node.0)) (looked held.file) ∙ by (is_at (nat_cmp s.next) held.file) refl
          where
            by : (b : Bool) → is_at (nat_cmp s.next) held.file ≡ b → option_map (λ (g : open_file.Handle). g.node.0) (cond b (Some h) (kept_handle s held.file)) ≡ Some held.node
            by true t =
                let one : held.file ≡ s.next = at_same s.next held.file t in
                absurd (none-some held.node (sym (ap (λ (k : ℕ). option_map (λ (g : open_file.Handle). g.node.0) (kept_handle s k)) one ∙ ap (option_map (λ (g : open_file.Handle). g.node.0)) absent) ∙ is))
            by false t = is

        there : (b : Bool) (o : Option open_file.Handle) → IsSome o → is_some (cond b (Some h) o) ≡ true
        there true o e = refl
        there false o e = e

    pub opened_drive : drive_of with_handle ≡ with_new_handle (drive_of s) (new_handle asked (own_path s.tree n))
    opened_drive = λ i. record {
      naming = s.naming;
      label = s.label;
      limited = true;
      nodes = in_order s.tree.naming (map (λ (e : ℕ × Place). same e i) s.tree.list);
      handles = (ap (map (seen_entry s.tree)) entries ∙ sym (inserted_seen s.tree s.next h s.handles.entries)) i;
      locks = (drive_of s).locks;
      waiting = (drive_of s).waiting;
      next = s.next + 1;
    }
      where
        same : (e : ℕ × Place) → node_of states e ≡ node_of s.states e
        same e = each (λ m x. node_with x e.1 ≡ node_with (state_of s.states m) e.1) e.0 refl (λ is. ap (λ (m : ℕ). node_with (state_of s.states m) e.1) is)
