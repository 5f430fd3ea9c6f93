-- A request that waits, gone through: it waits on, or it ends, and the drive stays sound.
use Rattle.std.proofs.Common.{◌≡◌, ◌∙◌, refl, sym, ap, subst, ℕ, ◌+◌, ◌-◌, ◌==◌, ◌<◌, ◌≤◌, Bool, true, false, not, ◌&&◌, cond, List, [], ◌∷◌, ◌++◌, length, map, take, drop, fold, get_or, suc, sum_by, find, Option, Some, None, Vec, Global, vec_capacity, arith, add-one, length-append}
use Rattle.std.specs.List.{AllByRecursion, remove}
use Rattle.std.specs.Option.{option_map, option_map_or, unwrap_or, is_some, IsSome, IfSome}
use Rattle.std.proofs.lemmas.List.{map-append, length-take-le, take_all, length-drop}
use Rattle.std.proofs.lemmas.List.Sums.{sum_by-remove}
use Rattle.std.proofs.Math.Seq.{drop-cons, take-suc, take-append_seam, drop-append_seam}
use Rattle.std.proofs.lemmas.Bool.{eqb-true, eq-eqb}
use Rattle.std.proofs.Math.Bool.{and-false}
use Rattle.rd_irp.specs.declared.op.Range.{Range}
use Rattle.rd_irp.specs.declared.completion.Reply.{Reply}
use Rattle.rd_irp.specs.declared.completion.Body.TheVariants.{Buffer, Locked}
use Rattle.rd_dirinfo.specs.Paths.{Names, is_same_path}
use Rattle.rd_locks.specs.declared.held.Held.{Held}
use Rattle.rd_locks.specs.Locks as held
use Rattle.rd_locks.specs.Locks.{LockList, conflict}
use Rattle.rd_tree.specs.declared.node.NodeId.{NodeId}
use Rattle.rd_tree.specs.Places.{own_path, IsLive}
use Rattle.rd_tree.proofs.WayLemmas.{same_true}
use Rattle.rd_drive.specs.declared.handle.Handle as kept
use Rattle.rd_drive.specs.declared.waiting.Wish.{Wish}
use Rattle.rd_drive.specs.declared.waiting.Wish.TheVariants as kept_wish
use Rattle.rd_drive.specs.declared.waiting.Waiting as kept_waiting
use Rattle.rd_drive.specs.declared.store.Store.{Store}
use Rattle.rd_drive.specs.declared.news.News as told_news
use Rattle.rd_drive.specs.declared.step.End.{End}
use Rattle.rd_drive.specs.DriveState as drive
use Rattle.rd_drive.specs.DriveState.{DriveState, open_path}
use Rattle.rd_drive.specs.Outcome as outcome
use Rattle.rd_drive.specs.Outcome.{done}
use Rattle.rd_drive.specs.Locking.{asked_locks, conflicts, locks_on, with_locks}
use Rattle.rd_drive.specs.Stepped.{Settled}
use Rattle.rd_drive.specs.Waiting.{change_bytes, closing_reply, ends_with, is_told, is_tried, settles, settles_open, waits_on}
use Rattle.rd_drive.specs.Settling.{is_closed_file, settled_from, settled_to, IsHalfway, SettlesAt}
use Rattle.rd_drive.specs.Telling.{tells}
use Rattle.rd_drive.specs.Store.{changes_of, drive_of, kept_handle, lock_of, news_of, wish_ranges, waiting_of, wish_of, HasRoom, IsSound}
use Rattle.rd_drive.proofs.AllLemmas.{all_append, all_at, all_both, all_drop, all_take}
use Rattle.rd_drive.proofs.LockLemmas.{alike, lock_path}
use Rattle.rd_drive.proofs.ConflictLemmas.{IsHome, wanted_seen}
use Rattle.rd_drive.proofs.LockingLemmas.{blocked_seen, more_homes}

-- ---- the request at a place

module _ (s : Store) (news : told_news.News) (at : ℕ) (half : IsHalfway s news at) (w : kept_waiting.Waiting) (within : at < length s.waiting.items) (next : w ≡ get_or s.waiting.items at w) where
  abbrev ws : List kept_waiting.Waiting
  ws = s.waiting.items

  abbrev told : outcome.News
  told = news_of s.tree news

  front : drop at ws ≡ w ∷ drop (suc at) ws
  front = drop-cons ws at w within ∙ ap (λ (v : kept_waiting.Waiting). v ∷ drop (suc at) ws) (sym next)

  before : take (at + 1) ws ≡ take at ws ++ w ∷ []
  before = ap (λ n. take n ws) (add-one at) ∙ take-suc ws at w within ∙ ap (λ (v : kept_waiting.Waiting). take at ws ++ v ∷ []) (sym next)

  -- what the news does to it, and then to the others
  goes : (ends : List End) → settled_from s news at ends ≡ fold (settles told) (settles told (settled_to s at ends) (waiting_of w)) (map waiting_of (drop (suc at) ws))
  goes ends = ap (λ (l : List kept_waiting.Waiting). fold (settles told) (settled_to s at ends) (map waiting_of l)) front

  pub has_room : HasRoom w.wish
  has_room = (all_at (λ (v : kept_waiting.Waiting). (is_closed_file news.closed v.file ≡ false → IsSome (kept_handle s v.file)) × HasRoom v.wish) at ws (drop (suc at) ws) w front half.sound.waits).1

  pub has_handle : is_closed_file news.closed w.file ≡ false → IsSome (kept_handle s w.file)
  has_handle = (all_at (λ (v : kept_waiting.Waiting). (is_closed_file news.closed v.file ≡ false → IsSome (kept_handle s v.file)) × HasRoom v.wish) at ws (drop (suc at) ws) w front half.sound.waits).0

  summed : sum_by (λ (v : kept_waiting.Waiting). wish_ranges v.wish) (remove ws at) + wish_ranges w.wish ≡ s.locks.reserved
  summed =
      ap (λ (v : kept_waiting.Waiting). sum_by (λ (u : kept_waiting.Waiting). wish_ranges u.wish) (remove ws at) + wish_ranges v.wish) next
      ∙ sum_by-remove (λ (v : kept_waiting.Waiting). wish_ranges v.wish) ws at w within ∙ sym half.sound.reserved

  -- its places are reserved
  pub reserved_enough : wish_ranges w.wish ≤ s.locks.reserved
  reserved_enough = omega (arith, summed)

  -- ---- it waits on

  pub goes_on : is_closed_file news.closed w.file ≡ false → ((ends : List End) → settles told (settled_to s at ends) (waiting_of w) ≡ waits_on (settled_to s at ends) (waiting_of w)) → SettlesAt s s news at None
  goes_on stays on = (
    refl,
    record {
      sound = half.sound;
      heard = half.heard;
      opened = subst (AllByRecursion (λ (v : kept_waiting.Waiting). is_closed_file news.closed v.file ≡ false)) (sym before) (all_append _ (take at ws) (w ∷ []) half.opened (stays, tt));
    },
    λ ends.
        (λ i. fold (settles told) (record { state = record (drive_of s) { waiting = (ap (map waiting_of) before ∙ map-append waiting_of (take at ws) (w ∷ [])) i }; ends = ends }) (map waiting_of (drop (add-one at i) ws)))
        ∙ ap (λ (t : Settled DriveState). fold (settles told) t (map waiting_of (drop (suc at) ws))) (sym (on ends))
        ∙ sym (goes ends),
  )

  -- ---- it ends

  module _ (locks : LockList) (v : Vec kept_waiting.Waiting Global) (items : v.items ≡ remove ws at) (room : vec_capacity v ≡ vec_capacity s.waiting) where
    abbrev pub after : Store
    after = record s { locks = locks; waiting = v }

    long : length (take at ws) ≡ at
    long = length-take-le at ws (omega arith)

    after_before : take at v.items ≡ take at ws
    after_before = ap (take at) items ∙ ap (λ n. take n (take at ws ++ drop (suc at) ws)) (sym long) ∙ take-append_seam (take at ws) (drop (suc at) ws)

    after_behind : drop at v.items ≡ drop (suc at) ws
    after_behind = ap (drop at) items ∙ ap (λ n. drop n (take at ws ++ drop (suc at) ws)) (sym long) ∙ drop-append_seam (take at ws) (drop (suc at) ws)

    fewer : length v.items + 1 ≡ length ws
    fewer = omega (arith, ap length items, length-append (take at ws) (drop (suc at) ws), long, length-drop (suc at) ws)

    pub goes_out : locks.reserved ≡ s.locks.reserved - wish_ranges w.wish → AllByRecursion (IsHome s) locks.locks → (end : End)
        → ((ends : List End) → settles told (settled_to s at ends) (waiting_of w) ≡ record { state = record (drive_of s) { locks = map lock_of locks.locks; waiting = map waiting_of (take at ws) }; ends = ends ++ end ∷ [] })
        → SettlesAt s after news at (Some end)
    goes_out left homes end out = (
      record {
        sound = record {
          whole = half.sound.whole;
          naming = half.sound.naming;
          label = half.sound.label;
          states = half.sound.states;
          root = half.sound.root;
          fitting = half.sound.fitting;
          opened = half.sound.opened;
          uses = half.sound.uses;
          locked = homes;
          waits = subst (AllByRecursion (λ (u : kept_waiting.Waiting). (is_closed_file news.closed u.file ≡ false → IsSome (kept_handle s u.file)) × HasRoom u.wish)) (sym items)
              (all_append _ (take at ws) (drop (suc at) ws) (all_take _ at ws half.sound.waits) (all_drop _ (suc at) ws half.sound.waits));
          reserved = left ∙ less ∙ ap (sum_by (λ (u : kept_waiting.Waiting). wish_ranges u.wish)) (sym items);
          few = (half.sound.few.0, omega (arith, fewer, half.sound.few.1), omega (arith, room, half.sound.few.2));
          ids = half.sound.ids;
        };
        heard = half.heard;
        opened = subst (AllByRecursion (λ (u : kept_waiting.Waiting). is_closed_file news.closed u.file ≡ false)) (sym after_before) half.opened;
      },
      fewer,
      λ ends.
          (λ i. fold (settles told) (record { state = record (drive_of s) { locks = map lock_of locks.locks; waiting = map waiting_of (after_before i) }; ends = ends ++ end ∷ [] }) (map waiting_of (after_behind i)))
          ∙ ap (λ (t : Settled DriveState). fold (settles told) t (map waiting_of (drop (suc at) ws))) (sym (out ends))
          ∙ sym (goes ends),
    )
      where
        less : s.locks.reserved - wish_ranges w.wish ≡ sum_by (λ (u : kept_waiting.Waiting). wish_ranges u.wish) (remove ws at)
        less = omega (arith, summed)

  -- ---- its file id was closed

  closed_ends : is_closed_file news.closed w.file ≡ true → (ends : List End) → settles told (settled_to s at ends) (waiting_of w) ≡ ends_with (settled_to s at ends) (settled_to s at ends).state (waiting_of w) (closing_reply (wish_of w.wish))
  closed_ends closed ends = ap (λ b. cond b (ends_with (settled_to s at ends) (settled_to s at ends).state (waiting_of w) (closing_reply (wish_of w.wish))) (settles_open told (settled_to s at ends) (waiting_of w) (unwrap_or (open_path (drive_of s) w.file) []) (wish_of w.wish))) closed

  pub settles_closed : is_closed_file news.closed w.file ≡ true → (locks : LockList) → locks ≡ record s.locks { reserved = s.locks.reserved - wish_ranges w.wish } → (v : Vec kept_waiting.Waiting Global) → v.items ≡ remove ws at → vec_capacity v ≡ vec_capacity s.waiting
      → (reply : Reply) → reply ≡ closing_reply (wish_of w.wish) → SettlesAt s (record s { locks = locks; waiting = v }) news at (Some (record { key = w.key; reply = reply }))
  settles_closed closed locks given v items room reply is =
      goes_out locks v items room (ap (λ (l : LockList). l.reserved) given) (subst (λ (l : LockList). AllByRecursion (IsHome s) l.locks) (sym given) half.sound.locked) (record { key = w.key; reply = reply })
      (λ ends. closed_ends closed ends
      ∙ (λ i. record { state = record (drive_of s) { locks = map lock_of (sym (ap (λ (l : LockList). l.locks) given) i); waiting = map waiting_of (take at ws) }; ends = ends ++ record { key = w.key; reply = sym is i } ∷ [] }))

  -- ---- its file id is open

  module _ (stays : is_closed_file news.closed w.file ≡ false) (n : ℕ) (live : IsLive s.tree n) (opened : option_map (λ (h : kept.Handle). h.node.0) (kept_handle s w.file) ≡ Some n) where
    path_is : open_path (drive_of s) w.file ≡ Some (own_path s.tree n)
    path_is = lock_path s half.sound n live (record { node = n; file = w.file; exclusive = false; range = record { offset = 0; length = 0 } }) opened

    open_goes : (wish : Wish) → w.wish ≡ wish → (ends : List End) → settles told (settled_to s at ends) (waiting_of w) ≡ settles_open told (settled_to s at ends) (waiting_of w) (own_path s.tree n) (wish_of wish)
    open_goes wish is ends =
        ap (λ b. cond b (ends_with (settled_to s at ends) (settled_to s at ends).state (waiting_of w) (closing_reply (wish_of w.wish))) (settles_open told (settled_to s at ends) (waiting_of w) (unwrap_or (open_path (drive_of s) w.file) []) (wish_of w.wish))) stays
        ∙ (λ i. settles_open told (settled_to s at ends) (waiting_of w) (unwrap_or (path_is i) []) (wish_of (is i)))

    -- whether its file may have fewer locks
    tried_seen : is_tried (drive_of s) told (own_path s.tree n) ≡ option_map_or (λ (other : NodeId). other.0 == n) news.unlocked false
    tried_seen = by news.unlocked half.heard.0
      where
        by : (o : Option NodeId) → IfSome o (λ (node : NodeId). IsLive s.tree node.0)
            → option_map_or (λ (p : Names). is_same_path s.naming p (own_path s.tree n)) (option_map (λ (node : NodeId). own_path s.tree node.0) o) false ≡ option_map_or (λ (other : NodeId). other.0 == n) o false
        by None heard = refl
        by (Some node) heard =
            ap (λ naming. is_same_path naming (own_path s.tree node.0) (own_path s.tree n)) (sym half.sound.naming)
            ∙ alike (is_same_path s.tree.naming (own_path s.tree node.0) (own_path s.tree n)) (node.0 == n)
            (λ e. eq-eqb node.0 n (half.sound.whole.apart node.0 n heard live e))
            (λ e. ap (λ (m : ℕ). is_same_path s.tree.naming (own_path s.tree m) (own_path s.tree n)) (eqb-true node.0 n e) ∙ same_true s.tree.naming (own_path s.tree n) (own_path s.tree n) refl)

    module _ (exclusive : Bool) (ranges : List Range) (wish : w.wish ≡ kept_wish.Ranges exclusive ranges) where
      abbrev held_wanted : List Held
      held_wanted = held.wanted_locks n w.file exclusive ranges

      blocked : (ends : List End) → conflicts (locks_on (settled_to s at ends).state (own_path s.tree n)) (asked_locks w.file exclusive ranges) ≡ is_some (conflict s.locks.locks held_wanted)
      blocked ends = blocked_seen s half.sound n live w.file exclusive ranges

      pub settles_untried : option_map_or (λ (other : NodeId). other.0 == n) news.unlocked false ≡ false → SettlesAt s s news at None
      settles_untried untried =
          goes_on stays (λ ends. open_goes (kept_wish.Ranges exclusive ranges) wish ends
          ∙ ap (λ b. cond (b && not (conflicts (locks_on (settled_to s at ends).state (own_path s.tree n)) (asked_locks w.file exclusive ranges)))
          (ends_with (settled_to s at ends) (with_locks (settled_to s at ends).state (asked_locks w.file exclusive ranges)) (waiting_of w) (done Locked)) (waits_on (settled_to s at ends) (waiting_of w))) (tried_seen ∙ untried))

      pub settles_blocked : (lock : Held) → conflict s.locks.locks held_wanted ≡ Some lock → SettlesAt s s news at None
      settles_blocked lock way =
          goes_on stays (λ ends. open_goes (kept_wish.Ranges exclusive ranges) wish ends
          ∙ ap (λ b. cond (is_tried (drive_of s) told (own_path s.tree n) && not b)
          (ends_with (settled_to s at ends) (with_locks (settled_to s at ends).state (asked_locks w.file exclusive ranges)) (waiting_of w) (done Locked)) (waits_on (settled_to s at ends) (waiting_of w))) (blocked ends ∙ ap is_some way)
          ∙ ap (λ b. cond b (ends_with (settled_to s at ends) (with_locks (settled_to s at ends).state (asked_locks w.file exclusive ranges)) (waiting_of w) (done Locked)) (waits_on (settled_to s at ends) (waiting_of w)))
          (and-false (is_tried (drive_of s) told (own_path s.tree n))))

      pub settles_granted : option_map_or (λ (other : NodeId). other.0 == n) news.unlocked false ≡ true → conflict s.locks.locks held_wanted ≡ None
          → (locks : LockList) → locks ≡ record { locks = s.locks.locks ++ held_wanted; reserved = s.locks.reserved - length ranges }
          → (v : Vec kept_waiting.Waiting Global) → v.items ≡ remove ws at → vec_capacity v ≡ vec_capacity s.waiting
          → (reply : Reply) → reply ≡ done Locked → SettlesAt s (record s { locks = locks; waiting = v }) news at (Some (record { key = w.key; reply = reply }))
      settles_granted yes_tried free locks given v items room reply is =
          goes_out locks v items room (ap (λ (l : LockList). l.reserved) given ∙ ap (λ (o : Wish). s.locks.reserved - wish_ranges o) (sym wish))
          (subst (λ (l : LockList). AllByRecursion (IsHome s) l.locks) (sym given) (more_homes s n w.file exclusive ranges opened s.locks.locks half.sound.locked))
          (record { key = w.key; reply = reply })
          (λ ends. open_goes (kept_wish.Ranges exclusive ranges) wish ends
          ∙ (λ i. cond ((tried_seen ∙ yes_tried) i && not ((blocked ends ∙ ap is_some free) i))
          (ends_with (settled_to s at ends) (with_locks (settled_to s at ends).state (asked_locks w.file exclusive ranges)) (waiting_of w) (done Locked)) (waits_on (settled_to s at ends) (waiting_of w)))
          ∙ (λ i. record { state = record (drive_of s) { locks = sym taken i; waiting = map waiting_of (take at ws) }; ends = ends ++ record { key = w.key; reply = sym is i } ∷ [] }))
        where
          taken : map lock_of locks.locks ≡ map lock_of s.locks.locks ++ asked_locks w.file exclusive ranges
          taken =
              ap (λ (l : LockList). map lock_of l.locks) given ∙ map-append lock_of s.locks.locks held_wanted
              ∙ ap (λ (ls : List drive.Lock). map lock_of s.locks.locks ++ ls) (wanted_seen n w.file exclusive ranges)

    module _ (deep : Bool) (filter : ℕ) (box : Vec ℕ Global) (wish : w.wish ≡ kept_wish.Change deep filter box) where
      abbrev tell : outcome.Change → Bool
      tell = tells s.tree.naming (own_path s.tree n) deep filter

      found_seen : find (is_told (drive_of s) (own_path s.tree n) deep filter) (changes_of s.tree news.changes) ≡ find tell (changes_of s.tree news.changes)
      found_seen = ap (λ naming. find (tells naming (own_path s.tree n) deep filter) (changes_of s.tree news.changes)) (sym half.sound.naming)

      change_goes : (ends : List End) → settles told (settled_to s at ends) (waiting_of w)
          ≡ option_map_or (λ (change : outcome.Change). ends_with (settled_to s at ends) (settled_to s at ends).state (waiting_of w) (done (Buffer (change_bytes (own_path s.tree n) change)))) (find tell (changes_of s.tree news.changes)) (waits_on (settled_to s at ends) (waiting_of w))
      change_goes ends =
          open_goes (kept_wish.Change deep filter box) wish ends
          ∙ ap (λ (o : Option outcome.Change). option_map_or (λ (change : outcome.Change). ends_with (settled_to s at ends) (settled_to s at ends).state (waiting_of w) (done (Buffer (change_bytes (own_path s.tree n) change)))) o (waits_on (settled_to s at ends) (waiting_of w))) found_seen

      pub settles_untold : find tell (changes_of s.tree news.changes) ≡ None → SettlesAt s s news at None
      settles_untold none =
          goes_on stays (λ ends. change_goes ends
          ∙ ap (λ (o : Option outcome.Change). option_map_or (λ (change : outcome.Change). ends_with (settled_to s at ends) (settled_to s at ends).state (waiting_of w) (done (Buffer (change_bytes (own_path s.tree n) change)))) o (waits_on (settled_to s at ends) (waiting_of w))) none)

      pub settles_told : (change : outcome.Change) → find tell (changes_of s.tree news.changes) ≡ Some change
          → (v : Vec kept_waiting.Waiting Global) → v.items ≡ remove ws at → vec_capacity v ≡ vec_capacity s.waiting
          → (reply : Reply) → reply ≡ done (Buffer (change_bytes (own_path s.tree n) change)) → SettlesAt s (record s { waiting = v }) news at (Some (record { key = w.key; reply = reply }))
      settles_told change found v items room reply is =
          goes_out s.locks v items room (omega arith ∙ ap (λ (o : Wish). s.locks.reserved - wish_ranges o) (sym wish)) half.sound.locked (record { key = w.key; reply = reply })
          (λ ends. change_goes ends
          ∙ ap (λ (o : Option outcome.Change). option_map_or (λ (other : outcome.Change). ends_with (settled_to s at ends) (settled_to s at ends).state (waiting_of w) (done (Buffer (change_bytes (own_path s.tree n) other)))) o (waits_on (settled_to s at ends) (waiting_of w))) found
          ∙ (λ i. record { state = (settled_to s at ends).state; ends = ends ++ record { key = w.key; reply = sym is i } ∷ [] }))

-- ---- all are gone through

module _ (s : Store) (news : told_news.News) (at : ℕ) (past : length s.waiting.items ≤ at) where
  -- each has its handle
  pub all_open : IsHalfway s news at → IsSound s
  all_open half = record {
    whole = half.sound.whole;
    naming = half.sound.naming;
    label = half.sound.label;
    states = half.sound.states;
    root = half.sound.root;
    fitting = half.sound.fitting;
    opened = half.sound.opened;
    uses = half.sound.uses;
    locked = half.sound.locked;
    waits = all_both (λ (w : kept_waiting.Waiting). is_closed_file news.closed w.file ≡ false) (λ (w : kept_waiting.Waiting). (is_closed_file news.closed w.file ≡ false → IsSome (kept_handle s w.file)) × HasRoom w.wish)
        (λ (w : kept_waiting.Waiting). (is_closed_file None w.file ≡ false → IsSome (kept_handle s w.file)) × HasRoom w.wish) s.waiting.items (λ w stays has. ((λ e. has.0 stays), has.1))
        (subst (AllByRecursion (λ (w : kept_waiting.Waiting). is_closed_file news.closed w.file ≡ false)) (take_all at s.waiting.items past) half.opened) half.sound.waits;
    reserved = half.sound.reserved;
    few = half.sound.few;
    ids = half.sound.ids;
  }
