-- A request that waits, gone through: it waits on, or it ends, and the table stays sound.
use Rattle.std.proofs.Common.{◌≡◌, ◌∙◌, refl, sym, ap, subst, ℕ, ◌+◌, ◌-◌, ◌<◌, ◌≤◌, Bool, true, false, not, ◌&&◌, cond, List, [], ◌∷◌, ◌++◌, length, map, take, drop, fold, get_or, suc, sum_by, find, Option, Some, None, Vec, Global, vec_capacity, arith, add-one, length-append}
use Rattle.std.specs.List.{AllByRecursion, remove}
use Rattle.std.specs.Option.{option_map, option_map_or, unwrap_or, is_some, IsSome, IfSome}
use Rattle.std.proofs.lemmas.List.{map-append, length-take-le, take_all, length-drop}
use Rattle.std.proofs.lemmas.List.Sums.{sum_by-remove}
use Rattle.std.proofs.Math.Seq.{drop-cons, take-suc, take-append_seam, drop-append_seam}
use Rattle.std.proofs.Math.Bool.{and-false}
use Rattle.std.proofs.Math.ListN.{drop_of_length-le}
use Rattle.rd_irp.specs.declared.op.Range.{Range}
use Rattle.rd_irp.specs.declared.completion.Reply.{Reply}
use Rattle.rd_irp.specs.declared.completion.Body.TheVariants.{Buffer, Locked}
use Rattle.rd_dirinfo.specs.declared.naming.Naming.TheVariants.{Exact}
use Rattle.rd_dirinfo.specs.Paths.{Names, is_same_path}
use Rattle.rd_locks.specs.declared.held.Held.{Held}
use Rattle.rd_locks.specs.Locks as held
use Rattle.rd_locks.specs.Locks.{LockList, conflict}
use Rattle.rd_drive.specs.declared.step.End.{End}
use Rattle.rd_drive.specs.declared.waiting.Wish.{Wish}
use Rattle.rd_drive.specs.declared.waiting.Wish.TheVariants as kept_wish
use Rattle.rd_drive.specs.declared.waiting.Waiting as kept_waiting
use Rattle.rd_drive.specs.DriveState as drive
use Rattle.rd_drive.specs.DriveState.{DriveState, Node, open_path}
use Rattle.rd_drive.specs.Locking.{asked_locks, conflicts, locks_on, with_locks}
use Rattle.rd_drive.specs.Outcome as outcome
use Rattle.rd_drive.specs.Outcome.{done}
use Rattle.rd_drive.specs.Settling.{is_closed_file}
use Rattle.rd_drive.specs.Store.{HasRoom, lock_of, waiting_of, wish_of, wish_ranges}
use Rattle.rd_drive.specs.Stepped.{Settled}
use Rattle.rd_drive.specs.Telling.{tells}
use Rattle.rd_drive.specs.Waiting.{change_bytes, closing_reply, ends_with, is_tried, settles, settles_open, waits_on}
use Rattle.rd_drive.proofs.AllLemmas.{all_append, all_at, all_both, all_drop, all_take}
use Rattle.rd_drive.proofs.ConflictLemmas.{wanted_seen}
use Rattle.rd_folder.proofs.ExactLemmas.{exact_apart}
use Rattle.rd_folder_drive.specs.declared.news.Named.{Named}
use Rattle.rd_folder_drive.specs.declared.news.Named.TheVariants as named
use Rattle.rd_folder_drive.specs.declared.news.News as told_news
use Rattle.rd_folder_drive.specs.declared.open.Open.{Open}
use Rattle.rd_folder_drive.specs.declared.table.Table.{Table}
use Rattle.rd_folder_drive.specs.Served.{IsTried, changes_of, is_of_number, named_path, news_of}
use Rattle.rd_folder_drive.specs.Settling.{IsHalfway, SettlesAt, settled_from, settled_to}
use Rattle.rd_folder_drive.specs.Table.{IsSound, drive_of, kept_handle, open_at, path_at}
use Rattle.rd_folder_drive.proofs.BesideLemmas.{IsWaiting, beside, beside_sound}
use Rattle.rd_folder_drive.proofs.LockLemmas.{IsHome, home_path, open_home, same_number}
use Rattle.rd_folder_drive.proofs.LockingLemmas.{Opens, blocked_seen, more_homes}

-- ---- the request at a place

module _ (t : Table) (news : told_news.News) (at : ℕ) (half : IsHalfway t news at) (w : kept_waiting.Waiting) (within : at < length t.waiting.items) (next : w ≡ get_or t.waiting.items at w) where
  abbrev pub ws : List kept_waiting.Waiting
  ws = t.waiting.items

  abbrev told : outcome.News
  told = news_of t news

  front : drop at ws ≡ w ∷ drop (suc at) ws
  front = drop-cons ws at w within ∙ ap (λ (v : kept_waiting.Waiting). v ∷ drop (suc at) ws) (sym next)

  before : take (at + 1) ws ≡ take at ws ++ w ∷ []
  before = ap (λ n. take n ws) (add-one at) ∙ take-suc ws at w within ∙ ap (λ (v : kept_waiting.Waiting). take at ws ++ v ∷ []) (sym next)

  -- what the news does to it, and then to the others
  goes : (nodes : List Node) (ends : List End) → settled_from t news nodes at ends ≡ fold (settles told) (settles told (settled_to t nodes at ends) (waiting_of w)) (map waiting_of (drop (suc at) ws))
  goes nodes ends = ap (λ (l : List kept_waiting.Waiting). fold (settles told) (settled_to t nodes at ends) (map waiting_of l)) front

  is_waiting : IsWaiting news.closed t w
  is_waiting = all_at (IsWaiting news.closed t) at ws (drop (suc at) ws) w front half.sound.waits

  pub has_room : HasRoom w.wish
  has_room = is_waiting.1

  summed : sum_by (λ (v : kept_waiting.Waiting). wish_ranges v.wish) (remove ws at) + wish_ranges w.wish ≡ t.locks.reserved
  summed =
      ap (λ (v : kept_waiting.Waiting). sum_by (λ (u : kept_waiting.Waiting). wish_ranges u.wish) (remove ws at) + wish_ranges v.wish) next
      ∙ sum_by-remove (λ (v : kept_waiting.Waiting). wish_ranges v.wish) ws at w within ∙ sym half.sound.reserved

  -- ---- it waits on

  pub goes_on : is_closed_file news.closed w.file ≡ false → ((nodes : List Node) (ends : List End) → settles told (settled_to t nodes at ends) (waiting_of w) ≡ waits_on (settled_to t nodes at ends) (waiting_of w)) → SettlesAt t t news at None
  goes_on stays on = (
    refl,
    record {
      sound = half.sound;
      heard = half.heard;
      opened = subst (AllByRecursion (λ (v : kept_waiting.Waiting). is_closed_file news.closed v.file ≡ false)) (sym before) (all_append _ (take at ws) (w ∷ []) half.opened (stays, tt));
    },
    λ nodes ends.
        (λ i. fold (settles told) (record { state = record (drive_of t nodes) { waiting = (ap (map waiting_of) before ∙ map-append waiting_of (take at ws) (w ∷ [])) i }; ends = ends }) (map waiting_of (drop (add-one at i) ws)))
        ∙ ap (λ (s : Settled DriveState). fold (settles told) s (map waiting_of (drop (suc at) ws))) (sym (on nodes ends))
        ∙ sym (goes nodes ends),
  )

  -- ---- it ends

  module _ (locks : LockList) (v : Vec kept_waiting.Waiting Global) (items : v.items ≡ remove ws at) (room : vec_capacity v ≡ vec_capacity t.waiting) where
    long : length (take at ws) ≡ at
    long = length-take-le at ws (omega arith)

    after_before : take at v.items ≡ take at ws
    after_before = ap (take at) items ∙ ap (λ n. take n (take at ws ++ drop (suc at) ws)) (sym long) ∙ take-append_seam (take at ws) (drop (suc at) ws)

    after_behind : drop at v.items ≡ drop (suc at) ws
    after_behind = ap (drop at) items ∙ ap (λ n. drop n (take at ws ++ drop (suc at) ws)) (sym long) ∙ drop-append_seam (take at ws) (drop (suc at) ws)

    fewer : length v.items + 1 ≡ length ws
    fewer = omega (arith, ap length items, length-append (take at ws) (drop (suc at) ws), long, length-drop (suc at) ws)

    less : t.locks.reserved - wish_ranges w.wish ≡ sum_by (λ (u : kept_waiting.Waiting). wish_ranges u.wish) (remove ws at)
    less = omega (arith, summed)

    pub goes_out : locks.reserved ≡ t.locks.reserved - wish_ranges w.wish → AllByRecursion (IsHome t) locks.locks → (end : End)
        → ((nodes : List Node) (ends : List End) → settles told (settled_to t nodes at ends) (waiting_of w) ≡ record { state = record (drive_of t nodes) { locks = map lock_of locks.locks; waiting = map waiting_of (take at ws) }; ends = ends ++ end ∷ [] })
        → SettlesAt t (beside t locks v) news at (Some end)
    goes_out left homes end out = (
      refl,
      record {
        sound = beside_sound t locks v half.sound news.closed homes
            (subst (AllByRecursion (IsWaiting news.closed t)) (sym items) (all_append (IsWaiting news.closed t) (take at ws) (drop (suc at) ws) (all_take _ at ws half.sound.waits) (all_drop _ (suc at) ws half.sound.waits)))
            (left ∙ less ∙ ap (sum_by (λ (u : kept_waiting.Waiting). wish_ranges u.wish)) (sym items))
            (omega (arith, fewer, half.sound.few.1))
            (omega (arith, room, half.sound.few.2));
        heard = half.heard;
        opened = subst (AllByRecursion (λ (u : kept_waiting.Waiting). is_closed_file news.closed u.file ≡ false)) (sym after_before) half.opened;
      },
      fewer,
      λ nodes ends.
          (λ i. fold (settles told) (record { state = record (drive_of t nodes) { locks = map lock_of locks.locks; waiting = map waiting_of (after_before i) }; ends = ends ++ end ∷ [] }) (map waiting_of (after_behind i)))
          ∙ ap (λ (s : Settled DriveState). fold (settles told) s (map waiting_of (drop (suc at) ws))) (sym (out nodes ends))
          ∙ sym (goes nodes ends),
    )

  -- ---- its file id was closed

  closed_ends : is_closed_file news.closed w.file ≡ true → (nodes : List Node) (ends : List End)
      → settles told (settled_to t nodes at ends) (waiting_of w) ≡ ends_with (settled_to t nodes at ends) (settled_to t nodes at ends).state (waiting_of w) (closing_reply (wish_of w.wish))
  closed_ends closed nodes ends =
      ap (λ b. cond b (ends_with (settled_to t nodes at ends) (settled_to t nodes at ends).state (waiting_of w) (closing_reply (wish_of w.wish))) (settles_open told (settled_to t nodes at ends) (waiting_of w) (unwrap_or (open_path (drive_of t nodes) w.file) []) (wish_of w.wish))) closed

  pub settles_closed : is_closed_file news.closed w.file ≡ true → (locks : LockList) → locks ≡ record t.locks { reserved = t.locks.reserved - wish_ranges w.wish } → (v : Vec kept_waiting.Waiting Global) → v.items ≡ remove ws at → vec_capacity v ≡ vec_capacity t.waiting
      → (reply : Reply) → reply ≡ closing_reply (wish_of w.wish) → SettlesAt t (beside t locks v) news at (Some (record { key = w.key; reply = reply }))
  settles_closed closed locks given v items room reply is =
      goes_out locks v items room (ap (λ (l : LockList). l.reserved) given) (subst (λ (l : LockList). AllByRecursion (IsHome t) l.locks) (sym given) half.sound.locked) (record { key = w.key; reply = reply })
      (λ nodes ends. closed_ends closed nodes ends
      ∙ (λ i. record { state = record (drive_of t nodes) { locks = map lock_of (sym (ap (λ (l : LockList). l.locks) given) i); waiting = map waiting_of (take at ws) }; ends = ends ++ record { key = w.key; reply = sym is i } ∷ [] }))

  -- ---- its file id is open

  module _ (stays : is_closed_file news.closed w.file ≡ false) (n : ℕ) (opens : Opens t n w.file) where
    on : IsSome (open_at t n)
    on = open_home t half.sound n w.file opens

    open_goes : (wish : Wish) → w.wish ≡ wish → (nodes : List Node) (ends : List End)
        → settles told (settled_to t nodes at ends) (waiting_of w) ≡ settles_open told (settled_to t nodes at ends) (waiting_of w) (path_at t n) (wish_of wish)
    open_goes wish is nodes ends =
        ap (λ b. cond b (ends_with (settled_to t nodes at ends) (settled_to t nodes at ends).state (waiting_of w) (closing_reply (wish_of w.wish))) (settles_open told (settled_to t nodes at ends) (waiting_of w) (unwrap_or (open_path (drive_of t nodes) w.file) []) (wish_of w.wish))) stays
        ∙ (λ i. settles_open told (settled_to t nodes at ends) (waiting_of w) (unwrap_or (home_path t half.sound nodes n w.file opens i) []) (wish_of (is i)))

    -- whether its file may have fewer locks
    tried_seen : (nodes : List Node) → is_tried (drive_of t nodes) told (path_at t n) ≡ option_map_or (is_of_number n) news.unlocked false
    tried_seen nodes = by news.unlocked half.heard.0
      where
        by : (o : Option Named) → IfSome o (IsTried t) → option_map_or (λ (p : Names). is_same_path Exact p (path_at t n)) (option_map (named_path t) o) false ≡ option_map_or (is_of_number n) o false
        by None heard = refl
        by (Some (named.Node m)) heard = same_number t half.sound m n heard on
        by (Some (named.Gone path)) heard = exact_apart path (path_at t n) (λ same. away (open_at t n) refl on same)
          where
            away : (o : Option Open) → open_at t n ≡ o → IsSome o → path ≡ option_map_or (λ (p : Open). p.path) o [] → ⊥
            away None e is same = absurd (cc)
            away (Some o) e is same = heard n o e (sym same)

    module _ (exclusive : Bool) (ranges : List Range) (wish : w.wish ≡ kept_wish.Ranges exclusive ranges) where
      abbrev held_wanted : List Held
      held_wanted = held.wanted_locks n w.file exclusive ranges

      -- what comes of it where it is tried, and none is in its way
      abbrev comes : (tried blocked : Bool) → List Node → List End → Settled DriveState
      comes tried blocked nodes ends =
          cond (tried && not blocked) (ends_with (settled_to t nodes at ends) (with_locks (settled_to t nodes at ends).state (asked_locks w.file exclusive ranges)) (waiting_of w) (done Locked)) (waits_on (settled_to t nodes at ends) (waiting_of w))

      blocked : (nodes : List Node) → conflicts (locks_on (drive_of t nodes) (path_at t n)) (asked_locks w.file exclusive ranges) ≡ is_some (conflict t.locks.locks held_wanted)
      blocked nodes = blocked_seen t half.sound nodes n on w.file exclusive ranges

      ranges_go : (nodes : List Node) (ends : List End) → settles told (settled_to t nodes at ends) (waiting_of w) ≡ comes (option_map_or (is_of_number n) news.unlocked false) (is_some (conflict t.locks.locks held_wanted)) nodes ends
      ranges_go nodes ends = open_goes (kept_wish.Ranges exclusive ranges) wish nodes ends ∙ (λ i. comes (tried_seen nodes i) (blocked nodes i) nodes ends)

      pub settles_untried : option_map_or (is_of_number n) news.unlocked false ≡ false → SettlesAt t t news at None
      settles_untried untried = goes_on stays (λ nodes ends. ranges_go nodes ends ∙ ap (λ b. comes b (is_some (conflict t.locks.locks held_wanted)) nodes ends) untried)

      pub settles_blocked : (lock : Held) → conflict t.locks.locks held_wanted ≡ Some lock → SettlesAt t t news at None
      settles_blocked lock way =
          goes_on stays (λ nodes ends. ranges_go nodes ends ∙ ap (λ (o : Option Held). comes (option_map_or (is_of_number n) news.unlocked false) (is_some o) nodes ends) way
          ∙ ap (λ b. cond b (ends_with (settled_to t nodes at ends) (with_locks (settled_to t nodes at ends).state (asked_locks w.file exclusive ranges)) (waiting_of w) (done Locked)) (waits_on (settled_to t nodes at ends) (waiting_of w)))
          (and-false (option_map_or (is_of_number n) news.unlocked false)))

      pub settles_granted : option_map_or (is_of_number n) news.unlocked false ≡ true → conflict t.locks.locks held_wanted ≡ None
          → (locks : LockList) → locks ≡ record { locks = t.locks.locks ++ held_wanted; reserved = t.locks.reserved - length ranges }
          → (v : Vec kept_waiting.Waiting Global) → v.items ≡ remove ws at → vec_capacity v ≡ vec_capacity t.waiting
          → (reply : Reply) → reply ≡ done Locked → SettlesAt t (beside t locks v) news at (Some (record { key = w.key; reply = reply }))
      settles_granted tried free locks given v items room reply is =
          goes_out locks v items room (ap (λ (l : LockList). l.reserved) given ∙ ap (λ (o : Wish). t.locks.reserved - wish_ranges o) (sym wish))
          (subst (λ (l : LockList). AllByRecursion (IsHome t) l.locks) (sym given) (more_homes t n w.file exclusive ranges opens t.locks.locks half.sound.locked))
          (record { key = w.key; reply = reply })
          (λ nodes ends. ranges_go nodes ends
          ∙ (λ i. comes (tried i) (is_some (free i)) nodes ends)
          ∙ (λ i. record { state = record (drive_of t nodes) { locks = sym taken i; waiting = map waiting_of (take at ws) }; ends = ends ++ record { key = w.key; reply = sym is i } ∷ [] }))
        where
          taken : map lock_of locks.locks ≡ map lock_of t.locks.locks ++ asked_locks w.file exclusive ranges
          taken =
              ap (λ (l : LockList). map lock_of l.locks) given ∙ map-append lock_of t.locks.locks held_wanted
              ∙ ap (λ (ls : List drive.Lock). map lock_of t.locks.locks ++ ls) (wanted_seen n w.file exclusive ranges)

    module _ (deep : Bool) (filter : ℕ) (box : Vec ℕ Global) (wish : w.wish ≡ kept_wish.Change deep filter box) where
      -- the first change that it is told
      abbrev found : Option outcome.Change
      found = find (tells Exact (path_at t n) deep filter) (changes_of t news.changes)

      -- what comes of it where this is the first
      abbrev comes_of : Option outcome.Change → List Node → List End → Settled DriveState
      comes_of first nodes ends =
          option_map_or (λ (change : outcome.Change). ends_with (settled_to t nodes at ends) (settled_to t nodes at ends).state (waiting_of w) (done (Buffer (change_bytes (path_at t n) change)))) first (waits_on (settled_to t nodes at ends) (waiting_of w))

      change_goes : (nodes : List Node) (ends : List End) → settles told (settled_to t nodes at ends) (waiting_of w) ≡ comes_of found nodes ends
      change_goes nodes ends = open_goes (kept_wish.Change deep filter box) wish nodes ends

      pub settles_untold : found ≡ None → SettlesAt t t news at None
      settles_untold none = goes_on stays (λ nodes ends. change_goes nodes ends ∙ ap (λ (o : Option outcome.Change). comes_of o nodes ends) none)

      pub settles_told : (change : outcome.Change) → found ≡ Some change
          → (v : Vec kept_waiting.Waiting Global) → v.items ≡ remove ws at → vec_capacity v ≡ vec_capacity t.waiting
          → (reply : Reply) → reply ≡ done (Buffer (change_bytes (path_at t n) change)) → SettlesAt t (beside t t.locks v) news at (Some (record { key = w.key; reply = reply }))
      settles_told change first v items room reply is =
          goes_out t.locks v items room (omega arith ∙ ap (λ (o : Wish). t.locks.reserved - wish_ranges o) (sym wish)) half.sound.locked (record { key = w.key; reply = reply })
          (λ nodes ends. change_goes nodes ends
          ∙ ap (λ (o : Option outcome.Change). comes_of o nodes ends) first
          ∙ (λ i. record { state = (settled_to t nodes at ends).state; ends = ends ++ record { key = w.key; reply = sym is i } ∷ [] }))

-- ---- all are gone through

module _ (t : Table) (news : told_news.News) (at : ℕ) (past : length t.waiting.items ≤ at) where
  -- each has its handle
  pub all_open : IsHalfway t news at → IsSound t
  all_open half =
      beside_sound t t.locks t.waiting half.sound None half.sound.locked
      (all_both (λ (w : kept_waiting.Waiting). is_closed_file news.closed w.file ≡ false) (IsWaiting news.closed t) (IsWaiting None t) t.waiting.items (λ w stays has. ((λ e. has.0 stays), has.1))
      (subst (AllByRecursion (λ (w : kept_waiting.Waiting). is_closed_file news.closed w.file ≡ false)) (take_all at t.waiting.items past) half.opened) half.sound.waits)
      half.sound.reserved half.sound.few.1 half.sound.few.2

  -- and nothing is left to be gone through
  pub all_settled : (nodes : List Node) (ends : List End) → settled_from t news nodes at ends ≡ record { state = drive_of t nodes; ends = ends }
  all_settled nodes ends =
      (λ i. fold (settles (news_of t news)) (record { state = record (drive_of t nodes) { waiting = map waiting_of (take_all at t.waiting.items past i) }; ends = ends }) (map waiting_of (drop_of_length-le t.waiting.items past i)))
