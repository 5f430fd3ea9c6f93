-- Locks that are wanted or let go of: what callers see of them, told apart by file ids, is what the locks of a number say.
use Rattle.std.proofs.Common.{◌≡◌, ◌∙◌, refl, sym, ap, subst, ℕ, ◌+◌, ◌==◌, Bool, true, false, not, ◌&&◌, ◌||◌, cond, List, [], ◌∷◌, ◌++◌, map, length, sum_by, Option, Some, None, Result, Ok, Err, find, filter}
use Rattle.std.specs.List.{list_any, AllByRecursion}
use Rattle.std.specs.Option.{option_map, option_or, unwrap_or, is_some}
use Rattle.std.proofs.lemmas.List.{length-map}
use Rattle.std.proofs.lemmas.List.Folds.{list_any-append}
use Rattle.std.proofs.lemmas.List.Sums.{sum_by-cons}
use Rattle.std.proofs.lemmas.Bool.{eqb-true, eq-eqb}
use Rattle.std.proofs.Math.Bool.{and_assoc}
use Rattle.rd_irp.specs.declared.op.Range.{Range}
use Rattle.rd_locks.specs.declared.held.Held.{Held}
use Rattle.rd_locks.specs.Locks as held
use Rattle.rd_locks.specs.Locks.{overlaps, conflict, unlocked, without_first}
use Rattle.rd_locks.proofs.StandingLemmas.{any-find}
use Rattle.rd_drive.specs.declared.handle.Handle as kept
use Rattle.rd_drive.specs.declared.waiting.Wish.{Wish}
use Rattle.rd_drive.specs.declared.waiting.Wish.TheVariants as kept_wish
use Rattle.rd_drive.specs.declared.waiting.Waiting as kept_waiting
use Rattle.rd_drive.specs.declared.store.Store.{Store}
use Rattle.rd_drive.specs.DriveState as drive
use Rattle.rd_drive.specs.Locking.{is_lock_in_way, conflicts, asked_locks, is_own_lock, without_lock, without_locks, range_count, lock_count}
use Rattle.rd_drive.specs.Store.{drive_of, kept_handle, lock_of, waiting_of, wish_of, wish_ranges, IsSoundBut}

-- a lock is on the node that its file id has open
abbrev pub IsHome : Store → Held → Type 0
IsHome s lock = option_map (λ (h : kept.Handle). h.node.0) (kept_handle s lock.file) ≡ Some lock.node

-- ---- what is in the way

some_or : (a b : Option Held) → is_some (option_or a b) ≡ (is_some a || is_some b)
some_or None b = refl
some_or (Some x) b = refl

-- of locks that pass a test exactly where those of a number do
abbrev AreAlike : ℕ → List drive.Lock → List Held → Type 0
AreAlike n locks l = (q : drive.Lock → Bool) → list_any q locks ≡ list_any (λ (lock : Held). lock.node == n && q (lock_of lock)) l

alike_more : (n : ℕ) (locks : List drive.Lock) (l : List Held) (lock : Held) → lock.node ≡ n → AreAlike n locks l → AreAlike n (locks ++ lock_of lock ∷ []) (l ++ lock ∷ [])
alike_more n locks l lock e same q =
    list_any-append q locks (lock_of lock ∷ [])
    ∙ (λ i. same q i || ((sym (eq-eqb lock.node n e) i && q (lock_of lock)) || false))
    ∙ sym (list_any-append (λ (other : Held). other.node == n && q (lock_of other)) l (lock ∷ []))

-- a lock is in the way of what is wanted on the file exactly where one is on its number
pub conflicts_seen : (n file : ℕ) (exclusive : Bool) (ranges : List Range) (locks : List drive.Lock) (l : List Held) → AreAlike n locks l
    → conflicts locks (asked_locks file exclusive ranges) ≡ is_some (conflict l (held.wanted_locks n file exclusive ranges))
conflicts_seen n file exclusive [] locks l same = refl
conflicts_seen n file exclusive (range ∷ ranges) locks l same =
    let wanted : drive.Lock = record { file = file; exclusive = exclusive; range = range } in
    let lock : Held = record { node = n; file = file; exclusive = exclusive; range = range } in
    let first : list_any (is_lock_in_way wanted) locks ≡ is_some (find (held.is_in_way lock) l) =
    same (is_lock_in_way wanted)
    ∙ ap (λ (q : Held → Bool). list_any q l) (λ i. λ (other : Held). sym (and_assoc (other.node == n) (overlaps range other.range) (exclusive || (other.exclusive && not (other.file == file)))) i)
    ∙ any-find (held.is_in_way lock) l in
    let others : conflicts (locks ++ wanted ∷ []) (asked_locks file exclusive ranges) ≡ is_some (conflict (l ++ lock ∷ []) (held.wanted_locks n file exclusive ranges)) =
    conflicts_seen n file exclusive ranges (locks ++ wanted ∷ []) (l ++ lock ∷ []) (alike_more n locks l lock refl same) in
    (λ i. first i || others i) ∙ sym (some_or (find (held.is_in_way lock) l) (conflict (l ++ lock ∷ []) (held.wanted_locks n file exclusive ranges)))

-- what is wanted, as callers see it
pub wanted_seen : (n file : ℕ) (exclusive : Bool) (ranges : List Range) → map lock_of (held.wanted_locks n file exclusive ranges) ≡ asked_locks file exclusive ranges
wanted_seen n file exclusive [] = refl
wanted_seen n file exclusive (range ∷ ranges) = ap (λ (ls : List drive.Lock). record { file = file; exclusive = exclusive; range = range } ∷ ls) (wanted_seen n file exclusive ranges)

-- ---- what is let go of

and_given : (a b c d : Bool) → (b ≡ true → a ≡ true) → ((b && c) && d) ≡ (((a && b) && c) && d)
and_given true b c d f = refl
and_given false true c d f = absurd (let e = f refl in (cc))
and_given false false c d f = refl

module _ (n file : ℕ) where
  -- a lock of the file id is on the number
  abbrev pub IsItsOwn : Held → Type 0
  IsItsOwn lock = lock.file ≡ file → lock.node ≡ n

  own_seen : (range : Range) (lock : Held) → IsItsOwn lock → is_own_lock file range (lock_of lock) ≡ held.is_lock_of n file range lock
  own_seen range lock own =
      and_given (lock.node == n) (lock.file == file) ((lock.range).offset == range.offset) ((lock.range).length == range.length)
      (λ e. eq-eqb lock.node n (own (eqb-true lock.file file e)))

  any_seen : (range : Range) (l : List Held) → AllByRecursion IsItsOwn l → list_any (is_own_lock file range) (map lock_of l) ≡ list_any (held.is_lock_of n file range) l
  any_seen range [] own = refl
  any_seen range (lock ∷ l) own = λ i. own_seen range lock own.0 i || any_seen range l own.1 i

  first_seen : (range : Range) (l : List Held) → AllByRecursion IsItsOwn l → without_lock file range (map lock_of l) ≡ map lock_of (without_first (held.is_lock_of n file range) l)
  first_seen range [] own = refl
  first_seen range (lock ∷ l) own =
      (λ i. cond (own_seen range lock own.0 i) (map lock_of l) (lock_of lock ∷ first_seen range l own.1 i))
      ∙ by (held.is_lock_of n file range lock)
    where
      by : (b : Bool) → cond b (map lock_of l) (lock_of lock ∷ map lock_of (without_first (held.is_lock_of n file range) l)) ≡ map lock_of (cond b l (lock ∷ without_first (held.is_lock_of n file range) l))
      by true = refl
      by false = refl

-- what holds of all locks holds of those that are left
pub first_all : (P : Held → Type 0) (test : Held → Bool) (l : List Held) → AllByRecursion P l → AllByRecursion P (without_first test l)
first_all P test [] all = tt
first_all P test (lock ∷ l) all = by (test lock) (first_all P test l all.1)
  where
    by : (b : Bool) → AllByRecursion P (without_first test l) → AllByRecursion P (cond b l (lock ∷ without_first test l))
    by true later = all.1
    by false later = (all.0, later)

-- the locks that are left, as callers see them
abbrev pub left_of : Result (List Held) Range → Option (List drive.Lock)
left_of (Ok l) = Some (map lock_of l)
left_of (Err range) = None

module _ (n file : ℕ) where
  pub unlocked_seen : (ranges : List Range) (l : List Held) → AllByRecursion (IsItsOwn n file) l → without_locks file (map lock_of l) ranges ≡ left_of (unlocked n file l ranges)
  unlocked_seen [] l own = refl
  unlocked_seen (range ∷ ranges) l own =
      (λ i. cond (any_seen n file range l own i) (without_locks file (first_seen n file range l own i) ranges) None)
      ∙ ap (λ (o : Option (List drive.Lock)). cond (list_any (held.is_lock_of n file range) l) o None)
      (unlocked_seen ranges (without_first (held.is_lock_of n file range) l) (first_all (IsItsOwn n file) (held.is_lock_of n file range) l own))
      ∙ by (list_any (held.is_lock_of n file range) l) (unlocked n file (without_first (held.is_lock_of n file range) l) ranges)
    where
      by : (b : Bool) (r : Result (List Held) Range) → cond b (left_of r) None ≡ left_of (cond b r (Err range))
      by true r = refl
      by false r = refl

  pub unlocked_all : (P : Held → Type 0) (ranges : List Range) (l left : List Held) → AllByRecursion P l → unlocked n file l ranges ≡ Ok left → AllByRecursion P left
  unlocked_all P [] l left all e = subst (AllByRecursion P) (inside (unlocked n file l []) refl e) all
    where
      inside : (r : Result (List Held) Range) → r ≡ Ok l → r ≡ Ok left → l ≡ left
      inside r a b = cc
  unlocked_all P (range ∷ ranges) l left all e =
      by (list_any (held.is_lock_of n file range) l) (λ h. unlocked_all P ranges (without_first (held.is_lock_of n file range) l) left (first_all P (held.is_lock_of n file range) l all) h) e
    where
      by : (b : Bool) → (unlocked n file (without_first (held.is_lock_of n file range) l) ranges ≡ Ok left → AllByRecursion P left)
          → cond b (unlocked n file (without_first (held.is_lock_of n file range) l) ranges) (Err range) ≡ Ok left → AllByRecursion P left
      by true later h = later h
      by false later h = absurd (cc)

-- each lock of a file id that is open is on its node
pub all_own : (s : Store) (n file : ℕ) → option_map (λ (h : kept.Handle). h.node.0) (kept_handle s file) ≡ Some n → (l : List Held) → AllByRecursion (IsHome s) l → AllByRecursion (IsItsOwn n file) l
all_own s n file opened [] homes = tt
all_own s n file opened (lock ∷ l) homes = (own, all_own s n file opened l homes.1)
  where
    own : lock.file ≡ file → lock.node ≡ n
    own e = ap (λ (o : Option ℕ). unwrap_or o 0) (sym homes.0 ∙ ap (λ (f : ℕ). option_map (λ (h : kept.Handle). h.node.0) (kept_handle s f)) e ∙ opened)

-- ---- how many there are

wish_count : (w : Wish) → range_count (wish_of w) ≡ wish_ranges w
wish_count (kept_wish.Ranges exclusive ranges) = refl
wish_count (kept_wish.Change deep filter room) = refl

waiting_count : (ws : List kept_waiting.Waiting) → sum_by (λ (w : drive.Waiting). range_count w.wish) (map waiting_of ws) ≡ sum_by (λ (w : kept_waiting.Waiting). wish_ranges w.wish) ws
waiting_count [] = refl
waiting_count (w ∷ ws) =
    sum_by-cons (λ (o : drive.Waiting). range_count o.wish) (waiting_of w) (map waiting_of ws)
    ∙ (λ i. wish_count w.wish i + waiting_count ws i)
    ∙ sym (sum_by-cons (λ (o : kept_waiting.Waiting). wish_ranges o.wish) w ws)

pub count_seen : {closed : Option ℕ} (s : Store) → IsSoundBut closed s → lock_count (drive_of s) ≡ length s.locks.locks + s.locks.reserved
count_seen s sound = λ i. length-map s.locks.locks lock_of i + (waiting_count s.waiting.items ∙ sym sound.reserved) i
