-- The handles of a drive, as callers see them: which are open on a node, and a handle fewer or more.
use Rattle.std.proofs.Common.{◌≡◌, ◌∙◌, refl, sym, ap, ℕ, ◌+◌, ◌<◌, ◌≤◌, ◌==◌, Bool, true, false, not, ◌&&◌, ◌||◌, cond, List, [], ◌∷◌, map, length, filter, Option, Some, None, arith}
use Rattle.std.specs.Prelude.{nat_lt}
use Rattle.std.specs.List.{list_any, AllByRecursion}
use Rattle.std.specs.List.Sorted.{IsStrictlySortedBy}
use Rattle.std.specs.Ordering.{nat_cmp, is_lt, is_eq, match_ordering}
use Rattle.std.specs.declared.cmp.Ordering.{Ordering}
use Rattle.std.specs.declared.cmp.Ordering.TheVariants.{Less, Equal, Greater}
use Rattle.std.specs.Map.{keys_of, lookup, remove_entry}
use Rattle.std.specs.BTreeMap.{insert_entry, is_at}
use Rattle.std.proofs.lemmas.Option.{same_Some, none-some}
use Rattle.std.proofs.lemmas.Bool.{eqb-true, eq-eqb, or_parts}
use Rattle.rd_tree.proofs.ViewLemmas.{itself}
use Rattle.rd_dirinfo.specs.Paths.{is_same_path}
use Rattle.rd_locks.specs.declared.held.Held.{Held}
use Rattle.rd_locks.specs.Locks.{released}
use Rattle.rd_tree.specs.Places.{Places, own_path, IsLive}
use Rattle.rd_tree.proofs.WayLemmas.{same_true}
use Rattle.rd_drive.specs.declared.access.Use.{Use}
use Rattle.rd_drive.specs.declared.handle.Handle as kept
use Rattle.rd_drive.specs.declared.store.Store.{Store}
use Rattle.rd_drive.specs.DriveState as drive
use Rattle.rd_drive.specs.DriveState.{has_open}
use Rattle.rd_drive.specs.Access.{use_of}
use Rattle.rd_drive.specs.Store.{handle_of, drive_of, kept_handle, lock_of, uses_on, IsSound}
use Rattle.rd_drive.proofs.LockLemmas.{alike}
use Rattle.rd_drive.proofs.StoreLemmas.{below_apart, is_below, is_equal}
use Rattle.rd_drive.proofs.UsesLemmas.{any_handle, any_use, use_by}

-- ---- each entry is its file id's

-- a number that has a value is above all that are below the numbers
looked_above : {X : Type 0} (m k : ℕ) (x : X) (es : List (ℕ × X)) → AllByRecursion (λ (y : ℕ). nat_cmp m y ≡ Less) (keys_of es) → lookup (is_at (nat_cmp k)) es ≡ Some x → m < k
looked_above m k x [] low is = absurd (none-some x is)
looked_above m k x (d ∷ es) low is = by (λ there. looked_above m k x es low.1 there) (is_at (nat_cmp k) d.0) refl
  where
    by : (lookup (is_at (nat_cmp k)) es ≡ Some x → m < k) → (b : Bool) → is_at (nat_cmp k) d.0 ≡ b → m < k
    by later true here = let same : k ≡ d.0 = is_equal k d.0 here in let under : m < d.0 = is_below m d.0 (ap is_lt low.0) in omega arith
    by later false here = later (sym (ap (λ b. cond b (Some d.1) (lookup (is_at (nat_cmp k)) es)) here) ∙ is)

-- each of some entries has what is at its file id
abbrev pub AreKept : (ℕ → Option kept.Handle) → List (ℕ × kept.Handle) → Type 0
AreKept f [] = Unit {0}
AreKept f (e ∷ es) = (f e.0 ≡ Some e.1) × AreKept f es

keep_them : (f : ℕ → Option kept.Handle) (es : List (ℕ × kept.Handle)) → IsStrictlySortedBy nat_cmp (keys_of es)
    → ((k : ℕ) (h : kept.Handle) → lookup (is_at (nat_cmp k)) es ≡ Some h → f k ≡ Some h) → AreKept f es
unfolding IsStrictlySortedBy
keep_them f [] rising here = tt
keep_them f (e ∷ es) rising here = (
  here e.0 e.1 (ap (λ b. cond b (Some e.1) (lookup (is_at (nat_cmp e.0)) es)) (itself e.0)),
  keep_them f es rising.1 (λ k h is. here k h (ap (λ b. cond b (Some e.1) (lookup (is_at (nat_cmp k)) es)) (below_apart k e.0 (looked_above e.0 k h es rising.0 is)) ∙ is)),
)

pub all_kept : (s : Store) → IsStrictlySortedBy nat_cmp (keys_of s.handles.entries) → AreKept (kept_handle s) s.handles.entries
all_kept s rising = keep_them (kept_handle s) s.handles.entries rising (λ k h is. is)

pub kept_fewer : (f : ℕ → Option kept.Handle) (test : ℕ → Bool) (es : List (ℕ × kept.Handle)) → AreKept f es → AreKept f (remove_entry test es)
kept_fewer f test [] all = tt
kept_fewer f test (e ∷ es) all = by (kept_fewer f test es all.1) (test e.0)
  where
    by : AreKept f (remove_entry test es) → (b : Bool) → AreKept f (cond b es (e ∷ remove_entry test es))
    by rest true = all.1
    by rest false = (all.0, rest)

-- ---- one fewer, one more

abbrev pub seen_entry : Places → ℕ × kept.Handle → ℕ × drive.Handle
seen_entry tree e = (e.0, handle_of tree e.1)

pub removed_seen : (tree : Places) (test : ℕ → Bool) (es : List (ℕ × kept.Handle)) → remove_entry test (map (seen_entry tree) es) ≡ map (seen_entry tree) (remove_entry test es)
removed_seen tree test [] = refl
removed_seen tree test (e ∷ es) = by (removed_seen tree test es) (test e.0)
  where
    by : remove_entry test (map (seen_entry tree) es) ≡ map (seen_entry tree) (remove_entry test es)
        → (b : Bool) → cond b (map (seen_entry tree) es) (seen_entry tree e ∷ remove_entry test (map (seen_entry tree) es)) ≡ map (seen_entry tree) (cond b es (e ∷ remove_entry test es))
    by same true = refl
    by same false = ap (◌∷◌ (seen_entry tree e)) same

pub inserted_seen : (tree : Places) (k : ℕ) (h : kept.Handle) (es : List (ℕ × kept.Handle))
    → insert_entry nat_cmp (map (seen_entry tree) es) k (handle_of tree h) ≡ map (seen_entry tree) (insert_entry nat_cmp es k h)
inserted_seen tree k h [] = refl
inserted_seen tree k h (e ∷ es) = by (inserted_seen tree k h es) (nat_cmp k e.0)
  where
    by : insert_entry nat_cmp (map (seen_entry tree) es) k (handle_of tree h) ≡ map (seen_entry tree) (insert_entry nat_cmp es k h) → (r : Ordering)
        → match_ordering r ((k, handle_of tree h) ∷ map (seen_entry tree) (e ∷ es)) ((e.0, handle_of tree h) ∷ map (seen_entry tree) es) (seen_entry tree e ∷ insert_entry nat_cmp (map (seen_entry tree) es) k (handle_of tree h))
        ≡ map (seen_entry tree) (match_ordering r ((k, h) ∷ e ∷ es) ((e.0, h) ∷ es) (e ∷ insert_entry nat_cmp es k h))
    by same Less = refl
    by same Equal = refl
    by same Greater = ap (◌∷◌ (seen_entry tree e)) same

-- a file id that had none is taken out again
pub inserted_removed : {X : Type 0} (k : ℕ) (x : X) (es : List (ℕ × X)) → lookup (is_at (nat_cmp k)) es ≡ None → remove_entry (is_at (nat_cmp k)) (insert_entry nat_cmp es k x) ≡ es
inserted_removed k x [] none = ap (λ b. cond b [] ((k, x) ∷ [])) (itself k)
inserted_removed {X} k x (e ∷ es) none = by (λ there. inserted_removed k x es there) (nat_cmp k e.0) refl
  where
    out : List (ℕ × X) → List (ℕ × X)
    out l = remove_entry (is_at (nat_cmp k)) l

    by : (lookup (is_at (nat_cmp k)) es ≡ None → remove_entry (is_at (nat_cmp k)) (insert_entry nat_cmp es k x) ≡ es) → (r : Ordering) → nat_cmp k e.0 ≡ r
        → remove_entry (is_at (nat_cmp k)) (match_ordering (nat_cmp k e.0) ((k, x) ∷ e ∷ es) ((e.0, x) ∷ es) (e ∷ insert_entry nat_cmp es k x)) ≡ e ∷ es
    by later Less this =
        ap (λ r. remove_entry (is_at (nat_cmp k)) (match_ordering r ((k, x) ∷ e ∷ es) ((e.0, x) ∷ es) (e ∷ insert_entry nat_cmp es k x))) this
        ∙ ap (λ b. cond b (e ∷ es) ((k, x) ∷ remove_entry (is_at (nat_cmp k)) (e ∷ es))) (itself k)
    by later Equal this = let both : Some e.1 ≡ None = sym (ap (λ r. cond (is_eq r) (Some e.1) (lookup (is_at (nat_cmp k)) es)) this) ∙ none in absurd (cc)
    by later Greater this =
        ap (λ r. remove_entry (is_at (nat_cmp k)) (match_ordering r ((k, x) ∷ e ∷ es) ((e.0, x) ∷ es) (e ∷ insert_entry nat_cmp es k x))) this
        ∙ ap (λ r. cond (is_eq r) (insert_entry nat_cmp es k x) (e ∷ remove_entry (is_at (nat_cmp k)) (insert_entry nat_cmp es k x))) this
        ∙ ap (◌∷◌ e) (later (sym (ap (λ r. cond (is_eq r) (Some e.1) (lookup (is_at (nat_cmp k)) es)) this) ∙ none))

pub fewer : {X : Type 0} (test : ℕ → Bool) (es : List (ℕ × X)) → length (remove_entry test es) ≤ length es
fewer test [] = omega arith
fewer {X} test (e ∷ es) = by (fewer test es) (test e.0)
  where
    by : length (remove_entry test es) ≤ length es → (b : Bool) → length (cond b es (e ∷ remove_entry test es)) ≤ length (e ∷ es)
    by low true = omega arith
    by low false = omega (arith, low)

pub one_longer : {X : Type 0} (k : ℕ) (x : X) (es : List (ℕ × X)) → length (insert_entry nat_cmp es k x) ≤ length es + 1
one_longer k x [] = omega arith
one_longer {X} k x (e ∷ es) = by (one_longer k x es) (nat_cmp k e.0)
  where
    by : length (insert_entry nat_cmp es k x) ≤ length es + 1 → (r : Ordering) → length (match_ordering r ((k, x) ∷ e ∷ es) ((e.0, x) ∷ es) (e ∷ insert_entry nat_cmp es k x)) ≤ length (e ∷ es) + 1
    by low Less = omega arith
    by low Equal = omega arith
    by low Greater = omega (arith, low)

-- what fails of each fails of the one that is found
pub found_passes : {X : Type 0} (q : X → Bool) (test : ℕ → Bool) (es : List (ℕ × X)) (h : X) → lookup test es ≡ Some h → list_any (λ (e : ℕ × X). q e.1) es ≡ false → q h ≡ false
found_passes q test [] h is none = absurd (none-some h is)
found_passes {X} q test (e ∷ es) h is none = by (or_parts (q e.1) (list_any (λ (g : ℕ × X). q g.1) es) none) (λ there rest. found_passes q test es h there rest) (test e.0) refl
  where
    by : (q e.1 ≡ false) × (list_any (λ (g : ℕ × X). q g.1) es ≡ false) → (lookup test es ≡ Some h → list_any (λ (g : ℕ × X). q g.1) es ≡ false → q h ≡ false) → (b : Bool) → test e.0 ≡ b → q h ≡ false
    by both later true this = ap q (sym (same_Some e.1 h (sym (ap (λ b. cond b (Some e.1) (lookup test es)) this) ∙ is))) ∙ both.0
    by both later false this = later (sym (ap (λ b. cond b (Some e.1) (lookup test es)) this) ∙ is) both.1

-- where no handle is on a number, the paths of the others are enough
pub seen_apart : (tree other : Places) (n : ℕ) → ((k : ℕ) → (k == n) ≡ false → own_path other k ≡ own_path tree k) → (es : List (ℕ × kept.Handle)) → list_any (λ (e : ℕ × kept.Handle). e.1.node.0 == n) es ≡ false
    → map (seen_entry other) es ≡ map (seen_entry tree) es
seen_apart tree other n same [] none = refl
seen_apart tree other n same (e ∷ es) none =
    let both = or_parts (e.1.node.0 == n) (list_any (λ (g : ℕ × kept.Handle). g.1.node.0 == n) es) none in
    λ i. (e.0, record { path = same e.1.node.0 both.0 i; access = e.1.access; share = e.1.share; delete_on_close = e.1.delete_on_close; pattern = e.1.pattern; last = e.1.last }) ∷ seen_apart tree other n same es both.1 i

-- the locks without a file id's
pub released_seen : (file : ℕ) (l : List Held) → filter (λ (lock : drive.Lock). not (lock.file == file)) (map lock_of l) ≡ map lock_of (released file l)
released_seen file [] = refl
released_seen file (held ∷ l) = by (released_seen file l) (not (held.file == file))
  where
    by : filter (λ (lock : drive.Lock). not (lock.file == file)) (map lock_of l) ≡ map lock_of (released file l) → (b : Bool)
        → cond b (lock_of held ∷ filter (λ (lock : drive.Lock). not (lock.file == file)) (map lock_of l)) (filter (λ (lock : drive.Lock). not (lock.file == file)) (map lock_of l)) ≡ map lock_of (cond b (held ∷ released file l) (released file l))
    by same true = ap (◌∷◌ (lock_of held)) same
    by same false = same

-- ---- the handles that are open on a node

module _ (s : Store) (sound : IsSound s) (n : ℕ) (live : IsLive s.tree n) where
  open_entry : (e : ℕ × kept.Handle) → kept_handle s e.0 ≡ Some e.1 → has_open (drive_of s) (own_path s.tree n) (seen_entry s.tree e) ≡ (e.1.node.0 == n)
  open_entry e is =
      ap (λ naming. is_same_path naming (own_path s.tree e.1.node.0) (own_path s.tree n)) (sym sound.naming)
      ∙ alike (is_same_path s.tree.naming (own_path s.tree e.1.node.0) (own_path s.tree n)) (e.1.node.0 == n)
      (λ t. eq-eqb e.1.node.0 n (sound.whole.apart e.1.node.0 n (sound.opened e.0 e.1 is).0 live t))
      (λ t. ap (λ (m : ℕ). is_same_path s.tree.naming (own_path s.tree m) (own_path s.tree n)) (eqb-true e.1.node.0 n t) ∙ same_true s.tree.naming (own_path s.tree n) (own_path s.tree n) refl)

  open_seen : (es : List (ℕ × kept.Handle)) → AreKept (kept_handle s) es → list_any (has_open (drive_of s) (own_path s.tree n)) (map (seen_entry s.tree) es) ≡ list_any (λ (e : ℕ × kept.Handle). e.1.node.0 == n) es
  open_seen [] all = refl
  open_seen (e ∷ es) all = λ i. open_entry e all.0 i || open_seen es all.1 i

  -- whether the node is open, by the count of its handles
  pub open_counted : (es : List (ℕ × kept.Handle)) → AreKept (kept_handle s) es → list_any (has_open (drive_of s) (own_path s.tree n)) (map (seen_entry s.tree) es) ≡ nat_lt 0 (length (uses_on n es))
  open_counted es all = open_seen es all ∙ sym (any_handle n es)

  in_use_seen : (q : Use → Bool) (es : List (ℕ × kept.Handle)) → AreKept (kept_handle s) es
      → list_any (λ (entry : ℕ × drive.Handle). has_open (drive_of s) (own_path s.tree n) entry && q (use_of (entry.1).access (entry.1).share)) (map (seen_entry s.tree) es) ≡ list_any (λ (e : ℕ × kept.Handle). e.1.node.0 == n && q (use_by e.1)) es
  in_use_seen q [] all = refl
  in_use_seen q (e ∷ es) all = λ i. (open_entry e all.0 i && q (use_by e.1)) || in_use_seen q es all.1 i

  -- a test of the uses that the node is put to
  pub in_use_counted : (q : Use → Bool) (es : List (ℕ × kept.Handle)) → AreKept (kept_handle s) es
      → list_any (λ (entry : ℕ × drive.Handle). has_open (drive_of s) (own_path s.tree n) entry && q (use_of (entry.1).access (entry.1).share)) (map (seen_entry s.tree) es) ≡ list_any q (uses_on n es)
  in_use_counted q es all = in_use_seen q es all ∙ sym (any_use n q es)
