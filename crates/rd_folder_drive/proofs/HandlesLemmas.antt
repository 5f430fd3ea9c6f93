-- The handles of a table, as callers see them: which are open on what is open by a number, and a handle fewer or more.
use Rattle.std.proofs.Common.{◌≡◌, ◌∙◌, refl, sym, ap, ℕ, ◌==◌, Bool, true, false, ◌&&◌, ◌||◌, cond, List, [], ◌∷◌, map, length, Option, Some}
use Rattle.std.specs.Prelude.{nat_lt}
use Rattle.std.specs.List.{list_any}
use Rattle.std.specs.List.Sorted.{IsStrictlySortedBy}
use Rattle.std.specs.Option.{IsSome}
use Rattle.std.specs.Ordering.{nat_cmp, match_ordering}
use Rattle.std.specs.declared.cmp.Ordering.{Ordering}
use Rattle.std.specs.declared.cmp.Ordering.TheVariants.{Less, Equal, Greater}
use Rattle.std.specs.Map.{keys_of, lookup, remove_entry}
use Rattle.std.specs.BTreeMap.{insert_entry, is_at}
use Rattle.std.proofs.lemmas.Bool.{or_parts}
use Rattle.rd_tree.proofs.ViewLemmas.{itself}
use Rattle.rd_drive.specs.declared.access.Use.{Use}
use Rattle.rd_drive.specs.Access.{use_of}
use Rattle.rd_drive.specs.DriveState as drive
use Rattle.rd_drive.specs.DriveState.{Node, has_open}
use Rattle.rd_drive.proofs.StoreLemmas.{below_apart}
use Rattle.rd_folder_drive.specs.declared.handle.Handle as kept
use Rattle.rd_folder_drive.specs.declared.table.Table.{Table}
use Rattle.rd_folder_drive.specs.Table.{IsSoundBut, drive_of, handle_of, kept_handle, open_at, path_at, uses_on}
use Rattle.rd_folder_drive.proofs.EntryLemmas.{looked_above}
use Rattle.rd_folder_drive.proofs.LockLemmas.{same_number}
use Rattle.rd_folder_drive.proofs.UsesLemmas.{any_handle, any_use, use_by}

-- ---- each entry is its file id's

-- each of some entries has what is at its file id
abbrev pub AreKept : (ℕ → Option kept.Handle) → List (ℕ × kept.Handle) → Type 0
AreKept f [] = Unit {0}
AreKept f (e ∷ es) = (f e.0 ≡ Some e.1) × AreKept f es

keep_them : (f : ℕ → Option kept.Handle) (es : List (ℕ × kept.Handle)) → IsStrictlySortedBy nat_cmp (keys_of es)
    → ((k : ℕ) (h : kept.Handle) → lookup (is_at (nat_cmp k)) es ≡ Some h → f k ≡ Some h) → AreKept f es
unfolding IsStrictlySortedBy
keep_them f [] rising here = tt
keep_them f (e ∷ es) rising here = (
  here e.0 e.1 (ap (λ b. cond b (Some e.1) (lookup (is_at (nat_cmp e.0)) es)) (itself e.0)),
  keep_them f es rising.1 (λ k h is. here k h (ap (λ b. cond b (Some e.1) (lookup (is_at (nat_cmp k)) es)) (below_apart k e.0 (looked_above e.0 k h es rising.0 is)) ∙ is)),
)

pub all_kept : (t : Table) → IsStrictlySortedBy nat_cmp (keys_of t.handles.entries) → AreKept (kept_handle t) t.handles.entries
all_kept t rising = keep_them (kept_handle t) t.handles.entries rising (λ k h is. is)

pub kept_fewer : (f : ℕ → Option kept.Handle) (test : ℕ → Bool) (es : List (ℕ × kept.Handle)) → AreKept f es → AreKept f (remove_entry test es)
kept_fewer f test [] all = tt
kept_fewer f test (e ∷ es) all = by (kept_fewer f test es all.1) (test e.0)
  where
    by : AreKept f (remove_entry test es) → (b : Bool) → AreKept f (cond b es (e ∷ remove_entry test es))
    by rest true = all.1
    by rest false = (all.0, rest)

-- ---- one fewer, one more

abbrev pub seen_entry : Table → ℕ × kept.Handle → ℕ × drive.Handle
seen_entry t e = (e.0, handle_of t e.1)

pub removed_seen : (t : Table) (test : ℕ → Bool) (es : List (ℕ × kept.Handle)) → remove_entry test (map (seen_entry t) es) ≡ map (seen_entry t) (remove_entry test es)
removed_seen t test [] = refl
removed_seen t test (e ∷ es) = by (removed_seen t test es) (test e.0)
  where
    by : remove_entry test (map (seen_entry t) es) ≡ map (seen_entry t) (remove_entry test es)
        → (b : Bool) → cond b (map (seen_entry t) es) (seen_entry t e ∷ remove_entry test (map (seen_entry t) es)) ≡ map (seen_entry t) (cond b es (e ∷ remove_entry test es))
    by same true = refl
    by same false = ap (◌∷◌ (seen_entry t e)) same

pub inserted_seen : (t : Table) (k : ℕ) (h : kept.Handle) (es : List (ℕ × kept.Handle))
    → insert_entry nat_cmp (map (seen_entry t) es) k (handle_of t h) ≡ map (seen_entry t) (insert_entry nat_cmp es k h)
inserted_seen t k h [] = refl
inserted_seen t k h (e ∷ es) = by (inserted_seen t k h es) (nat_cmp k e.0)
  where
    by : insert_entry nat_cmp (map (seen_entry t) es) k (handle_of t h) ≡ map (seen_entry t) (insert_entry nat_cmp es k h) → (r : Ordering)
        → match_ordering r ((k, handle_of t h) ∷ map (seen_entry t) (e ∷ es)) ((e.0, handle_of t h) ∷ map (seen_entry t) es) (seen_entry t e ∷ insert_entry nat_cmp (map (seen_entry t) es) k (handle_of t h))
        ≡ map (seen_entry t) (match_ordering r ((k, h) ∷ e ∷ es) ((e.0, h) ∷ es) (e ∷ insert_entry nat_cmp es k h))
    by same Less = refl
    by same Equal = refl
    by same Greater = ap (◌∷◌ (seen_entry t e)) same

-- where the paths of what the handles have open are the same, the handles are
pub seen_alike : (t other : Table) (es : List (ℕ × kept.Handle)) → ((e : ℕ × kept.Handle) → path_at other (e.1).node ≡ path_at t (e.1).node) → map (seen_entry other) es ≡ map (seen_entry t) es
seen_alike t other [] same = refl
seen_alike t other (e ∷ es) same =
    λ i. (e.0, record { path = same e i; access = e.1.access; share = e.1.share; delete_on_close = e.1.delete_on_close; pattern = e.1.pattern; last = e.1.last }) ∷ seen_alike t other es same i

-- where no handle is on a number, the paths of the others are enough
pub seen_apart : (t other : Table) (n : ℕ) → ((k : ℕ) → (k == n) ≡ false → path_at other k ≡ path_at t k) → (es : List (ℕ × kept.Handle)) → list_any (λ (e : ℕ × kept.Handle). e.1.node == n) es ≡ false
    → map (seen_entry other) es ≡ map (seen_entry t) es
seen_apart t other n same [] none = refl
seen_apart t other n same (e ∷ es) none =
    let both = or_parts (e.1.node == n) (list_any (λ (g : ℕ × kept.Handle). g.1.node == n) es) none in
    λ i. (e.0, record { path = same e.1.node both.0 i; access = e.1.access; share = e.1.share; delete_on_close = e.1.delete_on_close; pattern = e.1.pattern; last = e.1.last }) ∷ seen_apart t other n same es both.1 i

-- ---- the handles on what is open by a number

module _ {closed : Option ℕ} (t : Table) (sound : IsSoundBut closed t) (nodes : List Node) (n : ℕ) (on : IsSome (open_at t n)) where
  open_entry : (e : ℕ × kept.Handle) → kept_handle t e.0 ≡ Some e.1 → has_open (drive_of t nodes) (path_at t n) (seen_entry t e) ≡ (e.1.node == n)
  open_entry e is = same_number t sound e.1.node n (sound.handles e.0 e.1 is).on on

  open_seen : (es : List (ℕ × kept.Handle)) → AreKept (kept_handle t) es → list_any (has_open (drive_of t nodes) (path_at t n)) (map (seen_entry t) es) ≡ list_any (λ (e : ℕ × kept.Handle). e.1.node == n) es
  open_seen [] all = refl
  open_seen (e ∷ es) all = λ i. open_entry e all.0 i || open_seen es all.1 i

  -- whether it is open, by the count of its handles
  pub open_counted : (es : List (ℕ × kept.Handle)) → AreKept (kept_handle t) es → list_any (has_open (drive_of t nodes) (path_at t n)) (map (seen_entry t) es) ≡ nat_lt 0 (length (uses_on n es))
  open_counted es all = open_seen es all ∙ sym (any_handle n es)

  in_use_seen : (q : Use → Bool) (es : List (ℕ × kept.Handle)) → AreKept (kept_handle t) es
      → list_any (λ (entry : ℕ × drive.Handle). has_open (drive_of t nodes) (path_at t n) entry && q (use_of (entry.1).access (entry.1).share)) (map (seen_entry t) es) ≡ list_any (λ (e : ℕ × kept.Handle). e.1.node == n && q (use_by e.1)) es
  in_use_seen q [] all = refl
  in_use_seen q (e ∷ es) all = λ i. (open_entry e all.0 i && q (use_by e.1)) || in_use_seen q es all.1 i

  -- a test of the uses that it is put to
  pub in_use_counted : (q : Use → Bool) (es : List (ℕ × kept.Handle)) → AreKept (kept_handle t) es
      → list_any (λ (entry : ℕ × drive.Handle). has_open (drive_of t nodes) (path_at t n) entry && q (use_of (entry.1).access (entry.1).share)) (map (seen_entry t) es) ≡ list_any q (uses_on n es)
  in_use_counted q es all = in_use_seen q es all ∙ sym (any_use n q es)
