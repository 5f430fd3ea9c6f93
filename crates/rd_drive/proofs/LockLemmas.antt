-- The locks on the file that a number has, as callers see them.
use Rattle.std.proofs.Common.{◌≡◌, ◌∙◌, refl, sym, ap, subst, ℕ, ◌==◌, Bool, true, false, ◌&&◌, ◌||◌, cond, List, [], ◌∷◌, map, Option, Some, None, filter}
use Rattle.std.specs.List.{list_any, AllByRecursion}
use Rattle.std.specs.Option.{option_map, option_map_or, unwrap_or}
use Rattle.std.proofs.lemmas.Bool.{eqb-true, eq-eqb}
use Rattle.rd_locks.specs.declared.held.Held.{Held}
use Rattle.rd_dirinfo.specs.Paths.{Names, is_same_path}
use Rattle.rd_tree.specs.Places.{own_path, IsLive}
use Rattle.rd_tree.proofs.WayLemmas.{same_true}
use Rattle.rd_drive.specs.declared.handle.Handle as kept
use Rattle.rd_drive.specs.declared.store.Store.{Store}
use Rattle.rd_drive.specs.DriveState as drive
use Rattle.rd_drive.specs.DriveState.{open_path}
use Rattle.rd_drive.specs.Locking.{is_on}
use Rattle.rd_drive.specs.Store.{handle_of, drive_of, kept_handle, lock_of, IsSoundBut}
use Rattle.rd_drive.proofs.HandleLemmas.{handle_seen}

pub alike : (a b : Bool) → (a ≡ true → b ≡ true) → (b ≡ true → a ≡ true) → a ≡ b
alike true b f g = sym (f refl)
alike false true f g = g refl
alike false false f g = refl

module _ {closed : Option ℕ} (s : Store) (sound : IsSoundBut closed s) (n : ℕ) (live : IsLive s.tree n) where
  -- a lock's own path is its number's
  pub lock_path : (held : Held) → option_map (λ (h : kept.Handle). h.node.0) (kept_handle s held.file) ≡ Some held.node → open_path (drive_of s) held.file ≡ Some (own_path s.tree held.node)
  lock_path held home = ap (option_map (λ (h : drive.Handle). h.path)) (handle_seen s held.file) ∙ by (kept_handle s held.file) home
    where
      by : (o : Option kept.Handle) → option_map (λ (h : kept.Handle). h.node.0) o ≡ Some held.node → option_map (λ (h : drive.Handle). h.path) (option_map (handle_of s.tree) o) ≡ Some (own_path s.tree held.node)
      by None e = absurd (cc)
      by (Some h) e = ap (λ (o : Option ℕ). option_map (own_path s.tree) o) e

  live_home : (held : Held) → option_map (λ (h : kept.Handle). h.node.0) (kept_handle s held.file) ≡ Some held.node → IsLive s.tree held.node
  live_home held home = by (kept_handle s held.file) refl home
    where
      by : (o : Option kept.Handle) → kept_handle s held.file ≡ o → option_map (λ (h : kept.Handle). h.node.0) o ≡ Some held.node → IsLive s.tree held.node
      by None e h = absurd (cc)
      by (Some handle) e h = subst (λ (m : ℕ). IsLive s.tree m) (ap (λ (o : Option ℕ). unwrap_or o 0) h) (sound.opened held.file handle e).0

  -- a lock is on the file exactly where it has its number
  pub on_seen : (held : Held) → option_map (λ (h : kept.Handle). h.node.0) (kept_handle s held.file) ≡ Some held.node → is_on (drive_of s) (own_path s.tree n) (lock_of held) ≡ (held.node == n)
  on_seen held home =
      ap (λ o. option_map_or (λ (own : Names). is_same_path s.naming own (own_path s.tree n)) o false) (lock_path held home)
      ∙ ap (λ naming. is_same_path naming (own_path s.tree held.node) (own_path s.tree n)) (sym sound.naming)
      ∙ alike (is_same_path s.tree.naming (own_path s.tree held.node) (own_path s.tree n)) (held.node == n)
      (λ e. eq-eqb held.node n (sound.whole.apart held.node n (live_home held home) live e))
      (λ e. ap (λ (m : ℕ). is_same_path s.tree.naming (own_path s.tree m) (own_path s.tree n)) (eqb-true held.node n e) ∙ same_true s.tree.naming (own_path s.tree n) (own_path s.tree n) refl)

  -- a test of the locks on the file is one of the locks with its number
  pub any_on : (q : drive.Lock → Bool) (l : List Held) → AllByRecursion (λ (held : Held). option_map (λ (h : kept.Handle). h.node.0) (kept_handle s held.file) ≡ Some held.node) l
      → list_any q (filter (is_on (drive_of s) (own_path s.tree n)) (map lock_of l)) ≡ list_any (λ (held : Held). held.node == n && q (lock_of held)) l
  any_on q [] homes = refl
  any_on q (held ∷ l) homes = ap (λ b. list_any q (cond b (lock_of held ∷ filter (is_on (drive_of s) (own_path s.tree n)) (map lock_of l)) (filter (is_on (drive_of s) (own_path s.tree n)) (map lock_of l)))) (on_seen held homes.0) ∙ by (any_on q l homes.1) (held.node == n)
    where
      rest : List drive.Lock
      rest = filter (is_on (drive_of s) (own_path s.tree n)) (map lock_of l)

      by : list_any q rest ≡ list_any (λ (h : Held). h.node == n && q (lock_of h)) l → (b : Bool) → list_any q (cond b (lock_of held ∷ rest) rest) ≡ ((b && q (lock_of held)) || list_any (λ (h : Held). h.node == n && q (lock_of h)) l)
      by later true = ap (λ c. q (lock_of held) || c) later
      by later false = later
