-- The locks on what is open by a number, as callers see them.
use Rattle.std.proofs.Common.{◌≡◌, ◌∙◌, refl, ap, subst, ℕ, ◌==◌, Bool, true, false, ◌&&◌, ◌||◌, cond, List, [], ◌∷◌, map, Option, Some, None, filter}
use Rattle.std.specs.List.{list_any, AllByRecursion}
use Rattle.std.specs.Option.{option_map, option_map_or, unwrap_or, IsSome}
use Rattle.std.proofs.lemmas.Bool.{eqb-true, eq-eqb}
use Rattle.rd_locks.specs.declared.held.Held.{Held}
use Rattle.rd_dirinfo.specs.declared.naming.Naming.TheVariants.{Exact}
use Rattle.rd_dirinfo.specs.Paths.{Names, is_same_path}
use Rattle.rd_drive.specs.DriveState as drive
use Rattle.rd_drive.specs.DriveState.{Node, open_path}
use Rattle.rd_drive.specs.Locking.{is_on}
use Rattle.rd_drive.specs.Store.{lock_of}
use Rattle.rd_drive.proofs.LockLemmas.{alike}
use Rattle.rd_folder.proofs.ExactLemmas.{exact_same, same_exact}
use Rattle.rd_folder_drive.specs.declared.handle.Handle as kept
use Rattle.rd_folder_drive.specs.declared.open.Open.{Open}
use Rattle.rd_folder_drive.specs.declared.table.Table.{Table}
use Rattle.rd_folder_drive.specs.Table.{IsSoundBut, drive_of, handle_of, kept_handle, open_at, path_at}
use Rattle.rd_folder_drive.proofs.TableLemmas.{handle_seen}

-- a lock is on what its file id has open
abbrev pub IsHome : Table → Held → Type 0
IsHome t lock = option_map (λ (h : kept.Handle). h.node) (kept_handle t lock.file) ≡ Some lock.node

module _ {closed : Option ℕ} (t : Table) (sound : IsSoundBut closed t) where
  -- no two that are open have one path
  pub apart_open : (n m : ℕ) → IsSome (open_at t n) → IsSome (open_at t m) → path_at t n ≡ path_at t m → n ≡ m
  apart_open n m on at same = by (open_at t n) (open_at t m) refl refl on at same
    where
      by : (a b : Option Open) → open_at t n ≡ a → open_at t m ≡ b → IsSome a → IsSome b → option_map_or (λ (o : Open). o.path) a [] ≡ option_map_or (λ (o : Open). o.path) b [] → n ≡ m
      by None b e g x y same = absurd (cc)
      by (Some o) None e g x y same = absurd (cc)
      by (Some o) (Some p) e g x y same = sound.apart n m o p e g same

  -- what is open by two numbers is at the same path exactly where they are the same
  pub same_number : (n m : ℕ) → IsSome (open_at t n) → IsSome (open_at t m) → is_same_path Exact (path_at t n) (path_at t m) ≡ (n == m)
  same_number n m on at =
      alike (is_same_path Exact (path_at t n) (path_at t m)) (n == m)
      (λ e. eq-eqb n m (apart_open n m on at (same_exact (path_at t n) (path_at t m) e)))
      (λ e. exact_same (path_at t n) (path_at t m) (ap (path_at t) (eqb-true n m e)))

  -- what a file id has open is open
  pub open_home : (n file : ℕ) → option_map (λ (h : kept.Handle). h.node) (kept_handle t file) ≡ Some n → IsSome (open_at t n)
  open_home n file home = by (kept_handle t file) refl home
    where
      by : (o : Option kept.Handle) → kept_handle t file ≡ o → option_map (λ (h : kept.Handle). h.node) o ≡ Some n → IsSome (open_at t n)
      by None e h = absurd (cc)
      by (Some handle) e h = subst (λ (m : ℕ). IsSome (open_at t m)) (ap (λ (o : Option ℕ). unwrap_or o 0) h) (sound.handles file handle e).on

  module _ (nodes : List Node) where
    -- the path of what a file id has open
    pub home_path : (n file : ℕ) → option_map (λ (h : kept.Handle). h.node) (kept_handle t file) ≡ Some n → open_path (drive_of t nodes) file ≡ Some (path_at t n)
    home_path n file home = ap (option_map (λ (h : drive.Handle). h.path)) (handle_seen t nodes file) ∙ by (kept_handle t file) home
      where
        by : (o : Option kept.Handle) → option_map (λ (h : kept.Handle). h.node) o ≡ Some n → option_map (λ (h : drive.Handle). h.path) (option_map (handle_of t) o) ≡ Some (path_at t n)
        by None e = absurd (cc)
        by (Some h) e = ap (λ (o : Option ℕ). option_map (path_at t) o) e

    module _ (n : ℕ) (on : IsSome (open_at t n)) where
      -- a lock is on the file exactly where it has its number
      pub on_seen : (held : Held) → IsHome t held → is_on (drive_of t nodes) (path_at t n) (lock_of held) ≡ (held.node == n)
      on_seen held home =
          ap (λ (o : Option Names). option_map_or (λ (own : Names). is_same_path Exact own (path_at t n)) o false) (home_path held.node held.file home)
          ∙ same_number held.node n (open_home held.node held.file home) on

      -- a test of the locks on the file is one of the locks with its number
      pub any_on : (q : drive.Lock → Bool) (l : List Held) → AllByRecursion (IsHome t) l
          → list_any q (filter (is_on (drive_of t nodes) (path_at t n)) (map lock_of l)) ≡ list_any (λ (held : Held). held.node == n && q (lock_of held)) l
      any_on q [] homes = refl
      any_on q (held ∷ l) homes = ap (λ b. list_any q (cond b (lock_of held ∷ rest) rest)) (on_seen held homes.0) ∙ by (any_on q l homes.1) (held.node == n)
        where
          rest : List drive.Lock
          rest = filter (is_on (drive_of t nodes) (path_at t n)) (map lock_of l)

          by : list_any q rest ≡ list_any (λ (h : Held). h.node == n && q (lock_of h)) l → (b : Bool) → list_any q (cond b (lock_of held ∷ rest) rest) ≡ ((b && q (lock_of held)) || list_any (λ (h : Held). h.node == n && q (lock_of h)) l)
          by later true = ap (λ c. q (lock_of held) || c) later
          by later false = later
