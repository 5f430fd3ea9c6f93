-- A drive that is the same, but that what is kept may lie elsewhere: it is as sound, and the same to callers.
use Rattle.std.proofs.Common.{◌≡◌, ◌∙◌, refl, sym, ap, subst, ℕ, ◌≤◌, true, false, List, [], ◌∷◌, map, length, Option, Some, inr, Err}
use Rattle.std.specs.Prelude.{nat_eq}
use Rattle.std.specs.List.{AllByRecursion}
use Rattle.std.specs.Option.{option_map, unwrap_or, is_some, IsSome}
use Rattle.std.specs.Ordering.{nat_cmp}
use Rattle.std.specs.HashMap.{get}
use Rattle.std.specs.Map.{lookup}
use Rattle.std.specs.BTreeMap.{is_at}
use Rattle.rd_base.specs.declared.status.Status.{Status}
use Rattle.rd_locks.specs.declared.held.Held.{Held}
use Rattle.rd_tree.specs.Places.{Place, Places, IsLive, IsWhole}
use Rattle.rd_drive.specs.declared.handle.Handle as open_file
use Rattle.rd_drive.specs.declared.waiting.Waiting as kept_waiting
use Rattle.rd_drive.specs.declared.store.Store.{Store}
use Rattle.rd_drive.specs.DriveState.{in_order}
use Rattle.rd_drive.specs.Made.{IsAlike}
use Rattle.rd_drive.specs.Outcome.{Outcome}
use Rattle.rd_base.specs.Statuses.{no_memory}
use Rattle.rd_drive.specs.Uses.{uses_of}
use Rattle.rd_drive.specs.Store.{States, blank, node_with, node_of, nodes_of, drive_of, uses_on, HasRoom, IsSound, Serves}
use Rattle.rd_drive.proofs.HandlesLemmas.{seen_entry}
use Rattle.rd_drive.proofs.StoreLemmas.{AreListed, all_listed}

-- the nodes are those of what is kept of live numbers
module _ (tree : Places) (whole : IsWhole tree) (old new : States) (same : (n : ℕ) → IsLive tree n → get nat_eq new n ≡ get nat_eq old n) where
  alike_among : (l : List (ℕ × Place)) → AreListed tree whole l → map (node_of new) l ≡ map (node_of old) l
  alike_among [] listed = refl
  alike_among (e ∷ l) listed = λ i. node_with (unwrap_or (same e.0 (ap is_some listed.0) i) blank) e.1 ∷ alike_among l listed.1 i

  pub nodes_alike : nodes_of tree new ≡ nodes_of tree old
  nodes_alike = ap (in_order tree.naming) (alike_among tree.list (all_listed tree whole))

module _ (s : Store) (sound : IsSound s) (t : Store) (alike : IsAlike s t) where
  abbrev with_parts : Places → Store
  with_parts tree = record s { tree = tree; states = t.states; handles = t.handles }

  same_drive : drive_of (with_parts s.tree) ≡ drive_of s
  same_drive = λ i. record {
    naming = s.naming;
    label = s.label;
    limited = true;
    nodes = nodes_alike s.tree sound.whole s.states t.states alike.states i;
    handles = map (seen_entry s.tree) (alike.entries i);
    locks = (drive_of s).locks;
    waiting = (drive_of s).waiting;
    next = s.next;
  }

  pub alike_drive : drive_of t ≡ drive_of s
  alike_drive = ap drive_of alike.others ∙ ap (λ (tree : Places). drive_of (with_parts tree)) alike.tree ∙ same_drive

  same_sound : IsSound (with_parts s.tree)
  same_sound = record {
    whole = sound.whole;
    naming = sound.naming;
    label = sound.label;
    states = λ n live. ap is_some (alike.states n live) ∙ sound.states n live;
    root = ap (λ (o : Option _). (unwrap_or o blank).pending) (alike.states 0 (ap is_some sound.whole.root)) ∙ sound.root;
    fitting = sound.fitting;
    opened = λ file h is. sound.opened file h (ap (lookup (is_at (nat_cmp file))) (sym alike.entries) ∙ is);
    uses = λ n live. ap (λ (o : Option _). (unwrap_or o blank).uses) (alike.states n live) ∙ sound.uses n live ∙ ap (λ (es : List (ℕ × open_file.Handle)). uses_of (uses_on n es)) (sym alike.entries);
    locked = subst (λ (es : List (ℕ × open_file.Handle)). AllByRecursion (λ (held : Held). option_map (λ (h : open_file.Handle). h.node.0) (lookup (is_at (nat_cmp held.file)) es) ≡ Some held.node) s.locks.locks) (sym alike.entries) sound.locked;
    waits = subst (λ (es : List (ℕ × open_file.Handle)). AllByRecursion (λ (w : kept_waiting.Waiting). (false ≡ false → IsSome (lookup (is_at (nat_cmp w.file)) es)) × HasRoom w.wish) s.waiting.items) (sym alike.entries) sound.waits;
    reserved = sound.reserved;
    few = (subst (λ (es : List (ℕ × open_file.Handle)). length es ≤ 4096) (sym alike.entries) sound.few.0, sound.few.1, sound.few.2);
    ids = sound.ids;
  }

  pub alike_sound : IsSound t
  alike_sound = subst IsSound (sym alike.others) (subst (λ (tree : Places). IsSound (with_parts tree)) (sym alike.tree) same_sound)

  -- no memory was found, and the drive is as it was
  pub serves_alike : (comes : Outcome) (status : Status) → status ≡ no_memory → Serves s t comes (Err status)
  serves_alike comes status e = (alike_sound, inr (e, alike_drive))
