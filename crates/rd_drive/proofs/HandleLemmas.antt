-- An operation on an open file: the handle and the node that it has open.
use Rattle.std.proofs.Common.{◌≡◌, ◌∙◌, refl, ap, subst, ℕ, Bool, true, false, cond, List, [], ◌∷◌, map, Option, Some, None, find}
use Rattle.std.specs.Option.{option_map, IsSome}
use Rattle.std.specs.Ordering.{nat_cmp}
use Rattle.std.specs.Map.{lookup}
use Rattle.std.specs.BTreeMap.{is_at}
use Rattle.rd_tree.specs.Places.{Place, Places, place, own_path}
use Rattle.rd_drive.specs.declared.handle.Handle as kept
use Rattle.rd_drive.specs.declared.store.Store.{Store}
use Rattle.rd_drive.specs.DriveState as drive
use Rattle.rd_drive.specs.DriveState.{Node, is_at_path, handle_at, node_of_path}
use Rattle.rd_drive.specs.Outcome.{Outcome, given, refused, on_handle}
use Rattle.rd_base.specs.Statuses.{invalid_handle}
use Rattle.rd_drive.specs.Store.{state_of, node_with, nodes_of, handle_of, drive_of, kept_handle, IsSound}
use Rattle.rd_drive.proofs.StoreLemmas.{node_at_own}

-- looking up what is kept, and then what it means, is looking up what it means
looked_up : (tree : Places) (test : ℕ → Bool) (es : List (ℕ × kept.Handle)) → lookup test (map (λ (e : ℕ × kept.Handle). (e.0, handle_of tree e.1)) es) ≡ option_map (handle_of tree) (lookup test es)
looked_up tree test [] = refl
looked_up tree test (e ∷ es) = by (looked_up tree test es) (test e.0)
  where
    by : lookup test (map (λ (e : ℕ × kept.Handle). (e.0, handle_of tree e.1)) es) ≡ option_map (handle_of tree) (lookup test es) → (b : Bool) → cond b (Some (handle_of tree e.1)) (lookup test (map (λ (e : ℕ × kept.Handle). (e.0, handle_of tree e.1)) es)) ≡ option_map (handle_of tree) (cond b (Some e.1) (lookup test es))
    by later true = refl
    by later false = later

pub handle_seen : (s : Store) (file : ℕ) → handle_at (drive_of s) file ≡ option_map (handle_of s.tree) (kept_handle s file)
handle_seen s file = looked_up s.tree (is_at (nat_cmp file)) s.handles.entries

-- an operation on a file id without a handle is refused
pub unopened : (s : Store) (file : ℕ) (f : drive.Handle → Node → Outcome) → kept_handle s file ≡ None → on_handle (drive_of s) file f ≡ refused (drive_of s) invalid_handle
unfolding given
unopened s file f none = ap (λ o. given (drive_of s) o invalid_handle (λ handle. given (drive_of s) (drive.node_of_path (drive_of s) handle.path) invalid_handle (f handle))) (handle_seen s file ∙ ap (option_map (handle_of s.tree)) none)

-- an operation on an open file goes on with what its handle is and with its node
pub on_open : (s : Store) → IsSound s → (file : ℕ) (h : kept.Handle) → kept_handle s file ≡ Some h → (x : Place) → place s.tree h.node.0 ≡ Some x
    → (f : drive.Handle → Node → Outcome) → on_handle (drive_of s) file f ≡ f (handle_of s.tree h) (node_with (state_of s.states h.node.0) x)
unfolding given
on_open s sound file h is x here f =
    ap (λ o. given (drive_of s) o invalid_handle (λ handle. given (drive_of s) (drive.node_of_path (drive_of s) handle.path) invalid_handle (f handle))) (handle_seen s file ∙ ap (option_map (handle_of s.tree)) is)
    ∙ ap (λ o. given (drive_of s) o invalid_handle (f (handle_of s.tree h)))
    (subst (λ naming. find (is_at_path naming (own_path s.tree h.node.0)) (nodes_of s.tree s.states) ≡ Some (node_with (state_of s.states h.node.0) x)) sound.naming (node_at_own s.tree sound.whole h.node.0 x here s.states))

-- the place of the node that an open file has
pub opened_place : (s : Store) → IsSound s → (file : ℕ) (h : kept.Handle) → kept_handle s file ≡ Some h → (x : Place) × (place s.tree h.node.0 ≡ Some x)
opened_place s sound file h is = by (place s.tree h.node.0) refl (sound.opened file h is).0
  where
    by : (o : Option Place) → place s.tree h.node.0 ≡ o → IsSome o → (x : Place) × (o ≡ Some x)
    by None e live = absurd (cc)
    by (Some x) e live = (x, refl)
