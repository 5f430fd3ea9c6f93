-- Waiting for a change in what a file id has open, check by check.
use Rattle.std.proofs.Common.{◌≡◌, ◌∙◌, sym, ap, ℕ, ◌<◌, ◌≤◌, Bool, false, not, List, length, Option, Some, None}
use Rattle.std.specs.Prelude.{nat_le}
use Rattle.std.specs.Option.{option_and_then, is_some}
use Rattle.std.proofs.lemmas.List.{length-map}
use Rattle.std.proofs.lemmas.Bool.{le-leb, lt-leb}
use Rattle.rd_base.specs.declared.journal.Key.{Key}
use Rattle.rd_tree.specs.Places.{Place, place, bytes_at}
use Rattle.rd_drive.specs.declared.handle.Handle as kept
use Rattle.rd_drive.specs.declared.store.Store.{Store}
use Rattle.rd_drive.specs.DriveState as drive
use Rattle.rd_drive.specs.DriveState.{Node, is_folder_node}
use Rattle.rd_drive.specs.Outcome.{Outcome, refused, on_handle}
use Rattle.rd_drive.specs.Locking.{waits}
use Rattle.rd_drive.specs.Notify.{notify}
use Rattle.rd_base.specs.Statuses.{invalid_parameter, insufficient_resources}
use Rattle.rd_drive.specs.Store.{state_of, node_with, handle_of, drive_of, kept_handle, waiting_of, IsSound}
use Rattle.rd_drive.proofs.CheckLemmas.{check_applies, check_passed, checks_done}
use Rattle.rd_drive.proofs.HandleLemmas.{on_open}

module _ (s : Store) (sound : IsSound s) (file : ℕ) (h : kept.Handle) (is : kept_handle s file ≡ Some h) (x : Place) (here : place s.tree h.node.0 ≡ Some x) (key : Key) (deep : Bool) (filter : ℕ) where
  abbrev node : Node
  node = node_with (state_of s.states h.node.0) x

  bytes_here : bytes_at s.tree h.node.0 ≡ x.bytes
  bytes_here = ap (option_and_then (λ (p : Place). p.bytes)) here

  abbrev comes : Outcome
  comes = on_handle (drive_of s) file (notify (drive_of s) key file deep filter)

  goes : comes ≡ notify (drive_of s) key file deep filter (handle_of s.tree h) node
  goes = on_open s sound file h is x here (notify (drive_of s) key file deep filter)

  pub notify_file : (bytes : List ℕ) → bytes_at s.tree h.node.0 ≡ Some bytes → comes ≡ refused (drive_of s) invalid_parameter
  notify_file bytes some = goes ∙ check_applies (drive_of s) _ _ _ (ap (λ (o : Option (List ℕ)). not (not (is_some o))) (sym bytes_here ∙ some))

  module _ (none : bytes_at s.tree h.node.0 ≡ None) where
    folder : not (is_folder_node node) ≡ false
    folder = ap (λ (o : Option (List ℕ)). not (not (is_some o))) (sym bytes_here ∙ none)

    pub notify_full : 64 ≤ length s.waiting.items → comes ≡ refused (drive_of s) insufficient_resources
    notify_full many = goes ∙ check_passed (drive_of s) _ _ _ folder ∙ check_applies (drive_of s) _ _ _ (ap (λ k. nat_le 64 k) (length-map s.waiting.items waiting_of) ∙ le-leb 64 (length s.waiting.items) many)

    pub notify_waits : length s.waiting.items < 64 → comes ≡ waits (drive_of s) key file (drive.Notice deep filter)
    notify_waits few = goes ∙ check_passed (drive_of s) _ _ _ folder ∙ check_passed (drive_of s) _ _ _ (ap (λ k. nat_le 64 k) (length-map s.waiting.items waiting_of) ∙ lt-leb 64 (length s.waiting.items) few) ∙ checks_done (drive_of s) _
