-- Waiting for a change in what a file id has open, check by check, over any nodes.
use Rattle.std.proofs.Common.{◌≡◌, ◌∙◌, ap, ℕ, ◌<◌, ◌≤◌, Bool, true, false, not, List, length, Some}
use Rattle.std.specs.Prelude.{nat_le}
use Rattle.std.proofs.lemmas.List.{length-map}
use Rattle.std.proofs.lemmas.Bool.{le-leb, lt-leb}
use Rattle.rd_base.specs.declared.journal.Key.{Key}
use Rattle.rd_base.specs.Statuses.{invalid_parameter, insufficient_resources}
use Rattle.rd_drive.specs.DriveState as drive
use Rattle.rd_drive.specs.DriveState.{DriveState, Node, is_folder_node}
use Rattle.rd_drive.specs.Locking.{waits}
use Rattle.rd_drive.specs.Notify.{notify}
use Rattle.rd_drive.specs.Outcome.{Outcome, refused, on_handle}
use Rattle.rd_drive.specs.Store.{waiting_of}
use Rattle.rd_drive.proofs.CheckLemmas.{check_applies, check_passed, checks_done}
use Rattle.rd_folder_drive.specs.declared.handle.Handle as kept
use Rattle.rd_folder_drive.specs.declared.open.Open.{Open}
use Rattle.rd_folder_drive.specs.declared.table.Table.{Table}
use Rattle.rd_folder_drive.specs.Table.{HasNodes, IsSound, drive_of, handle_of, kept_handle, marked, open_at}
use Rattle.rd_folder_drive.proofs.TableLemmas as opened
use Rattle.rd_folder_drive.proofs.TableLemmas.{on_open}

module _ (t : Table) (sound : IsSound t) (file : ℕ) (h : kept.Handle) (o : Open) (is : kept_handle t file ≡ Some h) (on : open_at t h.node ≡ Some o) (key : Key) (deep : Bool) (filter : ℕ) (nodes : List Node) (holds : HasNodes t nodes) where
  abbrev over : DriveState
  over = drive_of t nodes

  abbrev node : Node
  node = marked t.opens.entries (opened.node t sound nodes holds file h o is on)

  abbrev comes : Outcome
  comes = on_handle over file (notify over key file deep filter)

  goes : comes ≡ notify over key file deep filter (handle_of t h) node
  goes = on_open t sound nodes holds file h o is on (notify over key file deep filter)

  kind : is_folder_node node ≡ o.folder
  kind = opened.kind t sound nodes holds file h o is on

  pub notify_file : o.folder ≡ false → comes ≡ refused over invalid_parameter
  notify_file file_is = goes ∙ check_applies over _ _ _ (ap not (kind ∙ file_is))

  module _ (folder : o.folder ≡ true) where
    pub notify_full : 64 ≤ length t.waiting.items → comes ≡ refused over insufficient_resources
    notify_full many = goes ∙ check_passed over _ _ _ (ap not (kind ∙ folder)) ∙ check_applies over _ _ _ (ap (λ k. nat_le 64 k) (length-map t.waiting.items waiting_of) ∙ le-leb 64 (length t.waiting.items) many)

    pub notify_waits : length t.waiting.items < 64 → comes ≡ waits over key file (drive.Notice deep filter)
    notify_waits few =
        goes ∙ check_passed over _ _ _ (ap not (kind ∙ folder)) ∙ check_passed over _ _ _ (ap (λ k. nat_le 64 k) (length-map t.waiting.items waiting_of) ∙ lt-leb 64 (length t.waiting.items) few)
        ∙ checks_done over _
