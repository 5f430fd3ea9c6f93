use Rattle.std.proofs.Common.{ap, subst, List, map}
use Rattle.rd_drive.specs.declared.waiting.Waiting as kept_waiting
use Rattle.rd_drive.specs.Answered.{parked_of}
use Rattle.rd_drive.specs.Store.{waiting_of}
use Rattle.rd_folder_drive.specs.FolderDrive.{FolderCuts, FolderDriveState, state_over}
use Rattle.rd_folder_drive.specs.Served.{Seen, seen}
use Rattle.rd_folder_drive.proofs.ServingLemmas.{cuts_over}
use Rattle.rd_folder_drive.proofs.drive.FolderDriveDevice.cut.Goals as goal

pub returns : goal.returns
returns g c =
    let before : Seen = seen g.F.Folder.nodes g.F.Folder.faults c.self.inside.folder in
    let after : Seen = seen g.F.Folder.nodes g.F.Folder.faults c.cut.new.folder in
    record {
      cuts = subst (λ (s : FolderDriveState). FolderCuts s (state_over c.cut.new.self after)) c.self.view_is
          (cuts_over c.self.inside.table c.cut.new.self before after c.cut.ensures.cuts c.cut.ensures.untold c.cut.ensures.none c.cut.ensures.shut);
      none = ap (λ (ws : List kept_waiting.Waiting). map parked_of (map waiting_of ws)) c.cut.ensures.none;
    }
