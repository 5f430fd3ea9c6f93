use Rattle.std.proofs.Common.{◌∙◌, ap, []}
use Rattle.std.specs.Option.{option_map}
use Rattle.rd_drive.specs.DriveState.{DriveState}
use Rattle.rd_folder_drive.specs.FolderDrive.{FolderDriveState, new_drive}
use Rattle.rd_folder_drive.proofs.ServingLemmas.{told_back}
use Rattle.rd_folder_drive.proofs.drive.FolderDrive.finish.Goals as goal

pub returns-clause-nodes : goal.returns-clause-nodes
returns-clause-nodes g c =
    told_back c.self.inside.table (g.F.Folder.nodes c.self.inside.folder)
    ∙ ap (λ (d : FolderDriveState). option_map (λ (s : DriveState). new_drive [] s.nodes) d.drive) c.self.view_is
