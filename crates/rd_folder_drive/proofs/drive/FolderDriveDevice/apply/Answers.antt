use Rattle.std.proofs.Common.{◌≡◌, ◌∙◌, sym, subst, true, false, []}
use Rattle.rd_drive.specs.declared.plan.Job.{Job}
use Rattle.rd_drive.specs.Device.{Parks}
use Rattle.rd_folder_drive.specs.Waits.{parked_in}
use Rattle.rd_drive.specs.Promise.{Applies}
use Rattle.rd_folder_drive.specs.FolderDrive.{FolderDriveState, FolderRuns}
use Rattle.rd_folder_drive.specs.Served.{Seen, seen}
use Rattle.rd_folder_drive.proofs.ServingLemmas.{applies_starved}
use Rattle.rd_folder_drive.proofs.drive.FolderDriveDevice.apply.Goals as goal

pub returns-then-starved : goal.returns-then-starved
returns-then-starved g c =
    let before : Seen = seen g.F.Folder.nodes g.F.Folder.faults c.self.inside.folder in
    subst (λ (s : FolderDriveState). Applies FolderRuns (λ (d : FolderDriveState). d.parked) s c.args.plan c.args.moment c.starve.result c.args.ends.now s) c.self.view_is
    (applies_starved c.self.inside.table before c.args.plan c.args.moment c.starve.result c.args.ends.now c.starve.ensures.answer c.requires
    (λ is. let clash : true ≡ false = sym c.if-starved.true ∙ c.starved.ensures.close is in absurd (cc))
    (subst (λ (j : Job). Parks j (parked_in c.self.inside.table) c.starve.result [] (parked_in c.self.inside.table)) c.job.ensures c.starve.ensures.parks))
