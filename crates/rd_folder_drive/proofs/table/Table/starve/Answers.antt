use Rattle.std.proofs.Common.{refl}
use Rattle.rd_folder_drive.proofs.ServingLemmas.{parks_on}
use Rattle.rd_folder_drive.proofs.table.Table.starve.Goals as goal

pub returns-clause-parks : goal.returns-clause-parks
returns-clause-parks c = parks_on c.args.self.now c.args.self.now (c.args.job).now c.fault.result _ refl c.requires.sound refl
