use Rattle.rd_drive.proofs.ServedLemmas.{parks_none}
use Rattle.rd_drive.proofs.store.Store.starve.Goals as goal

pub returns-clause-parks : goal.returns-clause-parks
returns-clause-parks c = parks_none c.args.self.now c.requires.sound c.args.job.now c.fault.result
