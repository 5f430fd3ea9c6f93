use Rattle.rd_drive.proofs.BoundedLemmas.{bounded_devices}
use Rattle.rd_drive.proofs.promises.drives_are_devices.Goals as goal

pub returns : goal.returns
returns c = bounded_devices
