use Rattle.std.proofs.Common.{subst, sym}
use Rattle.rd_declared.proofs.DeclaringLemmas.{declared_openable}
use Rattle.rd_declared.specs.Declaring.{AreOpenable}
use Rattle.rd_world.proofs.opening.open_devices.Goals as goal

pub open_all-requires : goal.open_all-requires
open_all-requires c = subst AreOpenable (sym c.in_ok-devices.ensures) (declared_openable c.args.lines.now c.requires)
