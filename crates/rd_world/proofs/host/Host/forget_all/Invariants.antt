use Rattle.std.proofs.Common.{◌≡◌, fold}
use Rattle.std.specs.Prelude.{take}
use Rattle.rd_deeds.specs.Host.{forgets}
use Rattle.rd_world.proofs.host.Host.forget_all.Given as goal

abbrev pub invariant-loop-device : goal.invariant-loop-device
invariant-loop-device l = record { core = l.self-inside.core; table = l.self-inside.table } ≡ fold forgets l.fn.self (take l.device-index l.fn.devices)
