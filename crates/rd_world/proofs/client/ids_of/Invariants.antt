use Rattle.std.proofs.Common.{◌≡◌, take}
use Rattle.rd_world.specs.Opening.{ids_of}
use Rattle.rd_world.proofs.client.ids_of.Given as goal

-- the ids of the devices so far
abbrev pub invariant-loop-device : goal.invariant-loop-device
invariant-loop-device l = l.ids.items ≡ ids_of (take l.device-index l.devices)
